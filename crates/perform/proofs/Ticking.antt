-- Tasks counted down one after the other.
use mathlib.Core.Path.{◌≡◌}
use Prim.Native.Nat.{ℕ, ◌+◌, ◌-◌, ◌≤◌}
use native.Mathlib.Numerals.{add-one}
use native.Mathlib.Omega.{arith}
use borrow.Author.Tests.{eq-eqb, ne_eqb}
use Rattle.law.specs.Trees.{Contents}
use Rattle.cells.specs.Runs.{Goes, Sees, Pokes}
use Rattle.cells.specs.declared.Cell.{Cell}
use Rattle.cells.specs.declared.Trail.{Trail}
use Rattle.cells.proofs.Following.{go_ret, go_look, go_change, go_bind}
use Rattle.perform.specs.Perform.{count_down, tick_task, ticks}
use Rattle.perform.specs.declared.Answer.{Answer}
use Rattle.perform.specs.declared.Answer.TheVariants.{Done}

-- one cell counted down, and one that is at zero
pub one_less : {c : Cell} {v n : ℕ} {s s' : Contents Cell} {t t1 t' : Trail}
    → Sees s c v t t1 → (1 ≤ v) × (n ≡ v - 1) → Pokes s c n s' t1 t' → Goes (count_down c) s t Done s' t'
one_less {v = v} see k p = go_look see (rw (ne_eqb v 0 (omega arith), ← k.1) (go_change p go_ret))

pub none_less : {c : Cell} {v : ℕ} {s : Contents Cell} {t t' : Trail} → Sees s c v t t' → (1 ≤ v → ⊥) → Goes (count_down c) s t Done s t'
none_less {v = v} see k = go_look see (rw (eq-eqb v 0 (omega arith)) go_ret)

pub no_ticks : {s : Contents Cell} {t : Trail} → Goes (ticks 0) s t Done s t
unfolding ticks
no_ticks = go_ret

pub one_more : {n : ℕ} {s s1 s' : Contents Cell} {t t1 t' : Trail} {a : Answer}
    → Goes (ticks n) s t Done s1 t1 → Goes (tick_task n) s1 t1 a s' t' → Goes (ticks (n + 1)) s t a s' t'
unfolding ticks
one_more {n = n} p q = rw add-one (go_bind p (λ _. tick_task n) q)
