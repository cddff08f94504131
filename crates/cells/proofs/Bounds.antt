-- How long the trail of a tree can be.
use Rattle.std.proofs.Common.{ℕ, suc, ◌+◌, ◌≤◌, Bool, true, false, cond, length, Ok, Err, Result, arith, length-append}
use Rattle.law.specs.Trees.{ret, refuse, look, change, bind, Contents, poke, go, go_on}
use Rattle.law.proofs.Single.{joining}
use Rattle.words.specs.declared.Refusal.{Refusal}
use Rattle.cells.specs.declared.Cell.{Cell}
use Rattle.cells.specs.Cells.{same}
use Rattle.cells.specs.Runs.{Steps}

-- no run of the tree lists more than n entries
pub record Short {A : Type 0} (n : ℕ) (m : Steps A) : Type 0 where
  pub is : (s : Contents Cell) → length (go same m s).trail ≤ n

module _ {A : Type 0} where
  pub short_ret : {n : ℕ} {a : A} → Short n (ret a)
  short_ret = record { is = λ s. omega arith }

  pub short_refuse : {n : ℕ} {r : Refusal} → Short {A = A} n (refuse r)
  short_refuse = record { is = λ s. omega arith }

  pub short_look : {n : ℕ} {c : Cell} {k : ℕ → Steps A} → ((v : ℕ) → Short n (k v)) → Short (suc n) (look c k)
  short_look {c = c} h = record { is = λ s. omega (arith, (h (s c)).is s) }

  pub short_change : {n : ℕ} {c : Cell} {v : ℕ} {m : Steps A} → Short n m → Short (suc n) (change c v m)
  short_change {c = c} {v = v} h = record { is = λ s. omega (arith, h.is (poke same c v s)) }

  pub short_cond : {n : ℕ} {m k : Steps A} → (b : Bool) → Short n m → Short n k → Short n (cond b m k)
  short_cond true h g = h
  short_cond false h g = g

  pub shorter : {n : ℕ} {m : Steps A} → (k : ℕ) → Short n m → n ≤ k → Short k m
  shorter k h le = record { is = λ s. omega (arith, h.is s) }

module _ {A B : Type 0} where
  pub short_bind : {n k : ℕ} {m : Steps A} {f : A → Steps B} → Short n m → ((a : A) → Short k (f a)) → Short (n + k) (bind m f)
  short_bind {n = n} {k = k} {m = m} {f = f} h g = record { is = λ s. rw (joining same m f s) (at (go same m s).end s) }
    where
      at : (r : Result A Refusal) (s : Contents Cell) → length (go_on same r (go same m s).trail (go same m s).after f).trail ≤ n + k
      at (Ok a) s =
          let o = go same m s in
          omega (arith, length-append o.trail (go same (f a) o.after).trail, h.is s, (g a).is o.after)
      at (Err r) s = omega (arith, h.is s)
