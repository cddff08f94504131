-- The tests of two boards and of two cards' lines say yes exactly if they are the same.
use Rattle.std.proofs.Common.{◌≡◌, ◌==◌, ℕ, ◌<◌, Bool, true, false, List, length, get_or, sym, refl, ◌∙◌, arith, Decides, ext_get_or}
use Rattle.std.specs.Bool.{MatchBool}
use Rattle.std.specs.List.{range_with_len, AllWithin, HoldsAt}
use Rattle.std.proofs.lemmas.Bool.Decides.{Decides-and, Decides-eqb, Decides-like}
use Rattle.std.proofs.lemmas.List.FromFn.{length-range_with_len, get_or-range_with_len}
use Rattle.std.proofs.lemmas.Slice.Eq.{slice_eq-Decides}
use Rattle.store.specs.declared.State.{State as TaskState}
use Rattle.store.specs.declared.Task.{Task}
use Rattle.store.specs.declared.Board.{Board}
use Rattle.store.specs.View.{state_number, task_eq}
use Rattle.store.specs.contracts.BoardPartialEq.TheImpl.{eq-value as board_eq}
use Rattle.std.specs.Cmp.{booleans_Decides}

states_decide : (s t : TaskState) → Decides (state_number s == state_number t) (s ≡ t)
states_decide s t = (λ h. grind arith, λ e. grind arith)

pub tasks_decide : (a b : Task) → Decides (task_eq a b) (a ≡ b)
tasks_decide a b =
    Decides-like _
    (λ q i. record { registers = q.1.1 i; place = q.0.0 i; state = q.0.1 i; delay = q.1.0 i })
    (λ e. rw e ((refl, refl), (refl, refl)))
    (Decides-and _ _
    (Decides-and _ _ (Decides-eqb a.place b.place) (states_decide a.state b.state))
    (Decides-and _ _ (Decides-eqb a.delay b.delay) (slice_eq-Decides Decides-eqb a.registers b.registers _ refl)))

pub boards_decide : (a b : Board) → Decides (board_eq.it a b) (a ≡ b)
boards_decide a b =
    Decides-like _
    (λ q i. record { tasks = q.0 i; flags = q.1 i })
    (λ e. rw e (refl, refl))
    (Decides-and _ _ (slice_eq-Decides tasks_decide a.tasks b.tasks _ refl) (slice_eq-Decides booleans_Decides a.flags b.flags _ refl))

-- the lines of two cards are the same if a look at each says so
pub lines_decide : (r : Bool) (xs ys : List Bool) → length xs ≡ 256 → length ys ≡ 256
    → MatchBool r (AllWithin (λ (k : ℕ). get_or xs k false ≡ get_or ys k false) (range_with_len 0 256) 0 (length (range_with_len 0 256)))
    ((k : ℕ) × (k < length (range_with_len 0 256)) × HoldsAt (λ (k : ℕ). get_or xs k false ≡ get_or ys k false → ⊥) (range_with_len 0 256) k)
    → Decides r (xs ≡ ys)
lines_decide true xs ys h k all = (
  λ _. ext_get_or false xs ys (h ∙ sym k) (λ i l.
      let at : get_or (range_with_len 0 256) i 0 ≡ i = get_or-range_with_len 0 256 i 0 (omega (arith, h)) ∙ omega arith in
      rw at at (all i 0 (omega arith) (omega (arith, h, length-range_with_len 0 256)))),
  λ _. refl,
)
lines_decide false xs ys h k some = (λ t. cc, λ e. absurd (some.2 0 (rw e)))
