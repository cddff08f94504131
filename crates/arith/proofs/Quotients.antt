-- From the words that a division answers to what they are in whole numbers.
use Rattle.std.proofs.Common.{◌≡◌, ℕ, cond, eqb, Some, None, Option, ◌∙◌}
use lib.Signed.{quot_z, rem_z}
use Rattle.std.proofs.lemmas.Bool.{cond-false, ne_eqb}
use Rattle.arith.specs.declared.divisions.Division.{Division}
use Rattle.arith.specs.Words.{signed}
use Rattle.arith.specs.Divisions.{floor_quotient, floor_remainder, divided_toward_zero, divided_down}
use Rattle.arith.specs.Laws.{Floored, Truncated}
use Rattle.arith.proofs.Readings.{not_zero}
use Rattle.arith.proofs.Rounding.{truncation, floor}

-- there is a division where the divisor is not 0
given : (s : ℕ) (x : Division) → (s ≡ 0 → ⊥) → cond (eqb s 0) None (Some x) ≡ Some x
given s x h = cond-false (eqb s 0) None (Some x) (ne_eqb s 0 h)

pub truncated : (s d : ℕ) (r : Option Division) → r ≡ divided_toward_zero s d → Truncated s d r
truncated s d r is h =
    (quot_z (signed d) (signed s), rem_z (signed d) (signed s), truncation (signed d) (signed s) (not_zero s h), is ∙ given s _ h)

pub floored : (s d : ℕ) (r : Option Division) → r ≡ divided_down s d → Floored s d r
floored s d r is h =
    (floor_quotient (signed d) (signed s), floor_remainder (signed d) (signed s), floor (signed d) (signed s) (not_zero s h), is ∙ given s _ h)
