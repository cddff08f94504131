-- From the shift that a source asks for to what the shifts answer.
use Rattle.std.proofs.Common.{◌≡◌, ℕ, zero, suc, ◌*◌, ◌/◌, ◌%◌, ◌^◌, ◌<◌, ◌≤◌, cond, leb, ℤ, pos, neg_ℤ, nat_abs, Some, None, Option, sym, refl, ap, ◌∙◌, subst, mod-eq_of_lt, arith, pow_pos}
use lib.Signed.{shr_z}
use Rattle.std.specs.Option.{IsSomeAnd}
use Rattle.std.proofs.lemmas.Bool.{cond-true, cond-false, le-leb, lt-leb}
use Rattle.arith.specs.declared.shifts.Shift.{Shift}
use Rattle.arith.specs.declared.shifts.Shift.TheVariants.{Left, Right}
use Rattle.arith.specs.Words.{signed, word_of}
use Rattle.arith.specs.Shifts.{direction, shift_of, by_shift, shifted, logical_shift, arithmetic_shift, rotation, IsShifted}
use Rattle.arith.specs.Laws.{Floor, Logical, Arithmetic, Rotation, Turned}
use Rattle.arith.proofs.Readings.{signed_fits, shift_fits, signed_word}
use Rattle.arith.proofs.Rounding.{left_over, floor_by_shift, floor_by_one}
use Rattle.arith.proofs.Turning.{turned_left, turned_right}

at : ℤ → Option Shift
at z = cond (leb (nat_abs z) 31) (Some (direction z)) None

at_within : (z : ℤ) → nat_abs z ≤ 31 → at z ≡ Some (direction z)
unfolding at
at_within z h = cond-true (leb (nat_abs z) 31) (Some (direction z)) None (le-leb (nat_abs z) 31 h)

module _ (f : Shift → ℕ → ℕ) (s d : ℕ) where
  pub to_left : (n : ℕ) → n ≤ 31 → signed s ≡ pos n → shifted f s d ≡ Some (f (Left n) d)
  unfolding at
  to_left n h e = ap (λ z. by_shift f d (at z)) e ∙ ap (by_shift f d) (at_within (pos n) h)

  pub to_right : (n : ℕ) → suc n ≤ 31 → signed s ≡ neg_ℤ (pos (suc n)) → shifted f s d ≡ Some (f (Right (suc n)) d)
  unfolding at
  to_right n h e = ap (λ z. by_shift f d (at z)) e ∙ ap (by_shift f d) (at_within (neg_ℤ (pos (suc n))) h)

  pub too_far : 31 < nat_abs (signed s) → shifted f s d ≡ None
  too_far h = ap (by_shift f d) (cond-false (leb (nat_abs (signed s)) 31) (Some (direction (signed s))) None (lt-leb (nat_abs (signed s)) 31 h))

-- a shift by two moves is the shift that f tells, where each move gives what f does
pub as_shifted : (f : Shift → ℕ → ℕ) (left right : ℕ → ℕ → ℕ → Type 0) (s d : ℕ) (r : Option ℕ)
    → ((n w : ℕ) → left d n w → w ≡ f (Left n) d) → ((n w : ℕ) → right d n w → w ≡ f (Right n) d)
    → IsShifted left right s d r → r ≡ shifted f s d
as_shifted f left right s d r on_left on_right h = each (shift_of s) r refl h.too_far h.to_left h.to_right
  where
    each : (o : Option Shift) (r : Option ℕ) → shift_of s ≡ o → (shift_of s ≡ None → r ≡ None)
        → ((n : ℕ) → shift_of s ≡ Some (Left n) → IsSomeAnd r (left d n)) → ((n : ℕ) → shift_of s ≡ Some (Right n) → IsSomeAnd r (right d n)) → r ≡ by_shift f d o
    each None r e n a b = n e
    each (Some (Left n)) None e _ a b = absurd (a n e)
    each (Some (Left n)) (Some w) e _ a b = ap Some (on_left n w (a n e))
    each (Some (Right n)) None e _ a b = absurd (b n e)
    each (Some (Right n)) (Some w) e _ a b = ap Some (on_right n w (b n e))

module _ (s d : ℕ) (small : d < 2 ^ 16) where
  pub logical_law : (r : Option ℕ) → r ≡ shifted logical_shift s d → Logical s d r
  logical_law r is =
      subst (Logical s d) (sym is)
      (record {
        left = λ n h e l. to_left logical_shift s d n h e ∙ ap Some (mod-eq_of_lt l);
        right = quotient;
        past = too_far logical_shift s d;
      })
    where
      quotient : (n : ℕ) → n ≤ 31 → signed s ≡ neg_ℤ (pos n) → shifted logical_shift s d ≡ Some (d / 2 ^ n)
      quotient zero h e = to_left logical_shift s d 0 h e ∙ ap Some (omega arith)
      quotient (suc n) h e = to_right logical_shift s d n h e

  floored : (n : ℕ) → n ≤ 31 → signed s ≡ neg_ℤ (pos n) → (w : ℕ) × (m : ℤ) × Floor (signed d) (pos (2 ^ n)) (signed w) m × (shifted arithmetic_shift s d ≡ Some w)
  floored zero h e =
      let same : signed d ≡ signed ((d * 2 ^ 0) % 0x10000) = ap signed (omega arith) in
      ((d * 2 ^ 0) % 0x10000, pos 0, subst (λ q. Floor (signed d) (pos 1) q (pos 0)) same (floor_by_one (signed d)), to_left arithmetic_shift s d 0 h e)
  floored (suc n) h e =
      let q = shr_z (signed d) (2 ^ suc n) in
      let back = signed_word q (shift_fits (signed d) (2 ^ suc n) (signed_fits d)) in
      (word_of q, left_over (signed d) (2 ^ suc n), subst (λ x. Floor (signed d) (pos (2 ^ suc n)) x (left_over (signed d) (2 ^ suc n))) (sym back) (floor_by_shift (signed d) (2 ^ suc n) (pow_pos (suc n))), to_right arithmetic_shift s d n h e)

  pub arithmetic_law : (r : Option ℕ) → r ≡ shifted arithmetic_shift s d → Arithmetic s d r
  arithmetic_law r is =
      subst (Arithmetic s d) (sym is)
      (record {
        left = λ n h e l. to_left arithmetic_shift s d n h e ∙ ap Some (mod-eq_of_lt l);
        right = floored;
        past = too_far arithmetic_shift s d;
      })

  right : (n : ℕ) → n ≤ 31 → signed s ≡ neg_ℤ (pos n) → (w : ℕ) × Turned n w d × (shifted rotation s d ≡ Some w)
  right zero h e = (rotation (Left 0) d, turned_right d 0 small, to_left rotation s d 0 h e)
  right (suc n) h e = (rotation (Right (suc n)) d, turned_right d (suc n) small, to_right rotation s d n h e)

  pub rotation_law : (r : Option ℕ) → r ≡ shifted rotation s d → Rotation s d r
  rotation_law r is =
      subst (Rotation s d) (sym is)
      (record {
        left = λ n h e. (rotation (Left n) d, turned_left d n small, to_left rotation s d n h e);
        right = right;
        past = too_far rotation s d;
      })
