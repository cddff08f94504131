-- Shifts are products and quotients by a power of two.
use Rattle.std.proofs.Common.{◌≡◌, ℕ, ◌+◌, ◌-◌, ◌*◌, ◌/◌, ◌%◌, ◌^◌, ◌<◌, ◌≤◌, cond, ltb, min, ℤ, pos, negsuc, sym, refl, ap, ◌∙◌, ⊎_elim, lt_of_lt_of_le, mul_assoc, arith, pow_mono, pow-add, w16, SFits}
use native.Mathlib.Nat.{mul-mod_left, div-eq_of_lt}
use lib.Signed.{shr_z}
use Rattle.std.proofs.lemmas.Bool.{cases_lt, cond_both, ltb-false}
use Rattle.arith.specs.Shifts.{left_by, right_by}

-- by 16 and more, nothing is left
all_out : (d n : ℕ) → 16 ≤ n → (d * 2 ^ n) % 2 ^ 16 ≡ 0
all_out d n h =
    let e : n ≡ n - 16 + 16 = omega arith in
    ap (λ (k : ℕ). (d * 2 ^ k) % 2 ^ 16) e ∙ ap (λ (x : ℕ). (d * x) % 2 ^ 16) (pow-add 2 (n - 16) 16)
    ∙ ap (λ (x : ℕ). x % 2 ^ 16) (sym (mul_assoc d (2 ^ (n - 16)) (2 ^ 16))) ∙ mul-mod_left (d * 2 ^ (n - 16)) (2 ^ 16)

none_left : (a j n : ℕ) → a < 2 ^ j → j ≤ n → a / 2 ^ n ≡ 0
none_left a j n h k = div-eq_of_lt (lt_of_lt_of_le h (pow_mono k))

pub left_out : (d n : ℕ) → cond (ltb n 16) ((d * 2 ^ n) % 2 ^ 16) 0 ≡ left_by n d
left_out d n = cond_both (ltb n 16) _ _ (λ (x : ℕ). x ≡ left_by n d) (λ u. refl) (λ u. sym (all_out d n (ltb-false n 16 u)))

pub right_out : (d n : ℕ) → d < 2 ^ 16 → cond (ltb n 16) (d / 2 ^ n) 0 ≡ right_by n d
right_out d n h = cond_both (ltb n 16) _ _ (λ (x : ℕ). x ≡ right_by n d) (λ u. refl) (λ u. sym (none_left d 16 n h (ltb-false n 16 u)))

-- by 15 and more, only the sign is left
pub only_sign : (z : ℤ) (n : ℕ) → SFits w16 z → shr_z z (2 ^ min n 15) ≡ shr_z z (2 ^ n)
only_sign z n f = ⊎_elim (λ l. ap (λ (k : ℕ). shr_z z (2 ^ k)) (omega arith)) (λ l. far z f l) (cases_lt n 15)
  where
    far : (z : ℤ) → SFits w16 z → 15 ≤ n → shr_z z (2 ^ min n 15) ≡ shr_z z (2 ^ n)
    far (pos a) f l = ap pos (none_left a 15 (min n 15) f.sfits (omega arith) ∙ sym (none_left a 15 n f.sfits l))
    far (negsuc a) f l = ap negsuc (none_left a 15 (min n 15) f.sfits (omega arith) ∙ sym (none_left a 15 n f.sfits l))
