-- A rotation takes each bit to another place.
use Rattle.std.proofs.Common.{◌≡◌, ℕ, zero, suc, ◌+◌, ◌-◌, ◌*◌, ◌/◌, ◌%◌, ◌^◌, ◌<◌, ◌≤◌, sym, ap, ◌∙◌, subst, ap₂, ⊎_elim, add-zero, mul_assoc, arith, pow_pos, pow-add}
use native.Mathlib.Nat.{mul-mod_left, mul-add-div_right, mul-add-mod_self_right}
use lib.Bits.{bit_or, or_self}
use lib.Pow.{mod-mod-pow}
use Rattle.std.proofs.lemmas.Nat.{shl-shr, shr-shr, mod-pow-add, field_of, or_comm, or_shifted, shr_below, shr_high}
use Rattle.std.proofs.lemmas.Bool.{cases_lt}
use Rattle.arith.specs.declared.shifts.Shift.TheVariants.{Left, Right}
use Rattle.arith.specs.Shifts.{turned, rotation}
use Rattle.arith.specs.Laws.{bit, Turned}

module _ (d n : ℕ) (small : d < 2 ^ 16) (under : n < 16) where
  -- the bits that stay in the word, and those that come in on the right
  abbrev stay : ℕ
  stay = d % 2 ^ (16 - n)

  abbrev come : ℕ
  come = d / 2 ^ (16 - n)

  stay_is : (d * 2 ^ n) % 2 ^ 16 ≡ stay * 2 ^ n
  stay_is =
      let e : 16 ≡ (16 - n) + n = omega arith in
      ap (λ (w : ℕ). (d * 2 ^ n) % 2 ^ w) e ∙ mod-pow-add (d * 2 ^ n) (16 - n) n
      ∙ ap₂ (λ (a b : ℕ). (a % 2 ^ (16 - n)) * 2 ^ n + b) (shl-shr d n) (mul-mod_left d (2 ^ n)) ∙ add-zero (stay * 2 ^ n)

  come_small : come < 2 ^ n
  come_small = let e : 16 ≡ n + (16 - n) = omega arith in shr_below d n (16 - n) (subst (λ (w : ℕ). d < 2 ^ w) e small)

  parts : turned n d ≡ stay * 2 ^ n + come
  parts = ap (λ (x : ℕ). x + come) stay_is

  -- a bit that stays
  near : (i : ℕ) → i + n < 16 → bit (n + i) (stay * 2 ^ n + come) ≡ bit i d
  near i h =
      let g = 16 - n - i - 1 in
      let e : 16 - n ≡ (g + 1) + i = omega arith in
      ap (λ (x : ℕ). x % 2) (sym (shr-shr (stay * 2 ^ n + come) n i)) ∙ ap (λ (x : ℕ). x / 2 ^ i % 2) (shr_high stay n come come_small)
      ∙ ap (λ (w : ℕ). d % 2 ^ w / 2 ^ i % 2) e ∙ ap (λ (x : ℕ). x % 2) (field_of d (g + 1) i) ∙ mod-mod-pow (d / 2 ^ i) g 1

  -- and one that comes in on the right
  far : (i : ℕ) → i < 16 → 16 ≤ i + n → bit (i + n - 16) (stay * 2 ^ n + come) ≡ bit i d
  far i h l =
      let k = i + n - 16 in
      let g = n - k - 1 in
      let e : n ≡ (g + 1) + k = omega arith in
      let f : (16 - n) + k ≡ i = omega arith in
      let high : stay * 2 ^ n ≡ stay * 2 ^ g * 2 * 2 ^ k = ap (λ (w : ℕ). stay * 2 ^ w) e ∙ ap (λ (x : ℕ). stay * x) (pow-add 2 (g + 1) k) ∙ sym (mul_assoc stay (2 ^ (g + 1)) (2 ^ k)) ∙ ap (λ (x : ℕ). x * 2 ^ k) (ap (λ (x : ℕ). stay * x) (pow-add 2 g 1) ∙ sym (mul_assoc stay (2 ^ g) 2)) in
      ap (λ (x : ℕ). (x + come) / 2 ^ k % 2) high ∙ ap (λ (x : ℕ). x % 2) (mul-add-div_right (pow_pos k) (stay * 2 ^ g * 2) come)
      ∙ mul-add-mod_self_right (stay * 2 ^ g) 2 (come / 2 ^ k) ∙ ap (λ (x : ℕ). x % 2) (shr-shr d (16 - n) k ∙ ap (λ (w : ℕ). d / 2 ^ w) f)

  pub turned_bit : Turned n d (turned n d)
  turned_bit i h =
      ⊎_elim
      (λ l. let e : (i + n) % 16 ≡ n + i = omega arith in ap₂ bit e parts ∙ near i l)
      (λ l. let e : (i + n) % 16 ≡ i + n - 16 = omega arith in ap₂ bit e parts ∙ far i h l)
      (cases_lt (i + n) 16)

-- what the code computes
pub joined_left : (d n : ℕ) → d < 2 ^ 16 → n < 16 → bit_or ((d * 2 ^ n) % 2 ^ 16) (d / 2 ^ ((16 - n) % 16)) ≡ turned n d
joined_left d zero h l =
    let e : (d * 1) % 0x10000 ≡ d = omega arith in
    let f : d / 1 ≡ d = omega arith in
    ap₂ bit_or e f ∙ or_self d ∙ omega arith
joined_left d (suc n) h l =
    let e : (16 - suc n) % 16 ≡ 16 - suc n = omega arith in
    ap₂ bit_or (stay_is d (suc n) h l) (ap (λ (w : ℕ). d / 2 ^ w) e)
    ∙ or_shifted (stay d (suc n) h l) (suc n) (come d (suc n) h l) (come_small d (suc n) h l) ∙ sym (parts d (suc n) h l)

pub joined_right : (d n : ℕ) → d < 2 ^ 16 → n < 16 → bit_or (d / 2 ^ n) ((d * 2 ^ ((16 - n) % 16)) % 2 ^ 16) ≡ turned ((16 - n) % 16) d
joined_right d n h l =
    let m = (16 - n) % 16 in
    let e : n ≡ (16 - m) % 16 = omega arith in
    or_comm (d / 2 ^ n) ((d * 2 ^ m) % 2 ^ 16) ∙ ap (λ (w : ℕ). bit_or ((d * 2 ^ m) % 2 ^ 16) (d / 2 ^ w)) e ∙ joined_left d m h (omega arith)

-- by any number of places
pub turned_left : (d n : ℕ) → d < 2 ^ 16 → Turned n d (rotation (Left n) d)
turned_left d n small i h =
    let e : (i + n) % 16 ≡ (i + n % 16) % 16 = omega arith in
    ap (λ (k : ℕ). bit k (turned (n % 16) d)) e ∙ turned_bit d (n % 16) small (omega arith) i h

pub turned_right : (d n : ℕ) → d < 2 ^ 16 → Turned n (rotation (Right n) d) d
turned_right d n small i h =
    let m = (16 - n % 16) % 16 in
    let j = (i + n) % 16 in
    let e : i ≡ (j + m) % 16 = omega arith in
    sym (ap (λ (k : ℕ). bit k (turned m d)) e ∙ turned_bit d m small (omega arith) j (omega arith))
