-- The two ways to round a signed quotient.
use Rattle.std.proofs.Common.{◌≡◌, ℕ, ◌-◌, ◌/◌, ◌%◌, ◌<◌, Bool, true, false, cond, ℤ, pos, negsuc, ◌+ℤ◌, ◌-ℤ◌, ◌*ℤ◌, nat_abs, ◌≤ℤ◌, ◌<ℤ◌, ◌⊎◌, sym, refl, ap, ◌∙◌, inl, inr, mod-lt, mul-suc, arith}
use native.Mathlib.Nat.{div-add-mod}
use lib.IntN.{pred_ℤ-*ℤ, *ℤ_comm, -ℤ_one}
use lib.Signed.{quot_z, rem_z, shr_z}
use Rattle.std.proofs.lemmas.Int.{ints, quot-rem, rem_below}
use Rattle.arith.specs.Divisions.{opposed, floor_quotient, floor_remainder}
use Rattle.arith.specs.Laws.{Floor, Truncation}

rest_sign : (a b : ℤ) → ((pos 0 ≤ℤ a) × (pos 0 ≤ℤ rem_z a b)) ⊎ ((a <ℤ pos 0) × (rem_z a b ≤ℤ pos 0))
rest_sign (pos a) b = inl (omega (arith, ints), omega (arith, ints))
rest_sign (negsuc a) b = inr (omega (arith, ints), omega (arith, ints))

pub truncation : (a b : ℤ) → 0 < nat_abs b → Truncation a b (quot_z a b) (rem_z a b)
truncation a b h =
    record { whole = sym (quot-rem a b) ∙ ap (λ x. x +ℤ rem_z a b) (*ℤ_comm (quot_z a b) b); small = rem_below a b h; sign = rest_sign a b }

-- one less in the quotient is the divisor more in the remainder
exchange : (x b r : ℤ) → x +ℤ r ≡ (x -ℤ b) +ℤ (r +ℤ b)
exchange x b r = omega (arith, ints)

one_less : (b q : ℤ) → b *ℤ (q -ℤ pos 1) ≡ b *ℤ q -ℤ b
one_less b q =
    *ℤ_comm b (q -ℤ pos 1) ∙ ap (λ x. x *ℤ b) (-ℤ_one q) ∙ pred_ℤ-*ℤ q b ∙ ap (λ x. x -ℤ b) (*ℤ_comm q b)

lowered : (a b q r : ℤ) → a ≡ b *ℤ q +ℤ r → a ≡ b *ℤ (q -ℤ pos 1) +ℤ (r +ℤ b)
lowered a b q r e = e ∙ exchange (b *ℤ q) b r ∙ sym (ap (λ x. x +ℤ (r +ℤ b)) (one_less b q))

-- from a remainder smaller than the divisor, by its sign
floor_by : (a b q r : ℤ) → a ≡ b *ℤ q +ℤ r → nat_abs r < nat_abs b → (t : Bool) → opposed r b ≡ t → Floor a b (cond t (q -ℤ pos 1) q) (cond t (r +ℤ b) r)
floor_by a (pos b) q r e h true o = record { whole = lowered a (pos b) q r e; rest = inl (omega (arith, ints), omega (arith, ints)) }
floor_by a (pos b) q r e h false o = record { whole = e; rest = inl (omega (arith, ints), omega (arith, ints)) }
floor_by a (negsuc b) q r e h true o = record { whole = lowered a (negsuc b) q r e; rest = inr (omega (arith, ints), omega (arith, ints)) }
floor_by a (negsuc b) q r e h false o = record { whole = e; rest = inr (omega (arith, ints), omega (arith, ints)) }

pub floor : (a b : ℤ) → 0 < nat_abs b → Floor a b (floor_quotient a b) (floor_remainder a b)
floor a b h =
    let t = truncation a b h in floor_by a b (quot_z a b) (rem_z a b) t.whole t.small (opposed (rem_z a b) b) refl

-- a shift to the right
abbrev pub left_over : ℤ → ℕ → ℤ
left_over (pos a) m = pos (a % m)
left_over (negsuc a) m = pos (m - 1 - a % m)

pub floor_by_shift : (z : ℤ) (m : ℕ) → 0 < m → Floor z (pos m) (shr_z z m) (left_over z m)
floor_by_shift (pos a) m h = record { whole = ap pos (sym (div-add-mod a m)); rest = inl (omega (arith, ints), omega (arith, ints, mod-lt a h)) }
floor_by_shift (negsuc a) m h =
    record {
      whole = omega (arith, ints, mul-suc m (a / m), div-add-mod a m, mod-lt a h);
      rest = inl (omega (arith, ints), omega (arith, ints, mod-lt a h));
    }

pub floor_by_one : (z : ℤ) → Floor z (pos 1) z (pos 0)
floor_by_one z = record { whole = omega (arith, ints); rest = inl (omega (arith, ints), omega (arith, ints)) }
