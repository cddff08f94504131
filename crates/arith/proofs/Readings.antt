-- Words and the integers that they stand for.
use Rattle.std.proofs.Common.{◌≡◌, ℕ, ◌<◌, ℤ, pos, negsuc, nat_abs, sym, ap, ◌∙◌, arith, w16, SFits, of_z}
use lib.Signed.{shr_z, mag_shr}
use Rattle.std.proofs.lemmas.Int.{ints, to_z-of_z}
use Rattle.arith.specs.Words.{signed, word_of}

pub signed_fits : (n : ℕ) → SFits w16 (signed n)
signed_fits n = omega (arith, ints)

bits_word : (z : ℤ) → SFits w16 z → of_z w16 z ≡ word_of z
bits_word (pos n) f = omega (arith, f.sfits)
bits_word (negsuc n) f = omega (arith, f.sfits)

pub signed_word : (z : ℤ) → SFits w16 z → signed (word_of z) ≡ z
signed_word z f = ap signed (sym (bits_word z f)) ∙ to_z-of_z w16 z f

pub shift_fits : (x : ℤ) (m : ℕ) → SFits w16 x → SFits w16 (shr_z x m)
shift_fits x m f = record { sfits = omega (arith, mag_shr x m, f.sfits) }

pub not_zero : (s : ℕ) → (s ≡ 0 → ⊥) → 0 < nat_abs (signed s)
not_zero s h = grind (arith, ints)
