-- The shifts of a destination d by a source s.
use Rattle.std.specs.Prelude.{◌≡◌, ℕ, suc, ◌+◌, ◌-◌, ◌*◌, ◌/◌, ◌%◌, ◌^◌, cond, ℤ, pos, negsuc, Some, None, Option, nat_le, unsigned_abs}
use Rattle.std.specs.Int.Signed.{shr_z}
use Rattle.std.specs.Option.{IsSomeAnd}
use Rattle.arith.specs.declared.shifts.Shift.{Shift}
use Rattle.arith.specs.declared.shifts.Shift.TheVariants.{Left, Right}
use Rattle.arith.specs.Words.{signed, word_of}

abbrev pub direction : ℤ → Shift
direction (pos n) = Left n
direction (negsuc n) = Right (suc n)

-- from -31 to 31
abbrev pub shift_of : ℕ → Option Shift
shift_of s = cond (nat_le (unsigned_abs (signed s)) 31) (Some (direction (signed s))) None

abbrev pub left_by : ℕ → ℕ → ℕ
left_by n d = (d * 2 ^ n) % 0x10000

abbrev pub right_by : ℕ → ℕ → ℕ
right_by n d = d / 2 ^ n

-- shr_z rounds down
abbrev pub right_by_sign : ℕ → ℕ → ℕ
right_by_sign n d = word_of (shr_z (signed d) (2 ^ n))

-- to the left by n, below 16: the n bits that leave on the left come in on the right
abbrev pub turned : ℕ → ℕ → ℕ
turned n d = (d * 2 ^ n) % 0x10000 + d / 2 ^ (16 - n)

abbrev pub logical_shift : Shift → ℕ → ℕ
logical_shift (Left n) d = left_by n d
logical_shift (Right n) d = right_by n d

abbrev pub arithmetic_shift : Shift → ℕ → ℕ
arithmetic_shift (Left n) d = left_by n d
arithmetic_shift (Right n) d = right_by_sign n d

abbrev pub rotation : Shift → ℕ → ℕ
rotation (Left n) d = turned (n % 16) d
rotation (Right n) d = turned ((16 - n % 16) % 16) d

abbrev pub by_shift : (Shift → ℕ → ℕ) → ℕ → Option Shift → Option ℕ
by_shift f d None = None
by_shift f d (Some h) = Some (f h d)

abbrev pub shifted : (Shift → ℕ → ℕ) → ℕ → ℕ → Option ℕ
shifted f s d = by_shift f d (shift_of s)

-- r is d, moved as the source s asks for: `left` and `right` say what a move of d by n places may give
pub record IsShifted (left right : ℕ → ℕ → ℕ → Type 0) (s d : ℕ) (r : Option ℕ) : Type 0 where
  pub to_left : (n : ℕ) → shift_of s ≡ Some (Left n) → IsSomeAnd r (left d n)
  pub to_right : (n : ℕ) → shift_of s ≡ Some (Right n) → IsSomeAnd r (right d n)
  pub too_far : shift_of s ≡ None → r ≡ None
