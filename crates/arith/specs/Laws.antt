-- What the operations are for, in the words of arithmetic: s is the source, d the destination, and r what a function
-- answers.
use Rattle.std.specs.Prelude.{◌≡◌, ℕ, ◌+◌, ◌*◌, ◌/◌, ◌%◌, ◌^◌, ◌<◌, ◌≤◌, ◌≢◌, ◌⊎◌, ℤ, pos, ◌+ℤ◌, ◌*ℤ◌, neg_ℤ, ◌≤ℤ◌, ◌<ℤ◌, Some, None, Option, unsigned_abs}
use Rattle.arith.specs.declared.divisions.Division.{Division}
use Rattle.arith.specs.Words.{signed}
use Rattle.arith.specs.Divisions.{division}

-- a = b q + r, and the remainder is 0 or has the sign of the divisor, and is smaller: so q is the largest integer that is
-- not above a / b
pub record Floor (a b q r : ℤ) : Type 0 where
  pub whole : a ≡ b *ℤ q +ℤ r
  pub rest : ((pos 0 ≤ℤ r) × (r <ℤ b)) ⊎ ((b <ℤ r) × (r ≤ℤ pos 0))

-- a = b q + r, and the remainder is 0 or has the sign of the dividend, and is smaller than the divisor: so q is a / b
-- without its fraction
pub record Truncation (a b q r : ℤ) : Type 0 where
  pub whole : a ≡ b *ℤ q +ℤ r
  pub small : unsigned_abs r < unsigned_abs b
  pub sign : ((pos 0 ≤ℤ a) × (pos 0 ≤ℤ r)) ⊎ ((a <ℤ pos 0) × (r ≤ℤ pos 0))

-- Divide and Modulo
abbrev pub Floored : ℕ → ℕ → Option Division → Type 0
Floored s d r = s ≢ 0 → (q : ℤ) × (m : ℤ) × Floor (signed d) (signed s) q m × (r ≡ Some (division q m))

-- Quotient and Remainder
abbrev pub Truncated : ℕ → ℕ → Option Division → Type 0
Truncated s d r = s ≢ 0 → (q : ℤ) × (m : ℤ) × Truncation (signed d) (signed s) q m × (r ≡ Some (division q m))

-- to the left by n is times 2 ^ n where nothing is lost, and to the right by n is the quotient by 2 ^ n
pub record Logical (s d : ℕ) (r : Option ℕ) : Type 0 where
  pub left : (n : ℕ) → n ≤ 31 → signed s ≡ pos n → d * 2 ^ n < 0x10000 → r ≡ Some (d * 2 ^ n)
  pub right : (n : ℕ) → n ≤ 31 → signed s ≡ neg_ℤ (pos n) → r ≡ Some (d / 2 ^ n)
  pub past : 31 < unsigned_abs (signed s) → r ≡ None

-- to the right by n is the signed quotient by 2 ^ n, rounded down
pub record Arithmetic (s d : ℕ) (r : Option ℕ) : Type 0 where
  pub left : (n : ℕ) → n ≤ 31 → signed s ≡ pos n → d * 2 ^ n < 0x10000 → r ≡ Some (d * 2 ^ n)
  pub right : (n : ℕ) → n ≤ 31 → signed s ≡ neg_ℤ (pos n) → (w : ℕ) × (m : ℤ) × Floor (signed d) (pos (2 ^ n)) (signed w) m × (r ≡ Some w)
  pub past : 31 < unsigned_abs (signed s) → r ≡ None

-- bit i of a word, from 0 at the right
abbrev pub bit : ℕ → ℕ → ℕ
bit i w = w / 2 ^ i % 2

-- w is d turned to the left by n: the bit at i comes to i + n, and past the left end to the right end
abbrev pub Turned : ℕ → ℕ → ℕ → Type 0
Turned n d w = (i : ℕ) → i < 16 → bit ((i + n) % 16) w ≡ bit i d

-- what is turned to the right by n is what turns back to the left by n
pub record Rotation (s d : ℕ) (r : Option ℕ) : Type 0 where
  pub left : (n : ℕ) → n ≤ 31 → signed s ≡ pos n → (w : ℕ) × Turned n d w × (r ≡ Some w)
  pub right : (n : ℕ) → n ≤ 31 → signed s ≡ neg_ℤ (pos n) → (w : ℕ) × Turned n w d × (r ≡ Some w)
  pub past : 31 < unsigned_abs (signed s) → r ≡ None
