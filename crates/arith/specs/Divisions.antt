-- The division of a destination d by a source s, both signed.
use Rattle.std.specs.Prelude.{ℕ, Bool, cond, ℤ, pos, negsuc, ◌+ℤ◌, ◌-ℤ◌, Some, None, Option, ◌==◌, int_div, int_lt, int_rem}
use Rattle.arith.specs.declared.divisions.Division.{Division}
use Rattle.arith.specs.Words.{signed, word_of}

-- the remainder r is on the other side of 0 than the divisor s
abbrev pub opposed : ℤ → ℤ → Bool
opposed r (pos s) = int_lt r (pos 0)
opposed r (negsuc s) = int_lt (pos 0) r

-- rounded down: quotZ and remZ round toward zero, and go one too far up where the remainder is opposed
abbrev pub floor_quotient : ℤ → ℤ → ℤ
floor_quotient d s = cond (opposed (int_rem d s) s) (int_div d s -ℤ pos 1) (int_div d s)

abbrev pub floor_remainder : ℤ → ℤ → ℤ
floor_remainder d s = cond (opposed (int_rem d s) s) (int_rem d s +ℤ s) (int_rem d s)

abbrev pub division : ℤ → ℤ → Division
division q r = record { quotient = word_of q; remainder = word_of r }

-- by 0 there is none
abbrev pub divided_toward_zero : ℕ → ℕ → Option Division
divided_toward_zero s d =
    cond (s == 0) None (Some (division (int_div (signed d) (signed s)) (int_rem (signed d) (signed s))))

abbrev pub divided_down : ℕ → ℕ → Option Division
divided_down s d =
    cond (s == 0) None (Some (division (floor_quotient (signed d) (signed s)) (floor_remainder (signed d) (signed s))))

abbrev pub quotient_in : Option Division → Option ℕ
quotient_in None = None
quotient_in (Some x) = Some x.quotient

abbrev pub remainder_in : Option Division → Option ℕ
remainder_in None = None
remainder_in (Some x) = Some x.remainder
