-- The number of each reason for a refusal, and numbers below a bound.
use Rattle.std.specs.Prelude.{ℕ, cond, Some, None, Option, nat_lt}
use Rattle.words.specs.declared.Reason.{Reason}
use Rattle.words.specs.declared.Reason.TheVariants.{RamLength, NoSuchThing, ShortTrail, NotIdle, PastRam, UnknownCode, WrongMode, OperandPast, ValueRange, StackDepth}

abbrev pub reason_number : Reason → ℕ
reason_number RamLength = 1
reason_number NoSuchThing = 2
reason_number ShortTrail = 3
reason_number NotIdle = 4
reason_number PastRam = 5
reason_number UnknownCode = 6
reason_number WrongMode = 7
reason_number OperandPast = 8
reason_number ValueRange = 9
reason_number StackDepth = 10

-- the number k, if it is below n
abbrev pub below : ℕ → ℕ → Option ℕ
below n k = cond (nat_lt k n) (Some k) None
