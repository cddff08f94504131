-- What each operation makes of a source s and a destination d. Sums, differences and products are modulo 65,536.
use Rattle.std.specs.Prelude.{ℕ, ◌+◌, ◌-◌, ◌*◌, ◌%◌, Some, Option, bit_and, bit_or, bit_xor}
use Rattle.arith.specs.declared.Operation.{Operation}
use Rattle.arith.specs.declared.Operation.TheVariants.{Move, ZeroExtend, SignExtend, LowToHigh, HighToLow, HighToHigh, LowToLow, And, Or, Xor, Complement, Negate, LogicalShift, ArithmeticShift, Rotate, Add, Subtract, Multiply, Divide, Quotient, Modulo, Remainder}
use Rattle.arith.specs.Words.{high, low, joined, widened}
use Rattle.arith.specs.Shifts.{shifted, logical_shift, arithmetic_shift, rotation}
use Rattle.arith.specs.Divisions.{divided_down, divided_toward_zero, quotient_in, remainder_in}

abbrev pub computed : Operation → ℕ → ℕ → Option ℕ
computed Move s d = Some s
computed ZeroExtend s d = Some (low s)
computed SignExtend s d = Some (widened (low s))
computed LowToHigh s d = Some (joined (low s) (low d))
computed HighToLow s d = Some (joined (high d) (high s))
computed HighToHigh s d = Some (joined (high s) (low d))
computed LowToLow s d = Some (joined (high d) (low s))
computed And s d = Some (bit_and d s)
computed Or s d = Some (bit_or d s)
computed Xor s d = Some (bit_xor d s)
computed Complement s d = Some (0xFFFF - s)
computed Negate s d = Some ((0x10000 - s) % 0x10000)
computed LogicalShift s d = shifted logical_shift s d
computed ArithmeticShift s d = shifted arithmetic_shift s d
computed Rotate s d = shifted rotation s d
computed Add s d = Some ((d + s) % 0x10000)
computed Subtract s d = Some ((d + (0x10000 - s)) % 0x10000)
computed Multiply s d = Some ((d * s) % 0x10000)
computed Divide s d = quotient_in (divided_down s d)
computed Quotient s d = quotient_in (divided_toward_zero s d)
computed Modulo s d = remainder_in (divided_down s d)
computed Remainder s d = remainder_in (divided_toward_zero s d)
