-- The table of codes: what each command is, and how its words are laid out.
use Rattle.std.specs.Prelude.{ℕ, ◌+◌, Bool, true, false, cond, ◌&&◌, ◌||◌, Some, None, Ok, Err, Option, Result, ◌==◌, nat_le}
use Rattle.words.specs.declared.Command.{Command}
use Rattle.words.specs.declared.Command.TheVariants.{BranchOn, Write, Invert, HaltWhile, Branch, EndTask}
use Rattle.words.specs.declared.Head.{Head}
use Rattle.words.specs.declared.Layout.{Layout}
use Rattle.words.specs.declared.Pair.{Pair}
use Rattle.words.specs.declared.Reason.TheVariants.{UnknownCode, WrongMode}
use Rattle.words.specs.declared.Refusal.{Refusal}
use Rattle.words.specs.declared.Role.{Role}
use Rattle.words.specs.declared.Role.TheVariants.{Unused, Offset, ReadBase, WrittenBase}
use Rattle.words.specs.declared.Site.{Site}
use Rattle.words.specs.Words.{refusal_at}

-- the modes that an operand may have
abbrev pub admits : Role → ℕ → Bool
admits Unused m = m == 0
admits Offset m = m == 0 || (m == 3 || (m == 0xC || m == 0xD))
admits ReadBase m = m == 0xC || (m == 0xD || m == 0xE)
admits WrittenBase m = m == 0xD || m == 0xE

-- the operand that a wrong mode is charged to
abbrev pub at_fault : Role → ℕ → ℕ
at_fault Unused n = 0
at_fault Offset n = n
at_fault ReadBase n = n
at_fault WrittenBase n = n

abbrev pub pair : Role → Role → Pair
pair s d = record { source = s; destination = d }

-- the roles of a layout's first pair: none is used where it has no pair
abbrev pub roles : Option Pair → Pair
roles None = pair Unused Unused
roles (Some p) = p

-- the layouts: no operand, or one bit, with a jump address or without
abbrev pub bare : Bool → Layout
bare jump = record { jump = jump; first = None; second = None }

abbrev pub bit : Bool → Role → Layout
bit jump b = record { jump = jump; first = Some (pair Offset b); second = None }

-- how many words stand before the data of the pair, and how many there are
abbrev pub before_data : Layout → ℕ
before_data l = cond l.jump 2 1

abbrev pub words_of : Option Pair → ℕ
words_of None = 0
words_of (Some p) = 1

abbrev pub length_of : Layout → ℕ
length_of l = before_data l + words_of l.first

abbrev pub within : ℕ → ℕ → ℕ → Bool
within a b c = nat_le a c && nat_le c b

abbrev pub layout : ℕ → Layout
layout c =
    cond (within 0x10 0x11 c) (bit true ReadBase)
    (cond (within 0x12 0x14 c) (bit false WrittenBase)
    (cond (within 0x15 0x16 c) (bit false ReadBase)
    (cond (c == 0x50) (bare true)
    (bare false))))

-- TBR0, TBR1, SBIT, CBIT, IBIT, THT0, THT1, BRA and JSKI
abbrev pub command : ℕ → Option Command
command c =
    cond (c == 0x10) (Some (BranchOn false))
    (cond (c == 0x11) (Some (BranchOn true))
    (cond (c == 0x12) (Some (Write true))
    (cond (c == 0x13) (Some (Write false))
    (cond (c == 0x14) (Some Invert)
    (cond (c == 0x15) (Some (HaltWhile false))
    (cond (c == 0x16) (Some (HaltWhile true))
    (cond (c == 0x50) (Some Branch)
    (cond (c == 0x55) (Some EndTask)
    None))))))))

-- the modes are checked once the code is known, that of the source first
abbrev pub checked : Option Command → Pair → Head → Site → Result Command Refusal
checked None p h site = Err (refusal_at site UnknownCode 0)
checked (Some c) p h site =
    cond (admits p.source h.source)
    (cond (admits p.destination h.destination)
    (Ok c)
    (Err (refusal_at site WrongMode (at_fault p.destination 2))))
    (Err (refusal_at site WrongMode (at_fault p.source 1)))

abbrev pub decoded : Head → Site → Result Command Refusal
decoded h site = checked (command h.code) (roles (layout h.code).first) h site
