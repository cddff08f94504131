-- What the parts of a command word mean.
use Rattle.std.specs.Prelude.{ℕ, ◌/◌, ◌%◌, Bool, cond, Some, None, Ok, Err, Option, Result, ◌==◌, nat_lt}
use Rattle.arith.specs.Words.{high, low, widened}
use Rattle.words.specs.declared.Base.{Base}
use Rattle.words.specs.declared.Base.TheVariants.{Inputs, Outputs, Flags}
use Rattle.words.specs.declared.Control.{Control}
use Rattle.words.specs.declared.Head.{Head}
use Rattle.words.specs.declared.Operand.{Operand}
use Rattle.words.specs.declared.Operand.TheVariants.{Immediate, Register}
use Rattle.words.specs.declared.Reason.{Reason}
use Rattle.words.specs.declared.Reason.TheVariants.{WrongMode}
use Rattle.words.specs.declared.Refusal.{Refusal}
use Rattle.words.specs.declared.Site.{Site}

abbrev pub refusal_at : Site → Reason → ℕ → Refusal
refusal_at site why operand = record { reason = why; task = site.task; place = site.place; operand = operand }

-- the refusals that name no place are all zeros but for the reason
abbrev pub plain : Reason → Refusal
plain why = record { reason = why; task = 0; place = 0; operand = 0 }

-- a head holds the code in its high byte, then the mode of the source and that of the destination, four bits each
abbrev pub head : ℕ → Head
head w = record { code = w / 256; source = w / 16 % 16; destination = w % 16 }

-- a control word is laid out like a head, with a byte that must be 00 in the place of the code
abbrev pub control : ℕ → Control
control w = record { fixed = w / 256; source = w / 16 % 16; destination = w % 16 }

-- a part of a word that must be so, or the operand is refused
abbrev pub must : {A : Type 0} → Bool → Site → ℕ → Result A Refusal → Result A Refusal
must ok site operand r = cond ok r (Err (refusal_at site WrongMode operand))

-- the word of a source whose destination has none of it: each part is checked, from the high end down
abbrev pub source : ℕ → ℕ → Site → ℕ → Result Operand Refusal
source mode w site operand =
    cond (mode == 0) (Ok (Immediate w))
    (cond (mode == 3) (must (high w == 0) site operand (must (nat_lt (low w) 128) site operand (Ok (Register (low w)))))
    (cond (mode == 0xC) (must (low w == 0) site operand (Ok (Immediate (widened (high w)))))
    (cond (mode == 0xD) (must (nat_lt (high w) 128) site operand (must (low w == 0) site operand (Ok (Register (high w)))))
    (Err (refusal_at site WrongMode operand)))))

-- the lines that a base's mode stands for
abbrev pub base : ℕ → Option Base
base mode = cond (mode == 0xC) (Some Inputs) (cond (mode == 0xD) (Some Outputs) (cond (mode == 0xE) (Some Flags) None))
