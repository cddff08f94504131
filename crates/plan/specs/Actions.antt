-- From a fetched command to the action that is left of it: operands are taken, then tested.
use Rattle.std.specs.Prelude.{ℕ, cond, Some, None, Ok, Err, Option, Result, nat_lt}
use Rattle.law.specs.Trees.{ret, look, bind}
use Rattle.words.specs.Words.{refusal_at}
use Rattle.words.specs.declared.Base.{Base}
use Rattle.words.specs.declared.Base.TheVariants.{Inputs, Outputs, Flags}
use Rattle.words.specs.declared.Command.{Command}
use Rattle.words.specs.declared.Command.TheVariants as command
use Rattle.words.specs.declared.Operand.{Operand}
use Rattle.words.specs.declared.Operand.TheVariants.{Immediate, Register}
use Rattle.words.specs.declared.Reason.TheVariants.{ValueRange}
use Rattle.words.specs.declared.Refusal.{Refusal}
use Rattle.words.specs.declared.Site.{Site}
use Rattle.cells.specs.declared.Cell.TheVariants as cell
use Rattle.cells.specs.Runs.{Steps, lift}
use Rattle.store.specs.declared.Line.{Line}
use Rattle.store.specs.declared.Line.TheVariants as line
use Rattle.plan.specs.Fetch.{fetch}
use Rattle.plan.specs.declared.Action.{Action}
use Rattle.plan.specs.declared.Action.TheVariants.{Jump, BranchOn, Write, Invert, HaltWhile, EndTask}
use Rattle.plan.specs.declared.Fetched.{Fetched}

-- the value of a source of task t
abbrev pub value : ℕ → Option Operand → Steps ℕ
value t None = ret 0
value t (Some (Immediate v)) = ret v
value t (Some (Register r)) = look (cell.Register t r) ret

abbrev pub line_of : Option Base → ℕ → Line
line_of None n = line.Flag n
line_of (Some Inputs) n = line.Input n
line_of (Some Outputs) n = line.Output n
line_of (Some Flags) n = line.Flag n

-- the line at an offset from a base
abbrev pub line_at : Site → Option Base → ℕ → Result Line Refusal
line_at site base o = cond (nat_lt 255 o) (Err (refusal_at site ValueRange 2)) (Ok (line_of base o))

abbrev pub with_line : Result Line Refusal → (Line → Action) → Result Action Refusal
with_line (Ok l) f = Ok (f l)
with_line (Err r) f = Err r

-- where a command jumps to: without an address of its own it goes on to the next
abbrev pub target : Option ℕ → ℕ → ℕ
target None next = next
target (Some a) next = a

abbrev pub action : Command → Site → Fetched → ℕ → Result Action Refusal
action command.Branch site f o = Ok (Jump (target f.jump f.next))
action command.EndTask site f o = Ok (EndTask f.next)
action (command.BranchOn v) site f o = with_line (line_at site f.base o) (λ l. BranchOn l v (target f.jump f.next) f.next)
action (command.Write v) site f o = with_line (line_at site f.base o) (λ l. Write l v f.next)
action command.Invert site f o = with_line (line_at site f.base o) (λ l. Invert l f.next)
action (command.HaltWhile v) site f o = with_line (line_at site f.base o) (λ l. HaltWhile l v f.next)

abbrev pub planned : Site → Fetched → ℕ → Result Action Refusal
planned site f o = action f.command site f o

abbrev pub take_operands : Site → Fetched → Steps Action
take_operands site f = bind (value site.task f.source) (λ o. lift (planned site f o))

-- all that can refuse in the command at `site`
abbrev pub plan : ℕ → Site → Steps Action
plan size site = bind (fetch size site) (take_operands site)
