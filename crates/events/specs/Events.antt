-- The tree of an event, and what a report tells.
use Rattle.std.specs.Prelude.{◌≡◌, ℕ, List, length, take, replicate, Ok, Err, Result}
use Rattle.law.specs.declared.Entry.{Entry}
use Rattle.law.specs.declared.Entry.TheVariants.{Read}
use Rattle.law.specs.Trees.{Contents, run}
use Rattle.law.specs.Order.{Report as Told, report}
use Rattle.words.specs.declared.Refusal.{Refusal}
use Rattle.cells.specs.Cells.{same}
use Rattle.cells.specs.Runs.{Steps}
use Rattle.cells.specs.Trails.{over}
use Rattle.cells.specs.declared.Cell.{Cell}
use Rattle.cells.specs.declared.Cell.TheVariants.{Ram}
use Rattle.perform.specs.declared.Answer.{Answer}
use Rattle.perform.specs.declared.Answer.TheVariants.{Done}
use Rattle.machine.specs.Events.{place, feed, tick, start, kill, abort, turn}
use Rattle.machine.specs.declared.Answered.{Answered}
use Rattle.machine.specs.declared.Refused.{Refused}
use Rattle.events.specs.declared.Ask.{Ask}
use Rattle.events.specs.declared.Ask.TheVariants.{Place, Feed, Tick, Start, Kill, Abort, Turn}
use Rattle.events.specs.declared.Event.{Event}
use Rattle.events.specs.declared.Report.{Report}

-- what is asked, with `size` words of RAM and a list of `room` entries
abbrev pub asked_tree : ℕ → ℕ → Ask → Steps Answer
asked_tree size room (Place a w) = place size room a w
asked_tree size room (Feed n on) = feed size room n on
asked_tree size room Tick = tick size room
asked_tree size room (Start t a) = start size room t a
asked_tree size room (Kill t) = kill size room t
asked_tree size room (Abort t) = abort size room t
asked_tree size room (Turn t) = turn size room t

abbrev pub tree : ℕ → Event → Steps Answer
tree size e = asked_tree size e.room e.ask

-- what is asked, with a list that is long enough for any trail
abbrev pub with_list : Ask → Event
with_list ask = record { ask = ask; room = 200 }

-- what stands in a report past its count
unfoldable pub blanks : List (Entry Cell)
blanks = replicate 200 (Read (Ram 0))

-- a report as the law has it: the end, and the entries up to the count
abbrev pub told : Report → Told Cell Answer Refusal
told r = record { end = r.end; trail = take r.count r.trail }

-- and the other way round: the whole report of what is told
abbrev pub filed : Told Cell Answer Refusal → Report
filed r = record { end = r.end; count = length r.trail; trail = over r.trail blanks }

-- a report of nothing yet
abbrev pub blank : Report
blank = record { end = Ok Done; count = 0; trail = blanks }

abbrev pub report_of : Result Answered Refused → List (Entry Cell) → Report
report_of (Ok a) es = record { end = Ok a.answer; count = a.count; trail = es }
report_of (Err e) es = record { end = Err e.refusal; count = e.count; trail = es }

-- the event m ran from the contents s, reported r and left the contents s'
pub record Does (m : Steps Answer) (s : Contents Cell) (r : Report) (s' : Contents Cell) : Type 0 where
  pub tells : r ≡ filed (report (run same m s))
  pub cells : (x : Cell) → s' x ≡ (run same m s).after x
