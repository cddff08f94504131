use Rattle.std.proofs.Common.{◌≡◌, length, take, drop}
use Rattle.machine.specs.Calls.{cells_of}
use Rattle.events.specs.Rows.{Runs}
use Rattle.events.proofs.run.Given as goal

-- the first i events ran, and what they came to stands in the first i places
abbrev pub invariant-loop-i : goal.invariant-loop-i
invariant-loop-i g l =
    let contents = cells_of g.I.Card.lines g.O.Card.lines in
    record {
      ran : Runs (length l.initial.ram) (take l.i l.events) (contents l.initial.machine l.initial.ram) (take l.i l.reports) (contents l.machine l.ram);
      rest : drop l.i l.reports ≡ drop l.i l.initial.reports;
    }
