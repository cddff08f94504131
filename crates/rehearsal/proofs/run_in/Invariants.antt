use Rattle.std.proofs.Common.{◌≡◌, length, take, drop}
use Rattle.machine.specs.Calls.{cells_of}
use Rattle.events.specs.Rows.{Runs}
use Rattle.rehearsal.specs.Rehearsals.{picked}
use Rattle.rehearsal.proofs.run_in.Given as goal

abbrev pub invariant-loop-k : goal.invariant-loop-k
invariant-loop-k g l =
    Runs (length l.initial.ram) (picked l.events (take l.k l.order)) (cells_of g.I.Card.lines g.O.Card.lines l.initial.machine l.initial.ram)
    (take l.k l.reports) (cells_of g.I.Card.lines g.O.Card.lines l.machine l.ram)
    × (drop l.k l.reports ≡ drop l.k l.initial.reports)
