use Rattle.std.proofs.Common.{ltb, Ok, rules}
use Rattle.perform.specs.Perform.{kill}
use Rattle.machine.proofs.Lengths.{short_end}
use Rattle.machine.proofs.Calling.{did_break, did_end}
use Rattle.machine.proofs.Machine.kill.Goals as goal

pub returns-in_err-task : goal.returns-in_err-task
returns-in_err-task g c = did_break kill c.args.task (ltb c.args.task 32) c.new.ensures c.in_err-task.ensures _ c.from_residual.ensures.1

pub returns : goal.returns
returns g c =
    let m = c.args.self.now.store in
    let ran = c.end_task-answer.ensures (g.I.Card.lines m.inputs) (g.O.Card.lines m.outputs) c.args.ram.now in
    let loan = ran.grows.loan in
    did_end kill c.args.task (ltb c.args.task 32) c.new.ensures _ (Ok _) c.in_ok-task.ensures c.new-notes.ensures (short_end _) (search rules) ran c.counted.ensures (search rules)
