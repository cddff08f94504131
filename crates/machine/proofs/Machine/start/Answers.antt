use Rattle.std.proofs.Common.{ℕ, ltb, rules}
use Rattle.machine.specs.Events.{launch}
use Rattle.machine.proofs.Lengths.{short_launch}
use Rattle.machine.proofs.Calling.{did_break, did_end, ends_loan}
use Rattle.machine.proofs.Machine.start.Goals as goal

pub returns-in_err-task : goal.returns-in_err-task
returns-in_err-task g c =
    did_break (λ (t : ℕ). launch t c.args.address) c.args.task (ltb c.args.task 32) c.new.ensures c.in_err-task.ensures _ c.from_residual.ensures.1

pub returns : goal.returns
returns g c =
    let m = c.args.self.now.store in
    let ran = c.launch_task-end.ensures (g.I.Card.lines m.inputs) (g.O.Card.lines m.outputs) c.args.ram.now in
    let loan = ends_loan _ c.launch_task-end.result _ _ _ _ ran in
    did_end (λ (t : ℕ). launch t c.args.address) c.args.task (ltb c.args.task 32) c.new.ensures _ c.launch_task-end.result c.in_ok-task.ensures c.new-notes.ensures (short_launch _ _) (search rules) ran c.counted.ensures (search rules)
