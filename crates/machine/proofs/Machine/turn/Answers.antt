use Rattle.std.proofs.Common.{length, ltb, rules}
use Rattle.machine.specs.Events.{cycle}
use Rattle.machine.proofs.Lengths.{short_cycle}
use Rattle.machine.proofs.Calling.{did_break, did_end, ends_loan}
use Rattle.machine.proofs.Machine.turn.Goals as goal

pub returns-in_err-task : goal.returns-in_err-task
returns-in_err-task g c =
    did_break (cycle (length c.args.ram.now)) c.args.task (ltb c.args.task 32) c.new.ensures c.in_err-task.ensures _ c.from_residual.ensures.1

pub returns : goal.returns
returns g c =
    let loan = ends_loan _ c.cycle-end.result _ _ _ _ c.cycle-end.ensures in
    did_end (cycle (length c.args.ram.now)) c.args.task (ltb c.args.task 32) c.new.ensures _ c.cycle-end.result c.in_ok-task.ensures c.new-notes.ensures (short_cycle _ _) (search rules) c.cycle-end.ensures c.counted.ensures (search rules)
