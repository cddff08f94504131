use Rattle.std.proofs.Common.{true, Ok, refl, rules}
use Rattle.perform.specs.Perform.{ticks}
use Rattle.machine.proofs.Lengths.{short_tick}
use Rattle.machine.proofs.Calling.{did_break, did_end}
use Rattle.machine.proofs.Machine.tick.Goals as goal

pub returns-in_err-admit : goal.returns-in_err-admit
returns-in_err-admit g c = did_break (λ (x : Unit). ticks 32) tt true refl c.in_err-admit.ensures _ c.from_residual.ensures.1

pub returns : goal.returns
returns g c =
    let m = c.args.self.now.store in
    let ran = c.tick_tasks-answer.ensures (g.I.Card.lines m.inputs) (g.O.Card.lines m.outputs) c.args.ram.now in
    let loan = ran.grows.loan in
    did_end (λ (x : Unit). ticks 32) tt true refl _ (Ok _) c.in_ok-admit.ensures c.new-notes.ensures short_tick (search rules) ran c.counted.ensures (search rules)
