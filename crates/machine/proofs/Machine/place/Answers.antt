use Rattle.std.proofs.Common.{ℕ, ltb, length, Ok, rules, arith}
use Rattle.law.specs.Trees.{ret, change}
use Rattle.cells.specs.declared.Cell.TheVariants.{Ram}
use Rattle.cells.proofs.Following.{go_change, go_ret}
use Rattle.cells.proofs.Bounds.{short_change, short_ret}
use Rattle.perform.specs.declared.Answer.TheVariants.{Done}
use Rattle.machine.proofs.Calling.{did_break, did_end}
use Rattle.machine.proofs.Machine.place.Goals as goal

pub returns-in_err-address : goal.returns-in_err-address
returns-in_err-address g c =
    let there = ltb c.args.address (length c.args.ram.now) in
    did_break (λ (a : ℕ). change (Ram a) c.args.word (ret Done)) c.args.address there (grind arith) c.in_err-address.ensures _ c.from_residual.ensures.1

pub returns : goal.returns
returns g c =
    let m = c.args.self.now.store in
    let there = ltb c.args.address (length c.args.ram.now) in
    let ran = go_change (c.write_ram.ensures m.board (g.I.Card.lines m.inputs) (g.O.Card.lines m.outputs)) go_ret in
    let loan = ran.grows.loan in
    did_end (λ (a : ℕ). change (Ram a) c.args.word (ret Done)) c.args.address there (grind arith) _ (Ok _) c.in_ok-address.ensures c.new-notes.ensures (short_change short_ret) (search rules) ran c.counted.ensures (search rules)
