use mathlib.Core.Path.{◌∙◌}
use Rattle.cells.proofs.Following.{go_look, go_ret}
use Rattle.perform.proofs.Levels.{level_is}
use Rattle.perform.proofs.halt_while.Goals as goal

pub returns-then-bit-value : goal.returns-then-bit-value
returns-then-bit-value g c = λ ws. go_look (c.read_line-bit.ensures ws) (rw (level_is _ _ ∙ c.if-bit-value.true) go_ret)

pub returns : goal.returns
returns g c = λ ws.
    go_look (c.read_line-bit.ensures ws) (
    rw (level_is _ _ ∙ c.if-bit-value.false) (
    c.move_on.ensures (g.I.Card.lines c.args.store.now.inputs) (g.O.Card.lines c.args.store.now.outputs) ws))
