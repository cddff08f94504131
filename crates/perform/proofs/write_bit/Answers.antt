use Rattle.cells.proofs.Following.{go_change}
use Rattle.perform.proofs.write_bit.Goals as goal

pub returns : goal.returns
returns g c = λ ws.
    go_change (c.write_line.ensures ws) (
    c.move_on.ensures (g.I.Card.lines c.write_line.new.self.inputs) (g.O.Card.lines c.write_line.new.self.outputs) ws)
