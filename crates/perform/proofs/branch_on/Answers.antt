use mathlib.Core.Path.{◌≡◌}
use mathlib.Core.Bool.{cond}
use native.Mathlib.Omega.{arith}
use Rattle.store.specs.View.{level}
use Rattle.cells.proofs.Following.{go_look}
use Rattle.perform.specs.Perform.{is_level}
use Rattle.perform.proofs.Levels.{level_is}
use Rattle.perform.proofs.branch_on.Goals as goal

pub returns : goal.returns
returns g c = λ ws.
    let is : c.if-bit-value.place ≡ cond (is_level c.args.value (level c.read_line-bit.result)) c.args.to c.args.next =
    grind (arith, level_is) in
    go_look (c.read_line-bit.ensures ws) (
    rw (← is) (
    c.move_on.ensures (g.I.Card.lines c.args.store.now.inputs) (g.O.Card.lines c.args.store.now.outputs) ws))
