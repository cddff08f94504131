use Rattle.cells.proofs.Following.{go_change, go_ret}
use Rattle.perform.proofs.make_ready.Goals as goal

pub returns : goal.returns
returns c = λ is os ws.
    go_change (c.write_state.ensures is os ws) (
    go_change (c.write_place.ensures is os ws) (
    go_change (c.write_delay.ensures is os ws) (
    go_change (c.write_register.ensures is os ws) (
    go_change (c.write_register-2.ensures is os ws) (
    go_change (c.write_register-3.ensures is os ws)
    go_ret)))))
