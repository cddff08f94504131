use Rattle.cells.proofs.Following.{find_bind, find_break, find_same}
use Rattle.plan.proofs.plan_command.Goals as goal

pub returns-in_err-fetched : goal.returns-in_err-fetched
returns-in_err-fetched c = λ is os.
    rw (← c.get.ensures.value) (find_break (c.in_err-fetched.ensures c.args.board.now is os) _ _ c.from_residual.ensures.1)

pub returns : goal.returns
returns c = λ is os.
    let taken = rw (← c.get.ensures.value) at (c.take_value-offset.ensures is os c.args.ram.now) in
    rw (← c.get.ensures.value) (
    find_bind (c.in_ok-fetched.ensures c.args.board.now is os) _ (find_bind taken _ (find_same c.act_on.ensures)))
