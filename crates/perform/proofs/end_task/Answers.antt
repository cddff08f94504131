use Rattle.cells.proofs.Following.{go_change, go_ret}
use Rattle.perform.proofs.end_task.Goals as goal

pub returns : goal.returns
returns c = λ is os ws. go_change (c.write_state.ensures is os ws) go_ret
