use Rattle.cells.proofs.Following.{go_change, go_ret}
use Rattle.perform.proofs.move_on.Goals as goal

pub returns : goal.returns
returns c = λ is os ws. go_change (c.write_place.ensures is os ws) go_ret
