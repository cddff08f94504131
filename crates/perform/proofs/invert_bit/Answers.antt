use Rattle.cells.proofs.Following.{go_look}
use Rattle.perform.proofs.Levels.{level_not}
use Rattle.perform.proofs.invert_bit.Goals as goal

pub returns : goal.returns
returns g c = λ ws. go_look (c.read_line-bit.ensures ws) (rw (← level_not c.read_line-bit.result) (c.write_bit.ensures ws))
