use Rattle.cells.specs.declared.Cell.TheVariants.{Delay}
use Rattle.cells.proofs.Following.{go_bind}
use Rattle.perform.specs.Perform.{count_down}
use Rattle.perform.proofs.tick_task.Goals as goal

pub returns : goal.returns
returns c = λ is os ws. go_bind (c.count_timer.ensures is os ws) (λ _. count_down (Delay c.args.t)) (c.count_delay.ensures is os ws)
