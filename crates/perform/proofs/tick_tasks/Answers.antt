use native.Mathlib.Omega.{arith}
use Rattle.cells.proofs.Following.{go_at}
use Rattle.perform.specs.Perform.{ticks}
use Rattle.perform.proofs.Ticking.{no_ticks, one_more}
use Rattle.perform.proofs.tick_tasks.Goals as goal

pub loop-t-init : goal.loop-t-init
loop-t-init c = λ is os ws. no_ticks

pub loop-t-preserved : goal.loop-t-preserved
loop-t-preserved c = λ is os ws. one_more (c.loop-t.invariant is os ws) (rw c.of.ensures at (c.tick_task.ensures is os ws))

pub returns : goal.returns
returns c = λ is os ws. go_at ticks (omega arith) (c.loop-t.invariant is os ws)
