use Rattle.std.proofs.Common.{refl}
use Rattle.cells.proofs.Following.{find_look, find_refuse, go_look}
use Rattle.machine.proofs.launch_task.Goals as goal

pub returns-in-Idle : goal.returns-in-Idle
returns-in-Idle c = λ is os ws. go_look (c.in-Idle.ensures is os ws) (c.make_ready.ensures is os ws)

pub returns-in-Ready : goal.returns-in-Ready
returns-in-Ready c = λ is os ws. (find_look (c.in-Ready.ensures is os ws) (rw c.from.ensures find_refuse), refl)
