use Rattle.cells.proofs.Following.{find_look, find_ret}
use Rattle.plan.proofs.take_value.Goals as goal

pub returns-in-Register : goal.returns-in-Register
returns-in-Register c = λ is os ws. rw (c.in-Some.is, c.in-Register.is) (find_look (c.read_register.ensures is os ws) find_ret)
