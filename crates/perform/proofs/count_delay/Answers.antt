use Rattle.perform.proofs.Ticking.{one_less, none_less}
use Rattle.perform.proofs.count_delay.Goals as goal

pub returns-in-Some : goal.returns-in-Some
returns-in-Some c = λ is os ws. one_less (c.read_delay-delay.ensures is os ws) c.in-Some.ensures (c.write_delay.ensures is os ws)

pub returns-in_default : goal.returns-in_default
returns-in_default c = λ is os ws. none_less (c.read_delay-delay.ensures is os ws) c.in_default.ensures
