use borrow.Author.Tests.{eq-eqb, ne_eqb}
use Rattle.cells.proofs.Following.{go_look, go_change, go_ret}
use Rattle.perform.proofs.abort_task.Goals as goal

pub returns-in_default : goal.returns-in_default
returns-in_default c = λ is os ws. go_look (c.in_default.ensures is os ws) go_ret

pub returns-then-target-eq0 : goal.returns-then-target-eq0
returns-then-target-eq0 c = λ is os ws.
    go_look (c.in-Ready.ensures is os ws) (
    go_look (c.read_register-target.ensures is os ws) (
    rw (eq-eqb _ _ c.if-target-eq0.true) (
    c.end_task.ensures is os ws)))

pub returns : goal.returns
returns c = λ is os ws.
    go_look (c.in-Ready.ensures is os ws) (
    go_look (c.read_register-target.ensures is os ws) (
    rw (ne_eqb _ _ c.if-target-eq0.false) (
    go_change (c.write_place.ensures is os ws) (
    go_change (c.write_register.ensures is os ws) go_ret))))
