use Rattle.std.proofs.Common.{rules}
use Rattle.cells.proofs.Following.{find_bind, find_break, find_value}
use Rattle.plan.proofs.Words.operands.Goals as goal

pub returns-in_err-jump : goal.returns-in_err-jump
returns-in_err-jump c = λ b is os. rw (← c.layout_of-layout.ensures) (find_break (c.in_err-jump.ensures b is os) _ _ c.from_residual.ensures.1)

pub returns-in_err-source : goal.returns-in_err-source
returns-in_err-source c = λ b is os. rw (← c.layout_of-layout.ensures) (
    find_bind (c.in_ok-jump.ensures b is os) _ (
    find_break (c.in_err-source.ensures b is os) _ _ c.from_residual-in_err-source.ensures.1))

pub returns : goal.returns
returns c = λ b is os. rw (← c.layout_of-layout.ensures) (
    find_bind (c.in_ok-jump.ensures b is os) _ (
    find_bind (c.in_ok-source.ensures b is os) _ (
    find_value (search rules))))
