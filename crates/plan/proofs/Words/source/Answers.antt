use Rattle.std.proofs.Common.{rules, Some}
use Rattle.cells.proofs.Following.{find_bind, find_break, find_same, find_map}
use Rattle.plan.proofs.Words.source.Goals as goal

pub returns-in_err-data : goal.returns-in_err-data
returns-in_err-data c = λ b is os. rw (c.in-Some.is, ← c.before_data.ensures) (find_break (c.in_err-data.ensures b is os) _ _ c.from_residual.ensures.1)

pub returns : goal.returns
returns c = λ b is os.
    rw (c.in-Some.is, ← c.before_data.ensures) (
    find_bind (c.in_ok-data.ensures b is os) _ (
    find_map Some _ (find_same c.source_operand.ensures) (search rules)))
