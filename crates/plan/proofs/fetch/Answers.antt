use Rattle.cells.proofs.Following.{find_bind, find_break, find_same}
use Rattle.plan.proofs.fetch.Goals as goal

pub returns-in_err-word : goal.returns-in_err-word
returns-in_err-word c = λ b is os. find_break (c.in_err-word.ensures b is os) _ _ c.from_residual.ensures.1

pub returns-in_err-command : goal.returns-in_err-command
returns-in_err-command c = λ b is os.
    let refused = rw c.from-head.ensures at c.in_err-command.ensures in
    find_bind (c.in_ok-word.ensures b is os) _ (find_break (find_same refused) _ _ c.from_residual-in_err-command.ensures.1)

pub returns : goal.returns
returns c = λ b is os.
    let chosen = rw c.from-head.ensures at c.in_ok-command.ensures in
    let operands = rw c.from-head.ensures at (c.operands.ensures b is os) in
    find_bind (c.in_ok-word.ensures b is os) _ (find_bind (find_same chosen) _ operands)
