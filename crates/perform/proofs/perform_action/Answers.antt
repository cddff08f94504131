use Rattle.cells.proofs.Following.{go_bind}
use Rattle.perform.specs.Perform.{move_on}
use Rattle.perform.proofs.perform_action.Goals as goal

pub returns-in-Jump : goal.returns-in-Jump
returns-in-Jump g c = λ ws.
    rw c.in-Jump.is (
    c.move_on.ensures (g.I.Card.lines c.args.store.now.inputs) (g.O.Card.lines c.args.store.now.outputs) ws)

pub returns-in-BranchOn : goal.returns-in-BranchOn
returns-in-BranchOn g c = λ ws. rw c.in-BranchOn.is (c.branch_on.ensures ws)

pub returns-in-Write : goal.returns-in-Write
returns-in-Write g c = λ ws. rw c.in-Write.is (c.write_bit.ensures ws)

pub returns-in-Invert : goal.returns-in-Invert
returns-in-Invert g c = λ ws. rw c.in-Invert.is (c.invert_bit.ensures ws)

pub returns-in-EndTask : goal.returns-in-EndTask
returns-in-EndTask g c = λ ws.
    let is = g.I.Card.lines c.args.store.now.inputs in
    let os = g.O.Card.lines c.args.store.now.outputs in
    rw c.in-EndTask.is (
    go_bind (c.end_task.ensures is os ws) (λ _. move_on c.args.t c.in-EndTask.next) (c.move_on-in-EndTask.ensures is os ws))
