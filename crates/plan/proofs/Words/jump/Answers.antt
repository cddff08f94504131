use Rattle.std.proofs.Common.{Some, rules}
use Rattle.cells.proofs.Following.{find_map}
use Rattle.plan.proofs.Words.jump.Goals as goal

pub returns-then-layout : goal.returns-then-layout
returns-then-layout c = λ b is os. rw c.if-layout.true (find_map Some c.word.result (c.word.ensures b is os) (search rules))
