use Rattle.std.proofs.Common.{arith}
use Rattle.std.proofs.lemmas.Grind.{common_steps}
use Rattle.std.proofs.lemmas.Int.{ints}
use Rattle.arith.proofs.Quotients.{floored}
use Rattle.arith.proofs.divisions.down.Goals as goal

pub returns-then-opposed-clause-value : goal.returns-then-opposed-clause-value
returns-then-opposed-clause-value c = grind (ints, arith, common_steps)

pub returns-then-opposed-clause-rounded : goal.returns-then-opposed-clause-rounded
returns-then-opposed-clause-rounded c = floored c.args.source c.args.destination _ (returns-then-opposed-clause-value c)

pub returns-else-opposed-clause-value : goal.returns-else-opposed-clause-value
returns-else-opposed-clause-value c = grind (ints, arith, common_steps)

pub returns-else-opposed-clause-rounded : goal.returns-else-opposed-clause-rounded
returns-else-opposed-clause-rounded c = floored c.args.source c.args.destination _ (returns-else-opposed-clause-value c)
