use Rattle.std.proofs.Common.{rules}
use Rattle.arith.proofs.Quotients.{truncated}
use Rattle.arith.proofs.divisions.toward_zero.Goals as goal

pub returns-clause-value : goal.returns-clause-value
returns-clause-value c = search rules

pub returns-clause-rounded : goal.returns-clause-rounded
returns-clause-rounded c = truncated c.args.source c.args.destination _ (returns-clause-value c)
