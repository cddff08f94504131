use Rattle.std.proofs.Common.{arith}
use Rattle.rehearsal.proofs.Reflect.{order_decided}
use Rattle.rehearsal.proofs.is_order.Goals as goal

pub returns-then-within : goal.returns-then-within
returns-then-within c = grind (arith, order_decided c.args.n c.args.order.now)

pub returns-else-within : goal.returns-else-within
returns-else-within c = grind (arith, order_decided c.args.n c.args.order.now)
