-- The law of order, from its parts.
use Rattle.law.proofs.Single.{joining, frame, dependence, diamond}
use Rattle.law.proofs.Reorder.{reordering}
use Rattle.law.proofs.order_law.Goals as goal

pub returns : goal.returns
returns g c = λ same tells. record {
  joining = joining same;
  frame = frame same tells;
  dependence = dependence same tells;
  diamond = diamond same tells;
  reordering = reordering same tells;
}
