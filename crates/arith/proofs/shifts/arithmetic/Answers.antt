use Rattle.std.proofs.Common.{◌∙◌}
use Rattle.arith.specs.Shifts.{arithmetic_shift}
use Rattle.arith.proofs.Powers.{left_out}
use Rattle.arith.proofs.Distances.{as_shifted, arithmetic_law}
use Rattle.arith.proofs.shifts.arithmetic.Goals as goal

pub returns : goal.returns
returns c =
    let s = c.args.source in
    let d = c.args.destination in
    let value = as_shifted arithmetic_shift _ _ s d _ (λ n w h. h ∙ left_out d n) (λ n w h. h) c.shifted_by.ensures in
    record { value = value; powers = arithmetic_law s d c.ranges.destination.fits _ value }
