use Rattle.std.proofs.Common.{◌∙◌}
use Rattle.arith.specs.Shifts.{logical_shift}
use Rattle.arith.proofs.Powers.{left_out, right_out}
use Rattle.arith.proofs.Distances.{as_shifted, logical_law}
use Rattle.arith.proofs.shifts.logical.Goals as goal

pub returns : goal.returns
returns c =
    let s = c.args.source in
    let d = c.args.destination in
    let f = c.ranges.destination.fits in
    let value = as_shifted logical_shift _ _ s d _ (λ n w h. h ∙ left_out d n) (λ n w h. h ∙ right_out d n f) c.shifted_by.ensures in
    record { value = value; powers = logical_law s d f _ value }
