use Rattle.std.proofs.Common.{◌%◌, ◌∙◌, arith}
use Rattle.arith.specs.Shifts.{rotation}
use Rattle.arith.proofs.Distances.{as_shifted, rotation_law}
use Rattle.arith.proofs.Turning.{joined_left, joined_right}
use Rattle.arith.proofs.shifts.rotate.Goals as goal

pub returns : goal.returns
returns c =
    let s = c.args.source in
    let d = c.args.destination in
    let f = c.ranges.destination.fits in
    let value = as_shifted rotation _ _ s d _ (λ n w h. h ∙ joined_left d (n % 16) f (omega arith)) (λ n w h. h ∙ joined_right d (n % 16) f (omega arith)) c.shifted_by.ensures in
    record { value = value; places = rotation_law s d f _ value }
