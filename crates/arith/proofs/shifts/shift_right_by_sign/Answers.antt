use Rattle.std.proofs.Common.{rules}
use Rattle.arith.specs.Words.{signed}
use Rattle.arith.proofs.Powers.{only_sign}
use Rattle.arith.proofs.Readings.{signed_fits}
use Rattle.arith.proofs.shifts.shift_right_by_sign.Goals as goal

pub returns : goal.returns
returns c =
    let sign = only_sign (signed c.args.word) c.args.by (signed_fits c.args.word) in
    search (rules, sign)
