use Rattle.std.proofs.Common.{length, rules}
use Rattle.events.specs.Events.{blanks}
use Rattle.events.proofs.Reporting.{does}
use Rattle.events.proofs.apply.Goals as goal

pub returns-in-Ok : goal.returns-in-Ok
unfolding blanks
returns-in-Ok g c = does (length c.args.ram.now) c.min.result c.args.event c.min.ensures (search rules) c.call.ensures c.in-Ok.is

pub returns-in-Err : goal.returns-in-Err
unfolding blanks
returns-in-Err g c = does (length c.args.ram.now) c.min.result c.args.event c.min.ensures (search rules) c.call.ensures c.in-Err.is
