use Rattle.std.proofs.Common.{◌<◌, length, arith}
use Rattle.events.proofs.Lawful.{rest_next}
use Rattle.rehearsal.proofs.Reflect.{picks_next}
use Rattle.rehearsal.proofs.run_in.Goals as goal

pub loop-k-preserved : goal.loop-k-preserved
loop-k-preserved g c =
    let room : c.loop-k.k < length c.loop-k.reports = omega arith in (
      picks_next _ _ c.args.events.now c.args.order.now _ _ _ c.loop-k.reports c.loop-k.k _ c.apply.result c.loop-k-test.true room (c.requires.within c.loop-k.k c.loop-k-test.true) c.loop-k.auto.ram c.loop-k.invariant.0 c.apply.ensures,
      rest_next c.loop-k.reports c.args.reports.now c.loop-k.k c.apply.result c.loop-k.invariant.1,
    )
