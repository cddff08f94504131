use Rattle.std.proofs.Common.{◌≡◌, length, arith, rules}
use Rattle.std.proofs.Math.Seq.{take-length}
use Rattle.events.proofs.Lawful.{runs_next, rest_next, frames_hold, depends_hold, any_order, prefixes}
use Rattle.events.proofs.run.Goals as goal

pub loop-i-preserved : goal.loop-i-preserved
loop-i-preserved g c = record {
  ran = runs_next c.args.events.now c.loop-i.reports c.loop-i.i _ c.loop-i-test.true (omega arith) c.loop-i.auto.ram c.loop-i.invariant.ran c.apply.ensures;
  rest = rest_next c.loop-i.reports c.args.reports.now c.loop-i.i c.apply.result c.loop-i.invariant.rest;
}

pub returns : goal.returns
returns g c =
    let all : c.loop-i.i ≡ length c.args.events.now = omega arith in
    let ran = rw (take-length c.args.events.now) at (rw all at c.loop-i.invariant.ran) in
    record {
      told = search rules;
      runs = ran;
      rest = search rules;
      frame = frames_hold ran;
      dependence = depends_hold ran;
      order = any_order ran;
      prefixes = prefixes ran;
    }
