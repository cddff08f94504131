use Rattle.std.proofs.Common.{ℕ, ltb, Ok, rules, arith}
use Rattle.law.specs.Trees.{ret, change}
use Rattle.cells.specs.declared.Cell.TheVariants.{Input}
use Rattle.cells.proofs.Following.{go_change, go_ret}
use Rattle.cells.proofs.Bounds.{short_change, short_ret}
use Rattle.perform.specs.declared.Answer.TheVariants.{Done}
use Rattle.store.specs.View.{level}
use Rattle.machine.proofs.Calling.{did_break, did_end}
use Rattle.machine.proofs.Machine.feed.Goals as goal

pub returns-in_err-line : goal.returns-in_err-line
returns-in_err-line g c =
    did_break (λ (n : ℕ). change (Input n) (level c.args.on) (ret Done)) c.args.line (ltb c.args.line 256) (grind arith) c.in_err-line.ensures _ c.from_residual.ensures.1

pub returns : goal.returns
returns g c =
    let ran = go_change (c.write_line.ensures c.args.ram.now) go_ret in
    let loan = ran.grows.loan in
    did_end (λ (n : ℕ). change (Input n) (level c.args.on) (ret Done)) c.args.line (ltb c.args.line 256) (grind arith) _ (Ok _) c.in_ok-line.ensures c.new-notes.ensures (short_change short_ret) (search rules) ran c.counted.ensures (search rules)
