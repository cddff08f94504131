use Rattle.std.proofs.Common.{rules, arith}
use Rattle.rehearsal.specs.Tests.{Fine, IsSwap}
use Rattle.rehearsal.proofs.Scans.{first_given}
use Rattle.rehearsal.proofs.Reflect.{after_at}
use Rattle.rehearsal.proofs.swap_after.Goals as goal

pub returns : goal.returns
returns c =
    let rs = c.args.reports.now in
    let p = c.args.order.now in
    let i = c.args.i in
    first_given (Fine rs p i) (IsSwap rs p i) c.find_map.result c.find_map.ensures.runs
    (λ a r f e. search rules) (λ j a b e. search rules) (λ j w a b e. search rules)
    (λ h j l m. h j (omega arith) m) (λ j w a b y h. after_at y (omega arith) b (λ k l m. h k (omega arith) m))
