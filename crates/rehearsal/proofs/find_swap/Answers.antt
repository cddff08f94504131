use Rattle.std.proofs.Common.{ℕ, ◌<◌, length, rules, arith}
use Rattle.rehearsal.specs.Tests.{Fine, BrokenAfter}
use Rattle.rehearsal.proofs.Scans.{first_given}
use Rattle.rehearsal.proofs.Reflect.{broken_at}
use Rattle.rehearsal.proofs.find_swap.Goals as goal

pub returns : goal.returns
returns c =
    let rs = c.args.reports.now in
    let p = c.args.order.now in
    first_given (λ i. (j : ℕ) → i < j → j < length rs → Fine rs p i j) (BrokenAfter rs p) c.find_map.result c.find_map.ensures.runs
    (λ a r f e. search rules) (λ i a b e. search rules) (λ i w a b e. search rules)
    (λ h i j l m. h i (omega arith) (omega arith) j l m) (λ i w a b y h. broken_at y (λ k l. h k (omega arith) l))
