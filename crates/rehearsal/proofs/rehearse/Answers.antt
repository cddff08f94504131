use Rattle.std.proofs.Common.{◌≡◌, false, length, take, refl, ap, sym, arith, rules}
use Rattle.std.proofs.lemmas.Bool.Decides.{not_from_Decides}
use Rattle.rehearsal.specs.Rehearsals.{no_room, no_order, other_start, swaps, alike}
use Rattle.rehearsal.proofs.Reflect.{keeps_is, swapped_is, order_within, same_start, both_alike}
use Rattle.rehearsal.proofs.rehearse.Goals as goal

pub returns-then-reports1-events-clause-verdict : goal.returns-then-reports1-events-clause-verdict
returns-then-reports1-events-clause-verdict g c = no_room (λ r. grind (arith, r.one, r.two))

pub returns-then-not-is_order-clause-verdict : goal.returns-then-not-is_order-clause-verdict
returns-then-not-is_order-clause-verdict g c = no_order (search rules) (not_from_Decides false c.if-not-is_order.ensures refl)

pub returns-then-not-same_cells-clause-verdict : goal.returns-then-not-same_cells-clause-verdict
returns-then-not-same_cells-clause-verdict g c =
    other_start (search rules) (c.if-not-is_order.ensures.0 refl) (not_from_Decides false c.if-not-same_cells.ensures refl)

pub returns-in-Some-clause-verdict : goal.returns-in-Some-clause-verdict
returns-in-Some-clause-verdict g c =
    let ok = c.if-not-is_order.ensures.0 refl in
    swaps (search rules) ok (c.if-not-same_cells.ensures.0 refl) (swapped_is ok.order.once c.in-Some.ensures)

pub run_in-requires-clause-within : goal.run_in-requires-clause-within
run_in-requires-clause-within g c = order_within (c.if-not-is_order.ensures.0 refl)

pub returns : goal.returns
returns g c =
    let ok = c.if-not-is_order.ensures.0 refl in
    let equal = c.if-not-same_cells.ensures.0 refl in
    let reports = take (length c.args.events.now) c.run.new.reports in
    let keeps = keeps_is reports c.args.order.now ok.order.once c.in_default.ensures in
    let n : length c.args.order.now ≡ length c.args.events.now = ok.long in
    let runs = rw n at c.run_in.ensures.runs in
    record {
      verdict = alike (search rules) ok equal keeps;
      first = (c.in_ok-run.ensures.runs, c.in_ok-run.ensures.rest);
      second = (runs, rw n at c.run_in.ensures.rest);
      alike = both_alike c.args.events.now reports c.in_ok-run.ensures.order ok refl keeps runs (ap length (sym equal.words)) (same_start equal);
    }
