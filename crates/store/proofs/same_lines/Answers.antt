use Rattle.std.proofs.Common.{◌≡◌, ℕ, false, get_or, refl, rules, tests}
use Rattle.std.proofs.lemmas.Iterator.{cases_from_all, YieldsList-from_range}
use Rattle.store.proofs.Sameness.{lines_decide}
use Rattle.store.proofs.same_lines.Goals as goal

pub returns : goal.returns
returns g c =
    let xs = g.C.Card.lines c.args.a.now in
    let ys = g.D.Card.lines c.args.b.now in
    lines_decide _ xs ys (g.met.C.Card.size c.args.a.now) (g.met.D.Card.size c.args.b.now)
    (cases_from_all _ _ _ (λ (k : ℕ). get_or xs k false ≡ get_or ys k false) (λ (k : ℕ). get_or xs k false ≡ get_or ys k false → ⊥) c.all.ensures.ran (YieldsList-from_range 0 256 256 refl refl)
    (λ x q k. search (rules, tests))
    (λ x q k. search (rules, tests)))
