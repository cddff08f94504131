use Rattle.cards.proofs.Leads.{crossed_straight}
use Rattle.cards.proofs.crossing.Crossing.new.Goals as goal

pub returns-clause-lines : goal.returns-clause-lines
returns-clause-lines g c =
    crossed_straight c.straight.result.to (g.C.Card.lines c.args.below) c.straight.ensures (g.met.C.Card.size c.args.below)
