use Rattle.cards.proofs.Leads.{crossed_exchange}
use Rattle.cards.proofs.crossing.Crossing.exchange.Goals as goal

pub returns-clause-lines : goal.returns-clause-lines
returns-clause-lines g c =
    crossed_exchange c.args.self.now.contacts.to c.exchange.new.self.to (g.C.Card.lines c.args.self.now.below) c.args.a c.args.b
    c.args.self.now.contacts.size c.exchange.ensures.contacts
