use Rattle.std.proofs.Common.{arith}
use Rattle.cards.proofs.Leads.{crossed_set}
use Rattle.cards.proofs.crossing.CrossingCard.write.Goals as goal

pub returns-then-n-lt-LINES : goal.returns-then-n-lt-LINES
returns-then-n-lt-LINES g c =
    let contacts = c.args.self.now.contacts in
    let xs = g.C.Card.lines c.args.self.now.below in
    let size = g.met.C.Card.size c.args.self.now.below in
    rw (c.write.ensures, c.of.ensures.contact) (crossed_set contacts.to xs c.args.n c.args.on contacts.apart (omega arith) (omega arith))
