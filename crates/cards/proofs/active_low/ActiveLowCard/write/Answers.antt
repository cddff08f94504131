use Rattle.std.proofs.Common.{arith}
use Rattle.cards.proofs.Flipping.{flipped_set}
use Rattle.cards.proofs.active_low.ActiveLowCard.write.Goals as goal

pub returns-then-n-lt-LINES : goal.returns-then-n-lt-LINES
returns-then-n-lt-LINES g c =
    let xs = g.C.Card.lines c.args.self.now.below in
    let size = g.met.C.Card.size c.args.self.now.below in
    rw (c.write.ensures, c.from.ensures) (flipped_set c.args.self.now.mask xs c.args.n c.args.on (omega arith) (omega arith))
