use Rattle.std.proofs.Common.{◌%◌, arith, rules}
use Rattle.std.proofs.lemmas.Nat.{one_shl}
use Rattle.cards.proofs.Packs.{unpacked_turned}
use Rattle.cards.proofs.PackedCard.write.Goals as goal

pub returns-then-read-on : goal.returns-then-read-on
returns-then-read-on c =
    let n = c.args.n in
    rw c.from.ensures (
    unpacked_turned c.args.self.now.bytes n (search rules) _ c.args.on c.read.result (omega arith) (one_shl (n % 8) 8 (omega arith))
    (grind arith) c.if-read-on.true)
