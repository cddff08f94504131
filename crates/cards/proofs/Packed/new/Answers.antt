use Rattle.cards.proofs.Packs.{unpacked_zeros}
use Rattle.cards.proofs.Packed.new.Goals as goal

pub returns : goal.returns
returns c = unpacked_zeros
