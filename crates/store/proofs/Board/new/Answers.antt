use Rattle.store.proofs.Views.{blank_view}
use Rattle.store.proofs.Board.new.Goals as goal

pub returns : goal.returns
returns c = blank_view 32 128 256
