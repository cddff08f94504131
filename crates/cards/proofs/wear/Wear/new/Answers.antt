use Rattle.cards.proofs.Switches.{zero_counts, zero_lines}
use Rattle.cards.proofs.wear.Wear.new.Goals as goal

pub returns : goal.returns
returns c = record { counts = zero_counts; lines = zero_lines }
