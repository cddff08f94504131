-- What the lines are of a card whose lines are led to those of the card below.
use Rattle.std.specs.Prelude.{ℕ, Bool, false, List, slice_index, slice_index_or}
use Rattle.cards.specs.declared.crossing.Crossing.{Crossing}
use Rattle.cards.specs.Lines.{lines_by}

-- the line of xs that is the contact of line n
abbrev pub crossed_line : List ℕ → List Bool → ℕ → Bool
crossed_line to xs n = slice_index_or xs (slice_index to n) false

abbrev pub crossed : List ℕ → List Bool → List Bool
crossed to xs = lines_by (crossed_line to xs)

-- `lines` tells the lines of the card below
abbrev pub crossing_lines : {C : Type 0} → (C → List Bool) → Crossing C → List Bool
crossing_lines lines c = crossed c.contacts.to (lines c.below)
