-- What the lines are of a card that flips some of the lines below it.
use Rattle.std.specs.Prelude.{ℕ, Bool, false, cond, not, List, slice_index_or}
use Rattle.cards.specs.declared.active_low.ActiveLow.{ActiveLow}
use Rattle.cards.specs.Lines.{lines_by}

abbrev pub flip : Bool → Bool → Bool
flip m b = cond m (not b) b

-- line n of xs, flipped if the mask has true at n
abbrev pub flipped_line : List Bool → List Bool → ℕ → Bool
flipped_line mask xs n = flip (slice_index_or mask n false) (slice_index_or xs n false)

abbrev pub flipped : List Bool → List Bool → List Bool
flipped mask xs = lines_by (flipped_line mask xs)

-- `lines` tells the lines of the card below
abbrev pub low_lines : {C : Type 0} → (C → List Bool) → ActiveLow C → List Bool
low_lines lines a = flipped a.mask (lines a.below)
