-- What an entry of a trail says: of which cell, and how it was touched.
use Rattle.std.specs.Prelude.{ℕ}
use Rattle.law.specs.declared.Entry.{Entry}
use Rattle.law.specs.declared.Entry.TheVariants.{Read, Changed}

abbrev pub cell_of : {C : Type 0} → Entry C → C
cell_of (Read c) = c
cell_of (Changed c) = c

-- how the cell was touched, as a number
abbrev pub touch_number : {C : Type 0} → Entry C → ℕ
touch_number (Read c) = 0
touch_number (Changed c) = 1
