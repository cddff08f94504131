-- The tests of an order at run time, which the law's own words stand behind.
use Rattle.std.specs.Prelude.{◌≡◌, ℕ, ◌<◌, Bool, true, false, cond, not, ◌&&◌, List, [], ◌∷◌, length, Some, None, Option, ◌==◌, nat_lt, slice_index_or, find, filter_map}
use Rattle.std.specs.List.{list_any, list_all}
use Rattle.std.specs.Option.{option_or}
use Rattle.law.specs.declared.Entry.{Entry}
use Rattle.law.specs.declared.Entry.TheVariants.{Read, Changed}
use Rattle.law.specs.Entries.{cell_of}
use Rattle.cells.specs.Cells.{same}
use Rattle.cells.specs.declared.Cell.{Cell}
use Rattle.events.specs.declared.Report.{Report}
use Rattle.events.specs.Events.{told}
use Rattle.rehearsal.specs.declared.Swap.{Swap}

-- one of the entries is of the cell c
abbrev pub lists? : Cell → List (Entry Cell) → Bool
lists? c es = list_any (λ e. same (cell_of e) c) es

-- the cell of an entry, if it changes one
abbrev pub changed? : Entry Cell → Option Cell
changed? (Read c) = None
changed? (Changed c) = Some c

-- the first cell that es changes and fs lists
abbrev pub hit? : List (Entry Cell) → List (Entry Cell) → Option Cell
hit? es fs = find (λ c. lists? c fs) (filter_map changed? es)

abbrev pub clash? : List (Entry Cell) → List (Entry Cell) → Option Cell
clash? es fs = option_or (hit? es fs) (hit? fs es)

abbrev pub member? : ℕ → List ℕ → Bool
member? i p = list_any (λ k. k == i) p

-- i stands before j, in a list where nothing stands twice
abbrev pub before? : ℕ → ℕ → List ℕ → Bool
before? i j [] = false
before? i j (k ∷ p) = cond (k == i) (member? j p) (before? i j p)

abbrev pub distinct? : List ℕ → Bool
distinct? [] = true
distinct? (k ∷ p) = not (member? k p) && distinct? p

abbrev pub within? : ℕ → List ℕ → Bool
within? n p = list_all (λ k. nat_lt k n) p

-- the cell that two reports clash on, unless the order keeps their positions
abbrev pub swap? : List ℕ → ℕ → ℕ → Report → Report → Option Cell
swap? p i j a b = cond (before? i j p) None (clash? (told a).trail (told b).trail)

abbrev pub Fine : List Report → List ℕ → ℕ → ℕ → Type 0
Fine rs p i j = (d : Report) → swap? p i j (slice_index_or rs i d) (slice_index_or rs j d) ≡ None

-- w is the pair of i and j, which the order swaps, and the cell that the reports clash on
abbrev pub IsSwap : List Report → List ℕ → ℕ → ℕ → Swap → Type 0
IsSwap rs p i j w =
    (w.first ≡ i) × (w.second ≡ j) × ((d : Report) → swap? p i j (slice_index_or rs i d) (slice_index_or rs j d) ≡ Some w.cell)

-- w is the first pair, by its earlier and then by its later position, that the order swaps
pub record Broken (rs : List Report) (p : List ℕ) (w : Swap) : Type 0 where
  pub early : w.first < w.second
  pub there : w.second < length rs
  pub swaps : (d : Report) → swap? p w.first w.second (slice_index_or rs w.first d) (slice_index_or rs w.second d) ≡ Some w.cell
  pub before : (i j : ℕ) → i < w.first → i < j → j < length rs → Fine rs p i j
  pub between : (j : ℕ) → w.first < j → j < w.second → Fine rs p w.first j

-- the same of the pairs whose earlier position is i
pub record BrokenAfter (rs : List Report) (p : List ℕ) (i : ℕ) (w : Swap) : Type 0 where
  pub here : w.first ≡ i
  pub early : i < w.second
  pub there : w.second < length rs
  pub swaps : (d : Report) → swap? p i w.second (slice_index_or rs i d) (slice_index_or rs w.second d) ≡ Some w.cell
  pub between : (j : ℕ) → i < j → j < w.second → Fine rs p i j
