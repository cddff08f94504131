-- How code follows a tree.
use Rattle.std.specs.Prelude.{◌≡◌, ℕ, [], ◌∷◌, Ok, Err, Result}
use Rattle.law.specs.declared.Entry.TheVariants.{Read, Changed}
use Rattle.law.specs.Trees.{Tree, ret, refuse, Contents, poke, go, only_reads}
use Rattle.words.specs.declared.Refusal.{Refusal}
use Rattle.cells.specs.declared.Cell.{Cell}
use Rattle.cells.specs.declared.Trail.{Trail}
use Rattle.cells.specs.Cells.{same}
use Rattle.cells.specs.Trails.{Grows}

-- trees of this machine's cells and refusals
abbrev pub Steps : Type 0 → Type 0
Steps A = Tree Cell A Refusal

-- a result that no cell decides
abbrev pub lift : {A : Type 0} → Result A Refusal → Steps A
lift (Ok a) = ret a
lift (Err r) = refuse r

-- a read of the cell c gave v, and was listed
pub record Sees (s : Contents Cell) (c : Cell) (v : ℕ) (t t' : Trail) : Type 0 where
  pub value : v ≡ s c
  pub grows : Grows (Read c ∷ []) t t'

-- a change of the cell c to v made s' of s, and was listed
pub record Pokes (s : Contents Cell) (c : Cell) (v : ℕ) (s' : Contents Cell) (t t' : Trail) : Type 0 where
  pub value : poke same c v s ≡ s'
  pub grows : Grows (Changed c ∷ []) t t'

-- code that may refuse, and so only reads, came from the trail t to t' and returned r
pub record Finds {A : Type 0} (m : Steps A) (s : Contents Cell) (t : Trail) (r : Result A Refusal) (t' : Trail) : Type 0 where
  pub ends : (go same m s).end ≡ r
  pub after : (go same m s).after ≡ s
  pub reads : only_reads (go same m s).trail ≡ (go same m s).trail
  pub grows : Grows (go same m s).trail t t'

-- code that never refuses came from the contents s and the trail t to s' and t', and returned a
pub record Goes {A : Type 0} (m : Steps A) (s : Contents Cell) (t : Trail) (a : A) (s' : Contents Cell) (t' : Trail) : Type 0 where
  pub ends : (go same m s).end ≡ Ok a
  pub after : (go same m s).after ≡ s'
  pub grows : Grows (go same m s).trail t t'
