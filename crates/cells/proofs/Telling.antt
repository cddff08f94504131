-- The numbers of cells tell them apart.
use Rattle.std.proofs.Common.{◌≡◌, ℕ, refl, Decides, get_or, [], ◌∷◌}
use Rattle.std.proofs.lemmas.Bool.Decides.{Decides-and, Decides-eqb}
use Rattle.law.specs.Trees.{Tells}
use Rattle.cells.specs.declared.Cell.{Cell}
use Rattle.cells.specs.declared.Cell.TheVariants.{Ram, Register, Place, State, Delay, Flag, Input, Output}
use Rattle.cells.specs.Cells.{kind_number, kind_of, task_of, number_of, same}

-- the cell of these numbers
abbrev cell : ℕ → ℕ → ℕ → Cell
cell k t n = get_or (Ram n ∷ Register t n ∷ Place t ∷ State t ∷ Delay t ∷ Flag n ∷ Input n ∷ Output n ∷ []) k (Ram n)

cell_is : (c : Cell) → cell (kind_number (kind_of c)) (task_of c) (number_of c) ≡ c
cell_is (Ram a) = refl
cell_is (Register t r) = refl
cell_is (Place t) = refl
cell_is (State t) = refl
cell_is (Delay t) = refl
cell_is (Flag n) = refl
cell_is (Input n) = refl
cell_is (Output n) = refl

numbers_decide : (x y : Cell) → Decides (same x y) ((kind_number (kind_of x) ≡ kind_number (kind_of y)) × ((task_of x ≡ task_of y) × (number_of x ≡ number_of y)))
numbers_decide x y = Decides-and _ _ (Decides-eqb _ _) (Decides-and _ _ (Decides-eqb _ _) (Decides-eqb _ _))

pub cells_told : Tells same
cells_told = record {
  itself = λ x. (numbers_decide x x).1 (refl, (refl, refl));
  equal = λ x y h. let q = (numbers_decide x y).0 h in cc (cell_is x, cell_is y, q.0, q.1.0, q.1.1);
}
