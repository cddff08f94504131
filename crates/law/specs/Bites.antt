-- The law says something: its condition on clashes cannot be dropped, and there are orders that meet it and move events.
-- The cells of these examples are numbers, and each holds 1 at first.
use Rattle.std.specs.Prelude.{◌≡◌, ℕ, ◌+◌, ◌*◌, ◌<◌, List, [], ◌∷◌, map, length, nat_eq}
use Rattle.law.specs.declared.Entry.{Entry}
use Rattle.law.specs.declared.Entry.TheVariants.{Read, Changed}
use Rattle.law.specs.Trees.{Tree, ret, look, change, Contents, Tells}
use Rattle.law.specs.Order.{Report, reports, final, Before, Order, Taken, KeepsClashes, Same}

abbrev pub ones : Contents ℕ
ones x = 1

-- one more in the cell c; twice as much in it. Each answers with what the cell held
abbrev pub raise : ℕ → Tree ℕ ℕ ℕ
raise c = look c (λ v. change c (v + 1) (ret v))

abbrev pub double : ℕ → Tree ℕ ℕ ℕ
double c = look c (λ v. change c (2 * v) (ret v))

-- fs, which is es in an order that parts a clashing pair, reports otherwise and leaves other contents
pub record Differs (es fs : List (Tree ℕ ℕ ℕ)) (p : List ℕ) : Type 0 where
  pub order : Order (length es) p
  pub taken : Taken p es fs
  pub parted : ¬ KeepsClashes (reports nat_eq es ones) p
  pub other_reports : ¬ Taken p (reports nat_eq es ones) (reports nat_eq fs ones)
  pub other_contents : ¬ Same (final nat_eq es ones) (final nat_eq fs ones)

-- the law applies to es and fs, and in fs an event comes before one that it came after in es
pub record Moves (es fs : List (Tree ℕ ℕ ℕ)) (p : List ℕ) : Type 0 where
  pub order : Order (length es) p
  pub keeps : KeepsClashes (reports nat_eq es ones) p
  pub taken : Taken p es fs
  pub moved : (i : ℕ) × (j : ℕ) × (i < j) × Before j i p

-- what an event that reads the cell c and then changes it leaves on its trail
abbrev pub both : ℕ → List (Entry ℕ)
both c = Read c ∷ Changed c ∷ []

abbrev pub trails : List (Report ℕ ℕ ℕ) → List (List (Entry ℕ))
trails rs = map (λ r. r.trail) rs

pub record NotEmpty : Type 0 where
  pub told_apart : Tells nat_eq
  -- raising a cell and doubling it cannot change places
  pub needed : Differs (raise 0 ∷ double 0 ∷ []) (double 0 ∷ raise 0 ∷ []) (1 ∷ 0 ∷ [])
  -- doubling another cell can come first, though the two before it clash, and all three read and change
  pub met : Moves (raise 0 ∷ double 0 ∷ double 1 ∷ []) (double 1 ∷ raise 0 ∷ double 0 ∷ []) (2 ∷ 0 ∷ 1 ∷ [])
  pub met_trails : trails (reports nat_eq (raise 0 ∷ double 0 ∷ double 1 ∷ []) ones) ≡ both 0 ∷ both 0 ∷ both 1 ∷ []
