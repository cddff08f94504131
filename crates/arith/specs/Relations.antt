-- How a source s stands to a destination d.
use Rattle.std.specs.Prelude.{ℕ, Bool, not, ◌==◌, int_le, int_lt, nat_le, nat_lt}
use Rattle.arith.specs.declared.Relation.{Relation}
use Rattle.arith.specs.declared.Relation.TheVariants.{Equal, NotEqual, Below, BelowOrEqual, Above, AboveOrEqual, Less, LessOrEqual, Greater, GreaterOrEqual}
use Rattle.arith.specs.Words.{signed}

abbrev pub holds : Relation → ℕ → ℕ → Bool
holds Equal s d = s == d
holds NotEqual s d = not (s == d)
holds Below s d = nat_lt s d
holds BelowOrEqual s d = nat_le s d
holds Above s d = nat_lt d s
holds AboveOrEqual s d = nat_le d s
holds Less s d = int_lt (signed s) (signed d)
holds LessOrEqual s d = int_le (signed s) (signed d)
holds Greater s d = int_lt (signed d) (signed s)
holds GreaterOrEqual s d = int_le (signed d) (signed s)
