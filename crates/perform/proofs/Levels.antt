-- A level inverted, and one tested.
use mathlib.Core.Path.{◌≡◌, refl}
use mathlib.Core.Bool.{Bool, true, false, not, cond, beq}
use lib.Dec.{eqb}
use Rattle.store.specs.View.{level}
use Rattle.perform.specs.Perform.{is_level}

pub level_not : (b : Bool) → level (not b) ≡ cond (eqb (level b) 0) 1 0
level_not true = refl
level_not false = refl

pub level_is : (b v : Bool) → is_level v (level b) ≡ beq b v
level_is true true = refl
level_is true false = refl
level_is false true = refl
level_is false false = refl
