use mathlib.Core.Bool.{Bool}
use mathlib.Core.List.{List}
use Prim.Native.Nat.{ℕ}
use Rattle.cells.specs.Runs.{Goes}
use Rattle.store.specs.View.{view}
use Rattle.perform.specs.Perform.{ticks}
use Rattle.perform.specs.declared.Answer.TheVariants.{Done}
use Rattle.perform.proofs.tick_tasks.Given as goal

-- the first t tasks have been counted down
abbrev pub invariant-loop-t : goal.invariant-loop-t
invariant-loop-t l = (is os : List Bool) (ws : List ℕ) → Goes (ticks l.t) (view l.initial.board is os ws) l.initial.trail Done (view l.board is os ws) l.trail
