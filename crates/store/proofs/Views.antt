-- How writes to a task change the cells of a board, and what those of a new board hold.
use Rattle.std.proofs.Common.{◌≡◌, ℕ, ◌<◌, Bool, List, length, get_or, set, replicate, false, arith}
use Rattle.std.proofs.lemmas.List.{get_or-set_same, get_or-set_other, get_or-replicate, get_or_past, length-replicate}
use Rattle.law.specs.Trees.{poke}
use Rattle.cells.specs.Cells.{same}
use Rattle.cells.specs.declared.Cell.{Cell}
use Rattle.cells.specs.declared.Cell.TheVariants.{Register, State}
use Rattle.store.specs.View.{state_number, view, new_cells, no_task, with_register}
use Rattle.store.specs.declared.Board.{Board}
use Rattle.store.specs.declared.State.{State as TaskState}
use Rattle.store.specs.declared.State.TheVariants.{Idle}
use Rattle.store.specs.declared.Task.{Task}

-- `old` and `new` are task t before and after
pub poke_register : (b : Board) (is os : List Bool) (ws : List ℕ) (t r v : ℕ) {old new : Task}
    → t < length b.tasks → old ≡ get_or b.tasks t no_task → r < length old.registers → new ≡ with_register old r v
    → poke same (Register t r) v (view b is os ws) ≡ view (record { tasks = set b.tasks t new; flags = b.flags }) is os ws
poke_register b is os ws t r v h e hr k = grind (arith, get_or-set_same, get_or-set_other)

-- a task with its state changed
abbrev pub with_state : Task → TaskState → Task
with_state k v = record { registers = k.registers; place = k.place; state = v; delay = k.delay }

pub poke_state : (b : Board) (is os : List Bool) (ws : List ℕ) (t : ℕ) (v : TaskState) → t < length b.tasks
    → poke same (State t) (state_number v) (view b is os ws)
    ≡ view (record { tasks = set b.tasks t (with_state (get_or b.tasks t no_task) v); flags = b.flags }) is os ws
poke_state b is os ws t v h = grind (arith, get_or-set_same, get_or-set_other)

-- a board whose tasks are all idle at zero, and whose flags are off
pub blank_view : (n m k : ℕ) (is os : List Bool) (ws : List ℕ) (x : Cell)
    → view (record { tasks = replicate n (record { registers = replicate m 0; place = 0; state = Idle; delay = 0 }); flags = replicate k false }) is os ws x
    ≡ new_cells is os ws x
blank_view n m k is os ws x = grind (arith, get_or-replicate, get_or_past, length-replicate)
