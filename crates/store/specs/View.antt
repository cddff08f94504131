-- What the cells of a machine hold, from its tasks and flags, RAM and the lines of its two cards.
use Rattle.std.specs.Prelude.{◌≡◌, ◌==◌, ℕ, Bool, false, cond, List, [], slice_index, slice_index_or, slice_set}
use Rattle.std.specs.Ordering.{on, eq_of_both}
use Rattle.std.specs.Cmp.Lexicographic.{pointwise}
use Rattle.law.specs.Trees.{Contents}
use Rattle.cells.specs.declared.Cell.{Cell}
use Rattle.cells.specs.declared.Cell.TheVariants.{Ram, Register, Place, State, Delay, Flag, Input, Output}
use Rattle.store.specs.declared.Board.{Board}
use Rattle.store.specs.declared.Line.{Line}
use Rattle.store.specs.declared.Line.TheVariants as line
use Rattle.store.specs.declared.State.{State as TaskState}
use Rattle.store.specs.declared.State.TheVariants.{Idle, Ready}
use Rattle.store.specs.declared.Store.{Store}
use Rattle.store.specs.declared.Task.{Task}

abbrev pub state_number : TaskState → ℕ
state_number Idle = 0
state_number Ready = 1

-- a line or flag that is on holds 1
abbrev pub level : Bool → ℕ
level b = cond b 1 0

-- what stands past the last task
abbrev pub no_task : Task
no_task = record { registers = []; place = 0; state = Idle; delay = 0 }

abbrev pub task_at : Board → ℕ → Task
task_at b t = slice_index_or b.tasks t no_task

-- the board b, the lines of the inputs and of the outputs, and the words of RAM
abbrev pub view : Board → List Bool → List Bool → List ℕ → Contents Cell
view b is os ws (Ram a) = slice_index ws a
view b is os ws (Register t r) = slice_index (task_at b t).registers r
view b is os ws (Place t) = (task_at b t).place
view b is os ws (State t) = state_number (task_at b t).state
view b is os ws (Delay t) = (task_at b t).delay
view b is os ws (Flag n) = level (slice_index_or b.flags n false)
view b is os ws (Input n) = level (slice_index_or is n false)
view b is os ws (Output n) = level (slice_index_or os n false)

-- the cells of a store with RAM: of its cards only the lines count
module _ {I O : Type 0} (inputs_of : I → List Bool) (outputs_of : O → List Bool) where
  abbrev pub cells_of : Store I O → List ℕ → Contents Cell
  cells_of s ram = view s.board (inputs_of s.inputs) (outputs_of s.outputs) ram

-- two stores hold the same: equal tasks and flags, cards that show equal lines
module _ {I O J P : Type 0} (i : I → List Bool) (o : O → List Bool) (j : J → List Bool) (p : P → List Bool) where
  pub record Equal (s : Store I O) (t : Store J P) : Type 0 where
    pub board : s.board ≡ t.board
    pub inputs : i s.inputs ≡ j t.inputs
    pub outputs : o s.outputs ≡ p t.outputs

-- the cells of a machine just made: RAM and cards as given, every other number zero
abbrev pub new_cells : List Bool → List Bool → List ℕ → Contents Cell
new_cells is os ws (Ram a) = slice_index ws a
new_cells is os ws (Register t r) = 0
new_cells is os ws (Place t) = 0
new_cells is os ws (State t) = state_number Idle
new_cells is os ws (Delay t) = 0
new_cells is os ws (Flag n) = 0
new_cells is os ws (Input n) = level (slice_index_or is n false)
new_cells is os ws (Output n) = level (slice_index_or os n false)

-- the cell of a line
abbrev pub line_cell : Line → Cell
line_cell (line.Input n) = Input n
line_cell (line.Output n) = Output n
line_cell (line.Flag n) = Flag n

-- a task with one register changed
abbrev pub with_register : Task → ℕ → ℕ → Task
with_register k r v = record { registers = slice_set k.registers r v; place = k.place; state = k.state; delay = k.delay }

-- whether two tasks are the same in each part
abbrev pub task_eq : Task → Task → Bool
task_eq =
    eq_of_both (eq_of_both (on (λ k. k.place) ◌==◌) (on (λ k. state_number k.state) ◌==◌))
    (eq_of_both (on (λ k. k.delay) ◌==◌) (on (λ k. k.registers) (pointwise ◌==◌)))
