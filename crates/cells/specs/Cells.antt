-- The cells of a machine by their numbers, and how they are told apart.
use Rattle.std.specs.Prelude.{ℕ, ◌<◌, Bool, cond, ◌&&◌, Some, None, Option, ◌==◌, nat_lt}
use Rattle.cells.specs.declared.Cell.{Cell}
use Rattle.cells.specs.declared.Cell.TheVariants.{Ram, Register, Place, State, Delay, Flag, Input, Output}
use Rattle.cells.specs.declared.Kind.{Kind}
use Rattle.cells.specs.declared.Kind.TheVariants as kind

abbrev pub kind_number : Kind → ℕ
kind_number kind.Ram = 0
kind_number kind.Register = 1
kind_number kind.Place = 2
kind_number kind.State = 3
kind_number kind.Delay = 4
kind_number kind.Flag = 5
kind_number kind.Input = 6
kind_number kind.Output = 7

abbrev pub kind_of : Cell → Kind
kind_of (Ram a) = kind.Ram
kind_of (Register t r) = kind.Register
kind_of (Place t) = kind.Place
kind_of (State t) = kind.State
kind_of (Delay t) = kind.Delay
kind_of (Flag n) = kind.Flag
kind_of (Input n) = kind.Input
kind_of (Output n) = kind.Output

-- the task of a cell, and 0 where it has none
abbrev pub task_of : Cell → ℕ
task_of (Ram a) = 0
task_of (Register t r) = t
task_of (Place t) = t
task_of (State t) = t
task_of (Delay t) = t
task_of (Flag n) = 0
task_of (Input n) = 0
task_of (Output n) = 0

-- the address, register or line of a cell, and 0 where it has none
abbrev pub number_of : Cell → ℕ
number_of (Ram a) = a
number_of (Register t r) = r
number_of (Place t) = 0
number_of (State t) = 0
number_of (Delay t) = 0
number_of (Flag n) = n
number_of (Input n) = n
number_of (Output n) = n

-- two cells are the same if their kinds, tasks and numbers are
abbrev pub same : Cell → Cell → Bool
same c d =
    (kind_number (kind_of c) == kind_number (kind_of d))
    && (task_of c == task_of d && number_of c == number_of d)

-- a cell that there is, in a machine with `size` words of RAM
abbrev pub There : ℕ → Cell → Type 0
There size (Ram a) = a < size
There size (Register t r) = (t < 32) × (r < 128)
There size (Place t) = t < 32
There size (State t) = t < 32
There size (Delay t) = t < 32
There size (Flag n) = n < 256
There size (Input n) = n < 256
There size (Output n) = n < 256

abbrev pub if_there : Bool → Cell → Option Cell
if_there b c = cond b (Some c) None

-- the cell of a kind, a task and a number, in a machine with `size` words of RAM
abbrev pub named : ℕ → Kind → ℕ → ℕ → Option Cell
named size kind.Ram t n = if_there (t == 0 && nat_lt n size) (Ram n)
named size kind.Register t n = if_there (nat_lt t 32 && nat_lt n 128) (Register t n)
named size kind.Place t n = if_there (nat_lt t 32 && n == 0) (Place t)
named size kind.State t n = if_there (nat_lt t 32 && n == 0) (State t)
named size kind.Delay t n = if_there (nat_lt t 32 && n == 0) (Delay t)
named size kind.Flag t n = if_there (t == 0 && nat_lt n 256) (Flag n)
named size kind.Input t n = if_there (t == 0 && nat_lt n 256) (Input n)
named size kind.Output t n = if_there (t == 0 && nat_lt n 256) (Output n)
