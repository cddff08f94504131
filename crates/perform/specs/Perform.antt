-- What each action reads and changes.
use Rattle.std.specs.Prelude.{Bool, cond, ℕ, zero, suc, ◌-◌, ◌==◌}
use Rattle.law.specs.Trees.{ret, look, change, bind}
use Rattle.cells.specs.declared.Cell.{Cell}
use Rattle.cells.specs.declared.Cell.TheVariants.{Register, Place, State, Delay}
use Rattle.cells.specs.Runs.{Steps}
use Rattle.store.specs.View.{state_number, level, line_cell}
use Rattle.store.specs.declared.Line.{Line}
use Rattle.store.specs.declared.State.TheVariants as state
use Rattle.plan.specs.declared.Action.{Action}
use Rattle.plan.specs.declared.Action.TheVariants.{Jump, BranchOn, Write, Invert, HaltWhile, EndTask}
use Rattle.perform.specs.declared.Answer.{Answer}
use Rattle.perform.specs.declared.Answer.TheVariants.{Done, Idle, Waiting, Halted, Ran}

abbrev pub answer_number : Answer → ℕ
answer_number Done = 0
answer_number Idle = 1
answer_number Waiting = 2
answer_number Halted = 3
answer_number Ran = 4

-- registers with a use of their own: the depth of the stack, the timer and the abort address
abbrev pub depth : ℕ
depth = 0x77

abbrev pub timer : ℕ
timer = 0x78

abbrev pub abort_address : ℕ
abort_address = 0x7B

-- the last change of a command is that of the place
abbrev pub move_on : ℕ → ℕ → Steps Answer
move_on t p = change (Place t) p (ret Ran)

-- a task is stopped
abbrev pub kill : ℕ → Steps Answer
kill t = change (State t) (state_number state.Idle) (ret Done)

-- a task is made ready at the address a, with no delay, an empty stack, no timer and no abort address
abbrev pub ready_at : ℕ → ℕ → Steps Answer
ready_at t a =
    change (State t) (state_number state.Ready) (
    change (Place t) a (
    change (Delay t) 0 (
    change (Register t depth) 0 (
    change (Register t timer) 0 (
    change (Register t abort_address) 0 (
    ret Done))))))

-- a task that is not idle jumps to its abort address, or is stopped if that is zero
abbrev pub abort_to : ℕ → ℕ → Steps Answer
abort_to t a = cond (a == 0) (kill t) (change (Place t) a (change (Register t depth) 0 (ret Done)))

abbrev pub abort : ℕ → Steps Answer
abort t = look (State t) (λ s. cond (s == state_number state.Idle) (ret Done) (look (Register t abort_address) (abort_to t)))

-- one less, unless it is zero
abbrev pub count_down : Cell → Steps Answer
count_down c = look c (λ v. cond (v == 0) (ret Done) (change c (v - 1) (ret Done)))

-- the timer of a task, then its delay
abbrev pub tick_task : ℕ → Steps Answer
tick_task t = bind (count_down (Register t timer)) (λ _. count_down (Delay t))

-- the first n tasks, in order
unfoldable pub ticks : ℕ → Steps Answer
ticks zero = ret Done
ticks (suc n) = bind (ticks n) (λ _. tick_task n)

-- the bit v as a line holds it
abbrev pub is_level : Bool → ℕ → Bool
is_level v b = b == level v

abbrev pub branch : ℕ → Line → Bool → ℕ → ℕ → Steps Answer
branch t l v to next = look (line_cell l) (λ b. move_on t (cond (is_level v b) to next))

abbrev pub write : ℕ → Line → Bool → ℕ → Steps Answer
write t l v next = change (line_cell l) (level v) (move_on t next)

-- on becomes off, and off on
abbrev pub invert : ℕ → Line → ℕ → Steps Answer
invert t l next = look (line_cell l) (λ b. change (line_cell l) (cond (b == 0) 1 0) (move_on t next))

-- while the bit is v the place stays
abbrev pub halt : ℕ → Line → Bool → ℕ → Steps Answer
halt t l v next = look (line_cell l) (λ b. cond (is_level v b) (ret Halted) (move_on t next))

abbrev pub perform : ℕ → Action → Steps Answer
perform t (Jump to) = move_on t to
perform t (BranchOn l v to next) = branch t l v to next
perform t (Write l v next) = write t l v next
perform t (Invert l next) = invert t l next
perform t (HaltWhile l v next) = halt t l v next
perform t (EndTask next) = bind (kill t) (λ _. move_on t next)
