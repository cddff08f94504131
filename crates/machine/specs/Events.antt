-- The events, as trees. `size` is the length of RAM and `room` that of the list for the trail.
use Rattle.std.specs.Prelude.{ℕ, Bool, true, cond, ◌&&◌, ◌==◌, nat_le, nat_lt}
use Rattle.law.specs.Trees.{ret, refuse, look, change, bind}
use Rattle.words.specs.declared.Reason.TheVariants.{RamLength, NoSuchThing, ShortTrail, NotIdle}
use Rattle.words.specs.Words.{plain}
use Rattle.words.specs.declared.Site.{Site}
use Rattle.cells.specs.declared.Cell.TheVariants.{Ram, Place, State, Delay, Input}
use Rattle.cells.specs.Runs.{Steps}
use Rattle.store.specs.View.{state_number, level}
use Rattle.store.specs.declared.State.TheVariants as state
use Rattle.plan.specs.Actions.{plan}
use Rattle.perform.specs.Perform.{kill as kill_task, abort as abort_task, ready_at, ticks, perform}
use Rattle.perform.specs.declared.Answer.{Answer}
use Rattle.perform.specs.declared.Answer.TheVariants.{Done, Idle, Waiting}

abbrev pub ram_fits : ℕ → Bool
ram_fits size = nat_le 256 size && nat_le size 65536

-- what every event is tested for first, in this order: RAM has a length that is allowed, what is named is there, and
-- the list is not too short
abbrev pub guarded : Bool → Bool → Bool → Steps Answer → Steps Answer
guarded fits there short m =
    cond fits
    (cond there
    (cond short
    (refuse (plain ShortTrail))
    m)
    (refuse (plain NoSuchThing)))
    (refuse (plain RamLength))

abbrev pub admitted : ℕ → ℕ → Bool → Steps Answer → Steps Answer
admitted size room there m = guarded (ram_fits size) there (nat_lt room 200) m

abbrev pub place : ℕ → ℕ → ℕ → ℕ → Steps Answer
place size room a w = admitted size room (nat_lt a size) (change (Ram a) w (ret Done))

abbrev pub feed : ℕ → ℕ → ℕ → Bool → Steps Answer
feed size room n on = admitted size room (nat_lt n 256) (change (Input n) (level on) (ret Done))

abbrev pub tick : ℕ → ℕ → Steps Answer
tick size room = admitted size room true (ticks 32)

-- only an idle task is started
abbrev pub launch : ℕ → ℕ → Steps Answer
launch t a = look (State t) (λ s. cond (s == state_number state.Idle) (ready_at t a) (refuse (plain NotIdle)))

abbrev pub start : ℕ → ℕ → ℕ → ℕ → Steps Answer
start size room t a = admitted size room (nat_lt t 32) (launch t a)

abbrev pub kill : ℕ → ℕ → ℕ → Steps Answer
kill size room t = admitted size room (nat_lt t 32) (kill_task t)

abbrev pub abort : ℕ → ℕ → ℕ → Steps Answer
abort size room t = admitted size room (nat_lt t 32) (abort_task t)

-- the command at `site`
abbrev pub command : ℕ → Site → Steps Answer
command size site = bind (plan size site) (perform site.task)

-- one command of task t, if it is ready and has no delay
abbrev pub cycle : ℕ → ℕ → Steps Answer
cycle size t =
    look (State t) (λ s. cond (s == state_number state.Idle) (ret Idle) (
    look (Delay t) (λ d. cond (d == 0) (
    look (Place t) (λ p. command size (record { task = t; place = p })))
    (ret Waiting))))

abbrev pub turn : ℕ → ℕ → ℕ → Steps Answer
turn size room t = admitted size room (nat_lt t 32) (cycle size t)
