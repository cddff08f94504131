-- No trail of an event passes the 200 entries of the list.
use Rattle.std.proofs.Common.{ℕ, arith}
use Rattle.cells.proofs.Bounds.{Short, short_ret, short_refuse, short_look, short_change, short_cond, short_bind, shorter}
use Rattle.plan.proofs.Lengths.{short_plan}
use Rattle.perform.specs.Perform.{kill as kill_task, abort as abort_task, ticks}
use Rattle.perform.proofs.Lengths.{short_perform, short_ready, short_abort, short_ticks}
use Rattle.machine.specs.Events.{launch, cycle}

pub short_launch : (t a : ℕ) → Short 200 (launch t a)
short_launch t a = shorter 200 (short_look (λ s. short_cond _ (short_ready t a) short_refuse)) (omega arith)

pub short_tick : Short 200 (ticks 32)
short_tick = shorter 200 (short_ticks 32) (omega arith)

pub short_end : (t : ℕ) → Short 200 (kill_task t)
short_end t = short_change short_ret

pub short_away : (t : ℕ) → Short 200 (abort_task t)
short_away t = shorter 200 (short_abort t) (omega arith)

pub short_cycle : (size t : ℕ) → Short 200 (cycle size t)
short_cycle size t =
    short_look (λ s. short_cond _ short_ret (
    short_look (λ d. short_cond _ (
    short_look (λ p. shorter 197 (short_bind {n = 4} {k = 3} (short_plan size _) (λ a. short_perform t a)) (omega arith)))
    short_ret)))
