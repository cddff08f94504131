-- How long the trails of actions and of the task events are.
use Prim.Native.Nat.{ℕ, zero, suc, ◌*◌}
use native.Mathlib.Omega.{arith}
use Rattle.cells.proofs.Bounds.{Short, short_ret, short_look, short_change, short_cond, short_bind, shorter}
use Rattle.cells.specs.declared.Cell.{Cell}
use Rattle.plan.specs.declared.Action.{Action}
use Rattle.plan.specs.declared.Action.TheVariants.{Jump, BranchOn, Write, Invert, HaltWhile, EndTask}
use Rattle.perform.specs.Perform.{move_on, ready_at, abort, count_down, ticks, perform}

short_move : {n : ℕ} (t p : ℕ) → Short (suc n) (move_on t p)
short_move t p = short_change short_ret

pub short_perform : (t : ℕ) (a : Action) → Short 3 (perform t a)
short_perform t (Jump to) = short_move t to
short_perform t (BranchOn l v to next) = short_look (λ b. short_move t _)
short_perform t (Write l v next) = short_change (short_move t next)
short_perform t (Invert l next) = short_look (λ b. short_change (short_move t next))
short_perform t (HaltWhile l v next) = short_look (λ b. short_cond _ short_ret (short_move t next))
short_perform t (EndTask next) = short_change (short_move t next)

pub short_ready : (t a : ℕ) → Short 6 (ready_at t a)
short_ready t a = short_change (short_change (short_change (short_change (short_change (short_change short_ret)))))

pub short_abort : (t : ℕ) → Short 4 (abort t)
short_abort t =
    short_look (λ s. short_cond _ short_ret (
    short_look (λ a. short_cond _ (short_change short_ret) (short_change (short_change short_ret)))))

short_down : (c : Cell) → Short 2 (count_down c)
short_down c = short_look (λ v. short_cond _ short_ret (short_change short_ret))

pub short_ticks : (n : ℕ) → Short (4 * n) (ticks n)
unfolding ticks
short_ticks zero = short_ret
short_ticks (suc n) =
    shorter (4 * suc n) (short_bind {n = 4 * n} {k = 4} (short_ticks n) (λ _. short_bind {n = 2} {k = 2} (short_down _) (λ _. short_down _))) (omega arith)
