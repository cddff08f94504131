-- A plan lists at most four entries: three words and a register.
use Rattle.std.proofs.Common.{ℕ, Some, None, Ok, Err, Option, Result}
use Rattle.words.specs.declared.Command.{Command}
use Rattle.words.specs.declared.Head.{Head}
use Rattle.words.specs.declared.Layout.{Layout}
use Rattle.words.specs.declared.Pair.{Pair}
use Rattle.words.specs.declared.Operand.{Operand}
use Rattle.words.specs.declared.Operand.TheVariants.{Immediate, Register}
use Rattle.words.specs.declared.Refusal.{Refusal}
use Rattle.words.specs.declared.Site.{Site}
use Rattle.words.specs.Codes.{before_data, layout}
use Rattle.words.specs.Words.{head}
use Rattle.cells.specs.Runs.{lift}
use Rattle.cells.proofs.Bounds.{Short, short_ret, short_refuse, short_look, short_cond, short_bind}
use Rattle.plan.specs.Actions.{value, plan}
use Rattle.plan.specs.Fetch.{word, jump_word, source_data, source_of, source_word, operand_words, fetch}

short_lift : {A : Type 0} (r : Result A Refusal) → Short 0 (lift r)
short_lift (Ok a) = short_ret
short_lift (Err e) = short_refuse

short_word : (size : ℕ) (site : Site) (n : ℕ) → Short 1 (word size site n)
short_word size site n = short_cond _ (short_look (λ v. short_ret)) short_refuse

short_jump : (size : ℕ) (site : Site) (l : Layout) → Short 1 (jump_word size site l)
short_jump size site l = short_cond l.jump (short_bind {n = 1} {k = 0} (short_word size site 1) (λ w. short_ret)) short_ret

short_source : (size : ℕ) (site : Site) (l : Layout) (mode : ℕ) → Short 1 (source_word size site l mode)
short_source size site l mode = by l.first
  where
    by : (p : Option Pair) → Short 1 (source_of p (source_data size site mode (before_data l)))
    by None = short_ret
    by (Some p) =
        short_bind {n = 1} {k = 0} (short_word size site _) (λ w. short_bind {n = 0} {k = 0} (short_lift _) (λ s. short_ret))

short_operands : (size : ℕ) (site : Site) (c : Command) (h : Head) → Short 2 (operand_words size site c h)
short_operands size site c h =
    short_bind {n = 1} {k = 1} (short_jump size site (layout h.code)) (λ j. short_bind {n = 1} {k = 0} (short_source size site (layout h.code) h.source) (λ s. short_ret))

short_fetch : (size : ℕ) (site : Site) → Short 3 (fetch size site)
short_fetch size site =
    short_bind {n = 1} {k = 2} (short_word size site 0) (λ w.
    short_bind {n = 0} {k = 2} (short_lift _) (λ c. short_operands size site c (head w)))

short_value : (t : ℕ) (o : Option Operand) → Short 1 (value t o)
short_value t None = short_ret
short_value t (Some (Immediate v)) = short_ret
short_value t (Some (Register r)) = short_look (λ v. short_ret)

pub short_plan : (size : ℕ) (site : Site) → Short 4 (plan size site)
short_plan size site =
    short_bind {n = 3} {k = 1} (short_fetch size site) (λ f.
    short_bind {n = 1} {k = 0} (short_value site.task f.source) (λ o. short_lift _))
