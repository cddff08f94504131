-- Fetching a command: the head, the jump address, then the data of the pair. Each word is checked as it is fetched.
use Rattle.std.specs.Prelude.{ℕ, ◌+◌, ◌%◌, cond, Some, None, Option, nat_lt}
use Rattle.law.specs.Trees.{ret, refuse, look, bind}
use Rattle.words.specs.Codes.{before_data, length_of, layout, decoded}
use Rattle.words.specs.Words.{refusal_at, head, source, base}
use Rattle.words.specs.declared.Command.{Command}
use Rattle.words.specs.declared.Head.{Head}
use Rattle.words.specs.declared.Layout.{Layout}
use Rattle.words.specs.declared.Pair.{Pair}
use Rattle.words.specs.declared.Operand.{Operand}
use Rattle.words.specs.declared.Reason.TheVariants.{PastRam}
use Rattle.words.specs.declared.Site.{Site}
use Rattle.cells.specs.declared.Cell.TheVariants.{Ram}
use Rattle.cells.specs.Runs.{Steps, lift}
use Rattle.plan.specs.declared.Fetched.{Fetched}

-- where a command of task t at the place p stands
abbrev pub site_of : ℕ → ℕ → Site
site_of t p = record { task = t; place = p }

-- the command word at the address a, in a RAM of `size` words
abbrev pub word_at : ℕ → Site → ℕ → Steps ℕ
word_at size site a = cond (nat_lt a size) (look (Ram a) ret) (refuse (refusal_at site PastRam 0))

-- the word n words past the head
abbrev pub word : ℕ → Site → ℕ → Steps ℕ
word size site n = word_at size site ((site.place + n) % 65536)

-- the jump address of a command that has one
abbrev pub jump_word : ℕ → Site → Layout → Steps (Option ℕ)
jump_word size site l = cond l.jump (bind (word size site 1) (λ w. ret (Some w))) (ret None)

-- the source in the word n words past the head
abbrev pub source_data : ℕ → Site → ℕ → ℕ → Steps (Option Operand)
source_data size site mode n = bind (word size site n) (λ w. bind (lift (source mode w site 1)) (λ s. ret (Some s)))

-- the source of a command that has a pair
abbrev pub source_of : Option Pair → Steps (Option Operand) → Steps (Option Operand)
source_of None m = ret None
source_of (Some p) m = m

abbrev pub source_word : ℕ → Site → Layout → ℕ → Steps (Option Operand)
source_word size site l mode = source_of l.first (source_data size site mode (before_data l))

abbrev pub fetched_as : Site → Command → Head → Layout → Option ℕ → Option Operand → Fetched
fetched_as site c h l jump s = record {
  command = c;
  jump = jump;
  source = s;
  base = base h.destination;
  next = (site.place + length_of l) % 65536;
}

-- the words after the head h of the command c
abbrev pub operand_words : ℕ → Site → Command → Head → Steps Fetched
operand_words size site c h =
    bind (jump_word size site (layout h.code)) (λ jump.
    bind (source_word size site (layout h.code) h.source) (λ s.
    ret (fetched_as site c h (layout h.code) jump s)))

abbrev pub fetch_from : ℕ → Site → Head → Steps Fetched
fetch_from size site h = bind (lift (decoded h site)) (λ c. operand_words size site c h)

abbrev pub fetch : ℕ → Site → Steps Fetched
fetch size site = bind (word size site 0) (λ w. fetch_from size site (head w))
