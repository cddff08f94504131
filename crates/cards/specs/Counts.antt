-- What a card that counts its switchings holds.
use Rattle.std.specs.Prelude.{ℕ, ◌+◌, ◌%◌, ◌^◌, Bool, cond, List, replicate, Ok, Err, Result, ◌==◌, nat_lt, slice_index, slice_set}
use Rattle.std.specs.Bool.{beq}
use Rattle.cards.specs.declared.CardRefusal.{CardRefusal}
use Rattle.cards.specs.declared.CardRefusal.TheVariants.{NoSuchLine}
use Rattle.cards.specs.declared.wear.Wear.{Wear}
use Rattle.cards.specs.Lines.{lines_by}

-- no line was switched yet
unfoldable pub all_zero : List ℕ
all_zero = replicate 256 0

-- a line is on if it was switched an odd number of times
abbrev pub odd : ℕ → Bool
odd c = c % 2 == 1

abbrev pub worn : List ℕ → ℕ → Bool
worn cs n = odd (slice_index cs n)

abbrev pub worn_lines : Wear → List Bool
worn_lines w = lines_by (worn w.counts)

-- the count c of a line once the line is `on`: one more, wrapping, only if the line was not so before
abbrev pub switched : ℕ → Bool → ℕ
switched c on = cond (beq (odd c) on) c ((c + 1) % 2 ^ 32)

-- the counts once line n is `on`; as they were, if there is no line n
abbrev pub counts_after : List ℕ → ℕ → Bool → List ℕ
counts_after cs n on = cond (nat_lt n 256) (slice_set cs n (switched (slice_index cs n) on)) cs

-- what is told of a line's count
abbrev pub count_told : Wear → ℕ → Result ℕ CardRefusal
count_told w n = cond (nat_lt n 256) (Ok (slice_index w.counts n)) (Err NoSuchLine)
