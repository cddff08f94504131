-- Which line of the card below each line stands for: its contact.
use Rattle.std.specs.Prelude.{◌≡◌, ℕ, ◌<◌, Bool, false, cond, List, Ok, Err, Result, nat_lt, slice_index, slice_index_or, slice_set}
use Rattle.std.specs.List.{range_with_len}
use Rattle.cards.specs.declared.CardRefusal.{CardRefusal}
use Rattle.cards.specs.declared.CardRefusal.TheVariants.{NoSuchLine}

-- no two lines have one contact
abbrev pub OneToOne : List ℕ → Type 0
OneToOne to = (i j : ℕ) → (i < 256) × (j < 256) × (slice_index to i ≡ slice_index to j) → i ≡ j

-- every line is its own contact
unfoldable pub straight : List ℕ
straight = range_with_len 0 256

abbrev pub exchanged : {X : Type 0} → X → List X → ℕ → ℕ → List X
exchanged d xs a b = slice_set (slice_set xs a (slice_index_or xs b d)) b (slice_index_or xs a d)

-- an exchange is refused if one of the two is no line, and then changes nothing
abbrev pub two_lines : ℕ → ℕ → Bool
two_lines a b = cond (nat_lt a 256) (nat_lt b 256) false

abbrev pub exchange_told : ℕ → ℕ → Result (Unit {0}) CardRefusal
exchange_told a b = cond (two_lines a b) (Ok tt) (Err NoSuchLine)

abbrev pub after_exchange : {X : Type 0} → X → List X → ℕ → ℕ → List X
after_exchange d xs a b = cond (two_lines a b) (exchanged d xs a b) xs
