-- The numbers of a card's refusals.
use Rattle.std.specs.Prelude.{ℕ}
use Rattle.cards.specs.declared.CardRefusal.{CardRefusal}
use Rattle.cards.specs.declared.CardRefusal.TheVariants.{NoSuchLine}

abbrev pub refusal_number : CardRefusal → ℕ
refusal_number NoSuchLine = 2
