use Rattle.std.proofs.Common.{rules}
use Rattle.cards.proofs.Leads.{is_straight, is_apart}
use Rattle.cards.proofs.contacts.Contacts.straight.Goals as goal

pub invariant_of-result : goal.invariant_of-result
invariant_of-result c = record {
  size = c.from_fn.ensures.items.long;
  apart = is_apart c.from_fn.result (λ i h. let made = c.from_fn.ensures.items.at i 0 h in search rules);
}

pub returns : goal.returns
returns c =
    is_straight c.from_fn.result c.from_fn.ensures.items.long (λ i h. let made = c.from_fn.ensures.items.at i 0 h in search rules)
