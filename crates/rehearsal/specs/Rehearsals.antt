-- What a rehearsal of the same events on two machines comes to.
use Rattle.std.specs.Prelude.{◌≡◌, ℕ, ◌<◌, ◌≤◌, ◌⊎◌, List, map, length, Some, Ok, Err, Result, slice_index, slice_index_or}
use Rattle.law.specs.Trees.{Changes, Lists, Clash}
use Rattle.law.specs.Order.{Report as Told, at, Before, Order, KeepsClashes}
use Rattle.words.specs.declared.Refusal.{Refusal}
use Rattle.cells.specs.declared.Cell.{Cell}
use Rattle.perform.specs.declared.Answer.{Answer}
use Rattle.events.specs.declared.Ask.TheVariants.{Tick}
use Rattle.events.specs.declared.Event.{Event}
use Rattle.events.specs.Rows.{Tellings}
use Rattle.rehearsal.specs.declared.Objection.{Objection}
use Rattle.rehearsal.specs.declared.Objection.TheVariants.{NoRoom, NoOrder, OtherStart, Swaps}
use Rattle.rehearsal.specs.declared.Swap.{Swap}
use Rattle.rehearsal.specs.Tests.{clash?}

-- p has each position below n once, and no other
pub record IsOrder (n : ℕ) (p : List ℕ) : Type 0 where
  pub long : length p ≡ n
  pub order : Order n p

-- the events at the positions of a list
abbrev pub picked : List Event → List ℕ → List Event
picked events p = map (λ i. slice_index_or events i (record { ask = Tick; room = 0 })) p

abbrev pub Within : ℕ → List ℕ → Type 0
Within n p = (k : ℕ) → k < length p → slice_index p k < n

-- The reports at two positions clash on a cell: one changes it and the other lists it. The order does not have the
-- earlier before the later. Of all such pairs it is the first, by the earlier and then by the later position, and the
-- cell is the first that the earlier event changes and the later lists, else the first the other way round.
pub record Swapped (rs : Tellings) (p : List ℕ) (w : Swap) : Type 0 where
  pub early : w.first < w.second
  pub one : Told Cell Answer Refusal
  pub other : Told Cell Answer Refusal
  pub is_one : at rs w.first ≡ Some one
  pub is_other : at rs w.second ≡ Some other
  pub clash : (Changes w.cell one.trail × Lists w.cell other.trail) ⊎ (Lists w.cell one.trail × Changes w.cell other.trail)
  pub swapped : ¬ Before w.first w.second p
  pub cell_is : clash? one.trail other.trail ≡ Some w.cell
  pub first : (i j : ℕ) (a b : Told Cell Answer Refusal) → i < j → at rs i ≡ Some a → at rs j ≡ Some b
      → (i < w.first) ⊎ ((i ≡ w.first) × (j < w.second)) → Clash a.trail b.trail → Before i j p

-- What a rehearsal answers, and why. `equal` says that the two machines start with equal cells, and rs is what the
-- events came to on the first. The tests are made in this order.
pub data Verdict (room : Type 0) (ordered : Type 0) (equal : Type 0) (rs : Tellings) (p : List ℕ) : Result (Unit {0}) Objection → Type 0 where
  no_room : ¬ room → Verdict room ordered equal rs p (Err NoRoom)
  no_order : room → ¬ ordered → Verdict room ordered equal rs p (Err NoOrder)
  other_start : room → ordered → ¬ equal → Verdict room ordered equal rs p (Err OtherStart)
  swaps : {w : Swap} → room → ordered → equal → Swapped rs p w → Verdict room ordered equal rs p (Err (Swaps w))
  alike : {u : Unit {0}} → room → ordered → equal → KeepsClashes rs p → Verdict room ordered equal rs p (Ok u)

-- the first machine ran unless it was refused before
abbrev pub IfFirst : Result (Unit {0}) Objection → Type 0 → Type 0 → Type 0
IfFirst (Ok u) ran stayed = ran
IfFirst (Err NoRoom) ran stayed = stayed
IfFirst (Err NoOrder) ran stayed = stayed
IfFirst (Err OtherStart) ran stayed = stayed
IfFirst (Err (Swaps w)) ran stayed = ran

-- there is room for n reports in both lists
pub record Room (n a b : ℕ) : Type 0 where
  pub one : n ≤ a
  pub two : n ≤ b
