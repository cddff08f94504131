-- Events in a row on one machine: what a run of them reports and leaves, and the law of order for it.
use Rattle.std.specs.Prelude.{◌≡◌, ℕ, cond, List, [], ◌∷◌, map, length, take, Ok, Err, Result, nat_lt}
use Rattle.law.specs.Trees.{Contents, Reads, Changes, run}
use Rattle.law.specs.Order.{Report as Told, report, reports, final, Order, Taken, KeepsClashes, Same}
use Rattle.words.specs.declared.Refusal.{Refusal}
use Rattle.cells.specs.Cells.{same}
use Rattle.cells.specs.Runs.{Steps}
use Rattle.cells.specs.declared.Cell.{Cell}
use Rattle.perform.specs.declared.Answer.{Answer}
use Rattle.events.specs.declared.Event.{Event}
use Rattle.events.specs.declared.NoRoom.{NoRoom}
use Rattle.events.specs.declared.Report.{Report}
use Rattle.events.specs.Events.{tree, told, filed}

-- a run of n events wants n reports
abbrev pub room_told : ℕ → ℕ → Result (Unit {0}) NoRoom
room_told n rooms = cond (nat_lt rooms n) (Err (record {})) (Ok tt)

-- what an event is told to have come to
abbrev pub Tellings : Type 0
Tellings = List (Told Cell Answer Refusal)

abbrev pub trees : ℕ → List Event → List (Steps Answer)
trees size events = map (tree size) events

-- from the contents s the events had the reports rs, one after the other, and left the contents s'
pub record Runs (size : ℕ) (events : List Event) (s : Contents Cell) (rs : List Report) (s' : Contents Cell) : Type 0 where
  pub tells : rs ≡ map filed (reports same (trees size events) s)
  pub cells : Same s' (final same (trees size events) s)

-- the event e, which came from the contents s to s' with the report r, left every cell that its trail does not list as changed
abbrev pub Frames : Steps Answer → Told Cell Answer Refusal → Contents Cell → Contents Cell → Type 0
Frames e r s s' = (x : Cell) → ¬ Changes x r.trail → s' x ≡ s x

-- on any contents t that agree with s on the cells that its trail lists as read, it has the same report, and leaves the
-- same in the cells that it lists as changed
abbrev pub Depends : Steps Answer → Told Cell Answer Refusal → Contents Cell → Contents Cell → Type 0
Depends e r s s' =
    (t : Contents Cell) → ((x : Cell) → Reads x r.trail → s x ≡ t x)
    → (report (run same e t) ≡ r) × ((x : Cell) → Changes x r.trail → (run same e t).after x ≡ s' x)

-- P holds of each event with its report, and the contents from which and to which it came
abbrev pub Each : (Steps Answer → Told Cell Answer Refusal → Contents Cell → Contents Cell → Type 0) → List (Steps Answer) → Contents Cell → Tellings → Type 0
Each P [] s [] = Unit {0}
Each P [] s (r ∷ rs) = ⊥
Each P (e ∷ es) s [] = ⊥
Each P (e ∷ es) s (r ∷ rs) = P e r s (run same e s).after × Each P es (run same e s).after rs

abbrev pub FramesEach : ℕ → List Event → Contents Cell → List Report → Type 0
FramesEach size events s rs = Each Frames (trees size events) s (map told rs)

abbrev pub DependsEach : ℕ → List Event → Contents Cell → List Report → Type 0
DependsEach size events s rs = Each Depends (trees size events) s (map told rs)

-- A run of the same events in another order, which keeps the clashing pairs in order, from equal contents, with RAM of
-- the same length, has the same reports, each told by its event's position, and leaves equal contents. Of a machine only
-- its contents count, and of its cards only their lines, so this covers every machine with cards of every make.
abbrev pub AnyOrder : ℕ → List Event → Contents Cell → List Report → Contents Cell → Type 0
AnyOrder size events s rs s' =
    (p : List ℕ) (fs : List Event) (t t' : Contents Cell) (qs : List Report)
    → Order (length events) p
    → KeepsClashes (map told rs) p
    → Taken p events fs
    → Same s t
    → Runs size fs t qs t'
    → Taken p rs qs × Same s' t'

-- that holds of the first k events too, for every k
abbrev pub Prefixes : ℕ → List Event → Contents Cell → List Report → Type 0
Prefixes size events s rs = (k : ℕ) → AnyOrder size (take k events) s (take k rs) (final same (trees size (take k events)) s)
