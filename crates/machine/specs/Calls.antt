-- What a call returns and leaves, by the run of its event's tree.
use Rattle.std.specs.Prelude.{◌≡◌, ℕ, ◌≤◌, Bool, cond, List, length, IfOk, Some, None, Ok, Err, Option, Result, nat_lt}
use Rattle.law.specs.Trees.{Contents, run}
use Rattle.law.specs.declared.Entry.{Entry}
use Rattle.words.specs.Words.{plain}
use Rattle.words.specs.declared.Reason.{Reason}
use Rattle.words.specs.declared.Reason.TheVariants.{RamLength, NoSuchThing, ShortTrail}
use Rattle.words.specs.declared.Refusal.{Refusal}
use Rattle.cells.specs.Cells.{same, named}
use Rattle.cells.specs.Runs.{Steps, Finds, Goes}
use Rattle.cells.specs.Trails.{over}
use Rattle.cells.specs.declared.Cell.{Cell}
use Rattle.cells.specs.declared.Kind.{Kind}
use Rattle.cells.specs.declared.Trail.{Trail}
use Rattle.store.specs.View.{cells_of as cells_of_store}
use Rattle.perform.specs.declared.Answer.{Answer}
use Rattle.machine.specs.Events.{ram_fits}
use Rattle.machine.specs.declared.Answered.{Answered}
use Rattle.machine.specs.declared.Machine.{Machine}
use Rattle.machine.specs.declared.Refused.{Refused}

-- the cells of a machine with its RAM: of its cards only the lines count
module _ {I O : Type 0} (inputs_of : I → List Bool) (outputs_of : O → List Bool) where
  abbrev pub cells_of : Machine I O → List ℕ → Contents Cell
  cells_of m ram = cells_of_store inputs_of outputs_of m.store ram

-- an answer or a refusal with the count of entries
abbrev pub counted : Result Answer Refusal → ℕ → Result Answered Refused
counted (Ok a) n = Ok (record { answer = a; count = n })
counted (Err r) n = Err (record { refusal = r; count = n })

abbrev pub early_refusal : Reason → Refused
early_refusal why = record { refusal = plain why; count = 0 }

-- what is named, if it is there and the list is not short
abbrev pub named_in : {T : Type 0} → Option T → Bool → Result T Refused
named_in None short = Err (early_refusal NoSuchThing)
named_in (Some x) short = cond short (Err (early_refusal ShortTrail)) (Ok x)

-- what the first tests of an event come to: RAM has a length that is allowed, what is named is there, the list is short
abbrev pub first_tests : {T : Type 0} → Bool → Option T → Bool → Result T Refused
first_tests fits named short = cond fits (named_in named short) (Err (early_refusal RamLength))

pub record Passed {T : Type 0} (room : ℕ) (named : Option T) (x : T) : Type 0 where
  pub wide : 200 ≤ room
  pub known : named ≡ Some x

pub record Admits {T : Type 0} (r : Result T Refused) (size room : ℕ) (named : Option T) : Type 0 where
  pub value : r ≡ first_tests (ram_fits size) named (nat_lt room 200)
  pub passed : IfOk r (Passed room named)

-- Code that may refuse came from the contents s and the trail t to s' and t', and returned r. A refusal follows reads alone.
abbrev pub Ends : {A : Type 0} → Steps A → Contents Cell → Trail → Result A Refusal → Contents Cell → Trail → Type 0
Ends m s t (Ok a) s' t' = Goes m s t a s' t'
Ends m s t (Err e) s' t' = Finds m s t (Err e) t' × (s' ≡ s)

-- A call of the event m began at the contents s and the list `old`, returned r, and left the contents s' and the list `new`.
pub record Did (m : Steps Answer) (s : Contents Cell) (old : List (Entry Cell)) (r : Result Answered Refused) (s' : Contents Cell) (new : List (Entry Cell)) : Type 0 where
  pub result : r ≡ counted (run same m s).end (length (run same m s).trail)
  pub cells : (x : Cell) → s' x ≡ (run same m s).after x
  pub list : new ≡ over (run same m s).trail old

-- what a question answers: the contents of the cell, if there is one
abbrev pub told : Option Cell → Contents Cell → Result ℕ Refusal
told (Some c) s = Ok (s c)
told None s = Err (plain NoSuchThing)

abbrev pub asked : ℕ → Kind → ℕ → ℕ → Contents Cell → Result ℕ Refusal
asked size kind task number s = cond (ram_fits size) (told (named size kind task number) s) (Err (plain RamLength))

-- two machines with their RAM hold the same: equal tasks and flags, cards that show equal lines, equal words
module _ {I O J P : Type 0} (i : I → List Bool) (o : O → List Bool) (j : J → List Bool) (p : P → List Bool) where
  pub record Equal (m : Machine I O) (ram : List ℕ) (n : Machine J P) (ram' : List ℕ) : Type 0 where
    pub board : m.store.board ≡ n.store.board
    pub inputs : i m.store.inputs ≡ j n.store.inputs
    pub outputs : o m.store.outputs ≡ p n.store.outputs
    pub words : ram ≡ ram'
