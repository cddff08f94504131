-- Events in a row, and the orders that make no difference.
use Rattle.std.specs.Prelude.{◌≡◌, ℕ, ◌<◌, Bool, ◌⊎◌, List, [], ◌∷◌, map, length, Some, Option, Result}
use Rattle.std.specs.List.{slice_get}
use Rattle.law.specs.declared.Entry.{Entry}
use Rattle.law.specs.Trees.{Tree, Contents, Tells, Outcome, Reads, Changes, Clash, go, run, bind, go_on}

-- what is told of an event that was run: how it ended, and its trail
pub record Report (C A R : Type 0) : Type 0 where
  pub end : Result A R
  pub trail : List (Entry C)

abbrev pub report : {C A R : Type 0} → Outcome C A R → Report C A R
report o = record { end = o.end; trail = o.trail }

-- the events of a list run one after the other: what each reports, and the contents after the last
abbrev pub reports : {C A R : Type 0} → (C → C → Bool) → List (Tree C A R) → Contents C → List (Report C A R)
reports same [] s = []
reports same (e ∷ es) s = report (run same e s) ∷ reports same es (run same e s).after

abbrev pub final : {C A R : Type 0} → (C → C → Bool) → List (Tree C A R) → Contents C → Contents C
final same [] s = s
final same (e ∷ es) s = final same es (run same e s).after

-- what stands at a position, counted from 0
abbrev pub at : {X : Type 0} → List X → ℕ → Option X
at xs n = slice_get xs n

-- i stands in p; i stands in p before j; nothing stands in p twice
abbrev pub In : ℕ → List ℕ → Type 0
In i [] = ⊥
In i (k ∷ p) = (i ≡ k) ⊎ In i p

abbrev pub Before : ℕ → ℕ → List ℕ → Type 0
Before i j [] = ⊥
Before i j (k ∷ p) = ((i ≡ k) × In j p) ⊎ Before i j p

abbrev pub Distinct : List ℕ → Type 0
Distinct [] = Unit {0}
Distinct (k ∷ p) = (¬ In k p) × Distinct p

-- p lists every position below n, each once, and no other: an order of n things
pub record Order (n : ℕ) (p : List ℕ) : Type 0 where
  pub once : Distinct p
  pub every : (i : ℕ) → i < n → In i p
  pub no_other : (i : ℕ) → In i p → i < n

-- ys is xs in the order p: the k-th of ys is the one of xs whose position is the k-th of p
abbrev pub Taken : {X : Type 0} → List ℕ → List X → List X → Type 0
Taken p xs ys = map Some ys ≡ map (at xs) p

-- two events that clashed, by the reports of a run, stand in p in the order of that run
abbrev pub KeepsClashes : {C A R : Type 0} → List (Report C A R) → List ℕ → Type 0
KeepsClashes {C} {A} {R} rs p =
    (i j : ℕ) (a b : Report C A R) → i < j → at rs i ≡ Some a → at rs j ≡ Some b → Clash a.trail b.trail → Before i j p

abbrev pub Same : {C : Type 0} → Contents C → Contents C → Type 0
Same {C} s t = (x : C) → s x ≡ t x

-- the steps of two events joined are those of the first, then those of the second
abbrev pub Joining : (C A B R : Type 0) → (C → C → Bool) → Type 0
Joining C A B R same =
    (m : Tree C A R) (f : A → Tree C B R) (s : Contents C)
    → go same (bind m f) s ≡ go_on same (go same m s).end (go same m s).trail (go same m s).after f

-- a cell that the trail does not list as changed keeps what it holds
abbrev pub Frame : (C A R : Type 0) → (C → C → Bool) → Type 0
Frame C A R same =
    (e : Tree C A R) (s : Contents C) (x : C) → ¬ Changes x (run same e s).trail → (run same e s).after x ≡ s x

-- the cells that the trail lists as read decide the end, the trail, and what is then in the cells that it lists as changed
abbrev pub Dependence : (C A R : Type 0) → (C → C → Bool) → Type 0
Dependence C A R same =
    (e : Tree C A R) (s t : Contents C)
    → ((x : C) → Reads x (run same e s).trail → s x ≡ t x)
    → ((run same e s).end ≡ (run same e t).end)
    × ((run same e s).trail ≡ (run same e t).trail)
    × ((x : C) → Changes x (run same e s).trail → (run same e s).after x ≡ (run same e t).after x)

-- two events that do not clash can change places
abbrev pub Diamond : (C A R : Type 0) → (C → C → Bool) → Type 0
Diamond C A R same =
    (e f : Tree C A R) (s : Contents C)
    → ¬ Clash (run same e s).trail (run same f (run same e s).after).trail
    → (report (run same f s) ≡ report (run same f (run same e s).after))
    × (report (run same e (run same f s).after) ≡ report (run same e s))
    × Same (run same e (run same f s).after).after (run same f (run same e s).after).after

-- every order that keeps the clashing pairs in order gives each event the same report, and the same contents in the end
abbrev pub Reordering : (C A R : Type 0) → (C → C → Bool) → Type 0
Reordering C A R same =
    (es fs : List (Tree C A R)) (p : List ℕ) (s t : Contents C)
    → Order (length es) p
    → KeepsClashes (reports same es s) p
    → Taken p es fs
    → Same s t
    → Taken p (reports same es s) (reports same fs t)
    × Same (final same es s) (final same fs t)

pub record Laws (C A B R : Type 0) (same : C → C → Bool) : Type 0 where
  pub joining : Joining C A B R same
  pub frame : Frame C A R same
  pub dependence : Dependence C A R same
  pub diamond : Diamond C A R same
  pub reordering : Reordering C A R same

-- all of it, for any cells that a test tells apart, any answers and any refusals
abbrev pub OrderLaw : (C A B R : Type 0) → Type 0
OrderLaw C A B R = (same : C → C → Bool) → Tells same → Laws C A B R same
