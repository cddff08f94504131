-- What an event means on a machine of cells. Each cell holds a number. An event reads and changes cells, one after the
-- other, and ends in an answer or in a refusal.
use Rattle.std.specs.Prelude.{◌≡◌, ℕ, Bool, true, cond, ◌⊎◌, List, [], ◌∷◌, ◌++◌, Ok, Err, Result}
use Rattle.law.specs.declared.Entry.{Entry}
use Rattle.law.specs.declared.Entry.TheVariants.{Read, Changed}

-- an event, as the tree of its decisions: `look c k` reads the cell c and goes on as k says for what it holds
pub data Tree (C A R : Type 0) : Type 0 where
  ret : A → Tree C A R
  refuse : R → Tree C A R
  look : C → (ℕ → Tree C A R) → Tree C A R
  change : C → ℕ → Tree C A R → Tree C A R

-- what every cell holds
abbrev pub Contents : Type 0 → Type 0
Contents C = C → ℕ

-- a test of cells that tells them apart
pub record Tells {C : Type 0} (same : C → C → Bool) : Type 0 where
  pub itself : (x : C) → same x x ≡ true
  pub equal : (x y : C) → same x y ≡ true → x ≡ y

-- the contents with v in the cell c
abbrev pub poke : {C : Type 0} → (C → C → Bool) → C → ℕ → Contents C → Contents C
poke same c v s x = cond (same c x) v (s x)

pub record Outcome (C A R : Type 0) : Type 0 where
  pub end : Result A R
  pub trail : List (Entry C)
  pub after : Contents C

-- the steps of an event one after the other, with nothing taken back
abbrev pub go : {C A R : Type 0} → (C → C → Bool) → Tree C A R → Contents C → Outcome C A R
go same (ret a) s = record { end = Ok a; trail = []; after = s }
go same (refuse r) s = record { end = Err r; trail = []; after = s }
go same (look c k) s =
    let o = go same (k (s c)) s in
    record { end = o.end; trail = Read c ∷ o.trail; after = o.after }
go same (change c v m) s =
    let o = go same m (poke same c v s) in
    record { end = o.end; trail = Changed c ∷ o.trail; after = o.after }

abbrev pub only_reads : {C : Type 0} → List (Entry C) → List (Entry C)
only_reads [] = []
only_reads (Read c ∷ t) = Read c ∷ only_reads t
only_reads (Changed c ∷ t) = only_reads t

-- what is kept of the trail, and what is left in the cells, as the event ended
abbrev pub kept : {C A R : Type 0} → Result A R → List (Entry C) → List (Entry C)
kept (Ok a) t = t
kept (Err r) t = only_reads t

abbrev pub left_in : {C A R : Type 0} → Result A R → Contents C → Contents C → Contents C
left_in (Ok a) before after = after
left_in (Err r) before after = before

-- the run of an event: its steps, but a refusal changes no cell, and its trail keeps only the reads
abbrev pub run : {C A R : Type 0} → (C → C → Bool) → Tree C A R → Contents C → Outcome C A R
run same m s =
    let o = go same m s in
    record { end = o.end; trail = kept o.end o.trail; after = left_in o.end s o.after }

-- one part of an event after another, the second made from the first's answer
abbrev pub bind : {C A B R : Type 0} → Tree C A R → (A → Tree C B R) → Tree C B R
bind (ret a) f = f a
bind (refuse r) f = refuse r
bind (look c k) f = look c (λ n. bind (k n) f)
bind (change c v m) f = change c v (bind m f)

-- what the second makes of how the first ended
abbrev pub go_on : {C A B R : Type 0} → (C → C → Bool) → Result A R → List (Entry C) → Contents C → (A → Tree C B R) → Outcome C B R
go_on same (Ok a) t s f =
    let o = go same (f a) s in
    record { end = o.end; trail = t ++ o.trail; after = o.after }
go_on same (Err r) t s f = record { end = Err r; trail = t; after = s }

-- the trail lists the cell as read; as changed; at all
abbrev pub Reads : {C : Type 0} → C → List (Entry C) → Type 0
Reads x [] = ⊥
Reads x (Read c ∷ t) = (c ≡ x) ⊎ Reads x t
Reads x (Changed c ∷ t) = Reads x t

abbrev pub Changes : {C : Type 0} → C → List (Entry C) → Type 0
Changes x [] = ⊥
Changes x (Read c ∷ t) = Changes x t
Changes x (Changed c ∷ t) = (c ≡ x) ⊎ Changes x t

abbrev pub Lists : {C : Type 0} → C → List (Entry C) → Type 0
Lists x t = Reads x t ⊎ Changes x t

-- one trail changes a cell that the other lists
abbrev pub Clash : {C : Type 0} → List (Entry C) → List (Entry C) → Type 0
Clash {C} t u = (x : C) × ((Changes x t × Lists x u) ⊎ (Lists x t × Changes x u))
