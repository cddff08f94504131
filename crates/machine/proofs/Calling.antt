-- From what the code did to the run of the event's tree.
use Rattle.std.proofs.Common.{◌≡◌, ℕ, ◌≤◌, Bool, true, false, cond, List, length, IsErrAnd, Some, None, Ok, Err, Option, Result, sym, refl, ap, ◌∙◌, arith}
use Rattle.std.specs.Borrow.{MutBor}
use Rattle.std.proofs.lemmas.Result.{err_from_is_err_and}
use Rattle.law.specs.Trees.{Contents, run, go}
use Rattle.law.specs.declared.Entry.{Entry}
use Rattle.words.specs.declared.Refusal.{Refusal}
use Rattle.cells.specs.Cells.{same}
use Rattle.cells.specs.Runs.{Steps, Finds}
use Rattle.cells.specs.Trails.{Grows, Fresh}
use Rattle.cells.specs.declared.Cell.{Cell}
use Rattle.cells.specs.declared.Trail.{Trail}
use Rattle.cells.proofs.Bounds.{Short}
use Rattle.cells.proofs.Noting.{finished}
use Rattle.perform.specs.declared.Answer.{Answer}
use Rattle.machine.specs.Calls.{counted, first_tests, Admits, Ends, Did}
use Rattle.machine.specs.Events.{guarded, admitted}
use Rattle.machine.specs.declared.Answered.{Answered}
use Rattle.machine.specs.declared.Refused.{Refused}

-- the run of a tree that code followed to its end
record Ran (m : Steps Answer) (s : Contents Cell) (t : Trail) (r : Result Answer Refusal) (s' : Contents Cell) (t' : Trail) : Type 0 where
  end : (run same m s).end ≡ r
  after : (run same m s).after ≡ s'
  trail : (run same m s).trail ≡ (go same m s).trail
  grows : Grows (run same m s).trail t t'

ran : {m : Steps Answer} {s s' : Contents Cell} {t t' : Trail} (r : Result Answer Refusal) → Ends m s t r s' t' → Ran m s t r s' t'
ran (Ok a) g = record { end = g.ends; after = rw g.ends g.after; trail = rw g.ends; grows = rw g.ends g.grows }
ran (Err e) g = record { end = g.0.ends; after = rw g.0.ends (sym g.1); trail = rw g.0.ends g.0.reads; grows = rw (g.0.ends, g.0.reads) g.0.grows }

module _ {m : Steps Answer} {s s' : Contents Cell} {x : MutBor (List (Entry Cell))} {t : Trail} where
  did : (t' : Trail) (r : Result Answer Refusal) {o : Result Answered Refused} {new : List (Entry Cell)}
      → Fresh x t → Short 200 m → 200 ≤ length x.now → Ends m s t r s' t' → o ≡ counted r t'.count → new ≡ t'.entries.now
      → Did m s x.now o s' new
  did t' r fresh short wide ends c e =
      let q = ran r ends in
      let f = finished (run same m s).trail fresh q.grows (omega (arith, short.is s, ap length q.trail)) in
      record { result = rw (c, f.1, q.end); cells = λ y. rw q.after; list = e ∙ f.0 }

-- an event that names k, which is there or not
module _ {T : Type 0} (m : T → Steps Answer) (k : T) where
  refused : {s : Contents Cell} {old : List (Entry Cell)} {e : Refused} (fits there short : Bool)
      → Err e ≡ first_tests fits (cond there (Some k) None) short → Did (guarded fits there short (m k)) s old (Err e) s old
  refused false there short h = record { result = cc; cells = λ y. refl; list = refl }
  refused true false short h = record { result = cc; cells = λ y. refl; list = refl }
  refused true true true h = record { result = cc; cells = λ y. refl; list = refl }
  refused true true false h = cc

  passed : {s s' : Contents Cell} {old new : List (Entry Cell)} {o : Result Answered Refused} {x : T} (fits there short : Bool)
      → Ok x ≡ first_tests fits (cond there (Some k) None) short → Did (m x) s old o s' new → Did (guarded fits there short (m k)) s old o s' new
  passed false there short h d = cc
  passed true false short h d = cc
  passed true true true h d = cc
  passed {x = x} true true false h d = let is : k ≡ x = cc in rw is d

  module _ {size : ℕ} (there : Bool) {named : Option T} (is : named ≡ cond there (Some k) None) where
    pub did_break : {room : ℕ} {s : Contents Cell} {old : List (Entry Cell)} {e : Refused} → Admits (Err e) size room named
        → (o : Result Answered Refused) → IsErrAnd o (λ y. y ≡ e) → Did (admitted size room there (m k)) s old o s old
    did_break a o by = let q = err_from_is_err_and o by in rw (q.1, q.2) (refused _ there _ (rw is at a.value))

    -- the code followed n, which is the tree of what was named
    pub did_end : {s s' : Contents Cell} {x : T} {n : Steps Answer} {l : MutBor (List (Entry Cell))} {t : Trail} (t' : Trail) (r : Result Answer Refusal) {o : Result Answered Refused} {new : List (Entry Cell)}
        → Admits (Ok x) size (length l.now) named → Fresh l t → Short 200 (m x) → n ≡ m x → Ends n s t r s' t' → o ≡ counted r t'.count → new ≡ t'.entries.now
        → Did (admitted size (length l.now) there (m k)) s l.now o s' new
    did_end t' r a fresh short same ends c e = passed _ there _ (rw is at a.value) (did t' r fresh short a.passed.wide (rw same at ends) c e)

-- a refusal that came up from below, after reads alone
pub ends_refused : {m : Steps Answer} {s s' : Contents Cell} {t t' : Trail} (e : Refusal) (o : Result Answer Refusal) → IsErrAnd o (λ y. y ≡ e)
    → Finds m s t o t' → s' ≡ s → Ends m s t o s' t'
ends_refused e (Ok a) h f k = absurd h
ends_refused e (Err r) h f k = (f, k)

-- it stays the same loan
pub ends_loan : (m : Steps Answer) (r : Result Answer Refusal) (s s' : Contents Cell) (t t' : Trail) → Ends m s t r s' t' → t'.entries.ghost_name ≡ t.entries.ghost_name
ends_loan m (Ok a) s s' t t' g = g.grows.loan
ends_loan m (Err f) s s' t t' g = g.0.grows.loan
