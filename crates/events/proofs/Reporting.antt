-- From a call to the report of its event.
use Rattle.std.proofs.Common.{◌≡◌, ℕ, ◌<◌, ◌≤◌, Bool, true, false, ltb, min, List, [], ◌++◌, length, take, drop, Ok, Err, Result, sym, refl, ap, ◌∙◌, subst, ap₂, ⊎_elim, arith, le-ltb, lt-ltb, append-nil}
use Rattle.std.proofs.lemmas.Bool.{cases_lt}
use Rattle.std.proofs.lemmas.List.{length-take-le, take-append-drop, take_all, drop_all}
use Rattle.law.specs.declared.Entry.{Entry}
use Rattle.law.specs.Trees.{Contents, run}
use Rattle.words.specs.declared.Refusal.{Refusal}
use Rattle.cells.specs.Cells.{same}
use Rattle.cells.specs.Runs.{Steps}
use Rattle.cells.specs.Trails.{over}
use Rattle.cells.specs.declared.Cell.{Cell}
use Rattle.perform.specs.declared.Answer.{Answer}
use Rattle.perform.specs.Perform.{ticks}
use Rattle.machine.specs.Calls.{counted, Did}
use Rattle.machine.specs.Events.{ram_fits, guarded}
use Rattle.machine.specs.declared.Answered.{Answered}
use Rattle.machine.specs.declared.Refused.{Refused}
use Rattle.events.specs.declared.Ask.{Ask}
use Rattle.events.specs.declared.Ask.TheVariants.{Place, Feed, Tick, Start, Kill, Abort, Turn}
use Rattle.events.specs.declared.Event.{Event}
use Rattle.events.specs.Events.{asked_tree, tree, blanks, report_of, Does}

of_counted : (e : Result Answer Refusal) (n : ℕ) (es : List (Entry Cell)) → report_of (counted e n) es ≡ record { end = e; count = n; trail = es }
of_counted (Ok a) n es = refl
of_counted (Err e) n es = refl

-- every event is guarded by the same first tests, which of its list ask only whether it is too short
guards : (size : ℕ) (ask : Ask) → (there : Bool) × (m : Steps Answer) × ((room : ℕ) → asked_tree size room ask ≡ guarded (ram_fits size) there (ltb room 200) m)
guards size (Place a w) = (_, _, λ room. refl)
guards size (Feed n on) = (_, _, λ room. refl)
guards size Tick = (true, ticks 32, λ room. refl)
guards size (Start t a) = (_, _, λ room. refl)
guards size (Kill t) = (_, _, λ room. refl)
guards size (Abort t) = (_, _, λ room. refl)
guards size (Turn t) = (_, _, λ room. refl)

same_room : (size room room' : ℕ) (ask : Ask) → ltb room 200 ≡ ltb room' 200 → asked_tree size room ask ≡ asked_tree size room' ask
same_room size room room' ask e =
    let g = guards size ask in
    g.2 room ∙ ap (λ (b : Bool). guarded (ram_fits size) g.0 b g.1) e ∙ sym (g.2 room')

-- an event whose list is too short lists nothing
early : (a b : Bool) (m : Steps Answer) (s : Contents Cell) → (run same (guarded a b true m) s).trail ≡ []
early false b m s = refl
early true false m s = refl
early true true m s = refl

lists_none : (size room : ℕ) (ask : Ask) (s : Contents Cell) → room < 200 → (run same (asked_tree size room ask) s).trail ≡ []
lists_none size room ask s h =
    let g = guards size ask in
    ap (λ (m : Steps Answer). (run same m s).trail) (g.2 room ∙ ap (λ (b : Bool). guarded (ram_fits size) g.0 b g.1) (lt-ltb room 200 h))
    ∙ early (ram_fits size) g.0 g.1 s

-- a list that was cut to 200 entries is too short if it was before
short : (n room : ℕ) → n ≡ min room 200 → ltb n 200 ≡ ltb room 200
short n room h = ⊎_elim
    (λ (l : room < 200). lt-ltb _ _ (omega arith) ∙ sym (lt-ltb _ _ l))
    (λ (l : 200 ≤ room). le-ltb _ _ (omega arith) ∙ sym (le-ltb _ _ l))
    (cases_lt room 200)

-- what is written over the first n of the blanks is written over all, if n are all or nothing is written
over_first : (t : List (Entry Cell)) (n : ℕ) → (n < 200 → t ≡ []) → over t (take n blanks) ++ drop n blanks ≡ over t blanks
unfolding blanks
over_first t n h = ⊎_elim
    (λ (l : n < 200). rw (h l) (take-append-drop n blanks))
    (λ (l : 200 ≤ n). rw (take_all n blanks l, drop_all n blanks l) (append-nil (over t blanks)))
    (cases_lt n 200)

-- a call on the first n of the blanks, of the tree of what was asked
pub does : (size n : ℕ) (e : Event) {called : Steps Answer} {s s' : Contents Cell} {r r' : Result Answered Refused} {new : List (Entry Cell)}
    → n ≡ min e.room 200 → called ≡ asked_tree size (length (take n blanks)) e.ask
    → Did called s (take n blanks) r s' new
    → r ≡ r'
    → Does (tree size e) s (report_of r' (new ++ drop n blanks)) s'
unfolding blanks
does size n e {s = s} {s' = s'} {r' = r'} {new = new} h asked did is =
    let m = asked_tree size n e.ask in
    let t = (run same m s).trail in
    let d = rw (asked, length-take-le n blanks (omega arith)) at did in
    let list : new ++ drop n blanks ≡ over t blanks = rw d.list (over_first t n (lists_none size n e.ask s)) in
    let does : Does m s (report_of r' (new ++ drop n blanks)) s' = record {
      tells = ap₂ report_of (sym is ∙ d.result) list ∙ of_counted (run same m s).end (length t) (over t blanks);
      cells = d.cells;
    } in
    subst (λ (z : Steps Answer). Does z s (report_of r' (new ++ drop n blanks)) s') (same_room size n e.room e.ask (short n e.room h)) does
