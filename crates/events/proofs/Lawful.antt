-- Runs of events a step at a time, and the law of order for a run.
use Rattle.std.proofs.Common.{Some, Option, ◌≡◌, ℕ, zero, suc, ◌+◌, ◌<◌, List, [], ◌∷◌, ◌++◌, map, length, get_or, take, drop, set, sym, refl, ap, ◌∙◌, subst, ap₂, arith, drop-set-lt}
use Rattle.std.specs.Option.{option_map}
use Rattle.std.proofs.lemmas.Option.{slice_get-map}
use Rattle.std.proofs.Math.Seq.{take-append_seam}
use Rattle.std.proofs.lemmas.Grind.{drop_more_same}
use Rattle.std.proofs.lemmas.List.{map_push, length-map, take-map, take_more, take_more_set}
use mathlib.Core.Path.{fun_ext}
use mathlib.Core.List.{map-map}
use Rattle.law.specs.Trees.{Contents, run}
use Rattle.law.specs.Order.{report, reports, final, at, Order, Taken, KeepsClashes}
use Rattle.law.specs.declared.Entry.{Entry}
use Rattle.law.proofs.Single.{frame, dependence}
use Rattle.law.proofs.Reorder.{reordering}
use Rattle.cells.specs.Cells.{same}
use Rattle.cells.specs.Runs.{Steps}
use Rattle.cells.specs.declared.Cell.{Cell}
use Rattle.cells.proofs.Telling.{cells_told}
use Rattle.perform.specs.declared.Answer.{Answer}
use Rattle.events.specs.declared.Event.{Event}
use Rattle.events.specs.declared.Report.{Report}
use Rattle.events.specs.Events.{tree, told, filed, blanks, Does}
use Rattle.events.specs.Rows.{Tellings, trees, Runs, Frames, Depends, Each, AnyOrder, Prefixes}

told_filed : (rs : Tellings) → map told (map filed rs) ≡ rs
told_filed [] = refl
told_filed (r ∷ rs) =
    ap₂ (λ (t : List (Entry Cell)) (l : Tellings). record { end = r.end; trail = t } ∷ l) (take-append_seam r.trail (drop (length r.trail) blanks)) (told_filed rs)

module _ (e : Steps Answer) where
  reports_snoc : (es : List (Steps Answer)) (s : Contents Cell)
      → reports same (es ++ (e ∷ [])) s ≡ reports same es s ++ (report (run same e (final same es s)) ∷ [])
  reports_snoc [] s = refl
  reports_snoc (f ∷ es) s = ap (λ (l : Tellings). report (run same f s) ∷ l) (reports_snoc es (run same f s).after)

  final_snoc : (es : List (Steps Answer)) (s : Contents Cell) → final same (es ++ (e ∷ [])) s ≡ (run same e (final same es s)).after
  final_snoc [] s = refl
  final_snoc (f ∷ es) s = final_snoc es (run same f s).after

pub runs_none : (size : ℕ) (s : Contents Cell) → Runs size [] s [] s
runs_none size s = record { tells = refl; cells = λ x. refl }

pub runs_more : {size : ℕ} {events : List Event} {s s' s'' : Contents Cell} {rs : List Report} {r : Report} (e : Event)
    → Runs size events s rs s' → Does (tree size e) s' r s'' → Runs size (events ++ (e ∷ [])) s (rs ++ (r ∷ [])) s''
runs_more {size = size} {events = events} {s = s} {s' = s'} e h d =
    let is : final same (trees size events) s ≡ s' = sym (fun_ext h.cells) in
    record {
      tells = rw (map_push, reports_snoc, map_push, is) (ap₂ (λ (l : List Report) (x : Report). l ++ (x ∷ [])) h.tells d.tells);
      cells = λ x. rw (map_push, final_snoc, is) (d.cells x);
    }

-- one event more of a list, whose report is written at its place
pub runs_next : {size now : ℕ} (events : List Event) {s s' s'' : Contents Cell} (rs : List Report) (i : ℕ) (d : Event) {r : Report}
    → i < length events → i < length rs → now ≡ size
    → Runs size (take i events) s (take i rs) s' → Does (tree now (get_or events i d)) s' r s'' → Runs size (take (i + 1) events) s (take (i + 1) (set rs i r)) s''
runs_next events {s' = s'} {s'' = s''} rs i d {r = r} he hr n h k =
    rw (take_more events i d he, take_more_set rs i r hr)
    (runs_more (get_or events i d) h (subst (λ (z : ℕ). Does (tree z (get_or events i d)) s' r s'') n k))

pub rest_next : (rs old : List Report) (i : ℕ) (r : Report) → drop i rs ≡ drop i old → drop (i + 1) (set rs i r) ≡ drop (i + 1) old
rest_next rs old i r h = drop-set-lt (i + 1) rs i r (omega arith) ∙ drop_more_same rs old i h

-- the law of one event, along the run
frames_each : (es : List (Steps Answer)) (s : Contents Cell) → Each Frames es s (reports same es s)
frames_each [] s = tt
frames_each (e ∷ es) s = (λ x h. frame same cells_told e s x h, frames_each es (run same e s).after)

depends_each : (es : List (Steps Answer)) (s : Contents Cell) → Each Depends es s (reports same es s)
depends_each [] s = tt
depends_each (e ∷ es) s = (
  λ t h. let q = dependence same cells_told e s t h in (λ i. record { end = sym q.0 i; trail = sym q.1 i }, λ x z. sym (q.2 x z)),
  depends_each es (run same e s).after,
)

-- what is taken in an order, after a function
taken_map : {X Y : Type 0} (f : X → Y) (p : List ℕ) (xs ys : List X) → Taken p xs ys → Taken p (map f xs) (map f ys)
taken_map {X} {Y} f p xs ys h =
    map-map Some f ys ∙ sym (map-map (option_map f) Some ys) ∙ ap (map (option_map f)) h
    ∙ map-map (option_map f) (at xs) p ∙ ap (λ (g : ℕ → Option Y). map g p) (fun_ext (λ n. sym (slice_get-map f xs n)))

module _ {size : ℕ} {events : List Event} {s s' : Contents Cell} {rs : List Report} (h : Runs size events s rs s') where
  tells_told : map told rs ≡ reports same (trees size events) s
  tells_told = ap (map told) h.tells ∙ told_filed (reports same (trees size events) s)

  pub frames_hold : Each Frames (trees size events) s (map told rs)
  frames_hold = rw tells_told (frames_each (trees size events) s)

  pub depends_hold : Each Depends (trees size events) s (map told rs)
  depends_hold = rw tells_told (depends_each (trees size events) s)

  pub any_order : AnyOrder size events s rs s'
  any_order p fs t t' qs o keeps taken alike k =
      let o' : Order (length (trees size events)) p = rw length-map o in
      let q = reordering same cells_told (trees size events) (trees size fs) p s t o'
      (subst (λ (l : Tellings). KeepsClashes l p) tells_told keeps) (taken_map (tree size) p events fs taken) alike in
      (rw (h.tells, k.tells) (taken_map filed p (reports same (trees size events) s) (reports same (trees size fs) t) q.0), λ x. h.cells x ∙ q.1 x ∙ sym (k.cells x))

reports_take : (k : ℕ) (es : List (Steps Answer)) (s : Contents Cell) → take k (reports same es s) ≡ reports same (take k es) s
reports_take zero es s = refl
reports_take (suc k) [] s = refl
reports_take (suc k) (e ∷ es) s = ap (λ (l : Tellings). report (run same e s) ∷ l) (reports_take k es (run same e s).after)

pub prefixes : {size : ℕ} {events : List Event} {s s' : Contents Cell} {rs : List Report} → Runs size events s rs s' → Prefixes size events s rs
prefixes h k = any_order (record { tells = rw (h.tells, take-map, reports_take, take-map); cells = λ x. refl })
