-- Lists that are written over from their start.
use Rattle.std.proofs.Common.{◌≡◌, ℕ, ◌+◌, ◌<◌, ◌≤◌, List, [], ◌∷◌, ◌++◌, length, take, drop, set, sym, refl, ap, ◌∙◌, append_assoc, append-nil, add-one, arith, length-append, take-suc-set}
use Rattle.std.specs.Borrow.{MutBor}
use Rattle.std.proofs.lemmas.List.{drop-drop, drop-set-lt, take-append-drop}
use Rattle.law.specs.declared.Entry.{Entry}
use Rattle.cells.specs.declared.Cell.{Cell}
use Rattle.cells.specs.declared.Trail.{Trail}
use Rattle.cells.specs.Trails.{over, Adds, Grows, Fresh}

abbrev Entries : Type 0
Entries = List (Entry Cell)

adds_both : (e f : Entries) {xs xs' xs'' : Entries} {n n' n'' : ℕ} → Adds e xs n xs' n' → Adds f xs' n' xs'' n'' → Adds (e ++ f) xs n xs'' n''
adds_both e f a b = record {
  written = rw (b.written, a.written, append_assoc);
  count = omega (arith, a.count, b.count, length-append e f);
  past = λ old h. b.past old (a.past old h);
}

pub adds_one : (xs : Entries) (n : ℕ) (e : Entry Cell) → n < length xs → Adds (e ∷ []) xs n (set xs n e) (n + 1)
adds_one xs n e h = record {
  written = rw add-one (take-suc-set xs n e h);
  count = refl;
  past = λ old p. rw (drop-set-lt (n + 1) xs n e (omega arith), ← drop-drop 1 n xs, p, drop-drop);
}

pub grows_none : (t : Trail) → Grows [] t t
grows_none t = record {
  adds = λ h. record { written = sym (append-nil _); count = omega arith; past = λ old p. p };
  size = refl;
  loan = refl;
}

pub grows_both : (e f : Entries) {t t' t'' : Trail} → Grows e t t' → Grows f t' t'' → Grows (e ++ f) t t''
grows_both e f {t = t} {t' = t'} a b = record {
  adds = λ h.
      let first = a.adds (omega (arith, length-append e f)) in
      adds_both e f first (b.adds (omega (arith, length-append e f, first.count, a.size)));
  size = b.size ∙ a.size;
  loan = b.loan ∙ a.loan;
}

-- what a trail that was begun over the loan x leaves
pub finished : (es : Entries) {x : MutBor Entries} {t t' : Trail} → Fresh x t → Grows es t t' → length es ≤ length x.now
    → (t'.entries.now ≡ over es x.now) × (t'.count ≡ length es)
finished es {x} {t} {t'} fresh grows room =
    let long : length t.entries.now ≡ length x.now = ap length fresh.entries in
    let a = grows.adds (omega (arith, fresh.count, long)) in
    let c : t'.count ≡ length es = omega (arith, a.count, fresh.count) in
    let w : take t'.count t'.entries.now ≡ es = rw fresh.count at a.written in
    let p = a.past x.now (ap (λ (l : Entries). drop t.count l) fresh.entries) in
    let parts = take-append-drop t'.count t'.entries.now in
    (cc, c)
