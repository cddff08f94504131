-- What the tests say, in the words of the law.
use Rattle.std.proofs.Common.{◌≡◌, ℕ, zero, suc, ◌+◌, ◌<◌, Bool, true, false, ◌&&◌, ◌==◌, eqb, ltb, ◌⊎◌, List, [], ◌∷◌, map, length, get_or, take, set, Some, None, Ok, Decides, MatchOption, sym, refl, subst, ap₂, inl, inr, add-one, arith, take-suc, take-suc-set}
use Rattle.std.specs.List.{list_any, IsDistinct, AllByRecursion}
use Rattle.std.proofs.lemmas.Bool.Decides.{Decides-eqb, Decides-ltb, Decides-and, Decides-or, Decides-like, not_from_Decides, nat_tests}
use Rattle.std.proofs.lemmas.List.{get_or_default}
use Rattle.std.proofs.lemmas.Map.Steps.{length-le_from_distinct_below}
use Rattle.std.proofs.lemmas.Option.{MatchOption-at_some}
use mathlib.Core.List.{map-append}
use Rattle.law.specs.declared.Entry.{Entry}
use Rattle.law.specs.declared.Entry.TheVariants.{Read, Changed}
use Rattle.law.specs.Trees.{Contents, Changes, Lists, Clash}
use Rattle.law.specs.Order.{Report as Told, at, In, Before, Distinct, Order, Taken, KeepsClashes, Same}
use Rattle.words.specs.declared.Refusal.{Refusal}
use Rattle.cells.specs.Cells.{same}
use Rattle.cells.specs.declared.Cell.{Cell}
use Rattle.cells.proofs.Telling.{cells_told}
use Rattle.perform.specs.declared.Answer.{Answer}
use Rattle.perform.specs.declared.Answer.TheVariants.{Done}
use Rattle.store.specs.View.{view}
use Rattle.machine.specs.Calls.{cells_of, Equal}
use Rattle.machine.specs.declared.Machine.{Machine}
use Rattle.events.specs.declared.Ask.TheVariants.{Tick}
use Rattle.events.specs.declared.Event.{Event}
use Rattle.events.specs.declared.Report.{Report}
use Rattle.events.specs.Events.{tree, told, Does}
use Rattle.events.specs.Rows.{Runs, AnyOrder}
use Rattle.events.proofs.Lawful.{runs_more}
use Rattle.rehearsal.specs.declared.Swap.{Swap}
use Rattle.rehearsal.specs.Tests.{lists?, hit?, clash?, member?, before?, distinct?, within?, swap?, Fine, IsSwap, Broken, BrokenAfter}
use Rattle.rehearsal.specs.Rehearsals.{IsOrder, picked, Within, Swapped}

-- positions
in_is : (t : ℕ → Bool) (i : ℕ) → ((k : ℕ) → Decides (t k) (i ≡ k)) → (p : List ℕ) → Decides (list_any t p) (In i p)
in_is t i same [] = grind arith
in_is t i same (k ∷ p) = Decides-or (t k) (list_any t p) (same k) (in_is t i same p)

member_is : (i : ℕ) (p : List ℕ) → Decides (member? i p) (In i p)
member_is i p = in_is (λ k. k == i) i (λ k. Decides-like (k == i) sym sym (Decides-eqb k i)) p

before_left : (i j : ℕ) (p : List ℕ) → Before i j p → In i p
before_left i j [] = grind arith
before_left i j (k ∷ p) = grind (arith, before_left i j p)

before_is : (i j : ℕ) (p : List ℕ) → Distinct p → Decides (before? i j p) (Before i j p)
before_is i j [] d = grind arith
before_is i j (k ∷ p) d = grind (arith, nat_tests, member_is j p, before_is i j p, before_left i j p)

distinct_is : (p : List ℕ) → Decides (distinct? p) (Distinct p)
distinct_is [] = grind arith
distinct_is (k ∷ p) = grind (arith, member_is k p, distinct_is p)

within_is : (n : ℕ) (p : List ℕ) → Decides (within? n p) ((i : ℕ) → In i p → i < n)
within_is n [] = grind arith
within_is n (k ∷ p) = Decides-like (within? n (k ∷ p)) (λ h i. grind (arith, h.1 i)) (λ h. (grind (arith, h k), λ i. grind (arith, h i))) (Decides-and (ltb k n) (within? n p) (Decides-ltb k n) (within_is n p))

-- nothing is missing, where there are n numbers, all below n, and none stands twice
apart : (p : List ℕ) → Distinct p → IsDistinct eqb p
unfolding IsDistinct
apart [] h = tt
apart (k ∷ p) h = (others p h.0, apart p h.1)
  where
    others : (q : List ℕ) → ¬ In k q → AllByRecursion (λ y. eqb k y ≡ false) q
    others [] n = tt
    others (x ∷ q) n = grind (arith, nat_tests, others q)

none_missing : (n : ℕ) (p : List ℕ) → length p ≡ n → Distinct p → ((i : ℕ) → In i p → i < n) → (i : ℕ) → i < n → In i p
none_missing n p l d w i h = by (member? i p) (member_is i p)
  where
    below : (q : ℕ) → In q (i ∷ p) → q < n
    below q = grind (arith, w q)

    by : (z : Bool) → Decides z (In i p) → In i p
    by true e = e.0 refl
    by false e =
        let more : Distinct (i ∷ p) = (not_from_Decides false e refl, d) in
        absurd (omega (arith, l, length-le_from_distinct_below (i ∷ p) n (apart (i ∷ p) more) (λ q h. below q ((in_is (eqb q) q (Decides-eqb q) (i ∷ p)).0 h))))

pub order_decided : (n : ℕ) (p : List ℕ) → Decides (length p == n && within? n p && distinct? p) (IsOrder n p)
order_decided n p =
    Decides-like _
    (λ h. record { long = h.0.0; order = record { once = h.1; every = none_missing n p h.0.0 h.1 h.0.1; no_other = h.0.1 } })
    (λ o. ((o.long, o.order.no_other), o.order.once))
    (Decides-and (length p == n && within? n p) (distinct? p) (Decides-and (length p == n) (within? n p) (Decides-eqb (length p) n) (within_is n p)) (distinct_is p))

-- cells that trails list
same_is : (c x : Cell) → Decides (same c x) (c ≡ x)
same_is c x = (cells_told.equal c x, λ e. rw e (cells_told.itself x))

listed : (x : Cell) (b : List (Entry Cell)) → Decides (lists? x b) (Lists x b)
listed x [] = grind arith
listed x (Read c ∷ b) = grind (arith, same_is c x, listed x b)
listed x (Changed c ∷ b) = grind (arith, same_is c x, listed x b)

-- a hit is a change of a listed cell, and where there is none nothing that is changed is listed
hit_is : (a b : List (Entry Cell)) → MatchOption (hit? a b) ((x : Cell) → Changes x a → ¬ Lists x b) (λ x. Changes x a × Lists x b)
hit_is [] b = grind arith
hit_is (Read c ∷ a) b = hit_is a b
hit_is (Changed c ∷ a) b = grind (arith, listed c b, hit_is a b)

clash_is : (a b : List (Entry Cell)) → MatchOption (clash? a b) (¬ Clash a b) (λ x. (Changes x a × Lists x b) ⊎ (Lists x a × Changes x b))
clash_is a b = grind (arith, hit_is a b, hit_is b a)

-- reports at positions
at_told : (rs : List Report) (i : ℕ) (a : Told Cell Answer Refusal) (d : Report) → at (map told rs) i ≡ Some a → (i < length rs) × (a ≡ told (get_or rs i d))
at_told [] i a d h = absurd cc
at_told (r ∷ rs) zero a d h = (omega arith, cc)
at_told (r ∷ rs) (suc i) a d h = let q = at_told rs i a d h in (omega (arith, q.0), q.1)

told_at : (rs : List Report) (i : ℕ) (d : Report) → i < length rs → at (map told rs) i ≡ Some (told (get_or rs i d))
told_at [] i d h = grind arith
told_at (r ∷ rs) zero d h = refl
told_at (r ∷ rs) (suc i) d h = told_at rs i d (omega arith)

blank : Report
blank = record { end = Ok Done; count = 0; trail = [] }

module _ (p : List ℕ) (d : Distinct p) (i j : ℕ) (a b : Report) where
  fine_before : swap? p i j a b ≡ None → Clash (told a).trail (told b).trail → Before i j p
  fine_before h c = grind (arith, before_is i j p d, clash_is (told a).trail (told b).trail)

  swap_is : (x : Cell) → swap? p i j a b ≡ Some x → (¬ Before i j p) × (clash? (told a).trail (told b).trail ≡ Some x)
  swap_is x h = grind (arith, before_is i j p d)

pub keeps_is : (rs : List Report) (p : List ℕ) → Distinct p → ((i j : ℕ) → i < j → j < length rs → Fine rs p i j) → KeepsClashes (map told rs) p
keeps_is rs p d h i j a b l pa pb c =
    let qa = at_told rs i a blank pa in
    let qb = at_told rs j b blank pb in
    fine_before p d i j (get_or rs i blank) (get_or rs j blank) (h i j l qb.0 blank) (rw (qa.1, qb.1) at c)

pub swapped_is : {rs : List Report} {p : List ℕ} {w : Swap} → Distinct p → Broken rs p w → Swapped (map told rs) p w
swapped_is {rs = rs} {p = p} {w = w} d b =
    let one = get_or rs w.first blank in
    let other = get_or rs w.second blank in
    let r = swap_is p d w.first w.second one other w.cell (b.swaps blank) in
    record {
      early = b.early;
      one = told one;
      other = told other;
      is_one = told_at rs w.first blank (omega (arith, b.early, b.there));
      is_other = told_at rs w.second blank b.there;
      clash = MatchOption-at_some _ _ w.cell r.1 (clash_is (told one).trail (told other).trail);
      swapped = r.0;
      cell_is = r.1;
      first = λ i j x y l px py e c.
          let qx = at_told rs i x blank px in
          let qy = at_told rs j y blank py in
          fine_before p d i j (get_or rs i blank) (get_or rs j blank) (earlier i j l qy.0 e blank) (rw (qx.1, qy.1) at c);
    }
  where
    earlier : (i j : ℕ) → i < j → j < length rs → (i < w.first) ⊎ ((i ≡ w.first) × (j < w.second)) → Fine rs p i j
    earlier i j l m (inl h) = b.before i j h l m
    earlier i j l m (inr h) = rw h.0 (b.between j (rw h.0 at l) h.1)

-- the first pair of those whose earlier position is i, from the first with a later position that was reached
pub after_at : {rs : List Report} {p : List ℕ} {i j : ℕ} {w : Swap} → IsSwap rs p i j w → i < j → j < length rs
    → ((k : ℕ) → i < k → k < j → Fine rs p i k) → BrokenAfter rs p i w
after_at {rs = rs} {p = p} {i = i} {w = w} h l m inv =
    let q = subst (λ (k : ℕ). IsSwap rs p i k w × (i < k) × (k < length rs) × ((a : ℕ) → i < a → a < k → Fine rs p i a)) (sym h.1) (h, l, m, inv) in
    record { here = h.0; early = q.1; there = q.2; swaps = q.0.2; between = q.3 }

-- the first pair of all, from the first with an earlier position that was reached
pub broken_at : {rs : List Report} {p : List ℕ} {i : ℕ} {w : Swap} → BrokenAfter rs p i w
    → ((a : ℕ) → a < i → (b : ℕ) → a < b → b < length rs → Fine rs p a b) → Broken rs p w
broken_at {rs = rs} {p = p} {w = w} b inv =
    let q = subst (λ (k : ℕ). BrokenAfter rs p k w × ((a : ℕ) → a < k → (c : ℕ) → a < c → c < length rs → Fine rs p a c)) (sym b.here) (b, inv) in
    record { early = q.0.early; there = q.0.there; swaps = q.0.swaps; before = λ a c h l m. q.1 a h c l m; between = q.0.between }

-- events at positions
at_get : {X : Type 0} (xs : List X) (i : ℕ) (d : X) → i < length xs → Some (get_or xs i d) ≡ at xs i
at_get [] i d h = grind arith
at_get (x ∷ xs) zero d h = refl
at_get (x ∷ xs) (suc i) d h = at_get xs i d (omega arith)

nothing : Event
nothing = record { ask = Tick; room = 0 }

pub taken_picked : (events : List Event) (p : List ℕ) → ((i : ℕ) → In i p → i < length events) → Taken p events (picked events p)
unfolding nothing
taken_picked events [] h = refl
taken_picked events (i ∷ p) h = ap₂ ◌∷◌ (at_get events i nothing (h i (inl refl))) (taken_picked events p (λ k z. h k (inr z)))

get_in : (p : List ℕ) (k : ℕ) → k < length p → In (get_or p k 0) p
get_in [] k h = grind arith
get_in (x ∷ p) zero h = inl refl
get_in (x ∷ p) (suc k) h = inr (get_in p k (omega arith))

pub order_within : {n : ℕ} {p : List ℕ} → IsOrder n p → Within n p
order_within {n = n} {p = p} o k h = o.order.no_other (get_or p k 0) (get_in p k h)

-- one event more of an order
pub picks_next : (size now : ℕ) (events : List Event) (p : List ℕ) (s s' s'' : Contents Cell) (rs : List Report) (i : ℕ) (d : Event) (r : Report)
    → i < length p → i < length rs → get_or p i 0 < length events → now ≡ size
    → Runs size (picked events (take i p)) s (take i rs) s' → Does (tree now (get_or events (get_or p i 0) d)) s' r s''
    → Runs size (picked events (take (i + 1) p)) s (take (i + 1) (set rs i r)) s''
unfolding nothing
picks_next size now events p s s' s'' rs i d r hp hr he n h k =
    let pick : ℕ → Event = λ i. get_or events i nothing in
    let did : Does (tree size (pick (get_or p i 0))) s' r s'' =
    subst (λ (e : Event). Does (tree size e) s' r s'') (get_or_default events (get_or p i 0) d nothing he) (subst (λ (z : ℕ). Does (tree z (get_or events (get_or p i 0) d)) s' r s'') n k) in
    rw (add-one i, take-suc p i 0 hp, take-suc-set rs i r hr, map-append pick (take i p) (get_or p i 0 ∷ []))
    (runs_more (pick (get_or p i 0)) h did)

-- machines that hold the same show the same cells
pub same_start : {I O J P : Type 0} {i : I → List Bool} {o : O → List Bool} {j : J → List Bool} {p : P → List Bool}
    {m : Machine I O} {ram : List ℕ} {n : Machine J P} {ram' : List ℕ}
    → Equal i o j p m ram n ram' → Same (cells_of i o m ram) (cells_of j p n ram')
same_start e x = λ k. view (e.board k) (e.inputs k) (e.outputs k) (e.words k) x

-- what the law says of the two runs
pub both_alike : {size size' n : ℕ} (events : List Event) (rs : List Report) {s s' t t' : Contents Cell} {qs : List Report} {p : List ℕ}
    → AnyOrder size events s rs s' → IsOrder n p → n ≡ length events → KeepsClashes (map told rs) p → Runs size' (picked events p) t qs t' → size' ≡ size → Same s t
    → Taken p rs qs × Same s' t'
both_alike {size = size} {size' = size'} {n = n} events rs {s = s} {s' = s'} {t = t} {t' = t'} {qs = qs} {p = p} law ok l keeps runs e equal =
    let o : Order (length events) p = subst (λ (k : ℕ). Order k p) l ok.order in
    law p (picked events p) t t' qs o keeps (taken_picked events p o.no_other) equal
    (subst (λ (z : ℕ). Runs z (picked events p) t qs t') e runs)
