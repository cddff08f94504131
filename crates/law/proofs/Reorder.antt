-- The law of many events: an order that keeps the clashing pairs in order makes no difference.
use Rattle.std.proofs.Common.{◌≡◌, ℕ, zero, suc, ◌<◌, Bool, ◌⊎◌, List, [], ◌∷◌, map, length, Some, sym, refl, ap, ◌∙◌, subst, ap₂, inl, inr, arith}
use mathlib.Core.Path.{fun_ext}
use Rattle.law.specs.Trees.{Tree, Contents, Tells, Clash, run}
use Rattle.law.specs.Order.{Report, report, reports, final, at, In, Before, Distinct, Taken, Same, Reordering}
use Rattle.law.proofs.Single.{diamond}

-- a list without one of its entries, which may be drawn past each entry x before it that is Free
data Drawn (Free : ℕ → Type 0) (k : ℕ) : List ℕ → List ℕ → Type 0 where
  here : (l : List ℕ) → Drawn Free k (k ∷ l) l
  there : {x : ℕ} {l m : List ℕ} → Free x → Drawn Free k l m → Drawn Free k (x ∷ l) (x ∷ m)

module _ {Free : ℕ → Type 0} {k : ℕ} where
  drawn_in : (i : ℕ) {l m : List ℕ} → Drawn Free k l m → In i m → In i l
  drawn_in i (here l) h = inr h
  drawn_in i (there n w) (inl e) = inl e
  drawn_in i (there n w) (inr h) = inr (drawn_in i w h)

  drawn_split : (i : ℕ) {l m : List ℕ} → Drawn Free k l m → In i l → (i ≡ k) ⊎ In i m
  drawn_split i (here l) h = h
  drawn_split i (there n w) (inl e) = inr (inl e)
  drawn_split i (there n w) (inr h) = elim (drawn_split i w h) [ inl e ↦ inl e | inr z ↦ inr (inr z) ]

  drawn_before : (i j : ℕ) {l m : List ℕ} → Drawn Free k l m → Before i j m → Before i j l
  drawn_before i j (here l) h = inr h
  drawn_before i j (there n w) (inl q) = inl (q.0, drawn_in j w q.1)
  drawn_before i j (there n w) (inr h) = inr (drawn_before i j w h)

  drawn_distinct : {l m : List ℕ} → Drawn Free k l m → Distinct l → Distinct m
  drawn_distinct (here l) h = h.1
  drawn_distinct (there {x = x} n w) h = (λ z. h.0 (drawn_in x w z), drawn_distinct w h.1)

  drawn_k : {l m : List ℕ} → Drawn Free k l m → In k l
  drawn_k (here l) = inl refl
  drawn_k (there n w) = inr (drawn_k w)

  drawn_gone : {l m : List ℕ} → Drawn Free k l m → Distinct l → ¬ In k m
  drawn_gone (here l) h z = h.0 z
  drawn_gone (there {x = x} {l = l} n w) h (inl e) = h.0 (subst (λ (y : ℕ). In y l) e (drawn_k w))
  drawn_gone (there n w) h (inr z) = drawn_gone w h.1 z

draw : (Free : ℕ → Type 0) (k : ℕ) (l : List ℕ) → In k l → ((x : ℕ) → Before x k l → Free x) → (m : List ℕ) × Drawn Free k l m
draw Free k [] h n = absurd h
draw Free k (y ∷ l) (inl e) n = (l, subst (λ (z : ℕ). Drawn Free k (z ∷ l) l) e (here l))
draw Free k (y ∷ l) (inr h) n =
    let r : (m : List ℕ) × Drawn Free k l m = draw Free k l h (λ x b. n x (inr b)) in
    (y ∷ r.0, there (n y (inl (refl, h))) r.1)

before_left : (i j : ℕ) (l : List ℕ) → Before i j l → In i l
before_left i j [] h = h
before_left i j (x ∷ l) (inl q) = inl q.0
before_left i j (x ∷ l) (inr h) = inr (before_left i j l h)

before_right : (i j : ℕ) (l : List ℕ) → Before i j l → In j l
before_right i j [] h = h
before_right i j (x ∷ l) (inl q) = inr q.1
before_right i j (x ∷ l) (inr h) = inr (before_right i j l h)

module _ {C A R : Type 0} (same : C → C → Bool) (tells : Tells same) (es : List (Tree C A R)) (rs : List (Report C A R)) where
  -- the events at the positions of a list, run one after the other, report what stands in rs at their positions
  abbrev Runs : List ℕ → Contents C → Contents C → Type 0
  Runs [] s t = s ≡ t
  Runs (i ∷ l) s t =
      (e : Tree C A R) × (at es i ≡ Some e) × (at rs i ≡ Some (report (run same e s))) × Runs l (run same e s).after t

  abbrev Clashing : ℕ → ℕ → Type 0
  Clashing i j = (a : Report C A R) × (b : Report C A R) × (at rs i ≡ Some a) × (at rs j ≡ Some b) × Clash a.trail b.trail

  front : (k : ℕ) (l m : List ℕ) (s t : Contents C) → Drawn (λ x. ¬ Clashing x k) k l m → Runs l s t → Runs (k ∷ m) s t
  front k _ _ s t (here l) h = h
  front k _ _ s t (there {x = x} {l = l} {m = m} n w) h =
      let e : Tree C A R = h.0 in
      let g : Runs (k ∷ m) (run same e s).after t = front k l m (run same e s).after t w h.3 in
      let f : Tree C A R = g.0 in
      let q = diamond same tells e f s (λ c. n (report (run same e s), report (run same f (run same e s).after), h.2, g.2, c)) in (
        f,
        g.1,
        g.2 ∙ ap Some (sym q.0),
        (e, h.1, h.2 ∙ ap Some (sym q.1), subst (λ (z : Contents C). Runs m z t) (sym (fun_ext q.2)) g.3),
      )

  reorder : (m l : List ℕ) (s t : Contents C) → Distinct l → Distinct m
      → ((i : ℕ) → In i l → In i m) → ((i : ℕ) → In i m → In i l)
      → ((i j : ℕ) → Before i j l → Clashing i j → Before i j m)
      → Runs l s t → Runs m s t
  reorder [] [] s t dl dm sub sup keep h = h
  reorder [] (x ∷ l) s t dl dm sub sup keep h = absurd (sub x (inl refl))
  reorder (k ∷ m) l s t dl dm sub sup keep h =
      let r : (l' : List ℕ) × Drawn (λ x. ¬ Clashing x k) k l l' =
      draw (λ x. ¬ Clashing x k) k l (sup k (inl refl))
      (λ x b c. elim (keep x k b c) [ inl q ↦ dm.0 q.1 | inr z ↦ dm.0 (before_right x k m z) ]) in
      let g : Runs (k ∷ r.0) s t = front k l r.0 s t r.1 h in
      let gone : ¬ In k r.0 = drawn_gone r.1 dl in (
        g.0,
        g.1,
        g.2,
        reorder m r.0 (run same g.0 s).after t (drawn_distinct r.1 dl) dm.1
            (λ i z. elim (sub i (drawn_in i r.1 z)) [ inl e ↦ absurd (gone (subst (λ (y : ℕ). In y r.0) e z)) | inr y ↦ y ])
            (λ i z. elim (drawn_split i r.1 (sup i (inr z))) [ inl e ↦ absurd (dm.0 (subst (λ (y : ℕ). In y m) e z)) | inr y ↦ y ])
            (λ i j b c. elim (keep i j (drawn_before i j r.1 b) c)
            [ inl q ↦ absurd (gone (subst (λ (y : ℕ). In y r.0) q.0 (before_left i j r.0 b))) | inr y ↦ y ])
            g.3,
      )

  taken_runs : (p : List ℕ) (fs : List (Tree C A R)) (s t : Contents C)
      → Runs p s t → Taken p es fs → Taken p rs (reports same fs s) × (final same fs s ≡ t)
  taken_runs [] [] s t h k = (refl, h)
  taken_runs [] (f ∷ fs) s t h k = let z : ◌≡◌ {A = ℕ} 0 1 = cc in absurd (omega arith)
  taken_runs (i ∷ p) [] s t h k = let z : ◌≡◌ {A = ℕ} 0 1 = cc in absurd (omega arith)
  taken_runs (i ∷ p) (f ∷ fs) s t h k =
      let e : Tree C A R = h.0 in
      let at_e : at es i ≡ Some e = h.1 in
      let one : e ≡ f = cc in
      let rest : Taken p es fs = cc in
      let q : Taken p rs (reports same fs (run same e s).after) × (final same fs (run same e s).after ≡ t) =
      taken_runs p fs (run same e s).after t h.3 rest in
      subst (λ (x : Tree C A R). Taken (i ∷ p) rs (reports same (x ∷ fs) s) × (final same (x ∷ fs) s ≡ t)) one
      (ap₂ ◌∷◌ (sym h.2) q.0, q.1)

-- the positions below n
abbrev upto : ℕ → List ℕ
upto zero = []
upto (suc n) = zero ∷ map suc (upto n)

in_suc : (i : ℕ) (l : List ℕ) → In i l → In (suc i) (map suc l)
in_suc i [] h = h
in_suc i (x ∷ l) (inl e) = inl (ap suc e)
in_suc i (x ∷ l) (inr h) = inr (in_suc i l h)

suc_in : (i : ℕ) (l : List ℕ) → In i (map suc l) → (j : ℕ) × (i ≡ suc j) × In j l
suc_in i [] h = absurd h
suc_in i (x ∷ l) (inl e) = (x, e, inl refl)
suc_in i (x ∷ l) (inr h) = let r = suc_in i l h in (r.0, r.1, inr r.2)

suc_before : (i j : ℕ) (l : List ℕ) → Before i j (map suc l)
    → (a : ℕ) × (b : ℕ) × (i ≡ suc a) × (j ≡ suc b) × Before a b l
suc_before i j [] h = absurd h
suc_before i j (x ∷ l) (inl q) = let r = suc_in j l q.1 in (x, r.0, q.0, r.1, inl (refl, r.2))
suc_before i j (x ∷ l) (inr h) = let r = suc_before i j l h in (r.0, r.1, r.2, r.3, inr r.4)

suc_distinct : (l : List ℕ) → Distinct l → Distinct (map suc l)
suc_distinct [] h = h
suc_distinct (x ∷ l) h = (
  λ z. let r = suc_in (suc x) l z in
      let e : r.0 ≡ x = omega (arith, r.1) in
      h.0 (subst (λ (y : ℕ). In y l) e r.2),
  suc_distinct l h.1,
)

upto_in : (n i : ℕ) → In i (upto n) → i < n
upto_in zero i h = absurd h
upto_in (suc n) i (inl e) = omega arith
upto_in (suc n) i (inr h) =
    let r = suc_in i (upto n) h in
    let b : r.0 < n = upto_in n r.0 r.2 in
    omega (arith, r.1)

in_upto : (n i : ℕ) → i < n → In i (upto n)
in_upto zero i h = absurd (omega arith)
in_upto (suc n) zero h = inl refl
in_upto (suc n) (suc i) h = inr (in_suc i (upto n) (in_upto n i (omega arith)))

before_upto : (n i j : ℕ) → Before i j (upto n) → i < j
before_upto zero i j h = absurd h
before_upto (suc n) i j (inl q) = let r = suc_in j (upto n) q.1 in omega (arith, r.1, q.0)
before_upto (suc n) i j (inr h) =
    let r = suc_before i j (upto n) h in
    let b : r.0 < r.1 = before_upto n r.0 r.1 r.4 in
    omega (arith, r.2, r.3)

distinct_upto : (n : ℕ) → Distinct (upto n)
distinct_upto zero = tt
distinct_upto (suc n) =
    (λ z. let r = suc_in zero (upto n) z in let q : 0 ≡ suc r.0 = r.1 in omega arith, suc_distinct (upto n) (distinct_upto n))

module _ {C A R : Type 0} (same : C → C → Bool) (tells : Tells same) where
  runs_suc : (e : Tree C A R) (r : Report C A R) (es : List (Tree C A R)) (rs : List (Report C A R))
      (l : List ℕ) (s t : Contents C) → Runs same tells es rs l s t → Runs same tells (e ∷ es) (r ∷ rs) (map suc l) s t
  runs_suc e r es rs [] s t h = h
  runs_suc e r es rs (i ∷ l) s t h = (h.0, h.1, h.2, runs_suc e r es rs l (run same h.0 s).after t h.3)

  runs_upto : (es : List (Tree C A R)) (s : Contents C) → Runs same tells es (reports same es s) (upto (length es)) s (final same es s)
  runs_upto [] s = refl
  runs_upto (e ∷ es) s = (
    e,
    refl,
    refl,
    runs_suc e (report (run same e s)) es (reports same es (run same e s).after) (upto (length es)) (run same e s).after
        (final same (e ∷ es) s) (runs_upto es (run same e s).after),
  )

  pub reordering : Reordering C A R same
  reordering es fs p s t o keeps taken alike =
      let n : ℕ = length es in
      let rs : List (Report C A R) = reports same es s in
      let h : Runs same tells es rs p s (final same es s) =
      reorder same tells es rs p (upto n) s (final same es s) (distinct_upto n) o.once
      (λ i z. o.every i (upto_in n i z)) (λ i z. in_upto n i (o.no_other i z))
      (λ i j b c. keeps i j c.0 c.1 (before_upto n i j b) c.2 c.3 c.4)
      (runs_upto es s) in
      let q : Taken p rs (reports same fs s) × (final same fs s ≡ final same es s) = taken_runs same tells es rs p fs s (final same es s) h taken in
      subst (λ (z : Contents C). Taken p rs (reports same fs z) × Same (final same es s) (final same fs z)) (fun_ext alike)
      (q.0, λ x. sym (ap (λ (g : Contents C). g x) q.1))
