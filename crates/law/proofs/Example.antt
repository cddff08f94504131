-- The examples that show that the law says something.
use Rattle.std.proofs.Common.{◌≡◌, ℕ, zero, suc, ◌<◌, eqb, List, [], ◌∷◌, Some, None, Option, Ok, Err, Result, sym, refl, ap, subst₂, inl, inr, arith, eq-eqb, eqb-true}
use Rattle.law.specs.declared.Entry.{Entry}
use Rattle.law.specs.Trees.{Tells, Clash, Lists}
use Rattle.law.specs.Order.{Report, reports, In, Order, KeepsClashes}
use Rattle.law.specs.Bites.{ones, raise, double, both, Differs, Moves}

pub told_apart : Tells eqb
told_apart = record { itself = λ x. eq-eqb x x refl; equal = eqb-true }

swapped : Order 2 (1 ∷ 0 ∷ [])
swapped = record {
  once = (elim [ inl e ↦ omega arith | inr z ↦ z ], ((λ z. z), tt));
  every = every;
  no_other = λ i. elim [ inl e ↦ omega arith | inr (inl e) ↦ omega arith | inr (inr z) ↦ absurd z ];
}
  where
    every : (i : ℕ) → i < 2 → In i (1 ∷ 0 ∷ [])
    every zero h = inr (inl refl)
    every (suc zero) h = inl refl
    every (suc (suc i)) h = absurd (omega arith)

drawn : Order 3 (2 ∷ 0 ∷ 1 ∷ [])
drawn = record {
  once = (elim [ inl e ↦ omega arith | inr (inl e) ↦ omega arith | inr (inr z) ↦ z ], (elim [ inl e ↦ omega arith | inr z ↦ z ], ((λ z. z), tt)));
  every = every;
  no_other = λ i. elim [ inl e ↦ omega arith | inr (inl e) ↦ omega arith | inr (inr (inl e)) ↦ omega arith | inr (inr (inr z)) ↦ absurd z ];
}
  where
    every : (i : ℕ) → i < 3 → In i (2 ∷ 0 ∷ 1 ∷ [])
    every zero h = inr (inl refl)
    every (suc zero) h = inr (inr (inl refl))
    every (suc (suc zero)) h = inl refl
    every (suc (suc (suc i))) h = absurd (omega arith)

clashing : Clash (both 0) (both 0)
clashing = (0, inl (inl refl, inr (inl refl)))

one_cell : (c x : ℕ) → Lists x (both c) → c ≡ x
one_cell c x (inl (inl e)) = e
one_cell c x (inl (inr z)) = absurd z
one_cell c x (inr (inl e)) = e
one_cell c x (inr (inr z)) = absurd z

apart : ¬ Clash (both 0) (both 1)
apart k = elim k.1 [
  | inl h ↦ omega (arith, one_cell 0 k.0 (inr h.0), one_cell 1 k.0 h.1)
  | inr h ↦ omega (arith, one_cell 0 k.0 h.0, one_cell 1 k.0 (inr h.1))
]

abbrev trail_of : Option (Report ℕ ℕ ℕ) → List (Entry ℕ)
trail_of None = []
trail_of (Some r) = r.trail

-- what the first of some reports answers
abbrev answered : Result ℕ ℕ → ℕ
answered (Ok n) = n
answered (Err n) = 0

abbrev first : List (Option (Report ℕ ℕ ℕ)) → ℕ
first [] = 0
first (None ∷ rs) = 0
first (Some r ∷ rs) = answered r.end

pub needed : Differs (raise 0 ∷ double 0 ∷ []) (double 0 ∷ raise 0 ∷ []) (1 ∷ 0 ∷ [])
needed = record {
  order = swapped;
  taken = refl;
  parted = λ k. elim (k 0 1 _ _ (omega arith) refl refl clashing) [ inl h ↦ omega (arith, h.0) | inr (inl h) ↦ h.1 | inr (inr z) ↦ z ];
  other_reports = λ e. let z : ◌≡◌ {A = ℕ} 1 2 = ap first e in omega arith;
  other_contents = λ e. let z : ◌≡◌ {A = ℕ} 4 3 = e 0 in omega arith;
}

pub met : Moves (raise 0 ∷ double 0 ∷ double 1 ∷ []) (double 1 ∷ raise 0 ∷ double 0 ∷ []) (2 ∷ 0 ∷ 1 ∷ [])
met = record {
  order = drawn;
  keeps = keeps;
  taken = refl;
  moved = (0, 2, omega arith, inl (refl, inl refl));
}
  where
    keeps : KeepsClashes (reports eqb (raise 0 ∷ double 0 ∷ double 1 ∷ []) ones) (2 ∷ 0 ∷ 1 ∷ [])
    keeps zero zero a b h p q c = absurd (omega arith)
    keeps zero (suc zero) a b h p q c = inr (inl (refl, inl refl))
    keeps zero (suc (suc zero)) a b h p q c = absurd (apart (subst₂ Clash (sym (ap trail_of p)) (sym (ap trail_of q)) c))
    keeps zero (suc (suc (suc j))) a b h p q c = let z : ◌≡◌ {A = ℕ} 0 1 = cc in absurd (omega arith)
    keeps (suc zero) zero a b h p q c = absurd (omega arith)
    keeps (suc zero) (suc zero) a b h p q c = absurd (omega arith)
    keeps (suc zero) (suc (suc zero)) a b h p q c = absurd (apart (subst₂ Clash (sym (ap trail_of p)) (sym (ap trail_of q)) c))
    keeps (suc zero) (suc (suc (suc j))) a b h p q c = let z : ◌≡◌ {A = ℕ} 0 1 = cc in absurd (omega arith)
    keeps (suc (suc i)) zero a b h p q c = absurd (omega arith)
    keeps (suc (suc i)) (suc zero) a b h p q c = absurd (omega arith)
    keeps (suc (suc i)) (suc (suc zero)) a b h p q c = absurd (omega arith)
    keeps (suc (suc i)) (suc (suc (suc j))) a b h p q c = let z : ◌≡◌ {A = ℕ} 0 1 = cc in absurd (omega arith)
