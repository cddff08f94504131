-- `find_map` over a range, said of the numbers in it.
use Rattle.std.proofs.Common.{◌≡◌, ℕ, ◌+◌, ◌-◌, ◌<◌, ◌≤◌, Some, None, Option, MatchOption, IsSomeAnd, IfSome, IsTrue, option_map, sym, refl, ap, ◌∙◌, subst, arith}
use Rattle.std.specs.Fn.{Called}
use Rattle.std.specs.Iterator.Runs.{SomeRun, ItemsCountUp, AllItemsGive, IsFirstToGive, CallKeepsClosure}
use Rattle.std.specs.declared.ops.Range.{Range}
use Rattle.std.proofs.iter.Yields.{nat_range_steps}
use Rattle.std.proofs.iter.runs.Sources.{range_runs}
use denote.Param.Members.{Mut}

same_option : {X : Type 0} (o : Option X) → option_map (λ y. y) o ≡ o
same_option None = refl
same_option (Some x) = refl

-- What f answers is told by No where it is `None`, and by Yes where it is `Some`. Whole is what follows if it is `None`
-- throughout, and Hit if y is the first that is not.
module _ {F B : Type 0} {g : Mut F (ℕ × Unit {0}) (Option B)} {s : Range ℕ} {f : F} (No : ℕ → Type 0) (Yes : ℕ → B → Type 0) {Whole : Type 0} {Hit : B → Type 0} where
  pub first_given : (r : Option B)
      → SomeRun nat_range_steps s (λ p. MatchOption r (IsTrue p.whole × AllItemsGive p g f None) (λ y. (i : ℕ) × (i < p.len) × (p.len ≡ i + 1) × IsFirstToGive p g f (Some y) None i))
      → CallKeepsClosure g f
      → ((i : ℕ) → s.start ≤ i → i < s.end → Called g f (i, tt) None f → No i)
      → ((i : ℕ) (y : B) → s.start ≤ i → i < s.end → Called g f (i, tt) (Some y) f → Yes i y)
      → (((k : ℕ) → s.start ≤ k → k < s.end → No k) → Whole)
      → ((i : ℕ) (y : B) → s.start ≤ i → i < s.end → Yes i y → ((k : ℕ) → s.start ≤ k → k < i → No k) → Hit y)
      → MatchOption r Whole Hit
  first_given r (p, from, h) keeps none some whole hit = by r h
    where
      runs : ItemsCountUp p s.start s.end
      runs = subst (λ (x : Range ℕ). ItemsCountUp p x.start x.end) from (range_runs p p.seen)

      at : (i k : ℕ) → i < p.len → k ≡ s.start + i → p.at i ≡ Some k
      at i k l e = sym (same_option (p.at i)) ∙ runs.3 i l ∙ ap Some (sym e)

      by : (o : Option B) → MatchOption o (IsTrue p.whole × AllItemsGive p g f None) (λ y. (i : ℕ) × (i < p.len) × (p.len ≡ i + 1) × IsFirstToGive p g f (Some y) None i) → MatchOption o Whole Hit
      by None c = whole (λ k a b.
          none k a b (subst (λ (o : Option ℕ). IfSome o (λ x. Called g f (x, tt) None f)) (at (k - s.start) k (omega (arith, runs.1 c.0)) (omega arith)) (c.1 keeps (k - s.start))))
      by (Some y) (i, l, e, c) =
          let q = c keeps in
          let below : s.start + i < s.end = omega (arith, runs.0) in
          hit (s.start + i) y (omega arith) below
          (some (s.start + i) y (omega arith) below (subst (λ (o : Option ℕ). IsSomeAnd o (λ x. Called g f (x, tt) (Some y) f)) (at i (s.start + i) l refl) q.0))
          (λ k a b. none k a (omega arith) (subst (λ (o : Option ℕ). IsSomeAnd o (λ x. Called g f (x, tt) None f)) (at (k - s.start) k (omega arith) (omega arith)) (q.1 (k - s.start) (omega arith))))
