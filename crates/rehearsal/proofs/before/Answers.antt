use Rattle.std.proofs.Common.{◌≡◌, ◌≢◌, ℕ, zero, suc, ◌+◌, ◌<◌, false, Bool, List, [], ◌∷◌, length, drop, Option, Some, None, MatchOption, rules, tests, arith, sym, ◌∙◌, refl, eq-eqb, ne_eqb, add-one}
use Rattle.std.specs.List.{HoldsAt, AllWithin}
use Rattle.std.proofs.lemmas.Bool.Decides.{nat_tests}
use Rattle.std.proofs.lemmas.Grind.{common_steps}
use Rattle.std.proofs.lemmas.Iterator.{IsFirst-from_position, YieldsList-from_slice}
use Rattle.rehearsal.specs.Tests.{member?, before?}
use Rattle.rehearsal.proofs.before.Goals as goal

module _ (x y : ℕ) where
  later : (p : List ℕ) (i : ℕ) → i < length p → HoldsAt (λ k. k ≡ x) p i → AllWithin (λ k. k ≢ x) p 0 i → before? x y p ≡ member? y (drop (i + 1) p)
  later [] i h e n = grind arith
  later (k ∷ p) zero h e n = rw (eq-eqb k x (e 0))
  later (k ∷ p) (suc i) h e n =
      rw (add-one, ne_eqb k x (n 0 0 (omega arith) (omega arith)))
      (rw add-one at (later p i (omega arith) e (λ j d l m. n (suc j) d (omega arith) (omega arith))))

  none : (p : List ℕ) → AllWithin (λ k. k ≢ x) p 0 (length p) → before? x y p ≡ false
  none [] n = refl
  none (k ∷ p) n = grind (arith, nat_tests, n 0 0, none p (λ j d l m. n (suc j) d (omega arith) (omega arith)))

  both : (p : List ℕ) (o : Option ℕ) (b : Bool) (Later : ℕ → Type 0)
      → MatchOption o (AllWithin (λ k. k ≢ x) p 0 (length p)) (λ i. (i < length p) × HoldsAt (λ k. k ≡ x) p i × AllWithin (λ k. k ≢ x) p 0 i)
      → MatchOption o (b ≡ false) Later → ((i : ℕ) → Later i → b ≡ member? y (drop (i + 1) p)) → b ≡ before? x y p
  both p None b Later h e f = e ∙ sym (none p h)
  both p (Some i) b Later h e f = f i e ∙ sym (later p i h.0 h.1 h.2)

pub returns : goal.returns
returns c =
    let p = c.args.order.now in
    both c.args.x c.args.y p c.position.result c.is_some_and.result _
    (IsFirst-from_position _ _ _ (λ k. k ≡ c.args.x) (λ k. k ≢ c.args.x) c.position.ensures.ran (YieldsList-from_slice p cc) (λ k q h. search (rules, tests)) (λ k q h. search (rules, tests)))
    c.is_some_and.ensures (λ i h. grind (arith, common_steps))
