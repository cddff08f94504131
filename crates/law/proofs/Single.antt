-- The laws of one event, and of two.
use Rattle.std.proofs.Common.{◌≡◌, ℕ, Bool, true, false, cond, ◌⊎◌, List, [], ◌∷◌, Ok, Err, Result, sym, refl, ap, ◌∙◌, subst, ap₂, inl, inr, true≢false}
use Rattle.law.specs.declared.Entry.{Entry}
use Rattle.law.specs.declared.Entry.TheVariants.{Read, Changed}
use Rattle.law.specs.Trees.{Tree, ret, refuse, look, change, Contents, Tells, Outcome, Reads, Changes, only_reads, poke, go, kept, left_in, run, go_on}
use Rattle.law.specs.Order.{Joining, Frame, Dependence, Diamond}

seen_kept : {C A R : Type 0} (e : Result A R) (t : List (Entry C)) (x : C) → Reads x t → Reads x (kept e t)
seen_kept (Ok a) t x h = h
seen_kept (Err r) t x h = seen t h
  where
    seen : (t : List (Entry _)) → Reads x t → Reads x (only_reads t)
    seen [] h = h
    seen (Read c ∷ t) (inl e) = inl e
    seen (Read c ∷ t) (inr h) = inr (seen t h)
    seen (Changed c ∷ t) h = seen t h

none_changed : {C : Type 0} (t : List (Entry C)) (x : C) → Changes x (only_reads t) → ⊥
none_changed [] x h = h
none_changed (Read c ∷ t) x h = none_changed t x h
none_changed (Changed c ∷ t) x h = none_changed t x h

module _ {C : Type 0} (same : C → C → Bool) (tells : Tells same) where
  equal? : (x y : C) → Dec (x ≡ y)
  equal? x y = by_test (same x y) refl
    where
      by_test : (b : Bool) → same x y ≡ b → Dec (x ≡ y)
      by_test true e = yes (tells.equal x y e)
      by_test false e = no (λ q. true≢false (sym (ap (same x) (sym q) ∙ tells.itself x) ∙ e))

  changes? : (x : C) (t : List (Entry C)) → Dec (Changes x t)
  changes? x [] = no (λ z. z)
  changes? x (Read c ∷ t) = changes? x t
  changes? x (Changed c ∷ t) = join (equal? c x) (changes? x t)
    where
      join : Dec (c ≡ x) → Dec (Changes x t) → Dec ((c ≡ x) ⊎ Changes x t)
      join (yes e) q = yes (inl e)
      join (no n) (yes h) = yes (inr h)
      join (no n) (no m) = no (elim [ inl e ↦ n e | inr h ↦ m h ])

  -- the cell that is changed holds the new number, and each other cell what it held
  poked : (c x : C) (v : ℕ) (s : Contents C) → c ≡ x → poke same c v s x ≡ v
  poked c x v s e = ap (λ b. cond b v (s x)) (ap (same c) (sym e) ∙ tells.itself c)

  unpoked : (c x : C) (v : ℕ) (s : Contents C) → ¬ (c ≡ x) → poke same c v s x ≡ s x
  unpoked c x v s n = by_test (same c x) refl
    where
      by_test : (b : Bool) → same c x ≡ b → cond b v (s x) ≡ s x
      by_test true e = absurd (n (tells.equal c x e))
      by_test false e = refl

module _ {C A R : Type 0} (same : C → C → Bool) (tells : Tells same) where
  frame_go : (m : Tree C A R) (s : Contents C) (x : C) → ¬ Changes x (go same m s).trail → (go same m s).after x ≡ s x
  frame_go (ret a) s x h = refl
  frame_go (refuse r) s x h = refl
  frame_go (look c k) s x h = frame_go (k (s c)) s x h
  frame_go (change c v m) s x h =
      frame_go m (poke same c v s) x (λ z. h (inr z)) ∙ unpoked same tells c x v s (λ e. h (inl e))

  pub frame : Frame C A R same
  frame m s x h = settle (go same m s).end h
    where
      settle : (e : Result A R) → ¬ Changes x (kept e (go same m s).trail) → left_in e s (go same m s).after x ≡ s x
      settle (Ok a) h = frame_go m s x h
      settle (Err r) h = refl

  record Alike (m : Tree C A R) (s t : Contents C) : Type 0 where
    ends : (go same m s).end ≡ (go same m t).end
    trails : (go same m s).trail ≡ (go same m t).trail
    afters : (x : C) → Changes x (go same m s).trail ⊎ (s x ≡ t x) → (go same m s).after x ≡ (go same m t).after x

  dependence_go : (m : Tree C A R) (s t : Contents C) → ((x : C) → Reads x (go same m s).trail → s x ≡ t x) → Alike m s t
  dependence_go (ret a) s t h = record { ends = refl; trails = refl; afters = λ x q. elim q [ inl z ↦ absurd z | inr e ↦ e ] }
  dependence_go (refuse r) s t h = record { ends = refl; trails = refl; afters = λ x q. elim q [ inl z ↦ absurd z | inr e ↦ e ] }
  dependence_go (look c k) s t h =
      let e : s c ≡ t c = h c (inl refl) in
      let a : Alike (k (s c)) s t = dependence_go (k (s c)) s t (λ x z. h x (inr z)) in
      record {
        ends = a.ends ∙ ap (λ n. (go same (k n) t).end) e;
        trails = ap (λ l. Read c ∷ l) (a.trails ∙ ap (λ n. (go same (k n) t).trail) e);
        afters = λ x q. a.afters x q ∙ ap (λ n. (go same (k n) t).after x) e;
      }
  dependence_go (change c v m) s t h =
      let alike : (x : C) → s x ≡ t x → poke same c v s x ≡ poke same c v t x = λ x e. ap (λ n. cond (same c x) v n) e in
      let a : Alike m (poke same c v s) (poke same c v t) = dependence_go m (poke same c v s) (poke same c v t) (λ x z. alike x (h x z)) in
      record {
        ends = a.ends;
        trails = ap (λ l. Changed c ∷ l) a.trails;
        afters = λ x q. a.afters x (elim q [
          | inl (inl e) ↦ inr (poked same tells c x v s e ∙ sym (poked same tells c x v t e))
          | inl (inr z) ↦ inl z
          | inr e ↦ inr (alike x e)
        ]);
      }

  pub dependence : Dependence C A R same
  dependence m s t h =
      let a : Alike m s t = dependence_go m s t (λ x z. h x (seen_kept (go same m s).end (go same m s).trail x z)) in (
        a.ends,
        ap₂ kept a.ends a.trails,
        λ x z. settle x (a.afters x) (go same m s).end z ∙ ap (λ e. left_in e t (go same m t).after x) a.ends,
      )
    where
      settle : (x : C) → (Changes x (go same m s).trail ⊎ (s x ≡ t x) → (go same m s).after x ≡ (go same m t).after x)
          → (e : Result A R) → Changes x (kept e (go same m s).trail) → left_in e s (go same m s).after x ≡ left_in e t (go same m t).after x
      settle x f (Ok a) z = f (inl z)
      settle x f (Err r) z = absurd (none_changed (go same m s).trail x z)

  pub diamond : Diamond C A R same
  diamond e f s apart = (
    λ i. record { end = sym later.0 i; trail = sym later.1 i },
    λ i. record { end = sym first.0 i; trail = sym first.1 i },
    λ x. settle x (changes? same tells x (run same e s).trail) (changes? same tells x (run same f (run same e s).after).trail),
  )
    where
      s1 : Contents C
      s1 = (run same e s).after

      s2 : Contents C
      s2 = (run same f s).after

      later : ((run same f s1).end ≡ (run same f s).end)
          × ((run same f s1).trail ≡ (run same f s).trail)
          × ((x : C) → Changes x (run same f s1).trail → (run same f s1).after x ≡ (run same f s).after x)
      later = dependence f s1 s (λ x r. frame e s x (λ z. apart (x, inl (z, inl r))))

      first : ((run same e s).end ≡ (run same e s2).end)
          × ((run same e s).trail ≡ (run same e s2).trail)
          × ((x : C) → Changes x (run same e s).trail → (run same e s).after x ≡ (run same e s2).after x)
      first = dependence e s s2 (λ x r. sym (frame f s x (λ z. apart (x, inr (inl r, subst (Changes x) (sym later.1) z)))))

      settle : (x : C) → Dec (Changes x (run same e s).trail) → Dec (Changes x (run same f s1).trail)
          → (run same e s2).after x ≡ (run same f s1).after x
      settle x (yes z) q = sym (first.2 x z) ∙ sym (frame f s1 x (λ w. apart (x, inl (z, inr w))))
      settle x (no n) (yes w) = frame e s2 x (λ z. n (subst (Changes x) (sym first.1) z)) ∙ sym (later.2 x w)
      settle x (no n) (no m) =
          frame e s2 x (λ z. n (subst (Changes x) (sym first.1) z))
          ∙ frame f s x (λ w. m (subst (Changes x) (sym later.1) w))
          ∙ sym (frame e s x n)
          ∙ sym (frame f s1 x m)

note : {C A R : Type 0} → Entry C → Outcome C A R → Outcome C A R
note x o = record { end = o.end; trail = x ∷ o.trail; after = o.after }

module _ {C A B R : Type 0} (same : C → C → Bool) where
  noted : (x : Entry C) (e : Result A R) (t : List (Entry C)) (s : Contents C) (f : A → Tree C B R)
      → note x (go_on same e t s f) ≡ go_on same e (x ∷ t) s f
  unfolding note
  noted x (Ok a) t s f = refl
  noted x (Err r) t s f = refl

  pub joining : Joining C A B R same
  unfolding note
  joining (ret a) f s = refl
  joining (refuse r) f s = refl
  joining (look c k) f s =
      let o = go same (k (s c)) s in
      ap (note (Read c)) (joining (k (s c)) f s) ∙ noted (Read c) o.end o.trail o.after f
  joining (change c v m) f s =
      let o = go same m (poke same c v s) in
      ap (note (Changed c)) (joining m f (poke same c v s)) ∙ noted (Changed c) o.end o.trail o.after f
