-- How code follows a tree, a step at a time.
use Rattle.std.proofs.Common.{◌≡◌, ℕ, List, [], ◌∷◌, ◌++◌, IsErrAnd, Ok, Err, Result, refl, ap, ◌∙◌, ap₂}
use Rattle.law.specs.declared.Entry.{Entry}
use Rattle.law.specs.declared.Entry.TheVariants.{Read, Changed}
use Rattle.law.specs.Trees.{ret, refuse, look, change, Contents, poke, go, go_on, bind, only_reads}
use Rattle.law.proofs.Single.{joining}
use Rattle.words.specs.declared.Refusal.{Refusal}
use Rattle.cells.specs.declared.Cell.{Cell}
use Rattle.cells.specs.declared.Trail.{Trail}
use Rattle.cells.specs.Cells.{same}
use Rattle.std.specs.Result.{result_map_both}
use Rattle.std.proofs.lemmas.Result.{err_from_is_err_and}
use Rattle.cells.specs.Runs.{Steps, lift, Sees, Pokes, Finds, Goes}
use Rattle.cells.proofs.Noting.{grows_none, grows_both}

reads_both : (t u : List (Entry Cell)) → only_reads (t ++ u) ≡ only_reads t ++ only_reads u
reads_both [] u = refl
reads_both (Read c ∷ t) u = ap (λ (l : List (Entry Cell)). Read c ∷ l) (reads_both t u)
reads_both (Changed c ∷ t) u = reads_both t u

-- the run of a tree joined to another, by how the first ended
joined : {A B : Type 0} (m : Steps A) (f : A → Steps B) (s s' : Contents Cell) (r : Result A Refusal)
    → (go same m s).end ≡ r → (go same m s).after ≡ s'
    → go same (bind m f) s ≡ go_on same r (go same m s).trail s' f
joined m f s s' r e k = rw (joining same m f s, e, k)

module _ {A : Type 0} where
  pub find_ret : {a : A} {s : Contents Cell} {t : Trail} → Finds (ret a) s t (Ok a) t
  find_ret {t = t} = record { ends = refl; after = refl; reads = refl; grows = grows_none t }

  pub find_refuse : {r : Refusal} {s : Contents Cell} {t : Trail} → Finds {A = A} (refuse r) s t (Err r) t
  find_refuse {t = t} = record { ends = refl; after = refl; reads = refl; grows = grows_none t }

  pub find_look : {c : Cell} {k : ℕ → Steps A} {s : Contents Cell} {v : ℕ} {t t1 t' : Trail} {r : Result A Refusal}
      → Sees s c v t t1 → Finds (k v) s t1 r t' → Finds (look c k) s t r t'
  find_look {c = c} {k = k} {s = s} {t1 = t1} {t' = t'} {r = r} see f =
      let g : Finds (k (s c)) s t1 r t' = rw see.value at f in
      record {
        ends = g.ends;
        after = g.after;
        reads = ap (λ (l : List (Entry Cell)). Read c ∷ l) g.reads;
        grows = grows_both (Read c ∷ []) (go same (k (s c)) s).trail see.grows g.grows;
      }

  pub go_ret : {a : A} {s : Contents Cell} {t : Trail} → Goes (ret a) s t a s t
  go_ret {t = t} = record { ends = refl; after = refl; grows = grows_none t }

  pub go_look : {c : Cell} {k : ℕ → Steps A} {s s' : Contents Cell} {v : ℕ} {t t1 t' : Trail} {a : A}
      → Sees s c v t t1 → Goes (k v) s t1 a s' t' → Goes (look c k) s t a s' t'
  go_look {c = c} {k = k} {s = s} {s' = s'} {t1 = t1} {t' = t'} {a = a} see f =
      let g : Goes (k (s c)) s t1 a s' t' = rw see.value at f in
      record { ends = g.ends; after = g.after; grows = grows_both (Read c ∷ []) (go same (k (s c)) s).trail see.grows g.grows }

  pub go_change : {c : Cell} {v : ℕ} {m : Steps A} {s s1 s' : Contents Cell} {t t1 t' : Trail} {a : A}
      → Pokes s c v s1 t t1 → Goes m s1 t1 a s' t' → Goes (change c v m) s t a s' t'
  go_change {c = c} {v = v} {m = m} {s = s} {s' = s'} {t1 = t1} {t' = t'} {a = a} p f =
      let g : Goes m (poke same c v s) t1 a s' t' = rw (p.value) f in
      record { ends = g.ends; after = g.after; grows = grows_both (Changed c ∷ []) (go same m (poke same c v s)).trail p.grows g.grows }

module _ {A B : Type 0} where
  pub find_bind : {m : Steps A} {s : Contents Cell} {t t1 t' : Trail} {a : A} {r : Result B Refusal}
      → Finds m s t (Ok a) t1 → (f : A → Steps B) → Finds (f a) s t1 r t' → Finds (bind m f) s t r t'
  find_bind {m = m} {s = s} {a = a} p f q =
      let is = joined m f s s (Ok a) p.ends p.after in
      record {
        ends = rw is q.ends;
        after = rw is q.after;
        reads = rw is (reads_both (go same m s).trail (go same (f a) s).trail ∙ ap₂ ◌++◌ p.reads q.reads);
        grows = rw is (grows_both (go same m s).trail (go same (f a) s).trail p.grows q.grows);
      }

  pub find_stop : {m : Steps A} {s : Contents Cell} {t t1 : Trail} {r : Refusal}
      → Finds m s t (Err r) t1 → (f : A → Steps B) → Finds (bind m f) s t (Err r) t1
  find_stop {m = m} {s = s} {r = r} p f =
      let is = joined m f s s (Err r) p.ends p.after in
      record { ends = rw is; after = rw is; reads = rw is p.reads; grows = rw is p.grows }

  pub go_bind : {m : Steps A} {s s1 s' : Contents Cell} {t t1 t' : Trail} {a : A} {b : B}
      → Goes m s t a s1 t1 → (f : A → Steps B) → Goes (f a) s1 t1 b s' t' → Goes (bind m f) s t b s' t'
  go_bind {m = m} {s = s} {s1 = s1} {a = a} p f q =
      let is = joined m f s s1 (Ok a) p.ends p.after in
      record {
        ends = rw is q.ends;
        after = rw is q.after;
        grows = rw is (grows_both (go same m s).trail (go same (f a) s1).trail p.grows q.grows);
      }

-- the same under other names: of what is returned, and of a part of the tree
module _ {A : Type 0} {s : Contents Cell} {t t' : Trail} where
  pub find_out : {m : Steps A} {r r' : Result A Refusal} → r' ≡ r → Finds m s t r t' → Finds m s t r' t'
  find_out e p = rw e p

  pub find_at : {X : Type 0} {x y : X} {r : Result A Refusal} (m : X → Steps A) → x ≡ y → Finds (m x) s t r t' → Finds (m y) s t r t'
  find_at m e p = rw (← e) p

  pub go_at : {X : Type 0} {x y : X} {a : A} {s' : Contents Cell} (m : X → Steps A) → x ≡ y → Goes (m x) s t a s' t' → Goes (m y) s t a s' t'
  go_at m e p = rw (← e) p

module _ {A : Type 0} {s : Contents Cell} {t : Trail} where
  find_lift : (r : Result A Refusal) → Finds (lift r) s t r t
  find_lift (Ok a) = find_ret
  find_lift (Err e) = find_refuse

  -- a call that needs no cell returned what the tree lifts
  pub find_same : {r r' : Result A Refusal} → r' ≡ r → Finds (lift r) s t r' t
  find_same {r = r} e = find_out e (find_lift r)

  pub find_value : {a b : A} → b ≡ a → Finds (ret a) s t (Ok b) t
  find_value e = find_out (ap Ok e) find_ret

-- a value that is mapped
pub find_map : {A B : Type 0} {m : Steps A} {s : Contents Cell} {t t' : Trail} (f : A → B) (r : Result A Refusal) {o : Result B Refusal}
    → Finds m s t r t' → o ≡ result_map_both f (λ e. e) r → Finds (bind m (λ a. ret (f a))) s t o t'
find_map f (Ok a) p e = find_out e (find_bind p _ find_ret)
find_map f (Err x) p e = find_out e (find_stop p _)

-- a `?` that hands a refusal up
pub find_break : {A B : Type 0} {m : Steps A} {s : Contents Cell} {t t1 : Trail} {r : Refusal}
    → Finds m s t (Err r) t1 → (f : A → Steps B) → (o : Result B Refusal) → IsErrAnd o (λ y. y ≡ r) → Finds (bind m f) s t o t1
find_break p f o h = let e = err_from_is_err_and o h in find_out (e.1 ∙ ap Err e.2) (find_stop p f)

-- what was found is a run too, where it ended in an answer
pub found : {A : Type 0} {m : Steps A} {s : Contents Cell} {t t' : Trail} {a : A} → Finds m s t (Ok a) t' → Goes m s t a s t'
found p = record { ends = p.ends; after = p.after; grows = p.grows }
