-- A list of 256 lines: what stands in it, and how one write changes it.
use Rattle.std.specs.Prelude.{◌≡◌, ℕ, zero, suc, ◌+◌, ◌%◌, ◌<◌, ◌≤◌, Bool, true, false, not, ◌≢◌, List, length, get_or, set, ◌==◌, slice_index_or, slice_set, refl}
use Rattle.std.proofs.Common.{sym, ap, ◌∙◌, arith, eqb-true, length-set, get_or-set_same, get_or-set_other, ext_get_or}
use Rattle.std.specs.Bool.{beq}
use Rattle.std.proofs.lemmas.Bool.{eqb-false}
use Rattle.std.proofs.lemmas.List.{length-replicate, get_or-replicate, set-get_or}
use Rattle.std.proofs.Math.ListN.{get_or-eq_default}
use Rattle.std.proofs.Math.Seq.{set_out}
use Rattle.std.proofs.lemmas.List.FromFn.{get_or-map-range_with_len}
use Rattle.cards.specs.Lines.{all_off, lines_by, length_lines}

pub lines_at : (f : ℕ → Bool) (i : ℕ) → i < 256 → slice_index_or (lines_by f) i false ≡ f i
unfolding lines_by
lines_at f i h = get_or-map-range_with_len f 0 256 i i false h (omega arith)

-- past the last line: off, and a write changes nothing
pub lines_past : (f : ℕ → Bool) (n : ℕ) → 256 ≤ n → slice_index_or (lines_by f) n false ≡ false
lines_past f n h = get_or-eq_default _ _ {n = n} (omega (arith, length_lines f))

pub lines_stay : (f : ℕ → Bool) (n : ℕ) (on : Bool) → 256 ≤ n → lines_by f ≡ slice_set (lines_by f) n on
lines_stay f n on h = sym (set_out _ _ _ (omega (arith, length_lines f)))

-- a line that is already what it should be
pub lines_kept : (f : ℕ → Bool) (n : ℕ) (on : Bool) → slice_index_or (lines_by f) n false ≡ on → lines_by f ≡ slice_set (lines_by f) n on
lines_kept f n on e = sym (ap (λ x. set (lines_by f) n x) (sym e) ∙ set-get_or (lines_by f) n false)

-- what a read finds, and what a write leaves where it changes nothing
pub ruleset unchanged = (lines_at, lines_past, lines_stay, lines_kept)

-- lists of 256 lines are the same if every line is
pub lines_same : (xs : List Bool) (f : ℕ → Bool) → length xs ≡ 256 → ((i : ℕ) → i < 256 → f i ≡ slice_index_or xs i false) → lines_by f ≡ xs
lines_same xs f e h =
    ext_get_or false _ _ (length_lines f ∙ sym e)
    (λ i l. let k : i < 256 = omega (arith, length_lines f) in lines_at f i k ∙ h i k)

pub length_all_off : length all_off ≡ 256
unfolding all_off
length_all_off = length-replicate 256 false

pub all_off_at : (i : ℕ) → i < 256 → slice_index_or all_off i false ≡ false
unfolding all_off
all_off_at i h = get_or-replicate 256 i false false h

pub lines_off : (f : ℕ → Bool) → ((i : ℕ) → i < 256 → f i ≡ false) → lines_by f ≡ all_off
lines_off f h = lines_same all_off f length_all_off (λ i l. h i l ∙ sym (all_off_at i l))

-- the lines after line n alone was made `on`
pub lines_set : (f g : ℕ → Bool) (n : ℕ) (on : Bool) → n < 256 → g n ≡ on → ((i : ℕ) → i < 256 → i ≢ n → g i ≡ f i) → lines_by g ≡ slice_set (lines_by f) n on
lines_set f g n on h here there =
    lines_same (slice_set (lines_by f) n on) g (length-set (lines_by f) n on ∙ length_lines f) (λ i l. each i (i == n) refl l)
  where
    each : (i : ℕ) (c : Bool) → (i == n) ≡ c → i < 256 → g i ≡ slice_index_or (slice_set (lines_by f) n on) i false
    each i true e l =
        let q : i ≡ n = eqb-true i n e in
        let long : n < length (lines_by f) = omega (arith, length_lines f) in
        ap g q ∙ here ∙ sym (ap (λ x. get_or (slice_set (lines_by f) n on) x false) q ∙ get_or-set_same (lines_by f) n on false long)
    each i false e l = there i l (eqb-false i n e) ∙ sym (get_or-set_other (lines_by f) n i on false (eqb-false i n e) ∙ lines_at f i l)

-- one more, or one bit turned, makes an odd number even and an even one odd
pub odd_turned : (x : ℕ) → x < 2 → ((x + 1) % 2 == 1) ≡ not (x == 1)
odd_turned zero h = refl
odd_turned (suc zero) h = refl
odd_turned (suc (suc x)) h = absurd (omega arith)

flipped_is : (was on : Bool) → not (beq was on) ≡ true → not was ≡ on
flipped_is true true e = e
flipped_is true false e = refl
flipped_is false true e = refl
flipped_is false false e = sym e

-- the lines after line n, which was not as it should be, was turned
pub lines_turned : (f g : ℕ → Bool) (n : ℕ) (on was : Bool) → n < 256 → g n ≡ not (f n) → ((i : ℕ) → i ≢ n → g i ≡ f i)
    → was ≡ slice_index_or (lines_by f) n false → not (beq was on) ≡ true → lines_by g ≡ slice_set (lines_by f) n on
lines_turned f g n on was h here there r t =
    lines_set f g n on h (here ∙ ap not (sym (r ∙ lines_at f n h)) ∙ flipped_is was on t) (λ i l. there i)
