-- Lines that are led to other lines, and how a write below and an exchange change them.
use Rattle.std.proofs.Common.{◌≡◌, ℕ, ◌<◌, Bool, true, false, cond, ltb, List, length, get_or, set, sym, refl, ap, ◌∙◌, ap₂, zero-add, arith, length-set, get_or-set_other, get_or-set_same, ext_get_or, ltb-true}
use Rattle.std.proofs.lemmas.List.FromFn.{length-range_with_len, get_or-range_with_len}
use Rattle.cards.specs.Contacts.{OneToOne, straight, exchanged, after_exchange}
use Rattle.cards.specs.Crosses.{crossed_line, crossed}
use Rattle.cards.proofs.Rows.{lines_at, lines_same, lines_set}

straight_at : (i : ℕ) → i < 256 → get_or straight i 0 ≡ i
unfolding straight
straight_at i h = get_or-range_with_len 0 256 i 0 h ∙ zero-add i

length_straight : length straight ≡ 256
unfolding straight
length_straight = length-range_with_len 0 256

pub is_straight : (to : List ℕ) → length to ≡ 256 → ((i : ℕ) → i < 256 → get_or to i 0 ≡ i) → to ≡ straight
is_straight to e h =
    ext_get_or 0 _ _ (e ∙ sym length_straight) (λ i l. let k : i < 256 = omega arith in h i k ∙ sym (straight_at i k))

pub is_apart : (to : List ℕ) → ((i : ℕ) → i < 256 → get_or to i 0 ≡ i) → OneToOne to
is_apart to h i j k = sym (h i k.0) ∙ k.2 ∙ h j k.1

pub crossed_straight : (to : List ℕ) (xs : List Bool) → to ≡ straight → length xs ≡ 256 → crossed to xs ≡ xs
crossed_straight to xs s e =
    lines_same xs (crossed_line to xs) e (λ i h. ap (λ k. get_or xs k false) (ap (λ l. get_or l i 0) s ∙ straight_at i h))

-- a write to n's contact changes no line but n, since no other has that contact
pub crossed_set : (to : List ℕ) (xs : List Bool) (n : ℕ) (on : Bool) → OneToOne to → n < 256 → get_or to n 0 < length xs
    → crossed to (set xs (get_or to n 0) on) ≡ set (crossed to xs) n on
crossed_set to xs n on apart h within =
    lines_set (crossed_line to xs) (crossed_line to (set xs (get_or to n 0) on)) n on h (get_or-set_same xs (get_or to n 0) on false within)
    (λ i l ne. get_or-set_other xs (get_or to n 0) (get_or to i 0) on false (λ e. ne (apart i n (l, h, e))))

-- one contact more is changed
led : (to : List ℕ) (xs : List Bool) (n c : ℕ) → length to ≡ 256 → n < 256 → crossed (set to n c) xs ≡ set (crossed to xs) n (get_or xs c false)
led to xs n c e h =
    let within : n < length to = omega arith in
    lines_set (crossed_line to xs) (crossed_line (set to n c) xs) n (get_or xs c false) h (ap (λ k. get_or xs k false) (get_or-set_same to n c 0 within))
    (λ i l ne. ap (λ k. get_or xs k false) (get_or-set_other to n i c 0 ne))

two_led : (to : List ℕ) (xs : List Bool) (a b : ℕ) → length to ≡ 256 → a < 256 → b < 256
    → crossed (exchanged 0 to a b) xs ≡ exchanged false (crossed to xs) a b
two_led to xs a b e ha hb =
    let f = crossed_line to xs in
    led (set to a (get_or to b 0)) xs b (get_or to a 0) (length-set to a (get_or to b 0) ∙ e) hb
    ∙ ap (λ l. set l b (f a)) (led to xs a (get_or to b 0) e ha)
    ∙ ap₂ (λ x y. set (set (crossed to xs) a x) b y) (sym (lines_at f b hb)) (sym (lines_at f a ha))

pub crossed_exchange : (to after : List ℕ) (xs : List Bool) (a b : ℕ) → length to ≡ 256 → after ≡ after_exchange 0 to a b
    → crossed after xs ≡ after_exchange false (crossed to xs) a b
crossed_exchange to after xs a b e t = ap (λ l. crossed l xs) t ∙ by_test (ltb a 256) (ltb b 256) refl refl
  where
    by_test : (p q : Bool) → ltb a 256 ≡ p → ltb b 256 ≡ q
        → crossed (cond (cond p q false) (exchanged 0 to a b) to) xs ≡ cond (cond p q false) (exchanged false (crossed to xs) a b) (crossed to xs)
    by_test true true h k = two_led to xs a b e (ltb-true a 256 h) (ltb-true b 256 k)
    by_test true false h k = refl
    by_test false q h k = refl
