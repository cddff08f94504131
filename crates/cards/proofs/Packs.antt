-- Lines that are packed into bytes, and how one bit changes them.
use Rattle.std.proofs.Common.{◌≡◌, ℕ, ◌+◌, ◌/◌, ◌%◌, ◌^◌, ◌<◌, Bool, true, false, not, eqb, ◌≢◌, List, length, get_or, set, replicate, sym, refl, ap, ◌∙◌, arith, get_or-set_other, get_or-set_same, eqb-true}
use mathlib.Core.Bool.{beq}
use borrow.Author.Tests.{eqb-false}
use lib.Bits.{bit_xor}
use lib.ListN.{get_or-replicate}
use Rattle.std.proofs.lemmas.Nat.Bits.{bit_at-zero, bit_at_xor, bit_at-pow_same, bit_at-pow_other}
use Rattle.cards.specs.Lines.{all_off, bit, line, unpacked}
use Rattle.cards.proofs.Rows.{lines_off, odd_turned, lines_turned}

-- bytes that are all 0 have every line off
pub unpacked_zeros : unpacked (replicate 32 0) ≡ all_off
unpacked_zeros = lines_off (line (replicate 32 0)) zero_line
  where
    zero_line : (i : ℕ) → i < 256 → line (replicate 32 0) i ≡ false
    zero_line i h =
        let within : i / 8 < 32 = omega arith in
        ap (λ b. bit b (i % 8)) (get_or-replicate 32 (i / 8) 0 0 within) ∙ ap (λ x. eqb x 1) (bit_at-zero (i % 8))

-- to exclusive-or with a power of two turns one bit, and no other
bit_here : (b k : ℕ) → bit (bit_xor b (2 ^ k)) k ≡ not (bit b k)
bit_here b k =
    ap (λ x. eqb x 1) (bit_at_xor b (2 ^ k) k ∙ ap (λ x. (b / 2 ^ k % 2 + x) % 2) (bit_at-pow_same k)) ∙ odd_turned (b / 2 ^ k % 2) (omega arith)

bit_there : (b k j : ℕ) → j ≢ k → bit (bit_xor b (2 ^ k)) j ≡ bit b j
bit_there b k j ne =
    ap (λ x. eqb x 1) (bit_at_xor b (2 ^ k) j ∙ ap (λ x. (b / 2 ^ j % 2 + x) % 2) (bit_at-pow_other k j ne) ∙ omega arith)

-- line n is turned by one bit of its byte
module _ (bs : List ℕ) (n : ℕ) (within : n / 8 < length bs) where
  abbrev turned : List ℕ
  turned = set bs (n / 8) (bit_xor (get_or bs (n / 8) 0) (2 ^ (n % 8)))

  here : line turned n ≡ not (line bs n)
  here = ap (λ x. bit x (n % 8)) (get_or-set_same bs (n / 8) _ 0 within) ∙ bit_here (get_or bs (n / 8) 0) (n % 8)

  there : (i : ℕ) → i ≢ n → line turned i ≡ line bs i
  there i ne = by_byte (eqb (i / 8) (n / 8)) refl
    where
      by_byte : (c : Bool) → eqb (i / 8) (n / 8) ≡ c → line turned i ≡ line bs i
      by_byte true e =
          let q : i / 8 ≡ n / 8 = eqb-true (i / 8) (n / 8) e in
          let r : i % 8 ≢ n % 8 = λ p. ne (omega (arith, q, p)) in
          ap (λ x. bit (get_or turned x 0) (i % 8)) q ∙ ap (λ x. bit x (i % 8)) (get_or-set_same bs (n / 8) _ 0 within)
          ∙ bit_there (get_or bs (n / 8) 0) (n % 8) (i % 8) r ∙ ap (λ x. bit (get_or bs x 0) (i % 8)) (sym q)
      by_byte false e = ap (λ x. bit x (i % 8)) (get_or-set_other bs (n / 8) (i / 8) _ 0 (eqb-false (i / 8) (n / 8) e))

  pub unpacked_turned : (m : ℕ) (on was : Bool) → n < 256 → m ≡ 2 ^ (n % 8) → was ≡ get_or (unpacked bs) n false → not (beq was on) ≡ true
      → unpacked (set bs (n / 8) (bit_xor (get_or bs (n / 8) 0) m)) ≡ set (unpacked bs) n on
  unpacked_turned m on was h e r t =
      ap (λ x. unpacked (set bs (n / 8) (bit_xor (get_or bs (n / 8) 0) x))) e ∙ lines_turned (line bs) (line turned) n on was h here there r t
