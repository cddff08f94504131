-- Counts of switchings: how one more changes the lines.
use Rattle.std.proofs.Common.{◌≡◌, ℕ, ◌+◌, ◌%◌, eqb, ◌^◌, ◌<◌, Bool, true, false, not, List, length, get_or, set, replicate, refl, ap, ◌∙◌, arith, get_or-set_other, get_or-set_same}
use mathlib.Core.Bool.{beq}
use lib.ListN.{get_or-replicate}
use Rattle.cards.specs.Lines.{all_off, lines_by}
use Rattle.cards.specs.Counts.{all_zero, odd, worn}
use Rattle.cards.proofs.Rows.{lines_off, odd_turned, lines_turned}

pub zero_counts : replicate 256 0 ≡ all_zero
unfolding all_zero
zero_counts = refl

pub zero_lines : lines_by (worn (replicate 256 0)) ≡ all_off
zero_lines = lines_off (worn (replicate 256 0)) (λ i h. ap odd (get_or-replicate 256 i 0 0 h))

-- 2 ^ 32 is even, so a count that wraps turns the line as any other does
odd_next : (c : ℕ) → odd ((c + 1) % 2 ^ 32) ≡ not (odd c)
odd_next c = ap (λ x. eqb x 1) (omega arith) ∙ odd_turned (c % 2) (omega arith)

pub worn_turned : (cs : List ℕ) (n : ℕ) (on was : Bool) → n < 256 → n < length cs → was ≡ get_or (lines_by (worn cs)) n false → not (beq was on) ≡ true
    → lines_by (worn (set cs n ((get_or cs n 0 + 1) % 2 ^ 32))) ≡ set (lines_by (worn cs)) n on
worn_turned cs n on was h within =
    let v = (get_or cs n 0 + 1) % 2 ^ 32 in
    lines_turned (worn cs) (worn (set cs n v)) n on was h (ap odd (get_or-set_same cs n v 0 within) ∙ odd_next (get_or cs n 0))
    (λ i ne. ap odd (get_or-set_other cs n i v 0 ne))
