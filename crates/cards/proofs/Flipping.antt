-- Lines that are flipped by a mask, and how one write below changes them.
use Rattle.std.proofs.Common.{◌≡◌, ℕ, ◌<◌, Bool, true, false, not, List, length, get_or, set, refl, ap, ◌∙◌, get_or-set_other, get_or-set_same}
use mathlib.Core.Bool.{beq}
use Rattle.cards.specs.Flips.{flip, flipped_line, flipped}
use Rattle.cards.proofs.Rows.{lines_set}

-- the code flips by `^`
flip_back : (m x : Bool) → flip m (not (beq x m)) ≡ x
flip_back true true = refl
flip_back true false = refl
flip_back false true = refl
flip_back false false = refl

pub flipped_set : (mask xs : List Bool) (n : ℕ) (on : Bool) → n < 256 → n < length xs
    → flipped mask (set xs n (not (beq on (get_or mask n false)))) ≡ set (flipped mask xs) n on
flipped_set mask xs n on h within =
    let v = not (beq on (get_or mask n false)) in
    lines_set (flipped_line mask xs) (flipped_line mask (set xs n v)) n on h
    (ap (flip (get_or mask n false)) (get_or-set_same xs n v false within) ∙ flip_back (get_or mask n false) on)
    (λ i l ne. ap (flip (get_or mask i false)) (get_or-set_other xs n i v false ne))
