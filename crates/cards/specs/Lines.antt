-- What the lines of a card are.
use Rattle.std.specs.Prelude.{◌≡◌, ℕ, ◌/◌, ◌%◌, ◌^◌, Bool, false, List, map, replicate, length, ◌==◌, slice_index}
use Rattle.std.specs.List.{range_with_len}
use Rattle.std.proofs.lemmas.List.FromFn.{length-map-range_with_len}
use Rattle.cards.specs.declared.Packed.{Packed}

-- A list of 256 stays shut, since it would be written out wherever it is computed.
unfoldable pub all_off : List Bool
all_off = replicate 256 false

-- the lines of which line n is what f makes of n
unfoldable pub lines_by : (ℕ → Bool) → List Bool
lines_by f = map f (range_with_len 0 256)

-- such lines are 256, which every card owes
pub length_lines : (f : ℕ → Bool) → length (lines_by f) ≡ 256
unfolding lines_by
length_lines f = length-map-range_with_len f 0 256

-- bit k of a byte, the lowest being bit 0
abbrev pub bit : ℕ → ℕ → Bool
bit b k = b / 2 ^ k % 2 == 1

-- line n of bytes that hold eight lines each
abbrev pub line : List ℕ → ℕ → Bool
line bytes n = bit (slice_index bytes (n / 8)) (n % 8)

abbrev pub unpacked : List ℕ → List Bool
unpacked bytes = lines_by (line bytes)

abbrev pub packed_lines : Packed → List Bool
packed_lines p = unpacked p.bytes
