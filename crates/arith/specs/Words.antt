-- A word is a number below 65,536.
use Rattle.std.specs.Prelude.{ℕ, ◌+◌, ◌-◌, ◌*◌, ◌/◌, ◌%◌, cond, ℤ, pos, negsuc, nat_lt}
use Rattle.std.specs.Int.{w16}
use Rattle.std.proofs.Common.{to_z}

-- a word read as a signed number, as an i16 is: below 8000 it is itself, and from there on it stands for 65,536 less
abbrev pub signed : ℕ → ℤ
signed w = to_z w16 w

-- the word that stands for an integer, modulo 65,536; negsuc n is -(n + 1)
abbrev pub word_of : ℤ → ℕ
word_of (pos n) = n % 0x10000
word_of (negsuc n) = 0xFFFF - n % 0x10000

abbrev pub high : ℕ → ℕ
high w = w / 256

abbrev pub low : ℕ → ℕ
low w = w % 256

-- the word of two bytes
abbrev pub joined : ℕ → ℕ → ℕ
joined h l = h * 256 + l

-- a byte widened to a word by its sign
abbrev pub widened : ℕ → ℕ
widened b = cond (nat_lt b 128) b (b + 0xFF00)
