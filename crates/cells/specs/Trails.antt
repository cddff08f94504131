-- A list that is lent for a trail: entries are written over it, from its start.
use Rattle.std.specs.Prelude.{◌≡◌, ℕ, ◌+◌, ◌≤◌, List, ◌++◌, length, take, drop}
use Rattle.std.specs.Borrow.{MutBor}
use Rattle.law.specs.declared.Entry.{Entry}
use Rattle.cells.specs.declared.Cell.{Cell}
use Rattle.cells.specs.declared.Trail.{Trail}

-- a list with es written over its start
abbrev pub over : List (Entry Cell) → List (Entry Cell) → List (Entry Cell)
over es old = es ++ drop (length es) old

-- The entries es were added: xs with n of them written became xs' with n', and nothing past those changed.
pub record Adds (es : List (Entry Cell)) (xs : List (Entry Cell)) (n : ℕ) (xs' : List (Entry Cell)) (n' : ℕ) : Type 0 where
  pub written : take n' xs' ≡ take n xs ++ es
  pub count : n' ≡ n + length es
  pub past : (old : List (Entry Cell)) → drop n xs ≡ drop n old → drop n' xs' ≡ drop n' old

-- The same of a trail, where it has room for them. It stays the same loan.
pub record Grows (es : List (Entry Cell)) (t t' : Trail) : Type 0 where
  pub adds : t.count + length es ≤ length t.entries.now → Adds es t.entries.now t.count t'.entries.now t'.count
  pub size : length t'.entries.now ≡ length t.entries.now
  pub loan : t'.entries.ghost_name ≡ t.entries.ghost_name

-- A trail at its start, over the loan x.
pub record Fresh (x : MutBor (List (Entry Cell))) (t : Trail) : Type 0 where
  pub entries : t.entries.now ≡ x.now
  pub count : t.count ≡ 0
  pub loan : t.entries.ghost_name ≡ x.ghost_name
