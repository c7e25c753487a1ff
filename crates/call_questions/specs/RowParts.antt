-- The part of the lent journal that the row question returns: its words, and where it lies.
use Rattle.std.specs.Prelude.{◌≡◌, cond, ◌&&◌, List, ℕ, ◌+◌, ◌*◌, ◌-◌, ℤ}
use Rattle.lists.specs.Tests.{◌from◌to◌}
use Rattle.records.specs.Layout.{row_width}
use Rattle.records.specs.Encoding.{nat_of}
use Rattle.rules.specs.Tables.{Tables, rows_used, sound_tables}
use Rattle.call_rules.specs.Calls.{row_call}

-- the bytes of a word
abbrev pub word_bytes : ℕ
word_bytes = 8

-- how many words of the journal stand before the part: the rows before a used row; the empty part is at the journal's start
unfoldable pub words_before : Tables → ℤ → ℕ
words_before t n = cond (sound_tables t && nat_of n from 1 to rows_used t) ((nat_of n - 1) * row_width) 0

-- a place in memory: a block, and a byte of it
abbrev pub Place : Type 0
Place = ℕ × ℕ

-- the place so many words past another
abbrev pub words_past : Place → ℕ → Place
words_past p k = (p.0, k * word_bytes + p.1)

-- "the ten words as the very part of the lent journal": the part xs at the place q is row n of the journal that lies at the place p
pub record RowPart (t : Tables) (n : ℤ) (p : Place) (xs : List ℤ) (q : Place) : Type 0 where
  pub words : xs ≡ row_call t n
  pub place : q ≡ words_past p (words_before t n)
