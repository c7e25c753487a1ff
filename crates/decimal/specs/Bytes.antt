-- Where a byte stands in a list of bytes, and how many bytes a number, a date and the listing program's text may have.
use Rattle.std.specs.Prelude.{ℕ, suc, Bool, true, false, List, [], ◌∷◌, eqb}

-- the place in a list with one more byte before it, from the place without: 0 where that byte is the one looked for
unfoldable pub index_after : Bool → ℕ → ℕ
index_after true n = 0
index_after false n = suc n

-- the place of the first byte c in a list, the list's length where there is none
unfoldable pub index_of : ℕ → List ℕ → ℕ
index_of c [] = 0
index_of c (b ∷ bs) = index_after (eqb b c) (index_of c bs)

-- the bytes of a number at most, and those of a date
abbrev pub most_number_bytes : ℕ
most_number_bytes = 20

abbrev pub date_bytes : ℕ
date_bytes = 10

-- the bytes that the listing program's text has room for
abbrev pub text_bytes : ℕ
text_bytes = 65536
