-- The lines of the listing's input and output, as bytes (document 01, "Questions, dates, listing"). 10 is the line feed, 44 the comma.
use Rattle.std.specs.Prelude.{ℕ, Bool, true, false, cond, ◌&&◌, List, [], ◌∷◌, ◌++◌}
use Prim.Native.String.{String}
use Prim.Native.String as Text
use Prim.Native.Char.{code}
use Rattle.lists.specs.Tests.{◌is◌}
use Rattle.lists.specs.Lists.{gather}
use Rattle.decimal.specs.Decimal.{digits_of, text_of, date_text, in_first}
use Rattle.rules.specs.Rows.{Row}
use Rattle.rules.specs.Book.{Account, Answer, state_unused, Book, balance}

-- the bytes of a text
unfoldable pub bytes_of : String → List ℕ
bytes_of Text.[] = []
bytes_of (Text.◌∷◌ c s) = code c ∷ bytes_of s

-- the two lists of bytes are the same
unfoldable pub same : List ℕ → List ℕ → Bool
same [] [] = true
same [] (y ∷ ys) = false
same (x ∷ xs) [] = false
same (x ∷ xs) (y ∷ ys) = x is y && same xs ys

-- ---- input

-- "Lines end in a line feed, the last one's optional"
unfoldable pub lines_of : List ℕ → List (List ℕ)
lines_of [] = []
lines_of (b ∷ bs) = cond (b is 10) ([] ∷ lines_of bs) (in_first b (lines_of bs))

-- "a line of names"
abbrev pub opening_names : List ℕ
opening_names = bytes_of "day,len,f2,f3,f4,r1t,r1p,r2t,r2p,r3t,r3p"

-- "a line of event names"; "The listing's event names and lines, M1's too, gain f and g" (document 02, No. 1)
abbrev pub event_names : List ℕ
event_names = bytes_of "kind,account,a,b,c,d,e,f,g"

-- ---- output: "prints event answers, rows, used accounts"

-- a field with the comma after it, and the last field of a line
unfoldable pub field : List ℕ → List ℕ
field t = t ++ (44 ∷ [])

unfoldable pub line : List ℕ → List ℕ
line t = t ++ (10 ∷ [])

-- "event,answer,row,rows,raised,removed"
unfoldable pub answer_text : ℕ → Answer → List ℕ
answer_text n a =
    field (digits_of n) ++ field (digits_of a.number) ++ field (digits_of a.first) ++ field (digits_of a.added)
    ++ field (digits_of a.raised) ++ line (digits_of a.removed)

-- "row,account,kind,date,amount,settled"
unfoldable pub row_text : ℕ → Row → List ℕ
row_text n r =
    field (digits_of n) ++ field (digits_of r.account) ++ field (digits_of r.kind) ++ field (date_text r.day)
    ++ field (digits_of r.amount) ++ line (digits_of r.settled)

-- "account,state,balance", of "used accounts" alone
unfoldable pub account_text : Book → ℕ → Account → List ℕ
account_text b n x =
    cond (x.state is state_unused) [] (field (digits_of n) ++ field (digits_of x.state) ++ line (text_of (balance b n)))

-- rows, then used accounts, each part with its names before it
unfoldable pub book_text : Book → List ℕ
book_text b =
    line (bytes_of "row,account,kind,date,amount,settled") ++ gather row_text b.rows
    ++ line (bytes_of "account,state,balance") ++ gather (account_text b) b.accounts

-- "A bad line N prints `bad line N`"
unfoldable pub bad_line : ℕ → List ℕ
bad_line n = bytes_of "bad line " ++ line (digits_of n)
