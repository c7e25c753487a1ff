-- A line taken: whether it is good, the book after it, and what is printed for it.
use Rattle.std.specs.Prelude.{◌≡◌, true, cond, ℕ, ◌+◌, ◌*◌, ◌≤◌, List, [], ◌++◌, length, Result, is_ok}
use Rattle.records.specs.Layout.{header_width, account_width, row_width}
use Rattle.rules.specs.Book.{Book}
use Rattle.rules.specs.Tables.{Tables, book_of, sound_tables}
use Rattle.listing_rules.specs.Texts.{bytes_of, line, bad_line}
use Rattle.listing_rules.specs.Listing.{listed_accounts, listed_rows, is_good, good_text, book_by}
use Rattle.listing_rules.specs.Sizes.{most_answer_bytes}
use Rattle.listing_lines.specs.declared.BadLine.{BadLine}

-- "It holds 64 accounts and 512 rows"; and the list of holidays is "empty for the listing" (document 02, No. 6)
pub record Sized (t : Tables) : Type 0 where
  pub header : length t.header ≡ header_width
  pub accounts : length t.accounts ≡ listed_accounts * account_width
  pub journal : length t.journal ≡ listed_rows * row_width
  pub holidays : t.holidays ≡ []

-- the tables when n lines are taken: the book is sound once line 2 has opened it
pub record Ready (n : ℕ) (t : Tables) : Type 0 where
  pub sized : Sized t
  pub sound : 2 ≤ n → sound_tables t ≡ true

-- whether a line is good
abbrev pub Verdict : Type 0
Verdict = Result (Unit {0}) BadLine

-- the names that are printed for line 3
abbrev pub answer_names : List ℕ
answer_names = line (bytes_of "event,answer,row,rows,raised,removed")

-- what is printed for a line, n lines before it
unfoldable pub line_text : ℕ → Book → List ℕ → List ℕ
line_text n b l = cond (is_good n l) (good_text n b l) (bad_line (n + 1))

-- the line l, n lines before it, is judged, and carried out where it is good: the tables t become u
pub record Judged (n : ℕ) (t u : Tables) (l : List ℕ) (r : Verdict) : Type 0 where
  pub good : is_ok r ≡ is_good n l
  pub book : is_good n l ≡ true → book_of u ≡ book_by n (book_of t) l
  pub ready : is_good n l ≡ true → Ready (n + 1) u

-- and what is printed for it where it is good follows the text b, which makes it c
pub record Carried (n : ℕ) (t u : Tables) (l b c : List ℕ) (r : Verdict) : Type 0 where
  pub judged : Judged n t u l r
  pub text : c ≡ b ++ cond (is_good n l) (good_text n (book_of t) l) []
  pub short : length c ≤ length b + most_answer_bytes

-- the line l, n lines before it, makes the tables t to u and the printed bytes b to c
pub record Taken (n : ℕ) (t u : Tables) (l b c : List ℕ) (r : Verdict) : Type 0 where
  pub good : is_ok r ≡ is_good n l
  pub text : c ≡ b ++ line_text n (book_of t) l
  pub short : length c ≤ length b + most_answer_bytes
  pub book : is_good n l ≡ true → book_of u ≡ book_by n (book_of t) l
  pub ready : is_good n l ≡ true → Ready (n + 1) u
