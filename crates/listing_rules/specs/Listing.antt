-- The listing (document 01, "Questions, dates, listing"): the bytes that the program prints for the bytes that it reads.
use Rattle.std.specs.Prelude.{ℕ, ◌+◌, ◌-◌, ◌*◌, Bool, cond, ◌&&◌, List, [], ◌∷◌, ◌++◌, pos, get_or, replicate, ltb}
use Rattle.records.specs.Layout.{header_width, account_width, row_width, opening_width, event_width}
use Rattle.records.specs.Encoding.{instruction_from}
use Rattle.lists.specs.Tests.{◌is◌, first}
use Rattle.decimal.specs.Decimal.{is_numbers, numbers_of}
use Rattle.rules.specs.Book.{Book}
use Rattle.rules.specs.Posting.{Posted, receive}
use Rattle.rules.specs.Tables.{Tables, book_of}
use Rattle.call_rules.specs.Calls.{opening_refusals, opened_book}
use Rattle.listing_rules.specs.Texts.{bytes_of, same, lines_of, opening_names, event_names, line, answer_text, book_text, bad_line}

-- "It holds 64 accounts and 512 rows"
abbrev pub listed_accounts : ℕ
listed_accounts = 64

abbrev pub listed_rows : ℕ
listed_rows = 512

-- as many lines as a 64-bit number counts
abbrev pub most_lines : ℕ
most_lines = 18_446_744_073_709_551_615

-- the tables before line 2; the list of holidays is "empty for the listing" (document 02, No. 6)
unfoldable pub listing_tables : Tables
listing_tables = record {
  header = replicate header_width (pos 0);
  accounts = replicate (listed_accounts * account_width) (pos 0);
  journal = replicate (listed_rows * row_width) (pos 0);
  holidays = [];
}

-- ---- a line, n of them before it

-- line 2: "its exact count of signed 64-bit numbers", and the opening takes it
unfoldable pub opens : List ℕ → Bool
opens l = is_numbers opening_width l && first (opening_refusals listing_tables (numbers_of l)) is 0

-- "A line is bad if it isn't the fixed names, or isn't its exact count of signed 64-bit numbers .., or, for line 2, if the opening
-- refuses it"
unfoldable pub is_good : ℕ → List ℕ → Bool
is_good n l = get_or (same l opening_names ∷ opens l ∷ same l event_names ∷ []) n (is_numbers event_width l)

-- the event of a line, posted
unfoldable pub posted : Book → List ℕ → Posted
posted b l = receive b (instruction_from (numbers_of l))

-- the book after a good line: line 2 opens it, an event line posts to it
unfoldable pub book_by : ℕ → Book → List ℕ → Book
book_by n b l = get_or (b ∷ opened_book listing_tables (numbers_of l) ∷ b ∷ []) n (posted b l).book

-- what is printed for a good line: after line 3 the answers' names, for an event line its answer, the events numbered from 1
unfoldable pub good_text : ℕ → Book → List ℕ → List ℕ
good_text n b l =
    get_or ([] ∷ [] ∷ line (bytes_of "event,answer,row,rows,raised,removed") ∷ []) n (answer_text (n - 2) (posted b l).answer)

-- ---- the whole

-- the lines from the n-th on, in the book that the lines before have left. "A bad line N prints `bad line N` in place of its answer and
-- ends the output"; "So is a missing one of lines 1 to 3"
unfoldable pub listed : ℕ → Book → List (List ℕ) → List ℕ
listed n b [] = cond (ltb n 3) (bad_line (n + 1)) (book_text b)
listed n b (l ∷ ls) = cond (is_good n l) (good_text n b l ++ listed (n + 1) (book_by n b l) ls) (bad_line (n + 1))

-- what the program prints for an input
unfoldable pub listing : List ℕ → List ℕ
listing input = listed 0 (book_of listing_tables) (lines_of input)
