-- How many bytes a line of the listing has at most.
use Rattle.std.specs.Prelude.{ℕ, ◌+◌, ◌-◌, ◌*◌}
use Rattle.records.specs.Layout.{opening_width}
use Rattle.listing_rules.specs.Listing.{listed_accounts, listed_rows}

-- a number of at most 20 bytes and what ends its field
abbrev pub most_field_bytes : ℕ
most_field_bytes = 21

-- a good line of the input, without its line feed: the opening's values
abbrev pub most_line_bytes : ℕ
most_line_bytes = opening_width * most_field_bytes - 1

-- an answer has six fields; nothing longer is printed for a line
abbrev pub answer_fields : ℕ
answer_fields = 6

abbrev pub most_answer_bytes : ℕ
most_answer_bytes = answer_fields * most_field_bytes

-- a date and the comma after it
abbrev pub most_day_bytes : ℕ
most_day_bytes = 11

-- "row,account,kind,date,amount,settled": five numbers and a date
abbrev pub most_row_bytes : ℕ
most_row_bytes = 116

-- "account,state,balance"
abbrev pub most_account_bytes : ℕ
most_account_bytes = 63

-- the two lines of names of a book, at most
abbrev pub book_names_bytes : ℕ
book_names_bytes = 60

-- the rows and the used accounts
abbrev pub most_book_bytes : ℕ
most_book_bytes = book_names_bytes + listed_rows * most_row_bytes + listed_accounts * most_account_bytes

-- a last line's answer and the book
abbrev pub most_end_bytes : ℕ
most_end_bytes = most_answer_bytes + most_book_bytes

-- "bad line N"
abbrev pub most_bad_line_bytes : ℕ
most_bad_line_bytes = 30
