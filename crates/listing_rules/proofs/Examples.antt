-- Document 01's marked examples M1 to M9 as one table's statement, M1 being the listing to the byte; and bad lines.
use mathlib.Core.Path.{◌≡◌, refl, ap}
use mathlib.Core.List.{List, ◌∷◌, ◌++◌, map}
use Prim.Native.Nat.{ℕ}
use lib.IntN.{ℤ, pos}
use Rattle.decimal.specs.Decimal.{digits_within, digits_of, text_of, two_digits, text_of_date, date_text, digit_value, all_digits, value_after, magnitude, held_plain, held_minus, plain, minus, negated, number_of, in_first, fields_of, all_numbers, is_numbers, numbers_in, numbers_of}
use Rattle.rules.proofs.Computing.{computing}
use Rattle.rules.proofs.Examples as rules
use Rattle.rules.proofs.Examples.{Case, ◌gives◌}
use Rattle.call_rules.proofs.CallComputing.{computing_calls}
use Rattle.listing_rules.specs.Texts.{bytes_of, same, lines_of, field, line, answer_text, row_text, account_text, book_text, bad_line}
use Rattle.listing_rules.specs.Listing.{listing_tables, opens, is_good, posted, book_by, good_text, listed, listing}

-- every definition that the listing computes by
unfoldable shown : Unit {0}
unfolding computing computing_calls date_text text_of_date two_digits
    digits_within digits_of text_of digit_value all_digits value_after magnitude held_plain held_minus plain minus negated number_of in_first fields_of all_numbers is_numbers numbers_in numbers_of
    bytes_of same lines_of field line answer_text row_text account_text book_text bad_line listing_tables opens is_good posted book_by good_text listed listing
shown = tt

-- the input of document 01's example, M1, with f and g (document 02, No. 1)
abbrev example : List ℕ
example =
    bytes_of "day,len,f2,f3,f4,r1t,r1p,r2t,r2p,r3t,r3p\n"
    ++ bytes_of "1,30,500,2500,3000,250,500,600,900,1200,1600\n"
    ++ bytes_of "kind,account,a,b,c,d,e,f,g\n"
    ++ bytes_of "1,7,0,0,0,0,0,0,0\n"
    ++ bytes_of "2,7,41,1,2,60,2,0,0\n"
    ++ bytes_of "3,7,300,2,0,0,0,0,0\n"
    ++ bytes_of "5,7,1,0,0,0,0,0,0\n"
    ++ bytes_of "3,7,400,1,0,0,0,0,0\n"
    ++ bytes_of "6,7,1,1,0,0,0,0,0\n"
    ++ bytes_of "2,7,41,1,2,60,2,0,0\n"

-- what document 01 says that it prints
abbrev printed : List ℕ
printed =
    bytes_of "event,answer,row,rows,raised,removed\n"
    ++ bytes_of "1,0,0,0,0,0\n"
    ++ bytes_of "2,0,1,1,0,0\n"
    ++ bytes_of "3,0,2,1,0,0\n"
    ++ bytes_of "4,0,0,0,0,0\n"
    ++ bytes_of "5,0,3,1,0,0\n"
    ++ bytes_of "6,0,4,1,0,0\n"
    ++ bytes_of "7,8,0,0,0,0\n"
    ++ bytes_of "row,account,kind,date,amount,settled\n"
    ++ bytes_of "1,7,1,2000-01-01,500,500\n"
    ++ bytes_of "2,7,4,2000-01-01,300,300\n"
    ++ bytes_of "3,7,4,2000-01-01,400,0\n"
    ++ bytes_of "4,7,5,2000-01-01,500,200\n"
    ++ bytes_of "account,state,balance\n"
    ++ bytes_of "7,1,700\n"

-- M1, and M2 to M9 as the rules have them
unfoldable pub marked : List Case
marked = (listing example gives printed) ∷ rules.cases

-- "Marked M, proved together as one table's statement": every case computes to what document 01 says
pub marked-examples : map (λ c. c.got) marked ≡ map (λ c. c.want) marked
unfolding shown marked
marked-examples = ap (λ (l : List (List ℤ)). map pos printed ∷ l) rules.examples

-- "A bad line N prints `bad line N` in place of its answer and ends the output": a number of line 5 is missing, and line 6 is not read
bad-event :
    listing
    (bytes_of "day,len,f2,f3,f4,r1t,r1p,r2t,r2p,r3t,r3p\n"
    ++ bytes_of "1,30,500,2500,3000,250,500,600,900,1200,1600\n"
    ++ bytes_of "kind,account,a,b,c,d,e,f,g\n"
    ++ bytes_of "1,7,0,0,0,0,0,0,0\n"
    ++ bytes_of "2,7,41,1,2,60,2,0\n"
    ++ bytes_of "1,8,0,0,0,0,0,0,0\n")
    ≡ bytes_of "event,answer,row,rows,raised,removed\n" ++ bytes_of "1,0,0,0,0,0\n" ++ bytes_of "bad line 5\n"
unfolding shown
bad-event = refl

-- "A toll takes the list in force on its passage day" (document 02, No. 1): the list that event 2 adds begins on day 3
rated :
    listing
    (bytes_of "day,len,f2,f3,f4,r1t,r1p,r2t,r2p,r3t,r3p\n"
    ++ bytes_of "2,30,500,2500,3000,250,500,600,900,1200,1600\n"
    ++ bytes_of "kind,account,a,b,c,d,e,f,g\n"
    ++ bytes_of "1,7,0,0,0,0,0,0,0\n"
    ++ bytes_of "10,0,3,300,550,650,950,1250,1650\n"
    ++ bytes_of "9,0,0,0,0,0,0,0,0\n"
    ++ bytes_of "2,7,41,2,2,60,2,0,0\n"
    ++ bytes_of "2,7,42,3,2,60,2,0,0\n")
    ≡ bytes_of "event,answer,row,rows,raised,removed\n"
    ++ bytes_of "1,0,0,0,0,0\n"
    ++ bytes_of "2,0,0,0,0,0\n"
    ++ bytes_of "3,0,0,0,0,0\n"
    ++ bytes_of "4,0,1,1,0,0\n"
    ++ bytes_of "5,0,2,1,0,0\n"
    ++ bytes_of "row,account,kind,date,amount,settled\n"
    ++ bytes_of "1,7,1,2000-01-03,500,0\n"
    ++ bytes_of "2,7,1,2000-01-03,550,0\n"
    ++ bytes_of "account,state,balance\n"
    ++ bytes_of "7,1,-1050\n"
unfolding shown
rated = refl

-- "for line 2, if the opening refuses it": there is no day 0; "for lines 1 to 3 that is the whole output"
refused :
    listing
    (bytes_of "day,len,f2,f3,f4,r1t,r1p,r2t,r2p,r3t,r3p\n"
    ++ bytes_of "0,30,500,2500,3000,250,500,600,900,1200,1600\n"
    ++ bytes_of "kind,account,a,b,c,d,e,f,g\n")
    ≡ bytes_of "bad line 2\n"
unfolding shown
refused = refl

-- "Lines end in a line feed, the last one's optional": line 2 is taken without it, and line 3 is missing
unended : listing (bytes_of "day,len,f2,f3,f4,r1t,r1p,r2t,r2p,r3t,r3p\n" ++ bytes_of "1,30,500,2500,3000,250,500,600,900,1200,1600") ≡ bytes_of "bad line 3\n"
unfolding shown
unended = refl

-- "So is a missing one of lines 1 to 3": an empty input
empty : listing (bytes_of "") ≡ bytes_of "bad line 1\n"
unfolding shown
empty = refl
