-- What the listing prints for the bytes that are read and whatever comes after them: by their first line, where it has ended or is too
-- long.
use mathlib.Core.Path.{◌≡◌, refl, ap, ◌∙◌}
use mathlib.Core.Bool.{cond}
use mathlib.Core.List.{List, ◌∷◌, ◌++◌}
use Prim.Native.Nat.{ℕ, ◌+◌, ◌<◌}
use native.Mathlib.Omega.{arith}
use native.Mathlib.Numerals.{add-one}
use lib.ListN.{length, take, drop, length-append}
use Rattle.decimal.specs.Bytes.{index_of}
use Rattle.rules.specs.Book.{Book}
use Rattle.listing_rules.specs.Texts.{lines_of, bad_line}
use Rattle.listing_rules.specs.Listing.{is_good, book_by, good_text, listed}
use Rattle.listing_rules.specs.Sizes.{most_line_bytes}
use Rattle.listing_rules.proofs.LineLaws.{lines_cut, lines-begin}
use Rattle.listing_rules.proofs.LengthLaws.{long-bad}

-- ---- listed

-- a first line
pub listed-line : (n : ℕ) (b : Book) (l : List ℕ) (lines ls : List (List ℕ)) → lines ≡ l ∷ ls
    → listed n b lines ≡ cond (is_good n l) (good_text n b l ++ listed (n + 1) (book_by n b l) ls) (bad_line (n + 1))
unfolding listed
listed-line n b l lines ls e = ap (listed n b) e

-- the first line has ended: it is taken, and the rest is listed after it
pub line_taken : (n : ℕ) (b : Book) (input : List ℕ) (stop : ℕ) (more : List ℕ) → stop ≡ index_of 10 input → stop < length input
    → listed n b (lines_of (input ++ more))
    ≡ cond (is_good n (take stop input)) (good_text n b (take stop input) ++ listed (n + 1) (book_by n b (take stop input)) (lines_of (drop (stop + 1) input ++ more))) (bad_line (n + 1))
line_taken n b input stop more e h = rw (add-one stop) (listed-line n b _ _ _ (lines_cut input stop more (rw e refl) h))

-- more bytes than a good line has, and no line feed among them
pub line-too-long : (n : ℕ) (b : Book) (input more : List ℕ) → index_of 10 input ≡ length input → most_line_bytes < length input
    → listed n b (lines_of (input ++ more)) ≡ bad_line (n + 1)
line-too-long n b input more e h =
    let s = lines-begin input more e (omega arith) in
    listed-line n b _ _ _ s.are
    ∙ rw (long-bad n (input ++ s.rest) (omega (arith, length-append input s.rest))) refl
