-- What is posted: the answer of an accepted event, and the tables after one row is added and an account settled.
use mathlib.Core.Path.{◌≡◌, refl, sym, ◌∙◌}
use mathlib.Core.Bool.{true, false}
use Prim.Native.Nat.{ℕ, ◌+◌, ◌-◌, ◌^◌, ◌<◌}
use native.Mathlib.Omega.{arith}
use native.Mathlib.Decide.{ℕ_discrete}
use mathlib.Core.List.{List, [], ◌∷◌, ◌++◌}
use lib.ListN.{length, length-set, length-append}
use lib.IntN.{ℤ}
use borrow.Author.Tests.{eq-eqb}
use Rattle.std.specs.Prelude.{Err}
use Rattle.records.specs.declared.refusals.Refusal.{Refusal}
use Rattle.records.specs.Outcomes.{number_of, answer_of}
use Rattle.records.proofs.OutcomeLaws.{number_of-not_0}
use Rattle.records.specs.Layout.{day_place, used_place}
use Rattle.records.specs.Encoding.{word, row_at, rows_of, accounts_of}
use Rattle.rules.specs.Rows.{Row}
use Rattle.rules.specs.Settlement.{settle}
use Rattle.rules.specs.Book.{Account, Instruction, Answer, Book}
use Rattle.rules.specs.Refusals.{whole_book, after, answer_number}
use Rattle.rules.specs.Posting.{new_rows, removes_topup, acceptance}
use Rattle.rules.specs.Tables.{Tables, accounts_in, room_in, rows_used, book_of, tables_of, sound_tables}
use Rattle.rules.proofs.PostingLaws.{post-refused, post-accepted}
use Rattle.rules.proofs.SettlementLaws.{length-settle}
use Rattle.rules.proofs.SoundnessLaws.{facts-sound}
use Rattle.rules.proofs.TableLaws.{sound-book, sound-rows, tables_of-book_of, header-length, journal-length}
use Rattle.preservation.proofs.SoundKept.{after-keeps-sound}
use Rattle.tables.proofs.ChangeLaws.{changed-append, word_same, word-other}
use Rattle.settlement.specs.Settling.{Journal, Settled}
use Rattle.posting.specs.Posts.{tables_over, acceptance_of, RowAdded, Posts}
use Rattle.posting.proofs.BookLaws.{day-read, used-read, room-read, journal-settles}
use Rattle.posting.specs.Written.{Written}
use Rattle.posting_laws.proofs.EventLaws.{named-no-tick}
use Rattle.posting_laws.proofs.WrittenLaws.{tables-written}

-- ---- the answer

-- an event that names an account and is no third decline
pub acceptance-plain : (b : Book) (e : Instruction) (n : ℕ) → length (after b e).rows ≡ length b.rows + n → whole_book e ≡ false → removes_topup b e ≡ false
    → acceptance_of (length b.rows) n 0 0 ≡ acceptance b e
unfolding acceptance new_rows
acceptance-plain b e n l k r =
    let z : length b.rows + n - length b.rows ≡ n = omega arith in
    rw (l, z, named-no-tick e k, r)

-- ---- refused: the tables stay

pub posts-refused : (t : Tables) → sound_tables t ≡ true → (e : Instruction) (r : Refusal) → number_of r ≡ answer_number (book_of t) e → Posts t t e (answer_of (Err r))
posts-refused t s e r q =
    let p = post-refused (book_of t) e (rw q at (number_of-not_0 r)) in
    record { answer = rw (p, ← q); tables = rw p (sym (tables_of-book_of t s)) }

-- ---- accepted: the tables hold the book after the event

pub posts-after : (t u : Tables) (e : Instruction) (r : Answer) → 0 ≡ answer_number (book_of t) e → r ≡ acceptance (book_of t) e → u ≡ tables_of (after (book_of t) e) → Posts t u e r
posts-after t u e r q a w = let p = post-accepted (book_of t) e (eq-eqb _ _ (sym q)) in record { answer = rw p a; tables = rw p w }

pub posts-accepted : (t u : Tables) → sound_tables t ≡ true → (e : Instruction) (r : Answer) → 0 ≡ answer_number (book_of t) e → r ≡ acceptance (book_of t) e
    → Written t u (after (book_of t) e) → Posts t u e r
posts-accepted t u s e r q a w =
    let k = after-keeps-sound (book_of t) e (facts-sound (book_of t) (sound-book t s)) (sym q) in
    posts-after t u e r q a (tables-written t u (after (book_of t) e) s k w)

-- ---- one row added, and then settlement of account a

module _ (t : Tables) (s : sound_tables t ≡ true) (h j j'' acc : List ℤ) (r : Row) (a : ℕ) (xs : List Account)
    (w : RowAdded t.header h t.journal j r) (d : Settled j j'' (rows_used t + 1) a) (l : rows_used t < room_in t)
    (size : length acc ≡ length t.accounts) (held : accounts_of acc (accounts_in t) ≡ xs) where
  abbrev grown : Book
  grown = record {
    day = (book_of t).day;
    schedule = (book_of t).schedule;
    lists = (book_of t).lists;
    accounts = xs;
    rows = settle a ((book_of t).rows ++ (r ∷ []));
    room = (book_of t).room;
    holidays = (book_of t).holidays;
  }

  rows_grown : rows_of j (rows_used t + 1) ≡ (book_of t).rows ++ (r ∷ [])
  rows_grown = changed-append row_at t.journal j (rows_used t) r w.row ∙ rw (← sound-rows t s)

  length-grown : length grown.rows ≡ rows_used t + 1
  length-grown = length-settle a ((book_of t).rows ++ (r ∷ [])) ∙ length-append (book_of t).rows (r ∷ []) ∙ rw (← used-read t s)

  other_word : (k : ℕ) → (k ≡ used_place → ⊥) → word h k ≡ word t.header k
  other_word k n = rw w.header (word-other t.header used_place _ k n)

  used-word : word h used_place ≡ rows_used t + 1
  used-word = rw w.header (word_same t.header used_place _ (omega (arith, header-length t s)))

  pub row_written : Written t (tables_over t h acc j'') grown
  row_written = record {
    header-size = rw w.header (length-set t.header used_place _);
    accounts-size = size;
    journal-size = d.size ∙ w.row.size;
    day = other_word day_place (λ z. omega arith) ∙ day-read t s;
    used = used-word ∙ sym length-grown;
    fixed = λ k q. other_word k (λ z. omega arith);
    schedule = refl;
    lists = refl;
    holidays = refl;
    same-holidays = refl;
    accounts = held;
    rows = rw length-grown (d.rows ∙ rw rows_grown);
    room = sym (room-read t s);
    longer = rw length-grown (omega arith);
    rest = λ k q. d.rest k (rw length-grown at q) ∙ w.row.others k (λ z. omega (arith, rw length-grown at q));
  }

-- the journal with the row added can be settled
pub added-journal : (t : Tables) → sound_tables t ≡ true → (h j : List ℤ) (r : Row) → RowAdded t.header h t.journal j r → rows_used t < room_in t → r.amount < 2 ^ 63
    → Journal j (rows_used t + 1)
added-journal t s h j r w l a =
    let g = journal-settles t s in
    record {
      room = rw w.row.size (omega (arith, journal-length t s));
      amounts = λ k q. at k q (ℕ_discrete k (rows_used t));
    }
  where
    at : (k : ℕ) → k < rows_used t + 1 → Dec (k ≡ rows_used t) → (row_at j k).amount < 2 ^ 63
    at k q (yes e) = rw (e, w.row.there) a
    at k q (no n) = rw (w.row.others k n) ((journal-settles t s).amounts k (omega arith))
