-- An event but a tick is posted alike with any holidays: what is shown of the three tables that it writes holds of the book.
use mathlib.Core.Path.{◌≡◌, sym, ap, ◌∙◌}
use mathlib.Core.Bool.{true, false}
use mathlib.Core.List.{map}
use Rattle.std.specs.Prelude.{Err}
use Rattle.records.specs.declared.refusals.Refusal.{Refusal}
use Rattle.records.specs.Codes.{event_tick}
use Rattle.records.specs.Encoding.{nat_of}
use Rattle.records.specs.Outcomes.{number_of, answer_of}
use Rattle.lists.specs.Tests.{◌is◌}
use Rattle.rules.specs.Book.{Instruction, Answer, with_holidays}
use Rattle.rules.specs.Refusals.{answer_number}
use Rattle.rules.specs.Posting.{Posted, post}
use Rattle.rules.specs.Tables.{Tables, tables_with, book_of, tables_of, sound_tables}
use Rattle.rules.proofs.HolidayFrame.{post-with_holidays}
use Rattle.rules.proofs.HolidayTables.{book_of-tables_with, sound-holidays, tables_of-with_holidays}
use Rattle.posting.specs.Posts.{Posts, PostsAny}
use Rattle.posting_laws.proofs.AddedLaws.{posts-refused}

pub posts-any : (t u : Tables) (e : Instruction) (r : Answer) → e.kind is event_tick ≡ false → Posts t u e r → PostsAny t u e r
posts-any t u e r n p hs s = record { answer = p.answer ∙ sym (ap (λ (q : Posted). q.answer) same); tables = ap (tables_with hs) p.tables ∙ sym kept ∙ sym (ap (λ (q : Posted). tables_of q.book) same) }
  where
    same : post (book_of (tables_with hs t)) e ≡ record { answer = (post (book_of t) e).answer; book = with_holidays (map nat_of hs) (post (book_of t) e).book }
    same = rw (book_of-tables_with hs t) (post-with_holidays (map nat_of hs) (book_of t) e n)

    kept : tables_of (with_holidays (map nat_of hs) (post (book_of t) e).book) ≡ tables_with hs (tables_of (post (book_of t) e).book)
    kept = tables_of-with_holidays hs (post (book_of t) e).book (sound-holidays hs t s)

-- so a refusal, at which the tables stay
pub refused-any : (t : Tables) → sound_tables t ≡ true → (e : Instruction) (r : Refusal) → e.kind is event_tick ≡ false → number_of r ≡ answer_number (book_of t) e
    → PostsAny t t e (answer_of (Err r))
refused-any t s e r n q = posts-any t t e (answer_of (Err r)) n (posts-refused t s e r q)
