-- What a single event is answered, and what it leaves of the tables.
use Rattle.std.specs.Prelude.{◌≡◌, cond, List, ℤ}
use Rattle.records.specs.Encoding.{instruction_from}
use Rattle.lists.specs.Tests.{◌is◌, first}
use Rattle.rules.specs.Book.{Answer}
use Rattle.rules.specs.Posting.{refusal_by, receive}
use Rattle.rules.specs.Tables.{Tables, book_of}
use Rattle.call_rules.specs.Calls.{event_refusals, event_call}
use Rattle.call_words.specs.Answers.{StorableAnswer}

-- the answer of the call: of the event on the book, or of a call that is refused before
unfoldable pub call_answer : Tables → List ℤ → List ℤ → Answer
call_answer t e w =
    cond (first (event_refusals t e w) is 0) (receive (book_of t) (instruction_from e)).answer (refusal_by (first (event_refusals t e w)))

-- the event e, with the answer table w, is answered by x and leaves the tables u of the tables t
pub record AnswersTo (t u : Tables) (e w : List ℤ) (x : Answer) : Type 0 where
  pub answer : x ≡ call_answer t e w
  pub tables : u ≡ (event_call t e w).tables
  pub storable : StorableAnswer x
