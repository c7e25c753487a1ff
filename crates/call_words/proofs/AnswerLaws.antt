-- The answer of any event on a sound book is small, so that a signed word can hold each of its words.
use mathlib.Core.Path.{◌≡◌, refl, ◌∙◌}
use mathlib.Core.Bool.{Bool, true, false}
use Prim.Native.Nat.{ℕ, ◌+◌, ◌≤◌}
use native.Mathlib.Omega.{arith}
use mathlib.Core.List.{[], ◌∷◌, map}
use lib.ListN.{length, length-map}
use lib.Dec.{eqb, leb}
use borrow.Author.Tests.{leb-true, ltb-false, eqb-true}
use Rattle.records.specs.Numbers.{answer_successor}
use Rattle.records.specs.Codes.{event_tick}
use Rattle.lists.specs.Tests.{all_of, Cases, first, ◌is◌}
use Rattle.lists.proofs.TestLaws.{and_left, and_right, cond_either}
use Rattle.lists.proofs.SumLaws.{count-le}
use Rattle.records.specs.Limits.{most_rows}
use Rattle.rules.specs.Book.{Instruction, Answer, Book}
use Rattle.rules.specs.Soundness.{sound}
use Rattle.rules.specs.Tick.{next_day, end_holds, before_raising, raised_by, rises}
use Rattle.rules.specs.Refusals.{after, full, refusals, answer_number}
use Rattle.rules.specs.Posting.{new_rows, acceptance, refusal_by, post, removes_topup}
use Rattle.rules.specs.Tables.{Tables, book_of, sound_tables}
use Rattle.rules.proofs.PostingLaws.{post-refused, post-accepted}
use Rattle.rules.proofs.SoundnessLaws.{sound-facts, facts-sound}
use Rattle.rules.proofs.StorableLaws.{room-le, rows-le}
use Rattle.rules.proofs.TableLaws.{sound-book}
use Rattle.preservation.proofs.Accepted.{accepted}
use Rattle.preservation.proofs.SettledLaws.{length-settled}
use Rattle.call_words.specs.Answers.{StorableAnswer}

-- the highest number of a refusal
abbrev pub last_number : ℕ
last_number = answer_successor

pub record SmallAnswer (x : Answer) : Type 0 where
  pub number : x.number ≤ last_number
  pub first : x.first ≤ most_rows + 1
  pub added : x.added ≤ most_rows
  pub raised : x.raised ≤ most_rows
  pub removed : x.removed ≤ 1

pub small-storable : (x : Answer) → SmallAnswer x → StorableAnswer x
small-storable x s = record {
  number = omega (arith, s.number);
  first = omega (arith, s.first);
  added = omega (arith, s.added);
  raised = omega (arith, s.raised);
  removed = omega (arith, s.removed);
}

pub refusal-small : (n : ℕ) → n ≤ last_number → SmallAnswer (refusal_by n)
refusal-small n h = record { number = h; first = omega arith; added = omega arith; raised = omega arith; removed = omega arith }

-- ---- the number

pub first-le : (n : ℕ) (cs : Cases) → all_of (map (λ c. leb c.0 n) cs) ≡ true → first cs ≤ n
unfolding first all_of
first-le n [] e = omega arith
first-le n (c ∷ cs) e =
    cond_either (λ k. k ≤ n) c.1 c.0 (first cs)
    (leb-true c.0 n (and_left (leb c.0 n) (all_of (map (λ c. leb c.0 n) cs)) e))
    (first-le n cs (and_right (leb c.0 n) (all_of (map (λ c. leb c.0 n) cs)) e))

pub number-le : (b : Book) (e : Instruction) → answer_number b e ≤ last_number
unfolding answer_number refusals all_of
number-le b e = first-le last_number (refusals b e) refl

-- ---- the rows

module _ (b : Book) (s : sound b ≡ true) where
  rows_few : length b.rows ≤ most_rows
  rows_few =
      let n = (sound-facts b s).near in
      omega (arith, rows-le b.day b n, room-le b.day b n)

  raised-le : raised_by b ≤ most_rows
  unfolding raised_by before_raising end_holds next_day
  raised-le =
      let c = count-le (rises (before_raising b).day) (before_raising b).rows in
      let l = length-settled (end_holds (next_day b)) ∙ length-map b.rows _ in
      omega (arith, rows_few)

  added-le : (e : Instruction) → answer_number b e ≡ 0 → new_rows b e ≤ most_rows
  unfolding new_rows full
  added-le e q =
      let f = ltb-false b.room (length (after b e).rows) (accepted b e q).fits in
      omega (arith, room-le b.day b (sound-facts b s).near)

  acceptance-small : (e : Instruction) → answer_number b e ≡ 0 → SmallAnswer (acceptance b e)
  unfolding acceptance
  acceptance-small e q = record {
    number = omega arith;
    first = cond_either (λ k. k ≤ most_rows + 1) (new_rows b e is 0) 0 (length b.rows + 1) (omega arith) (omega (arith, rows_few));
    added = added-le e q;
    raised = cond_either (λ k. k ≤ most_rows) (e.kind is event_tick) (raised_by b) 0 raised-le (omega arith);
    removed = cond_either (λ k. k ≤ 1) (removes_topup b e) 1 0 (omega arith) (omega arith);
  }

  -- ---- post

  pub answer-small : (e : Instruction) → SmallAnswer (post b e).answer
  answer-small e = go (eqb (answer_number b e) 0) refl
    where
      go : (t : Bool) → eqb (answer_number b e) 0 ≡ t → SmallAnswer (post b e).answer
      go true q = rw (post-accepted b e q) (acceptance-small e (eqb-true (answer_number b e) 0 q))
      go false q = rw (post-refused b e q) (refusal-small (answer_number b e) (number-le b e))

-- ---- on tables

-- the answer of an event on sound tables can be stored
pub answer-storable : (t : Tables) → sound_tables t ≡ true → (e : Instruction) (x : Answer) → x ≡ (post (book_of t) e).answer → StorableAnswer x
answer-storable t s e x q = rw q (small-storable (post (book_of t) e).answer (answer-small (book_of t) (facts-sound (book_of t) (sound-book t s)) e))
