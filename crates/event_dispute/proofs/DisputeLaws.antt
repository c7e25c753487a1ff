-- Event 5: which refusals concern it, and the row that it changes.
use mathlib.Core.Path.{◌≡◌, refl, sym}
use mathlib.Core.Bool.{Bool, true, false, not, ◌&&◌, ◌||◌}
use Prim.Native.Nat.{◌+◌, ◌<◌}
use native.Mathlib.Omega.{arith}
use mathlib.Core.List.{[], ◌∷◌}
use lib.ListN.{length}
use lib.Dec.{ltb}
use Rattle.records.specs.Numbers.{answer_no_row, answer_untimely}
use Rattle.records.specs.Codes.{dispute_never, event_dispute}
use Rattle.records.specs.Encoding.{StorableRow}
use Rattle.lists.specs.Tests.{◌is◌, first}
use Rattle.rules.specs.Rows.{Row, kind_toll, toll, unsettled}
use Rattle.rules.specs.Book.{Instruction, Book, row, put_row}
use Rattle.rules.specs.Events.{hold_from, hold_toll}
use Rattle.rules.specs.Refusals.{change_of, no_row, full, answer_number, own_refusals}
use Rattle.rules.specs.Tables.{Tables, book_of, sound_tables}
use Rattle.rules.proofs.RefusalLaws.{own_tests, answer_number-own}
use Rattle.rules.proofs.StorableLaws.{day-le}
use Rattle.rules.proofs.TableLaws.{sound-book, used_le}
use Rattle.preservation.proofs.Accepted.{accepted}
use Rattle.preservation.proofs.LookupLaws.{named-kind}
use Rattle.posting.proofs.BookLaws.{row-holds}
use Rattle.records.specs.Updates.{of_kind}
use Rattle.posting_laws.proofs.RefusalLaws.{at-kind, rows-suffice}
use Rattle.posting_laws.proofs.PutRowLaws.{length-put, no-ceiling-put}
use Rattle.event_refusals.specs.Admissions.{Admitted}
use Rattle.event_ends.specs.Ends.{Puts}
use Rattle.event_dispute.specs.Dispute.{dispute_refusals}

-- the row that event 5 leaves
abbrev pub held_row : Book → Instruction → Row
held_row b e = hold_from b.day (row b e.a)

changed : (b : Book) (e : Instruction) → e.kind ≡ event_dispute → change_of e.kind b e ≡ put_row e.a (held_row b e) b
unfolding change_of hold_toll
changed b e k = at-kind (λ x. change_of x.kind b x ≡ put_row x.a (held_row b x) b) e 5 k refl

module _ (b : Book) (e : Instruction) where
  abbrev event5 : Instruction
  event5 = of_kind event_dispute e

  own-5 : ltb b.room (length b.rows + 0) ≡ false → first (own_refusals b event5) ≡ first (dispute_refusals b event5)
  unfolding own_tests full dispute_refusals
  own-5 f =
      let c = changed b event5 refl in
      rw (length-put b event5 e.a _ c, no-ceiling-put b event5 e.a _ c, f)

-- the number that event 5 gets, with what each test came to
pub answer-by : (t : Tables) → sound_tables t ≡ true → (e : Instruction) → e.kind ≡ event_dispute → Admitted t e → (n c : Bool)
    → toll (row (book_of t) e.a) && (row (book_of t) e.a).account is e.account ≡ n
    → not (unsettled (row (book_of t) e.a)) || not ((row (book_of t) e.a).dispute is dispute_never) ≡ c
    → first ((answer_no_row, not n) ∷ (answer_untimely, c) ∷ []) ≡ answer_number (book_of t) e
unfolding dispute_refusals
answer-by t s e k d n c v w =
    let a = at-kind (λ x. first (own_refusals (book_of t) x) ≡ first (dispute_refusals (book_of t) x)) e 5 k (own-5 (book_of t) e (rows-suffice t s 0 (omega (arith, used_le t s)))) in
    rw (answer_number-own (book_of t) e d, a, v, w)

-- ---- what an accepted event 5 leaves

module _ (t : Tables) (s : sound_tables t ≡ true) (e : Instruction) (k : e.kind ≡ event_dispute) (q : 0 ≡ answer_number (book_of t) e) where
  abbrev b : Book
  b = book_of t

  is-toll : (row b e.a).kind ≡ kind_toll
  unfolding no_row
  is-toll = at-kind (λ x. no_row b x ≡ false → (row b x.a).kind ≡ kind_toll) e 5 k (named-kind b e.a e.account 1) (accepted b e (sym q)).named

  has-kind : 0 < (row b e.a).kind
  has-kind = omega (arith, is-toll)

  dispute-storable : StorableRow (held_row b e)
  unfolding hold_from
  dispute-storable =
      let h = row-holds t s e.a in
      record {
        kind = h.kind;
        account = h.account;
        day = h.day;
        amount = h.amount;
        settled = h.settled;
        mark = h.mark;
        due = h.due;
        dispute = omega arith;
        hold = omega (arith, day-le b.day b (sound-book t s).near);
        reference = h.reference;
      }

  -- settlement does not read the two words that change
  pub dispute-puts : Puts t e (held_row b e)
  unfolding hold_from
  dispute-puts = record {
    accepted = q;
    stands = has-kind;
    change = changed b e k;
    names-account = rw k;
    keeps-topup = rw k;
    storable = dispute-storable;
    kind = refl;
    account = refl;
    amount = refl;
    settled = refl;
  }
