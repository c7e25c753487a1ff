-- Event 11: which refusals concern it, and the book that it makes.
use mathlib.Core.Path.{◌≡◌, refl, sym}
use mathlib.Core.Bool.{Bool, true, false, not}
use native.Mathlib.Omega.{arith}
use mathlib.Core.List.{[], ◌∷◌}
use lib.Dec.{leb}
use borrow.Author.Tests.{leb-true, not-false}
use Rattle.records.specs.Numbers.{answer_untimely, answer_reserve}
use Rattle.records.specs.Codes.{event_reserve, code_yes}
use Rattle.records.specs.Layout.{reserve_place}
use Rattle.records.specs.Encoding.{StorableAccount}
use Rattle.records.proofs.FieldLaws.{storable-set}
use Rattle.records.specs.AccountOperations.{reserve_set}
use Rattle.lists.specs.Tests.{◌is◌, first}
use Rattle.lists.proofs.TestLaws.{and_left}
use Rattle.rules.specs.Book.{Account, Instruction, Book, account}
use Rattle.rules.specs.Events.{set_reserve}
use Rattle.rules.specs.Refusals.{change_of, zero_from-b, reserve_form, form_of, well_formed, answer_number}
use Rattle.rules.specs.Posting.{removes_topup}
use Rattle.rules.specs.Tables.{Tables, book_of, sound_tables}
use Rattle.rules.proofs.RefusalLaws.{own_tests}
use Rattle.preservation.proofs.Accepted.{accepted}
use Rattle.posting.proofs.BookLaws.{account-holds}
use Rattle.posting_laws.proofs.RefusalLaws.{at-kind}
use Rattle.posting_laws.proofs.AccountEventLaws.{answer-rowless}
use Rattle.event_refusals.specs.Admissions.{Admitted}
use Rattle.event_ends.specs.Ends.{PutsAccount}
use Rattle.event_ends.proofs.PutLaws.{puts-account}
use Rattle.event_accounts.specs.AccountEvents.{reserve_refusals}

-- the number that event 11 gets on sound tables where no shared refusal applies
pub answer-reserve : (t : Tables) → sound_tables t ≡ true → (e : Instruction) → e.kind ≡ event_reserve → Admitted t e
    → first (reserve_refusals (book_of t) e) ≡ answer_number (book_of t) e
unfolding change_of set_reserve own_tests reserve_refusals
answer-reserve t s e k a = answer-rowless t s e event_reserve k a reserve_refusals refl (λ f c. rw (f, c))

-- its own part, with what each test came to
pub reserve-by : (b : Book) (e : Instruction) (u r : Bool) → (account b e.account).topup is 0 ≡ u → (account b e.account).reserve is e.a ≡ r
    → first ((answer_untimely, u) ∷ (answer_reserve, r) ∷ []) ≡ first (reserve_refusals b e)
unfolding reserve_refusals
reserve-by b e u r v w = rw (v, w)

-- ---- what an accepted event 11 leaves

module _ (t : Tables) (s : sound_tables t ≡ true) (e : Instruction) (k : e.kind ≡ event_reserve) (q : 0 ≡ answer_number (book_of t) e) where
  abbrev reserved_account : Account
  reserved_account = reserve_set e.a (account (book_of t) e.account)

  formed : reserve_form e ≡ true
  unfolding well_formed form_of
  formed =
      at-kind (λ x. not (well_formed x) ≡ false → reserve_form x ≡ true) e 11 k (λ w. not-false _ w) (accepted (book_of t) e (sym q)).formed

  pub reserve-storable : StorableAccount reserved_account
  unfolding reserve_form
  reserve-storable =
      let least : leb e.a code_yes ≡ true = and_left (leb e.a code_yes) (zero_from-b e) formed in
      storable-set _ reserve_place e.a (omega (arith, leb-true e.a code_yes least)) (account-holds t s e.account)

  pub reserve-puts : PutsAccount t e reserved_account false
  unfolding change_of set_reserve removes_topup
  reserve-puts = puts-account t e event_reserve k q reserved_account refl refl false refl reserve-storable
