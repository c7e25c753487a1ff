-- Event 8: which refusals concern it, and the book that it makes.
use mathlib.Core.Path.{◌≡◌, refl}
use mathlib.Core.Bool.{Bool, true, false}
use native.Mathlib.Omega.{arith}
use mathlib.Core.List.{[], ◌∷◌}
use Rattle.records.specs.Numbers.{answer_untimely}
use Rattle.records.specs.Codes.{event_close_request}
use Rattle.records.specs.Layout.{state_place, request_place}
use Rattle.records.specs.Encoding.{StorableAccount}
use Rattle.records.proofs.FieldLaws.{storable-set}
use Rattle.records.specs.AccountOperations.{close_requested_on}
use Rattle.lists.specs.Tests.{◌is◌, first}
use Rattle.rules.specs.Book.{Account, Instruction, state_pending, account}
use Rattle.rules.specs.Events.{request_close}
use Rattle.rules.specs.Refusals.{change_of, answer_number}
use Rattle.rules.specs.Posting.{removes_topup}
use Rattle.rules.specs.Tables.{Tables, book_of, sound_tables}
use Rattle.rules.proofs.RefusalLaws.{own_tests}
use Rattle.rules.proofs.StorableLaws.{day-le}
use Rattle.rules.proofs.TableLaws.{sound-book}
use Rattle.posting.proofs.BookLaws.{account-holds}
use Rattle.posting_laws.proofs.AccountEventLaws.{answer-rowless}
use Rattle.event_refusals.specs.Admissions.{Admitted}
use Rattle.event_ends.specs.Ends.{PutsAccount}
use Rattle.event_ends.proofs.PutLaws.{puts-account}
use Rattle.event_accounts.specs.AccountEvents.{request_refusals}

-- the number that event 8 gets on sound tables where no shared refusal applies, with what its test came to
pub request-by : (t : Tables) → sound_tables t ≡ true → (e : Instruction) → e.kind ≡ event_close_request → Admitted t e → (p : Bool)
    → (account (book_of t) e.account).state is state_pending ≡ p → first ((answer_untimely, p) ∷ []) ≡ answer_number (book_of t) e
unfolding change_of request_close own_tests request_refusals
request-by t s e k a p w = rw w at (answer-rowless t s e event_close_request k a request_refusals refl (λ f c. rw (f, c)))

-- ---- what an accepted event 8 leaves

module _ (t : Tables) (s : sound_tables t ≡ true) (e : Instruction) where
  abbrev pending_account : Account
  pending_account = close_requested_on (book_of t).day (account (book_of t) e.account)

  pub request-storable : StorableAccount pending_account
  request-storable =
      storable-set _ request_place (book_of t).day (omega (arith, day-le (book_of t).day (book_of t) (sound-book t s).near))
      (storable-set _ state_place state_pending (omega arith) (account-holds t s e.account))

  module _ (k : e.kind ≡ event_close_request) (q : 0 ≡ answer_number (book_of t) e) where
    pub request-puts : PutsAccount t e pending_account false
    unfolding change_of request_close removes_topup
    request-puts = puts-account t e event_close_request k q pending_account refl refl false refl request-storable
