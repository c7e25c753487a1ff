-- Event 12: which refusals concern it, and the book that it makes.
use mathlib.Core.Path.{◌≡◌, refl, sym}
use mathlib.Core.Bool.{Bool, true, false, not, ◌&&◌, ◌||◌}
use Prim.Native.Nat.{◌≤◌}
use native.Mathlib.Omega.{arith}
use mathlib.Core.List.{[], ◌∷◌}
use lib.ListN.{length}
use borrow.Author.Tests.{not-false}
use Rattle.records.specs.Numbers.{answer_successor}
use Rattle.records.specs.Codes.{event_successor}
use Rattle.records.specs.Layout.{successor_place}
use Rattle.records.specs.Encoding.{StorableAccount}
use Rattle.records.proofs.FieldLaws.{storable-set}
use Rattle.records.specs.AccountOperations.{successor_set}
use Rattle.lists.specs.Tests.{◌is◌, first}
use Rattle.lists.proofs.TestLaws.{or_right}
use Rattle.rules.specs.Book.{Account, Instruction, state_closed, Book, account}
use Rattle.rules.specs.Successors.{other_used}
use Rattle.rules.specs.Events.{set_successor}
use Rattle.rules.specs.Refusals.{change_of, successor_refused, answer_number}
use Rattle.rules.specs.Posting.{removes_topup}
use Rattle.rules.specs.Tables.{Tables, book_of, sound_tables}
use Rattle.rules.proofs.RefusalLaws.{own_tests}
use Rattle.rules.proofs.StorableLaws.{other-inside, accounts-le}
use Rattle.rules.proofs.TableLaws.{sound-book}
use Rattle.preservation.proofs.Accepted.{accepted}
use Rattle.posting.proofs.BookLaws.{account-holds}
use Rattle.posting_laws.proofs.RefusalLaws.{at-kind}
use Rattle.posting_laws.proofs.AccountEventLaws.{answer-rowless}
use Rattle.event_refusals.specs.Admissions.{Admitted}
use Rattle.event_ends.specs.Ends.{PutsAccount}
use Rattle.event_ends.proofs.PutLaws.{puts-account}
use Rattle.event_accounts.specs.AccountEvents.{successor_refusals}

-- the number that event 12 gets on sound tables where no shared refusal applies
pub answer-successor : (t : Tables) → sound_tables t ≡ true → (e : Instruction) → e.kind ≡ event_successor → Admitted t e
    → first (successor_refusals (book_of t) e) ≡ answer_number (book_of t) e
unfolding change_of set_successor own_tests successor_refusals
answer-successor t s e k a = answer-rowless t s e event_successor k a successor_refusals refl (λ f c. rw (f, c))

-- its own part, with what the test of the code came to
pub successor-by : (b : Book) (e : Instruction) (f : Bool) → (account b e.account).state is state_closed && other_used b.accounts e.account e.a ≡ f
    → first ((answer_successor, not f) ∷ []) ≡ first (successor_refusals b e)
unfolding successor_refusals
successor-by b e f w = rw (← w) (go ((account b e.account).state is state_closed) (other_used b.accounts e.account e.a))
  where
    go : (c u : Bool) → first ((answer_successor, not (c && u)) ∷ []) ≡ first ((answer_successor, not c || not u) ∷ [])
    go true u = refl
    go false u = refl

-- ---- what an accepted event 12 leaves

module _ (t : Tables) (s : sound_tables t ≡ true) (e : Instruction) (k : e.kind ≡ event_successor) (q : 0 ≡ answer_number (book_of t) e) where
  abbrev succeeded_account : Account
  succeeded_account = successor_set e.a (account (book_of t) e.account)

  -- the successor is one of the table's accounts
  successor-inside : e.a ≤ length (book_of t).accounts
  unfolding successor_refused
  successor-inside =
      at-kind (λ x. successor_refused (book_of t) x ≡ false → x.a ≤ length (book_of t).accounts) e 12 k
      (λ w. other-inside (book_of t).accounts e.account e.a (not-false _ (or_right _ _ w)))
      (accepted (book_of t) e (sym q)).nameable

  pub successor-storable : StorableAccount succeeded_account
  successor-storable =
      storable-set _ successor_place e.a (omega (arith, successor-inside, accounts-le (book_of t).day (book_of t) (sound-book t s).near))
      (account-holds t s e.account)

  pub successor-puts : PutsAccount t e succeeded_account false
  unfolding change_of set_successor removes_topup
  successor-puts = puts-account t e event_successor k q succeeded_account refl refl false refl successor-storable
