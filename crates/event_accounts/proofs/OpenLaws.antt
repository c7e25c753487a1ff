-- Event 1: which refusals concern it, and the book that it makes.
use mathlib.Core.Path.{◌≡◌, refl, sym}
use mathlib.Core.Bool.{Bool, true, false, not, ◌&&◌}
use native.Mathlib.Omega.{arith}
use mathlib.Core.List.{[]}
use lib.Dec.{leb}
use borrow.Author.Tests.{leb-true, not-false}
use Rattle.records.specs.Codes.{event_open}
use Rattle.records.specs.Layout.{state_place, threshold_place, topup_place, account_width}
use Rattle.records.specs.Encoding.{StorableAccount}
use Rattle.records.proofs.FieldLaws.{storable-zeros, storable-set}
use Rattle.records.specs.AccountOperations.{opened}
use Rattle.lists.specs.Tests.{◌is◌, ◌implies◌}
use Rattle.lists.proofs.TestLaws.{and_left, and_right}
use Rattle.records.specs.Limits.{highest_topup}
use Rattle.rules.specs.Book.{Account, Instruction, state_open}
use Rattle.rules.specs.Events.{open_account}
use Rattle.rules.specs.Refusals.{change_of, zero_from-c, open_form, form_of, well_formed, answer_number}
use Rattle.rules.specs.Posting.{removes_topup}
use Rattle.rules.specs.Tables.{Tables, book_of, sound_tables}
use Rattle.rules.proofs.RefusalLaws.{own_tests}
use Rattle.preservation.proofs.Accepted.{accepted}
use Rattle.posting_laws.proofs.RefusalLaws.{at-kind}
use Rattle.posting_laws.proofs.AccountEventLaws.{answer-rowless}
use Rattle.event_refusals.specs.Admissions.{Admitted}
use Rattle.event_ends.specs.Ends.{PutsAccount}
use Rattle.event_ends.proofs.PutLaws.{puts-account}

-- on sound tables, event 1 is accepted where no shared refusal applies
pub open-accepted : (t : Tables) → sound_tables t ≡ true → (e : Instruction) → e.kind ≡ event_open → Admitted t e → 0 ≡ answer_number (book_of t) e
unfolding change_of open_account own_tests
open-accepted t s e k a = answer-rowless t s e event_open k a (λ b x. []) refl (λ f c. rw (f, c))

-- ---- what an accepted event 1 leaves

module _ (t : Tables) (s : sound_tables t ≡ true) (e : Instruction) (k : e.kind ≡ event_open) (q : 0 ≡ answer_number (book_of t) e) where
  abbrev new_account : Account
  new_account = opened e.a e.b

  formed : open_form e ≡ true
  unfolding well_formed form_of
  formed = at-kind (λ x. not (well_formed x) ≡ false → open_form x ≡ true) e 1 k (λ w. not-false _ w) (accepted (book_of t) e (sym q)).formed

  pub open-storable : StorableAccount new_account
  unfolding open_form
  open-storable =
      let threshold-part : Bool = leb e.a highest_topup in
      let amount-part : Bool = leb e.b highest_topup in
      let zero-part : Bool = e.b is 0 implies e.a is 0 in
      let both = and_left (threshold-part && amount-part) zero-part (and_left (threshold-part && amount-part && zero-part) (zero_from-c e) formed) in
      storable-set _ topup_place e.b (omega (arith, leb-true e.b highest_topup (and_right threshold-part amount-part both)))
      (storable-set _ threshold_place e.a (omega (arith, leb-true e.a highest_topup (and_left threshold-part amount-part both)))
      (storable-set _ state_place state_open (omega arith) (storable-zeros account_width)))

  pub open-puts : PutsAccount t e new_account false
  unfolding change_of open_account removes_topup
  open-puts = puts-account t e event_open k q new_account refl refl false refl open-storable
