-- Event 7, declined: the book that it makes, and whether the top-up is removed.
use mathlib.Core.Path.{◌≡◌, refl, sym}
use mathlib.Core.Logic.{◌≢◌}
use mathlib.Core.Bool.{Bool, true, false, not, ◌&&◌}
use Prim.Native.Nat.{◌+◌}
use native.Mathlib.Omega.{arith}
use lib.Dec.{leb}
use borrow.Author.Tests.{leb-true, leb-false, ne_eqb, not-false}
use Rattle.records.specs.Codes.{code_yes, event_topup_result}
use Rattle.records.specs.Layout.{threshold_place, topup_place, declines_place, declined_place, reserve_place}
use Rattle.records.specs.Encoding.{StorableAccount}
use Rattle.records.proofs.FieldLaws.{storable-set}
use Rattle.records.proofs.AccountLaws.{declined-cases}
use Rattle.records.specs.AccountOperations.{last_decline, declined_on}
use Rattle.lists.specs.Tests.{◌is◌}
use Rattle.lists.proofs.TestLaws.{and_left, and_right}
use Rattle.rules.specs.Book.{Account, Instruction, Book, account}
use Rattle.rules.specs.Events.{decline_topup, topup_result}
use Rattle.rules.specs.Refusals.{change_of, zero_from-c, result_form, form_of, well_formed, answer_number}
use Rattle.rules.specs.Posting.{removes_topup}
use Rattle.rules.specs.Tables.{Tables, book_of, sound_tables}
use Rattle.rules.proofs.StorableLaws.{day-le}
use Rattle.rules.proofs.TableLaws.{sound-book}
use Rattle.preservation.proofs.Accepted.{accepted}
use Rattle.posting.proofs.BookLaws.{account-holds}
use Rattle.posting_laws.proofs.RefusalLaws.{at-kind}
use Rattle.event_ends.specs.Ends.{PutsAccount}
use Rattle.event_ends.proofs.PutLaws.{puts-account}

module _ (t : Tables) (s : sound_tables t ≡ true) (e : Instruction) where
  abbrev b : Book
  b = book_of t

  abbrev named : Account
  named = account b e.account

  abbrev declined_account : Account
  declined_account = declined_on b.day named

  pub declined-storable : StorableAccount declined_account
  declined-storable =
      declined-cases StorableAccount b.day named
      (storable-set _ reserve_place 0 (omega arith)
      (storable-set _ declined_place 0 (omega arith)
      (storable-set _ declines_place 0 (omega arith)
      (storable-set _ topup_place 0 (omega arith) (storable-set _ threshold_place 0 (omega arith) (account-holds t s e.account))))))
      (λ q.
      storable-set _ declined_place b.day (omega (arith, day-le b.day b (sound-book t s).near))
      (storable-set _ declines_place (named.declines + 1) (omega (arith, leb-false 2 named.declines q)) (account-holds t s e.account)))

  module _ (k : e.kind ≡ event_topup_result) (q : 0 ≡ answer_number b e) (n : e.b ≢ code_yes) where
    formed : result_form e ≡ true
    unfolding well_formed form_of
    formed = at-kind (λ x. not (well_formed x) ≡ false → result_form x ≡ true) e 7 k (λ w. not-false _ w) (accepted b e (sym q)).formed

    result-0 : e.b ≡ 0
    unfolding result_form
    result-0 =
        let first_part : Bool = e.a is 0 in
        let result-part : Bool = leb e.b 1 in
        omega (arith, leb-true e.b 1 (and_right first_part result-part (and_left (first_part && result-part) (zero_from-c e) formed)), n)

    pub declined-puts : PutsAccount t e declined_account (last_decline named)
    unfolding change_of topup_result decline_topup removes_topup
    declined-puts =
        puts-account t e event_topup_result k q declined_account (rw (ne_eqb e.b code_yes n)) refl (last_decline named) (rw result-0) declined-storable
