-- No event and no call changes the holidays: each call is lent those that the opening took.
use mathlib.Core.Path.{◌≡◌, refl, ◌∙◌}
use Prim.Native.Nat.{ℕ}
use mathlib.Core.List.{List, [], ◌∷◌}
use Rattle.lists.specs.Tests.{◌is◌}
use Rattle.lists.proofs.TestLaws.{cond_either}
use Rattle.rules.specs.Book.{Instruction, Book, settled}
use Rattle.rules.specs.Successors.{forwarded}
use Rattle.rules.specs.Events.{open_account, post_toll, post_payment, return_check, hold_toll, reject, with_fees, uphold, decide, pay_topup, decline_topup, topup_result, request_close, add_list, set_reserve, set_successor}
use Rattle.rules.specs.Tick.{next_day, end_holds, before_raising, raise_tolls, close_accounts, tick}
use Rattle.rules.specs.Refusals.{change_of, after, answer_number}
use Rattle.rules.specs.Posting.{Posted, post, receive, book_after}
use Rattle.rules.proofs.KindLaws.{by_kind}

-- the book has the holidays of another
abbrev pub Same : Book → Book → Type 0
Same b c = c.holidays ≡ b.holidays

change-keeps-holidays : (b : Book) (e : Instruction) (k : ℕ) → Same b (change_of k b e)
unfolding change_of open_account post_toll post_payment return_check hold_toll reject with_fees uphold decide pay_topup decline_topup topup_result request_close add_list set_reserve set_successor next_day end_holds before_raising raise_tolls close_accounts tick settled
change-keeps-holidays b e = by_kind (λ k. Same b (change_of k b e)) (record {
  opened = refl;
  toll = refl;
  payment = refl;
  returned-check = refl;
  dispute = refl;
  decision = cond_either (Same b) _ (uphold b e) (reject b e) refl refl;
  topup-result = cond_either (Same b) _ (pay_topup b e) (decline_topup b e) refl refl;
  close-request = refl;
  tick = refl;
  rate-list = refl;
  reserve = refl;
  successor = refl;
  none = refl;
  past = λ k. refl;
})

pub post-keeps-holidays : (b : Book) (e : Instruction) → Same b (post b e).book
unfolding post after settled
post-keeps-holidays b e = cond_either (λ (p : Posted). Same b p.book) (answer_number b e is 0) _ _ (change-keeps-holidays b e e.kind) refl

pub book_after-keeps-holidays : (b : Book) (es : List Instruction) → Same b (book_after b es)
unfolding book_after
book_after-keeps-holidays b [] = refl
book_after-keeps-holidays b (e ∷ es) = book_after-keeps-holidays (receive b e).book es ∙ post-keeps-holidays b (forwarded b e)
