-- Sound stays sound: after every accepted event, every posting and every list of events.
use mathlib.Core.Path.{◌≡◌, refl}
use mathlib.Core.Bool.{Bool, true, false, cond, true≢false}
use Prim.Native.Nat.{ℕ}
use mathlib.Core.List.{List, [], ◌∷◌}
use lib.Dec.{eqb}
use borrow.Author.Tests.{eqb-true}
use Rattle.records.specs.Codes.{event_decision, event_topup_result}
use Rattle.records.specs.Updates.{of_kind}
use Rattle.rules.specs.Book.{Instruction, Book}
use Rattle.rules.specs.Successors.{forwarded}
use Rattle.rules.specs.Events.{open_account, post_toll, post_payment, return_check, hold_toll, decide, uphold, reject, topup_result, pay_topup, decline_topup, request_close, add_list, set_reserve, set_successor}
use Rattle.rules.specs.Soundness.{sound}
use Rattle.rules.specs.Refusals.{change_of, after, well_formed, form_of, answer_number}
use Rattle.rules.specs.Posting.{post, receive, book_after}
use Rattle.rules.proofs.PostingLaws.{post-refused, post-accepted}
use Rattle.rules.specs.SoundFacts.{Near, Sound}
use Rattle.rules.proofs.SoundnessLaws.{sound-facts, facts-sound}
use Rattle.rules.proofs.KindLaws.{by_kind}
use Rattle.preservation.proofs.Accepted.{Accepted, accepted}
use Rattle.preservation.proofs.SettledLaws.{settled-sound}
use Rattle.preservation.proofs.AccountKept.{open_account-near, request_close-near, set_reserve-near, set_successor-near}
use Rattle.preservation.proofs.TollKept.{post_toll-near}
use Rattle.preservation.proofs.PaymentKept.{post_payment-near, topup_result-near}
use Rattle.preservation.proofs.ReturnKept.{return_check-near}
use Rattle.preservation.proofs.DisputeKept.{hold_toll-near}
use Rattle.preservation.proofs.UpholdKept.{decide-near}
use Rattle.preservation.proofs.TickKept.{tick-near}
use Rattle.preservation.proofs.ListKept.{add_list-near}

-- ---- the events by their kind

-- events but the tick leave the day
module _ (b : Book) (e : Instruction) where
  day-decide : (decide b e).day ≡ b.day
  unfolding decide uphold reject
  day-decide = go (eqb e.b 1)
    where
      go : (t : Bool) → (cond t (uphold b e) (reject b e)).day ≡ b.day
      go true = refl
      go false = refl

  day-topup_result : (topup_result b e).day ≡ b.day
  unfolding topup_result pay_topup decline_topup
  day-topup_result = go (eqb e.b 1)
    where
      go : (t : Bool) → (cond t (pay_topup b e) (decline_topup b e)).day ≡ b.day
      go true = refl
      go false = refl

change-near : (b : Book) (e : Instruction) (k : ℕ) → Near b.day b → Accepted b (of_kind k e)
    → Near (change_of k b (of_kind k e)).day (change_of k b (of_kind k e))
unfolding change_of open_account post_toll post_payment return_check hold_toll decide topup_result request_close add_list set_reserve set_successor well_formed form_of
change-near b e k s q =
    by_kind (λ k. Accepted b (of_kind k e) → Near (change_of k b (of_kind k e)).day (change_of k b (of_kind k e)))
    (record {
      opened = open_account-near b e s;
      toll = post_toll-near b e s;
      payment = post_payment-near b e s;
      returned-check = return_check-near b e s;
      dispute = hold_toll-near b e s;
      decision = λ q. rw (day-decide b (of_kind event_decision e)) (decide-near b e s q);
      topup-result = λ q. rw (day-topup_result b (of_kind event_topup_result e)) (topup_result-near b e s q);
      close-request = request_close-near b e s;
      tick = tick-near b e s;
      rate-list = add_list-near b e s;
      reserve = set_reserve-near b e s;
      successor = set_successor-near b e s;
      none = λ q. absurd (true≢false q.formed);
      past = λ k q. absurd (true≢false q.formed);
    }) k q

-- ---- after

pub after-sound : (b : Book) (e : Instruction) → Sound b → Accepted b e → Sound (after b e)
unfolding after
after-sound b e s q = settled-sound (change_of e.kind b e) (change-near b e e.kind s.near q)

pub after-keeps-sound : (b : Book) (e : Instruction) → sound b ≡ true → answer_number b e ≡ 0 → sound (after b e) ≡ true
after-keeps-sound b e s q = facts-sound (after b e) (after-sound b e (sound-facts b s) (accepted b e q))

-- ---- post and book_after

pub post-keeps-sound : (b : Book) (e : Instruction) → sound b ≡ true → sound (post b e).book ≡ true
post-keeps-sound b e s = go (eqb (answer_number b e) 0) refl
  where
    go : (t : Bool) → eqb (answer_number b e) 0 ≡ t → sound (post b e).book ≡ true
    go true q = rw (post-accepted b e q) (after-keeps-sound b e s (eqb-true (answer_number b e) 0 q))
    go false q = rw (post-refused b e q) s

pub book_after-keeps-sound : (b : Book) (es : List Instruction) → sound b ≡ true → sound (book_after b es) ≡ true
unfolding book_after
book_after-keeps-sound b [] s = s
book_after-keeps-sound b (e ∷ es) s = book_after-keeps-sound (receive b e).book es (post-keeps-sound b (forwarded b e) s)
