-- Of the events the tick alone reads the holidays, and none changes them: every other is posted alike whatever they are.
use mathlib.Core.Path.{◌≡◌, refl, sym, ap}
use mathlib.Core.Bool.{Bool, true, false, false≢true}
use Prim.Native.Nat.{ℕ}
use mathlib.Core.List.{List}
use Rattle.std.specs.Prelude.{cond}
use Rattle.records.specs.Codes.{event_tick}
use Rattle.lists.specs.Tests.{◌is◌}
use Rattle.rules.specs.Book.{Instruction, Book, with_holidays, settled, topup_due, low_balance}
use Rattle.rules.specs.Successors.{has_heir, toll_account, forwarded}
use Rattle.rules.specs.Events.{open_account, post_toll, post_payment, return_check, hold_toll, reject, with_fees, uphold, decide, pay_topup, decline_topup, topup_result, request_close, add_list, set_reserve, set_successor}
use Rattle.rules.specs.Refusals.{change_of, after, shared_count, shared_refusals, refusals, answer_number, list_refused, unknown, taken, on_closed, successor_refused, unclassed, misdated, duplicate, barred, no_row, untimely, reserve_refused, last_day, full, ceiling}
use Rattle.rules.specs.Posting.{Posted, post, new_rows, acceptance, removes_topup, refusal_by}
use Rattle.rules.proofs.KindLaws.{by_kind}

-- the event changes the book with the holidays hs as it does the book
abbrev Framed : List ℕ → Book → Instruction → ℕ → Type 0
Framed hs b e k = k is event_tick ≡ false → change_of k (with_holidays hs b) e ≡ with_holidays hs (change_of k b e)

-- of two changes, one is made by a word of the event
either : (hs : List ℕ) (v : Bool) (x y : Book) → cond v (with_holidays hs x) (with_holidays hs y) ≡ with_holidays hs (cond v x y)
either hs true x y = refl
either hs false x y = refl

change-with_holidays : (hs : List ℕ) (b : Book) (e : Instruction) (k : ℕ) → Framed hs b e k
unfolding change_of open_account post_toll post_payment return_check hold_toll reject with_fees uphold decide pay_topup decline_topup topup_result request_close add_list set_reserve set_successor
change-with_holidays hs b e = by_kind (Framed hs b e) (record {
  opened = λ n. refl;
  toll = λ n. refl;
  payment = λ n. refl;
  returned-check = λ n. refl;
  dispute = λ n. refl;
  decision = λ n. either hs _ (uphold b e) (reject b e);
  topup-result = λ n. either hs _ (pay_topup b e) (decline_topup b e);
  close-request = λ n. refl;
  tick = λ n. absurd (false≢true (sym n));
  rate-list = λ n. refl;
  reserve = λ n. refl;
  successor = λ n. refl;
  none = λ n. refl;
  past = λ k n. refl;
})

-- and so is a toll passed on
pub forwarded-with_holidays : (hs : List ℕ) (b : Book) (e : Instruction) → forwarded (with_holidays hs b) e ≡ forwarded b e
unfolding forwarded toll_account has_heir
forwarded-with_holidays hs b e = refl

-- the refusals that concern every kind alike, a tick too
pub shared-with_holidays : (hs : List ℕ) (b : Book) (e : Instruction) → shared_refusals (with_holidays hs b) e ≡ shared_refusals b e
unfolding shared_refusals shared_count refusals list_refused unknown taken on_closed
shared-with_holidays hs b e = refl

module _ (hs : List ℕ) (b : Book) (e : Instruction) (n : e.kind is event_tick ≡ false) where
  pub after-with_holidays : after (with_holidays hs b) e ≡ with_holidays hs (after b e)
  unfolding after settled
  after-with_holidays = ap settled (change-with_holidays hs b e e.kind n)

  -- 11 is a test of the event's kind
  untimely-by : (k : ℕ) → e.kind ≡ k → untimely (with_holidays hs b) e ≡ untimely b e
  unfolding untimely topup_due low_balance
  untimely-by = by_kind (λ k. e.kind ≡ k → untimely (with_holidays hs b) e ≡ untimely b e) (record {
    opened = λ i. rw i refl;
    toll = λ i. rw i refl;
    payment = λ i. rw i refl;
    returned-check = λ i. rw i refl;
    dispute = λ i. rw i refl;
    decision = λ i. rw i refl;
    topup-result = λ i. rw i refl;
    close-request = λ i. rw i refl;
    tick = λ i. rw i refl;
    rate-list = λ i. rw i refl;
    reserve = λ i. rw i refl;
    successor = λ i. rw i refl;
    none = λ i. rw i refl;
    past = λ k i. rw i refl;
  })

  pub answer_number-with_holidays : answer_number (with_holidays hs b) e ≡ answer_number b e
  unfolding answer_number refusals list_refused unknown taken on_closed successor_refused unclassed misdated duplicate barred no_row reserve_refused last_day full ceiling
  answer_number-with_holidays = rw (after-with_holidays, untimely-by e.kind refl) refl

  pub acceptance-with_holidays : acceptance (with_holidays hs b) e ≡ acceptance b e
  unfolding acceptance new_rows removes_topup
  acceptance-with_holidays = rw (after-with_holidays, n)

  -- the same answer, and the same book but for its holidays
  pub post-with_holidays : post (with_holidays hs b) e ≡ record { answer = (post b e).answer; book = with_holidays hs (post b e).book }
  unfolding post
  post-with_holidays = rw (answer_number-with_holidays, acceptance-with_holidays, after-with_holidays) (go (answer_number b e is 0))
    where
      refused : Book → Posted
      refused c = record { answer = refusal_by (answer_number b e); book = c }

      accepted : Book → Posted
      accepted c = record { answer = acceptance b e; book = c }

      go : (v : Bool) → (let p : Posted = cond v (accepted (after b e)) (refused b) in
          cond v (accepted (with_holidays hs (after b e))) (refused (with_holidays hs b)) ≡ record { answer = p.answer; book = with_holidays hs p.book })
      go true = refl
      go false = refl
