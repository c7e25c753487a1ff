-- Soundness as facts: a record for a row, an account and a book, equal to the test. The parts are split by what they read, so
-- that each law of preservation touches few of them.
use mathlib.Core.Path.{◌≡◌}
use mathlib.Core.Bool.{true}
use Prim.Native.Nat.{ℕ, suc, ◌<◌}
use native.Mathlib.Omega.{arith}
use mathlib.Core.List.{[], ◌∷◌}
use lib.ListN.{length, get_or}
use lib.Dec.{leb}
use Rattle.lists.specs.Tests.{all_of}
use Rattle.lists.specs.Lists.{every}
use Rattle.lists.proofs.TestLaws.{all_of-at}
use Rattle.lists.proofs.ListLaws.{every-at, every-all}
use Rattle.rules.specs.Schedule.{schedule_fits}
use Rattle.rules.specs.RateLists.{lists_fit}
use Rattle.rules.specs.BusinessDays.{holidays_fit}
use Rattle.rules.specs.Rows.{blank}
use Rattle.rules.specs.Book.{unused, Book}
use Rattle.rules.specs.Opening.{day_fits, sizes_fit}
use Rattle.rules.specs.Soundness.{row_sound, account_sound, sound}
use Rattle.rules.specs.SoundFacts.{Sound}

-- ---- the test gives the facts

module _ (b : Book) (e : sound b ≡ true) where
  part : (k : ℕ) → get_or (day_fits b.day ∷ schedule_fits b.schedule ∷ lists_fit b.lists ∷ sizes_fit (length b.accounts) b.room ∷ leb (length b.rows) b.room
      ∷ every (row_sound b) b.rows ∷ every (account_sound b) b.accounts ∷ holidays_fit b.holidays ∷ []) k true ≡ true
  unfolding sound
  part = all_of-at _ e

  row-sound : (k : ℕ) → k < length b.rows → row_sound b (suc k) (get_or b.rows k blank) ≡ true
  row-sound k h = every-at (row_sound b) 1 b.rows blank (part 5) k (suc k) (omega arith) h

  account-sound : (k : ℕ) → k < length b.accounts → account_sound b (suc k) (get_or b.accounts k unused) ≡ true
  account-sound k h = every-at (account_sound b) 1 b.accounts unused (part 6) k (suc k) (omega arith) h

  pub sound-facts : Sound b
  unfolding row_sound account_sound
  sound-facts = record {
    near = record {
      day = part 0;
      schedule = part 1;
      lists = part 2;
      sizes = part 3;
      fits = part 4;
      shape = λ k h. let p = all_of-at _ (row-sound k h) in record {
        kind = p 0;
        amount = p 1;
        mark = p 3;
        words = p 4;
        none = p 5;
        day = p 6;
        account = p 9;
        reference = p 10;
        passage = p 11;
        fees = p 12;
      };
      live = λ k h. let p = all_of-at _ (row-sound k h) in record { settled = p 2; due = p 7; hold = p 8 };
      standing = λ k h. let p = all_of-at _ (account-sound k h) in record { state = p 0; zero = p 1; request = p 2; topup = p 3; decline = p 4 };
      successors = λ k h. all_of-at _ (account-sound k h) 5;
      counted = λ k h. let p = all_of-at _ (account-sound k h) in record { returned = p 6; used-is-paid = p 7; clear = p 9 };
      holidays = part 7;
    };
    no-idle-money = λ k h. all_of-at _ (account-sound k h) 8;
  }

-- ---- and the facts the test

pub facts-sound : (b : Book) → Sound b → sound b ≡ true
unfolding sound row_sound account_sound all_of
facts-sound b s =
    let p : every (row_sound b) b.rows ≡ true = every-all (row_sound b) 1 b.rows blank (λ k n q h.
    let z : n ≡ suc k = omega arith in
    let v = s.near.shape k h in
    let w = s.near.live k h in
    rw (z, v.kind, v.amount, w.settled, v.mark, v.words, v.none, v.day, w.due, w.hold, v.account, v.reference, v.passage, v.fees)) in
    let q : every (account_sound b) b.accounts ≡ true = every-all (account_sound b) 1 b.accounts unused (λ k n q h.
    let z : n ≡ suc k = omega arith in
    let v = s.near.standing k h in
    let w = s.near.counted k h in
    rw (z, v.state, v.zero, v.request, v.topup, v.decline, s.near.successors k h, w.returned, w.used-is-paid, s.no-idle-money k h, w.clear)) in
    rw (s.near.day, s.near.schedule, s.near.lists, s.near.sizes, s.near.fits, p, q, s.near.holidays)
