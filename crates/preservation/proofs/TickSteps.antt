-- A tick's steps, row by row: what the end of holds, settlement and the raising of tolls leave as it is.
use mathlib.Core.Path.{◌≡◌, refl, sym, ap, ◌∙◌}
use mathlib.Core.Bool.{Bool, true, false, not, ◌&&◌}
use Prim.Native.Nat.{ℕ, ◌+◌, ◌<◌}
use mathlib.Core.List.{List, map}
use lib.ListN.{length, get_or, length-map}
use lib.Dec.{eqb, ltb}
use borrow.Author.Tests.{eqb-true, eq-eqb, ltb-true, lt-ltb, not-true}
use Rattle.lists.specs.Lists.{only}
use Rattle.lists.proofs.TestLaws.{and3, cond_either}
use Rattle.lists.proofs.ListLaws.{map_at}
use Rattle.lists.proofs.SumLaws.{sum_by-map, sum_by-ext}
use Rattle.rules.specs.Schedule.{Schedule}
use Rattle.rules.specs.Rows.{Row, kind_toll, last_stage, blank, with_due, with_mark, toll, held_toll, unsettled, remaining, source_of}
use Rattle.rules.specs.Settlement.{money, settle_accounts}
use Rattle.rules.specs.Book.{Book, settled}
use Rattle.rules.specs.Events.{release}
use Rattle.rules.specs.Tick.{next_day, hold_ends, end_hold, end_holds, before_raising, rises, raise}
use Rattle.rules.proofs.AllocationLaws.{bare}
use Rattle.rules.proofs.SettlementAccountsLaws.{MoreSettled, length-settle_accounts, settle_accounts-row}

-- ---- a hold ends

-- what does not look at due day, dispute and hold
pub end_hold-keeps : {B : Type 0} (g : Row → B) → ((r : Row) (today : ℕ) → g (release today r) ≡ g r) → (today : ℕ) (r : Row) → g (end_hold today r) ≡ g r
unfolding end_hold
end_hold-keeps g f today r = cond_either (λ (s : Row). g s ≡ g r) (hold_ends today r) (release today r) r (f r today) refl

pub end_hold-ends : (today : ℕ) (r : Row) → hold_ends today r ≡ true → end_hold today r ≡ release today r
unfolding end_hold
end_hold-ends today r e = rw e

pub end_hold-goes-on : (today : ℕ) (r : Row) → hold_ends today r ≡ false → end_hold today r ≡ r
unfolding end_hold
end_hold-goes-on today r e = rw e

pub end_hold-free : (today : ℕ) (r : Row) → held_toll r ≡ false → end_hold today r ≡ r
unfolding hold_ends
end_hold-free today r f = end_hold-goes-on today r (rw f)

-- ---- a toll rises

pub record Rising (today : ℕ) (r : Row) : Type 0 where
  pub toll : r.kind ≡ kind_toll
  pub free : held_toll r ≡ false
  pub open-still : unsettled r ≡ true
  pub under : r.mark < last_stage
  pub due : r.due ≡ today

pub rising : (today : ℕ) (r : Row) → rises today r ≡ true → Rising today r
unfolding rises
rising today r e =
    let a : Bool = toll r && not (held_toll r) && unsettled r in
    let p = and3 a (ltb r.mark last_stage) (eqb r.due today) e in
    let q = and3 (toll r) (not (held_toll r)) (unsettled r) p.0 in
    record { toll = eqb-true _ _ q.0; free = not-true _ q.1; open-still = q.2; under = ltb-true _ _ p.1; due = eqb-true _ _ p.2 }

pub risen : (today : ℕ) (r : Row) → Rising today r → rises today r ≡ true
unfolding rises
risen today r w = rw (w.free, w.open-still, w.toll, lt-ltb r.mark last_stage w.under, eq-eqb r.due today w.due)

-- what does not look at stage and due day
pub raise-keeps : {B : Type 0} (g : Row → B) → ((r : Row) (v w : ℕ) → g (with_due v (with_mark w r)) ≡ g r) → (s : Schedule) (today : ℕ) (r : Row) → g (raise s today r) ≡ g r
unfolding raise
raise-keeps g f s today r = cond_either (λ (q : Row). g q ≡ g r) (rises today r) _ r (f r _ _) refl

-- ---- the rows of a book

module _ (b : Book) where
  abbrev pub today : ℕ
  today = b.day + 1

  -- after holds have ended
  abbrev pub ended : List Row
  ended = (end_holds (next_day b)).rows

  pub ended-rows : ended ≡ map (end_hold today) b.rows
  unfolding end_holds next_day
  ended-rows = refl

  pub ended-length : length ended ≡ length b.rows
  ended-length = rw ended-rows (length-map b.rows (end_hold today))

  pub ended_at : (k : ℕ) → get_or ended k blank ≡ end_hold today (get_or b.rows k blank)
  ended_at k = rw ended-rows (map_at (end_hold today) b.rows k blank (unfold end_hold hold_ends in refl))

  pub ended-account : (k : ℕ) → (get_or ended k blank).account ≡ (get_or b.rows k blank).account
  ended-account k = rw (ended_at k) (end_hold-keeps (λ r. r.account) (λ r t. unfold release in refl) today (get_or b.rows k blank))

  pub money-ended : (n : ℕ) → money n ended ≡ money n b.rows
  unfolding money
  money-ended n =
      let f : Row → ℕ = only (source_of n) remaining in
      rw ended-rows (sum_by-map f (end_hold today) b.rows ∙ sum_by-ext _ _ b.rows (end_hold-keeps f (λ r t. unfold release only source_of in refl) today))

  -- settled, and about to be raised
  abbrev pub unraised : List Row
  unraised = (before_raising b).rows

  pub unraised-day : (before_raising b).day ≡ today
  unfolding before_raising settled end_holds next_day
  unraised-day = refl

  pub unraised-room : (before_raising b).room ≡ b.room
  unfolding before_raising settled end_holds next_day
  unraised-room = refl

  pub unraised-rows : unraised ≡ settle_accounts (length b.accounts) ended
  unfolding before_raising settled end_holds next_day
  unraised-rows = refl

  pub unraised-length : length unraised ≡ length b.rows
  unraised-length = rw unraised-rows (length-settle_accounts (length b.accounts) ended ∙ ended-length)

  pub unraised-row : (k : ℕ) → MoreSettled (get_or ended k blank) (get_or unraised k blank)
  unraised-row k = rw unraised-rows (settle_accounts-row (length b.accounts) ended k)

  -- what looks neither at what is settled nor at due day, dispute and hold
  pub unraised-keeps : {B : Type 0} (g : Row → B) → ((q : Row) → g (bare q) ≡ g q) → ((q : Row) (t : ℕ) → g (release t q) ≡ g q) → (k : ℕ)
      → g (get_or unraised k blank) ≡ g (get_or b.rows k blank)
  unraised-keeps g f e k =
      sym (f (get_or unraised k blank)) ∙ ap g (unraised-row k).kept ∙ f (get_or ended k blank) ∙ ap g (ended_at k) ∙ end_hold-keeps g e today (get_or b.rows k blank)
