-- In a sound book a toll that is unsettled and not held has no unused money beside it: a tick leaves it as it is until tolls are raised.
use mathlib.Core.Path.{◌≡◌, refl, ◌∙◌}
use mathlib.Core.Bool.{true, false}
use Prim.Native.Nat.{ℕ, ◌<◌}
use native.Mathlib.Omega.{arith}
use mathlib.Core.List.{List}
use lib.ListN.{length, get_or}
use lib.Dec.{eqb}
use borrow.Author.Tests.{eq-eqb, ltb-true}
use Rattle.lists.specs.Lists.{only}
use Rattle.lists.proofs.SumLaws.{sum_by-at-le}
use Rattle.rules.specs.Rows.{Row, kind_toll, dispute_held, blank, remaining, unsettled, held_toll, held, payable}
use Rattle.rules.specs.Settlement.{money, debt, moved}
use Rattle.rules.specs.Book.{Book}
use Rattle.rules.proofs.SettlementAccountsLaws.{settle_accounts-still}
use Rattle.rules.specs.SoundFacts.{Sound}
use Rattle.preservation.proofs.PostFrame.{row-no-idle-money}
use Rattle.preservation.proofs.TickSteps.{today, end_hold-free, ended, ended_at, ended-account, money-ended, unraised, unraised-rows}

-- such a toll wants something
pub open-wants : (rows : List Row) (r : Row) → r.kind ≡ kind_toll → held_toll r ≡ false → r.settled < r.amount → 0 < only (payable rows r.account) remaining r
unfolding only payable held
open-wants rows r k h l =
    let d : eqb r.dispute dispute_held ≡ false = rw k at h in
    rw (k, d, eq-eqb r.account r.account refl) (omega arith)

pub open_stays : (b : Book) → Sound b → (k : ℕ) → k < length b.rows → (get_or b.rows k blank).kind ≡ kind_toll → held_toll (get_or b.rows k blank) ≡ false
    → unsettled (get_or b.rows k blank) ≡ true → get_or (unraised b) k blank ≡ get_or b.rows k blank
unfolding moved debt
open_stays b s k l e h u =
    let r : Row = get_or b.rows k blank in
    let m : ℕ = r.account in
    let want = sum_by-at-le (only (payable b.rows m) remaining) b.rows k blank l in
    let none : money m b.rows ≡ 0 = omega (arith, row-no-idle-money b s k l, open-wants b.rows r e h (ltb-true r.settled r.amount u)) in
    let still : moved m (ended b) ≡ 0 = omega (arith, money-ended b m) in
    let same : get_or (ended b) k blank ≡ r = ended_at b k ∙ end_hold-free (today b) r h in
    rw (unraised-rows b) (settle_accounts-still m (length b.accounts) (ended b) k (ended-account b k) still ∙ same)
