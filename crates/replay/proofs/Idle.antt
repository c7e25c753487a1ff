-- In a sound book an account with an unsettled debit that is not held has no unused money; so the replay has no idle money.
use mathlib.Core.Path.{◌≡◌, refl, sym, ◌∙◌}
use mathlib.Core.Bool.{Bool, true, false, not, ◌&&◌, ◌||◌, false≢true}
use Prim.Native.Nat.{ℕ, zero, suc, ◌-◌, ◌≤◌, ◌<◌}
use native.Mathlib.Omega.{arith}
use mathlib.Core.List.{List}
use lib.ListN.{length, get_or}
use borrow.Author.Tests.{eqb-true, eq-eqb, ne_eqb, ltb-true, not-true, not-false}
use Rattle.lists.specs.Tests.{◌is◌}
use Rattle.lists.specs.Lists.{only}
use Rattle.lists.proofs.TestLaws.{and_left, and_right}
use Rattle.lists.proofs.SumLaws.{sum_by-at-le}
use Rattle.lists.proofs.PairLaws.{Pairs, pairs-to}
use Rattle.rules.specs.Rows.{Row, blank, source, debit, unsettled, held, source_of, payable, remaining}
use Rattle.rules.specs.Settlement.{money, debt}
use Rattle.rules.specs.Book.{Book, row}
use Rattle.rules.specs.Soundness.{no_idle_money}
use Rattle.rules.specs.SoundFacts.{Sound}
use Rattle.replay.specs.Entries.{Entry, entry_no, is_money, is_debt, covered_whole, on_hold}
use Rattle.replay.specs.Replay.{Replay}
use Rattle.replay.proofs.Relation.{SameLine, Agrees}
use Rattle.replay.proofs.SoundRows.{sound-row, Within}
use Rattle.replay.proofs.Settling.{held_same, faces-no}
use Rattle.replay.proofs.Growing.{Place, row-there, number_at, rows-no}

-- ---- a row's share of its account's money and debt

pub money-least : (rows : List Row) (a k : ℕ) → k < length rows → (get_or rows k blank).account ≡ a → source (get_or rows k blank) ≡ true → remaining (get_or rows k blank) ≤ money a rows
unfolding money
money-least rows a k h e s =
    let q : only (source_of a) remaining (get_or rows k blank) ≡ remaining (get_or rows k blank) = unfold only source_of in (rw (eq-eqb _ _ e, s)) in
    omega (arith, sum_by-at-le (only (source_of a) remaining) rows k blank h)

pub debt-least : (rows : List Row) (a k : ℕ) → k < length rows → (get_or rows k blank).account ≡ a → debit (get_or rows k blank) ≡ true → held rows (get_or rows k blank) ≡ false
    → remaining (get_or rows k blank) ≤ debt a rows
unfolding debt
debt-least rows a k h e s f =
    let q : only (payable rows a) remaining (get_or rows k blank) ≡ remaining (get_or rows k blank) = unfold only payable in (rw (eq-eqb _ _ e, s, f)) in
    omega (arith, sum_by-at-le (only (payable rows a) remaining) rows k blank h)

-- "no unused source beside an unsettled unheld debit"
pub no-idle-money-none : (b : Book) → Sound b → (a : ℕ) → Within (length b.accounts) a → 0 < debt a b.rows → money a b.rows ≡ 0
unfolding no_idle_money
no-idle-money-none b s zero w h = absurd (omega (arith, w.low))
no-idle-money-none b s (suc a) w h =
    let q : money (suc a) b.rows is 0 || debt (suc a) b.rows is 0 ≡ true = s.no-idle-money a w.high in
    go (money (suc a) b.rows is 0) refl (rw (ne_eqb (debt (suc a) b.rows) 0 (λ z. omega arith)) at q)
  where
    go : (v : Bool) → money (suc a) b.rows is 0 ≡ v → v || false ≡ true → money (suc a) b.rows ≡ 0
    go true e f = eqb-true _ _ e
    go false e f = absurd (false≢true f)

-- an unsettled debit that is not held
pub open_none : (b : Book) → Sound b → (k : ℕ) → k < length b.rows → debit (get_or b.rows k blank) ≡ true → unsettled (get_or b.rows k blank) ≡ true
    → held b.rows (get_or b.rows k blank) ≡ false → money (get_or b.rows k blank).account b.rows ≡ 0
open_none b s k h d u f =
    let l : (get_or b.rows k blank).settled < (get_or b.rows k blank).amount = ltb-true _ _ u in
    no-idle-money-none b s _ (sound-row b s.near k h).account (omega (arith, debt-least b.rows _ k h refl d f))

-- ---- no idle money

pub idle-none : (b : Book) (p : Replay) → Sound b → Agrees b p → (i j : ℕ)
    → is_money (entry_no p.entries i) && not (covered_whole (entry_no p.entries i)) ≡ true
    → is_debt (entry_no p.entries j) && not (covered_whole (entry_no p.entries j)) && not (on_hold p.entries (entry_no p.entries j)) ≡ true
    → (entry_no p.entries i).account ≡ (entry_no p.entries j).account → ⊥
idle-none b p s a i j m d e =
    let lines : Pairs SameLine b.rows p.entries = pairs-to (λ r x q. q.is.line) a.rows in
    let f = faces-no lines i in
    let g = faces-no lines j in
    let x : Entry = entry_no p.entries i in
    let y : Entry = entry_no p.entries j in
    let m1 : source (row b i) ≡ true = rw f.kind (and_left (is_money x) (not (covered_whole x)) m) in
    let m2 : unsettled (row b i) ≡ true = rw (f.amount, f.settled) (not-false _ (not-true _ (and_right (is_money x) (not (covered_whole x)) m))) in
    let d0 : is_debt y && not (covered_whole y) ≡ true = and_left (is_debt y && not (covered_whole y)) (not (on_hold p.entries y)) d in
    let d1 : debit (row b j) ≡ true = rw g.kind (and_left (is_debt y) (not (covered_whole y)) d0) in
    let d2 : unsettled (row b j) ≡ true = rw (g.amount, g.settled) (not-false _ (not-true _ (and_right (is_debt y) (not (covered_whole y)) d0))) in
    let d3 : held b.rows (row b j) ≡ false =
    held_same lines (row b j) y g (rows-no a.rows j).toll ∙ not-true _ (and_right (is_debt y && not (covered_whole y)) (not (on_hold p.entries y)) d) in
    let pi : Place b.rows i = row-there b.rows i (λ z. false≢true (rw z at m1)) in
    let pj : Place b.rows j = row-there b.rows j (λ z. false≢true (rw z at d1)) in
    let at_i : get_or b.rows (i - 1) blank ≡ row b i = number_at b.rows i blank pi.low in
    let at_j : get_or b.rows (j - 1) blank ≡ row b j = number_at b.rows j blank pj.low in
    let none : money (row b j).account b.rows ≡ 0 =
    rw at_j at (open_none b s (j - 1) pj.high (rw at_j d1) (rw at_j d2) (rw at_j d3)) in
    let least : remaining (row b i) ≤ money (row b j).account b.rows =
    rw at_i at (money-least b.rows (row b j).account (i - 1) pi.high (rw at_i (f.account ∙ e ∙ sym g.account)) (rw at_i m1)) in
    let l : (row b i).settled < (row b i).amount = ltb-true _ _ m2 in
    omega arith
