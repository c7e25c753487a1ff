-- Laws of settlement: it keeps length and every field but settled, never lowers settled or passes amount, leaves other accounts
-- alone, leaves no unused source beside an unsettled unheld debit, keeps used = settled, and is idempotent. They are laws of any ranks
-- that part the payable debits, in any order.
use mathlib.Core.Path.{◌≡◌, refl, ap, ◌∙◌, fun_ext}
use mathlib.Core.Bool.{Bool, true, false, not, cond, ◌&&◌, true≢false, and-false}
use Prim.Native.Nat.{ℕ, zero, suc, ◌+◌, ◌-◌, ◌≤◌, ◌<◌, min}
use native.Mathlib.Omega.{arith}
use mathlib.Core.List.{List, [], ◌∷◌, map}
use lib.ListN.{length, get_or}
use lib.Dec.{eqb}
use borrow.Author.Tests.{eqb-true}
use Rattle.lists.specs.Lists.{sum_by, only}
use Rattle.lists.proofs.SumLaws.{sum_by-at-le}
use Rattle.lists.proofs.TestLaws.{and_left}
use Rattle.rules.specs.Rows.{Row, Test, blank, debit, toll, held_toll, row_no, held, source_of, debit_of, payable, payable_toll, payable_rest, remaining, settle_more, with_settled, kind_toll}
use Rattle.rules.specs.Settlement.{allocate, money, debt, moved, moved_to, pay, settle_rank, settle_ranks, ranks, settle, used, paid, owed}
use Rattle.rules.proofs.AllocationLaws.{bare, Steady, Apart, Within, allocate-at}
use Rattle.rules.proofs.RankLaws.{Rank, Settled, apart-within, apart-swap, source-debit, bare-pay, length-pay, other-pay, settle_rank-same, RankMoves, settle_rank-moves, settle_rank-row, settle_rank-still}

-- ---- ranks that part what a test passes

-- what passes u and not t
unfoldable pub minus : Test → Test → Test
minus u t r = u r && not (t r)

-- each rank's test is steady and within what the ranks before it have left of u, and together they leave nothing of it
unfoldable pub Parts : Test → List Test → Type 0
Parts u [] = (r : Row) → u r ≡ false
Parts u (t ∷ ts) = Steady t × Within t u × Parts (minus u t) ts

minus-steady : (t u : Test) → Steady t → Steady u → Steady (minus u t)
unfolding minus
minus-steady t u p q r n = rw (q r n, p r n)

minus-within : (t u : Test) → Within (minus u t) u
unfolding minus
minus-within t u r = go (u r) (t r)
  where
    go : (x y : Bool) → (x && not y) && not x ≡ false
    go true true = refl
    go true false = refl
    go false y = refl

minus-apart : (t u : Test) → Apart (minus u t) t
unfolding minus
minus-apart t u r = go (u r) (t r)
  where
    go : (x y : Bool) → (x && not y) && y ≡ false
    go true true = refl
    go true false = refl
    go false y = refl

apart-minus : (t u : Test) → Apart t (minus u t)
unfolding minus
apart-minus t u r = go (u r) (t r)
  where
    go : (x y : Bool) → y && (x && not y) ≡ false
    go x false = refl
    go true true = refl
    go false true = refl

within-within : (t u w : Test) → Within t u → Within u w → Within t w
within-within t u w p q r = go (t r) (u r) (w r) (p r) (q r)
  where
    go : (x y z : Bool) → x && not y ≡ false → y && not z ≡ false → x && not z ≡ false
    go true true true e f = refl
    go true true false e f = f
    go true false z e f = absurd (true≢false e)
    go false y z e f = refl

module _ (a : ℕ) (t u : Test) where
  pub rank-within : Rank a u → Steady t → Within t u → Rank a t
  rank-within k s w = record {
    steady = s;
    no-source = apart-within (source_of a) t u k.no-source w;
    debits = within-within t u (debit_of a) w k.debits;
  }

  pub rank-minus : Rank a u → Steady t → Rank a (minus u t)
  rank-minus k s = record {
    steady = minus-steady t u s k.steady;
    no-source = apart-within (source_of a) (minus u t) u k.no-source (minus-within t u);
    debits = within-within (minus u t) u (debit_of a) (minus-within t u) k.debits;
  }

-- what passes u passes t or what t leaves
split : (t u : Test) → Within t u → (f : Row → ℕ) (r : Row) → only u f r ≡ only t f r + only (minus u t) f r
unfolding only minus
split t u w f r = go (t r) (u r) (w r)
  where
    go : (x y : Bool) → x && not y ≡ false → cond y (f r) 0 ≡ cond x (f r) 0 + cond (y && not x) (f r) 0
    go true true e = omega arith
    go true false e = absurd (true≢false e)
    go false true e = omega arith
    go false false e = omega arith

split-sum : (t u : Test) → Within t u → (f : Row → ℕ) (rows : List Row)
    → sum_by (only u f) rows ≡ sum_by (only t f) rows + sum_by (only (minus u t) f) rows
unfolding sum_by
split-sum t u w f [] = omega arith
split-sum t u w f (r ∷ rs) = omega (arith, split t u w f r, split-sum t u w f rs)

none-sum : (u : Test) → ((r : Row) → u r ≡ false) → (f : Row → ℕ) (rows : List Row) → sum_by (only u f) rows ≡ 0
unfolding sum_by only
none-sum u z f [] = refl
none-sum u z f (r ∷ rs) = rw (z r) (omega (arith, none-sum u z f rs))

-- ---- ranks settled one after the other

module _ (a : ℕ) where
  bare-ranks : (ts : List Test) (rows : List Row) → map bare (settle_ranks ts a rows) ≡ map bare rows
  unfolding settle_ranks settle_rank
  bare-ranks [] rows = refl
  bare-ranks (t ∷ ts) rows = bare-ranks ts (settle_rank t a rows) ∙ bare-pay t a (moved_to t a rows) rows

  length-ranks : (ts : List Test) (rows : List Row) → length (settle_ranks ts a rows) ≡ length rows
  unfolding settle_ranks settle_rank
  length-ranks [] rows = refl
  length-ranks (t ∷ ts) rows = length-ranks ts (settle_rank t a rows) ∙ length-pay t a (moved_to t a rows) rows

  -- what passes neither the ranks' tests nor is a source of the account stays
  pub other-ranks : (ts : List Test) (u w : Test) (f : Row → ℕ) → Parts u ts → Apart (source_of a) w → Apart u w → Steady w → (rows : List Row)
      → sum_by (only w f) (settle_ranks ts a rows) ≡ sum_by (only w f) rows
  unfolding settle_ranks settle_rank Parts
  other-ranks [] u w f p x y s rows = refl
  other-ranks (t ∷ ts) u w f p x y s rows =
      other-ranks ts (minus u t) w f p.2 x (apart-part (minus u t) (minus-within t u)) s (settle_rank t a rows)
      ∙ other-pay t a w f x (apart-part t p.1) s (moved_to t a rows) rows
    where
      apart-part : (v : Test) → Within v u → Apart v w
      apart-part v q = apart-swap w v (apart-within w v u (apart-swap u w y) q)

  -- what all ranks together move
  ranks-move : (ts : List Test) (u : Test) (k : Rank a u) → Parts u ts → (rows : List Row)
      → RankMoves u a k rows (settle_ranks ts a rows) (min (money a rows) (sum_by (only u remaining) rows))
  unfolding settle_ranks Parts
  ranks-move [] u k p rows =
      let z = none-sum u p remaining rows in
      record { money = omega (arith, z); wanted = omega (arith, z); used = omega (arith, z); paid = omega (arith, z); owed = omega (arith, z) }
  ranks-move (t ∷ ts) u k p rows =
      let v : Test = minus u t in
      let kt : Rank a t = rank-within a t u k p.0 p.1 in
      let kv : Rank a v = rank-minus a t u k p.0 in
      let mid : List Row = settle_rank t a rows in
      let new : List Row = settle_ranks ts a mid in
      let m = settle_rank-moves t a kt rows in
      let n = ranks-move ts v kv p.2 mid in
      let before = split-sum t u p.1 remaining rows in
      let after = split-sum t u p.1 remaining new in
      let rest : sum_by (only v remaining) mid ≡ sum_by (only v remaining) rows = unfold settle_rank in other-pay t a v remaining kv.no-source (apart-minus t u) kv.steady (moved_to t a rows) rows in
      let first = other-ranks ts v t remaining p.2 kt.no-source (minus-apart t u) p.0 mid in
      let moved-first : moved_to t a rows ≡ min (money a rows) (sum_by (only t remaining) rows) = unfold moved_to in refl in
      record {
        money = omega (arith, m.money, n.money, before, rest, moved-first);
        wanted = omega (arith, m.money, m.wanted, n.wanted, before, after, rest, first, moved-first);
        used = omega (arith, m.money, m.used, n.used, before, rest, moved-first);
        paid = omega (arith, m.money, m.paid, n.paid, before, rest, moved-first);
        owed = omega (arith, m.money, m.owed, n.owed, before, rest, moved-first);
      }

  ranks-row : (ts : List Test) (u : Test) → Rank a u → Parts u ts → (rows : List Row) (i : ℕ)
      → Settled a (get_or rows i blank) (get_or (settle_ranks ts a rows) i blank)
  unfolding settle_ranks Parts
  ranks-row [] u k p rows i = record { kept = refl; grows = omega arith; fits = λ h. h; others = λ e. refl }
  ranks-row (t ∷ ts) u k p rows i =
      let m = settle_rank-row t a (rank-within a t u k p.0 p.1) rows i in
      let n = ranks-row ts (minus u t) (rank-minus a t u k p.0) p.2 (settle_rank t a rows) i in
      record {
        kept = n.kept ∙ m.kept;
        grows = omega (arith, m.grows, n.grows);
        fits = λ h. n.fits (m.fits h);
        others = λ e. n.others (ap (λ (r : Row). eqb r.account a) (m.others e) ∙ e) ∙ m.others e;
      }

  -- a row that has nothing and wants nothing stays
  ranks-still : (ts : List Test) (u : Test) → Rank a u → Parts u ts → (rows : List Row) (i : ℕ)
      → only (source_of a) remaining (get_or rows i blank) ≡ 0 → only u remaining (get_or rows i blank) ≡ 0
      → get_or (settle_ranks ts a rows) i blank ≡ get_or rows i blank
  unfolding settle_ranks Parts
  ranks-still [] u k p rows i x y = refl
  ranks-still (t ∷ ts) u k p rows i x y =
      let z = split t u p.1 remaining (get_or rows i blank) in
      let e = settle_rank-still t a (rank-within a t u k p.0 p.1) rows i x (omega arith) in
      ranks-still ts (minus u t) (rank-minus a t u k p.0) p.2 (settle_rank t a rows) i (rw e x) (rw e (omega arith)) ∙ e

  -- the identity where there is nothing to move or to pay
  ranks-same : (ts : List Test) (u : Test) → Rank a u → Parts u ts → (rows : List Row) → min (money a rows) (sum_by (only u remaining) rows) ≡ 0
      → settle_ranks ts a rows ≡ rows
  unfolding settle_ranks Parts
  ranks-same [] u k p rows z = refl
  ranks-same (t ∷ ts) u k p rows z =
      let s = split-sum t u p.1 remaining rows in
      let moved-first : moved_to t a rows ≡ min (money a rows) (sum_by (only t remaining) rows) = unfold moved_to in refl in
      let e = settle_rank-same t a (rank-within a t u k p.0 p.1) rows (omega arith) in
      rw e (ranks-same ts (minus u t) (rank-minus a t u k p.0) p.2 rows (omega arith))

-- ---- the payable debits and their two ranks

pub payable-steady : (rows : List Row) (a : ℕ) → Steady (payable rows a)
unfolding payable held
payable-steady rows a r n = refl

payable-debit : (rows : List Row) (a : ℕ) → Within (payable rows a) (debit_of a)
unfolding payable debit_of
payable-debit rows a r = go (eqb r.account a) (debit r) (not (held rows r))
  where
    go : (x d h : Bool) → (x && (d && h)) && not (x && d) ≡ false
    go true true true = refl
    go true true false = refl
    go true false h = refl
    go false d h = refl

pub payable-rank : (rows : List Row) (a : ℕ) → Rank a (payable rows a)
payable-rank rows a = record {
  steady = payable-steady rows a;
  no-source = apart-within (source_of a) (payable rows a) (debit_of a) (source-debit a) (payable-debit rows a);
  debits = payable-debit rows a;
}

pub ranks-part : (rows : List Row) (a : ℕ) → Parts (payable rows a) (ranks rows a)
unfolding Parts minus payable_toll payable_rest payable held
ranks-part rows a =
    let u : Test = payable rows a in
    (λ r n. refl, λ r. tolls (u r) (toll r), (λ r n. refl, λ r. rest (u r) (toll r), λ r. none (u r) (toll r)))
  where
    tolls : (x y : Bool) → (x && y) && not x ≡ false
    tolls true true = refl
    tolls true false = refl
    tolls false y = refl

    rest : (x y : Bool) → (x && not y) && not (x && not (x && y)) ≡ false
    rest true true = refl
    rest true false = refl
    rest false y = refl

    none : (x y : Bool) → (x && not (x && y)) && not (x && not y) ≡ false
    none true true = refl
    none true false = refl
    none false y = refl

-- what is payable is a debit
pub payable-le : (rows : List Row) (a : ℕ) (r : Row) → only (payable rows a) remaining r ≤ only (debit_of a) remaining r
unfolding payable debit_of only
payable-le rows a r = go (eqb r.account a) (debit r) (not (held rows r))
  where
    go : (x d h : Bool) → cond (x && (d && h)) (remaining r) 0 ≤ cond (x && d) (remaining r) 0
    go true true true = omega arith
    go true true false = omega arith
    go true false h = omega arith
    go false d h = omega arith

-- what is held does not depend on what is settled
named-allocate : (t : Test) (p : ℕ) (rows : List Row) (n : ℕ) → held_toll (row_no (allocate t p rows) n) ≡ held_toll (row_no rows n)
named-allocate t p rows zero = refl
named-allocate t p rows (suc n) = rw (allocate-at t p rows n)

pub payable-allocate : (t : Test) (p : ℕ) (rows : List Row) (a : ℕ) → payable (allocate t p rows) a ≡ payable rows a
unfolding payable held
payable-allocate t p rows a = fun_ext λ r. rw (named-allocate t p rows r.reference)

-- ---- what is held and what is payable stays

pub payable-pay : (t : Test) (a b n : ℕ) (rows : List Row) → payable (pay t a n rows) b ≡ payable rows b
unfolding pay
payable-pay t a b n rows = payable-allocate t n (allocate (source_of a) n rows) b ∙ payable-allocate (source_of a) n rows b

payable-ranks : (ts : List Test) (a b : ℕ) (rows : List Row) → payable (settle_ranks ts a rows) b ≡ payable rows b
unfolding settle_ranks settle_rank
payable-ranks [] a b rows = refl
payable-ranks (t ∷ ts) a b rows = payable-ranks ts a b (settle_rank t a rows) ∙ payable-pay t a b (moved_to t a rows) rows

pub payable-settle : (a b : ℕ) (rows : List Row) → payable (settle a rows) b ≡ payable rows b
unfolding settle
payable-settle a b rows = payable-ranks (ranks rows a) a b rows

-- ---- settlement

settle-moves : (a : ℕ) (rows : List Row) → RankMoves (payable rows a) a (payable-rank rows a) rows (settle a rows) (moved a rows)
unfolding settle moved debt
settle-moves a rows = ranks-move a (ranks rows a) (payable rows a) (payable-rank rows a) (ranks-part rows a) rows

-- what remains on either side, and what is settled
pub money-settle : (a : ℕ) (rows : List Row) → money a (settle a rows) + moved a rows ≡ money a rows
unfolding moved debt
money-settle a rows = (settle-moves a rows).money

pub debt-settle : (a : ℕ) (rows : List Row) → debt a (settle a rows) + moved a rows ≡ debt a rows
unfolding moved debt
debt-settle a rows = rw (payable-settle a a rows) (settle-moves a rows).wanted

pub owed-settle : (a : ℕ) (rows : List Row) → owed a (settle a rows) + moved a rows ≡ owed a rows
unfolding moved debt
owed-settle a rows = (settle-moves a rows).owed

pub used-settle : (a : ℕ) (rows : List Row) → used a (settle a rows) ≡ used a rows + moved a rows
unfolding moved debt
used-settle a rows = (settle-moves a rows).used

pub paid-settle : (a : ℕ) (rows : List Row) → paid a (settle a rows) ≡ paid a rows + moved a rows
unfolding moved debt
paid-settle a rows = (settle-moves a rows).paid

pub settle-fair : (a : ℕ) (rows : List Row) → used a rows ≡ paid a rows → used a (settle a rows) ≡ paid a (settle a rows)
settle-fair a rows e = omega (arith, used-settle a rows, paid-settle a rows)

-- "until either side is spent"
pub settle-no-idle-money : (a : ℕ) (rows : List Row) → moved a (settle a rows) ≡ 0
unfolding moved
settle-no-idle-money a rows = omega (arith, money-settle a rows, debt-settle a rows)

-- the identity where there is nothing to move or to pay
pub settle-same : (a : ℕ) (rows : List Row) → moved a rows ≡ 0 → settle a rows ≡ rows
unfolding settle moved debt
settle-same a rows e = ranks-same a (ranks rows a) (payable rows a) (payable-rank rows a) (ranks-part rows a) rows e

pub settle-settle : (a : ℕ) (rows : List Row) → settle a (settle a rows) ≡ settle a rows
settle-settle a rows = settle-same a (settle a rows) (settle-no-idle-money a rows)

-- row by row: if row i is a source of the account with money unused, no row j is a debit of it that is not held and is unsettled
pub settle-not-both : (a : ℕ) (rows : List Row) (i j : ℕ)
    → i < length (settle a rows) → 0 < only (source_of a) remaining (get_or (settle a rows) i blank)
    → j < length (settle a rows) → 0 < only (payable (settle a rows) a) remaining (get_or (settle a rows) j blank) → ⊥
unfolding moved money debt
settle-not-both a rows i j hi p hj q =
    omega (
      arith,
      settle-no-idle-money a rows,
      sum_by-at-le (only (source_of a) remaining) (settle a rows) i blank hi,
      sum_by-at-le (only (payable (settle a rows) a) remaining) (settle a rows) j blank hj,
    )

-- every field but `settled` stays, and so does the length
pub settle-bare : (a : ℕ) (rows : List Row) → map bare (settle a rows) ≡ map bare rows
unfolding settle
settle-bare a rows = bare-ranks a (ranks rows a) rows

pub length-settle : (a : ℕ) (rows : List Row) → length (settle a rows) ≡ length rows
unfolding settle
length-settle a rows = length-ranks a (ranks rows a) rows

pub settle-row : (a : ℕ) (rows : List Row) (i : ℕ) → Settled a (get_or rows i blank) (get_or (settle a rows) i blank)
unfolding settle
settle-row a rows i = ranks-row a (ranks rows a) (payable rows a) (payable-rank rows a) (ranks-part rows a) rows i

-- what is settled of row i, more than before
unfoldable pub gain : ℕ → List Row → ℕ → ℕ
gain a rows i = (get_or (settle a rows) i blank).settled - (get_or rows i blank).settled

pub settle-at : (a : ℕ) (rows : List Row) (i : ℕ) → get_or (settle a rows) i blank ≡ settle_more (get_or rows i blank) (gain a rows i)
unfolding gain
settle-at a rows i =
    let r : Row = get_or rows i blank in
    let s : Row = get_or (settle a rows) i blank in
    let f = settle-row a rows i in
    ap {B = Row} (λ (x : Row). with_settled s.settled x) f.kept
    ∙ ap {B = Row} (λ (n : ℕ). with_settled n r) (omega (arith, f.grows))

-- a row that has nothing and wants nothing stays
pub settle-still : (a : ℕ) (rows : List Row) (i : ℕ)
    → only (source_of a) remaining (get_or rows i blank) ≡ 0 → only (payable rows a) remaining (get_or rows i blank) ≡ 0
    → get_or (settle a rows) i blank ≡ get_or rows i blank
unfolding settle
settle-still a rows i x y = ranks-still a (ranks rows a) (payable rows a) (payable-rank rows a) (ranks-part rows a) rows i x y

-- a held toll takes and gives nothing
pub held-source : (a : ℕ) (r : Row) → held_toll r ≡ true → only (source_of a) remaining r ≡ 0
unfolding only source_of
held-source a r e =
    let k : r.kind ≡ kind_toll = eqb-true r.kind kind_toll (and_left (eqb r.kind kind_toll) _ e) in
    rw (k, and-false (eqb r.account a))

pub held-payable : (rows : List Row) (a : ℕ) (r : Row) → held_toll r ≡ true → only (payable rows a) remaining r ≡ 0
unfolding only payable held
held-payable rows a r e = rw (e, and-false (debit r), and-false (eqb r.account a))

pub settle-held : (a : ℕ) (rows : List Row) (i : ℕ) → held_toll (get_or rows i blank) ≡ true → get_or (settle a rows) i blank ≡ get_or rows i blank
settle-held a rows i h =
    let r : Row = get_or rows i blank in
    settle-still a rows i (held-source a r h) (held-payable rows a r h)
