-- Settlement makes a book that is nearly sound sound.
use mathlib.Core.Path.{◌≡◌, refl, sym, ap, ◌∙◌}
use mathlib.Core.Logic.{◌≢◌}
use mathlib.Core.Bool.{Bool, true, false, not, cond, ◌&&◌, ◌||◌, true≢false, false≢true, or-true}
use Prim.Native.Nat.{ℕ, zero, suc, ◌+◌, ◌≤◌, ◌<◌, min}
use native.Mathlib.Omega.{arith}
use native.Mathlib.Nat.{add-zero}
use native.Mathlib.Decide.{ℕ_discrete}
use mathlib.Core.List.{List}
use lib.ListN.{length, get_or}
use lib.Dec.{eqb, leb, ltb}
use borrow.Author.Tests.{le-leb, ltb-true, lt-ltb, eqb-true, eq-eqb}
use Rattle.lists.specs.Tests.{◌implies◌}
use Rattle.lists.proofs.TestLaws.{and_left, and_right, and_both}
use Rattle.rules.specs.Rows.{Row, blank, held_toll, unsettled, settle_more, fee_naming}
use Rattle.rules.specs.Settlement.{money, debt, moved, settle, settle_accounts, used, paid, owed}
use Rattle.rules.specs.Book.{Account, unused, Book, with_rows, settled}
use Rattle.rules.specs.Soundness.{kind_fits, amount_fits, settled_fits, mark_fits, toll_words_fit, no_reference, row_day_fits, due_within, hold_fits, account_used, names, reference_fits, passage, passage_once, fees_fit, returned_of, returned_fits, used_is_paid, no_idle_money, closed_clear}
use Rattle.rules.proofs.SettlementLaws.{settle-same, settle-fair, settle-row, gain, settle-at, settle-held, length-settle}
use Rattle.rules.proofs.SettlementAccountsLaws.{used-other, money-other, paid_other, owed-other, count-settle, named-settle, length-settle_accounts, settle_accounts-no-idle-money}
use Rattle.rules.specs.SoundFacts.{Shape, Live, SumsFit, Near, Sound}
use Rattle.rules.proofs.StorableLaws.{settled-le}
use Rattle.preservation.proofs.CarriedLaws.{Carries, reference-carried}

-- ---- one row

carries-settle : (a : ℕ) (rows : List Row) → Carries rows (settle a rows)
carries-settle a rows = record {
  kind = λ j h. ap (λ (x : Row). x.kind) (named-settle a rows j);
  account = λ j h. ap (λ (x : Row). x.account) (named-settle a rows j);
}

shape-settle : (today : ℕ) (xs : List Account) (a : ℕ) (rows : List Row) (n : ℕ) (r : Row) (m : ℕ) → n ≤ suc (length rows)
    → Shape today xs rows n r → Shape today xs (settle a rows) n (settle_more r m)
unfolding kind_fits amount_fits mark_fits toll_words_fit no_reference row_day_fits account_used passage_once fees_fit passage fee_naming
shape-settle today xs a rows n r m h s = record {
  kind = s.kind;
  amount = s.amount;
  mark = s.mark;
  words = s.words;
  none = s.none;
  day = s.day;
  account = s.account;
  reference = still n r (reference-carried rows (settle a rows) (carries-settle a rows) n r h ∙ s.reference);
  passage = rw (count-settle (passage r.reference) (λ x. refl) a rows) s.passage;
  fees = rw (count-settle (fee_naming n) (λ x. refl) a rows) s.fees;
}
  where
    still : (n : ℕ) (r : Row) → reference_fits (settle a rows) n r ≡ true → reference_fits (settle a rows) n (settle_more r m) ≡ true
    still n r e = unfold reference_fits names in e

due-go : (u' u h k x y : Bool) → (u' ≡ true → u ≡ true) → (x ≡ true → y ≡ true) → cond (u && h && k) x y ≡ true → cond (u' && h && k) x y ≡ true
due-go true true h k x y p q e = e
due-go true false h k x y p q e = absurd (false≢true (p refl))
due-go false u h k x y p q e = go (u && h && k) e
  where
    go : (c : Bool) → cond c x y ≡ true → y ≡ true
    go true f = q f
    go false f = f

-- a toll that is not held has no hold start
pub hold-free : (t d x x' y : Bool) → t && d ≡ false → t implies cond d x y ≡ true → t implies cond d x' y ≡ true
hold-free true true x x' y e f = absurd (true≢false e)
hold-free true false x x' y e f = f
hold-free false d x x' y e f = refl

-- a row of which more is settled, within its amount, and nothing more where it is a held toll
pub live_more : (past today L : ℕ) (r : Row) (m : ℕ) → (r.settled ≤ r.amount → r.settled + m ≤ r.amount) → (held_toll r ≡ true → m ≡ 0)
    → Live past today L r → Live past today L (settle_more r m)
unfolding settled_fits due_within hold_fits
live_more past today L r m f z v =
    let g : r.settled + m ≤ r.amount = f (settled-le r v.settled) in
    record {
      settled = and_both _ _ (le-leb (r.settled + m) r.amount g) (whole (eqb r.kind 6) (and_right (leb r.settled r.amount) _ v.settled) g);
      due = due (eqb r.kind 1) v.due;
      hold = holds (held_toll r) refl;
    }
  where
    whole : (b : Bool) → b implies eqb r.settled r.amount ≡ true → r.settled + m ≤ r.amount → b implies eqb (r.settled + m) r.amount ≡ true
    whole true e g = let q : r.settled ≡ r.amount = eqb-true r.settled r.amount e in eq-eqb (r.settled + m) r.amount (omega arith)
    whole false e g = refl

    due : (b : Bool) → b implies leb r.due (today + L) && cond (unsettled r && not (held_toll r) && ltb r.mark 4) (ltb past r.due) (leb 1 r.due) ≡ true
        → b implies leb r.due (today + L) && cond (unsettled (settle_more r m) && not (held_toll r) && ltb r.mark 4) (ltb past r.due) (leb 1 r.due) ≡ true
    due true e =
        and_both _ _ (and_left (leb r.due (today + L)) _ e)
        (due-go (unsettled (settle_more r m)) (unsettled r) (not (held_toll r)) (ltb r.mark 4) (ltb past r.due) (leb 1 r.due)
        (λ p. lt-ltb r.settled r.amount (omega (arith, ltb-true (r.settled + m) r.amount p)))
        (λ p. le-leb 1 r.due (omega (arith, ltb-true past r.due p)))
        (and_right (leb r.due (today + L)) _ e))
    due false e = refl

    holds : (b : Bool) → held_toll r ≡ b → hold_fits today L (settle_more r m) ≡ true
    holds true e = rw (z e, add-zero) v.hold
    holds false e = hold-free (eqb r.kind 1) (eqb r.dispute 1) _ _ (eqb r.hold 0) e v.hold

live-settle : (past today L a : ℕ) (rows : List Row) (i : ℕ) → Live past today L (get_or rows i blank) → Live past today L (get_or (settle a rows) i blank)
unfolding gain
live-settle past today L a rows i v =
    let r : Row = get_or rows i blank in
    let s : Row = get_or (settle a rows) i blank in
    let w = settle-row a rows i in
    let k : s.amount ≡ r.amount = ap (λ (x : Row). x.amount) w.kept in
    rw (settle-at a rows i)
    (live_more past today L r (gain a rows i) (λ h. omega (arith, w.fits h, w.grows))
    (λ h. let e : s.settled ≡ r.settled = ap (λ (x : Row). x.settled) (settle-held a rows i h) in omega arith)
    v)

-- ---- one account

counted-self : (a : ℕ) (rows : List Row) (x : Account) → SumsFit rows a x → SumsFit (settle a rows) a x
unfolding returned_fits used_is_paid closed_clear returned_of moved
counted-self a rows x c = record {
  returned = rw (count-settle (returned_of a) (λ r. refl) a rows) c.returned;
  used-is-paid = eq-eqb _ _ (settle-fair a rows (eqb-true (used a rows) (paid a rows) c.used-is-paid));
  clear = clear (eqb x.state 3) c.clear;
}
  where
    clear : (b : Bool) → b implies eqb (money a rows) 0 && eqb (owed a rows) 0 ≡ true → b implies eqb (money a (settle a rows)) 0 && eqb (owed a (settle a rows)) 0 ≡ true
    clear true e =
        let m : money a rows ≡ 0 = eqb-true (money a rows) 0 (and_left (eqb (money a rows) 0) _ e) in
        let z : moved a rows ≡ 0 = omega arith in
        rw (settle-same a rows z) e
    clear false e = refl

counted-other : (a : ℕ) (rows : List Row) (n : ℕ) (x : Account) → a ≢ n → SumsFit rows n x → SumsFit (settle a rows) n x
unfolding returned_fits used_is_paid closed_clear returned_of
counted-other a rows n x q c = record {
  returned = rw (count-settle (returned_of n) (λ r. refl) a rows) c.returned;
  used-is-paid = rw (used-other a n q rows, paid_other a n q rows) c.used-is-paid;
  clear = rw (money-other a n q rows, owed-other a n q rows) c.clear;
}

counted-settle : (a : ℕ) (rows : List Row) (n : ℕ) (x : Account) → SumsFit rows n x → SumsFit (settle a rows) n x
counted-settle a rows n x c = go (ℕ_discrete n a)
  where
    go : Dec (n ≡ a) → SumsFit (settle a rows) n x
    go (yes q) = rw q (counted-self a rows x (rw q at c))
    go (no q) = counted-other a rows n x (λ e. q (sym e)) c

-- ---- the book

near-settle : (past : ℕ) (b : Book) (a : ℕ) → Near past b → Near past (with_rows (settle a b.rows) b)
near-settle past b a s = record {
  day = s.day;
  schedule = s.schedule;
  lists = s.lists;
  holidays = s.holidays;
  sizes = s.sizes;
  fits = rw (length-settle a b.rows) s.fits;
  shape = λ k h.
      let l : k < length b.rows = rw (length-settle a b.rows) at h in
      rw (settle-at a b.rows k) (shape-settle b.day b.accounts a b.rows (suc k) (get_or b.rows k blank) _ (omega arith) (s.shape k l));
  live = λ k h.
      let l : k < length b.rows = rw (length-settle a b.rows) at h in
      live-settle past b.day b.schedule.stage a b.rows k (s.live k l);
  standing = s.standing;
  successors = s.successors;
  counted = λ k h. counted-settle a b.rows (suc k) (get_or b.accounts k unused) (s.counted k h);
}

near-settle_accounts : (past n : ℕ) (b : Book) → Near past b → Near past (with_rows (settle_accounts n b.rows) b)
unfolding settle_accounts
near-settle_accounts past zero b s = s
near-settle_accounts past (suc n) b s = near-settle past (with_rows (settle_accounts n b.rows) b) (suc n) (near-settle_accounts past n b s)

no-idle-money-is : (rows : List Row) (n : ℕ) → moved n rows ≡ 0 → no_idle_money rows n ≡ true
unfolding moved no_idle_money
no-idle-money-is rows n e = go (money n rows) (debt n rows) e
  where
    go : (m d : ℕ) → min m d ≡ 0 → eqb m 0 || eqb d 0 ≡ true
    go zero d q = refl
    go (suc m) d q = let z : d ≡ 0 = omega arith in rw z (or-true (eqb (suc m) 0))

pub settled-near : (past : ℕ) (b : Book) → Near past b → Near past (settled b)
unfolding settled
settled-near past b s = near-settle_accounts past (length b.accounts) b s

pub settled-sound : (b : Book) → Near b.day b → Sound (settled b)
unfolding settled
settled-sound b s = record {
  near = near-settle_accounts b.day (length b.accounts) b s;
  no-idle-money = λ k h. no-idle-money-is (settle_accounts (length b.accounts) b.rows) (suc k) (settle_accounts-no-idle-money (length b.accounts) b.rows k h);
}

pub length-settled : (b : Book) → length (settled b).rows ≡ length b.rows
unfolding settled
length-settled b = length-settle_accounts (length b.accounts) b.rows
