-- A row added, a row changed and accounts changed keep a book nearly sound: the generic laws behind the events.
use mathlib.Core.Path.{◌≡◌, refl, sym, ap, ◌∙◌}
use mathlib.Core.Bool.{Bool, true, false, not, cond, ◌&&◌, ◌||◌}
use Prim.Native.Nat.{ℕ, zero, suc, ◌-◌, ◌≤◌, ◌<◌}
use native.Mathlib.Nat.{add-zero}
use native.Mathlib.Omega.{arith}
use native.Mathlib.Decide.{ℕ_discrete, dec_lt}
use mathlib.Core.List.{List, [], ◌∷◌, ◌++◌, map}
use lib.ListN.{length, get_or, set, length-append, length-set, length-map, get_or-append}
use lib.Seq.{get_or-append_seam, get_or-set_same, get_or-set_other}
use lib.Dec.{eqb, leb}
use borrow.Author.Tests.{le-leb, eqb-true}
use Rattle.lists.specs.Tests.{◌implies◌}
use Rattle.lists.specs.Lists.{sum_by, only, count}
use Rattle.lists.proofs.TestLaws.{and_left, and_right, and_both, cond-zero}
use Rattle.lists.proofs.SumLaws.{sum_by-snoc, sum_by-set-same, sum_by-map, sum_by-ext}
use Rattle.rules.specs.Schedule.{schedule_fits}
use Rattle.rules.specs.RateLists.{lists_fit}
use Rattle.rules.specs.BusinessDays.{holidays_fit}
use Rattle.rules.specs.Rows.{Row, Test, blank, toll, remaining, with_due, with_dispute, with_hold_start, fee_naming, source_of, debit_of}
use Rattle.rules.specs.Settlement.{money, used, paid, owed}
use Rattle.rules.specs.Book.{Account, unused, Book, with_rows, with_accounts, add_row, account_no}
use Rattle.rules.specs.Successors.{other_used}
use Rattle.rules.specs.Opening.{day_fits, sizes_fit}
use Rattle.rules.specs.Soundness.{account_used, passage, passage_once, fees_fit, successor_fits, returned_of, returned_fits, used_is_paid, closed_clear}
use Rattle.rules.specs.SoundFacts.{Shape, Live, Standing, SumsFit, Near}
use Rattle.preservation.proofs.CarriedLaws.{carries-map, carries-append, carries-set, shape-carried}
use Rattle.lists.proofs.ListLaws.{map_at}

-- ---- a nearly sound book but for the accounts' sums

pub record Framed (past : ℕ) (b : Book) : Type 0 where
  pub day : day_fits b.day ≡ true
  pub schedule : schedule_fits b.schedule ≡ true
  pub lists : lists_fit b.lists ≡ true
  pub holidays : holidays_fit b.holidays ≡ true
  pub sizes : sizes_fit (length b.accounts) b.room ≡ true
  pub fits : leb (length b.rows) b.room ≡ true
  pub shape : (k : ℕ) → k < length b.rows → Shape b.day b.accounts b.rows (suc k) (get_or b.rows k blank)
  pub live : (k : ℕ) → k < length b.rows → Live past b.day b.schedule.stage (get_or b.rows k blank)
  pub standing : (k : ℕ) → k < length b.accounts → Standing b.day (get_or b.accounts k unused)
  pub successors : (k : ℕ) → k < length b.accounts → successor_fits b.accounts (suc k) (get_or b.accounts k unused) ≡ true

pub near-framed : (past : ℕ) (b : Book) → Near past b → Framed past b
near-framed past b s = record {
  day = s.day;
  schedule = s.schedule;
  lists = s.lists;
  holidays = s.holidays;
  sizes = s.sizes;
  fits = s.fits;
  shape = s.shape;
  live = s.live;
  standing = s.standing;
  successors = s.successors;
}

pub framed-near : (past : ℕ) (b : Book) → Framed past b → ((k : ℕ) → k < length b.accounts → SumsFit b.rows (suc k) (get_or b.accounts k unused)) → Near past b
framed-near past b s c = record {
  day = s.day;
  schedule = s.schedule;
  lists = s.lists;
  holidays = s.holidays;
  sizes = s.sizes;
  fits = s.fits;
  shape = s.shape;
  live = s.live;
  standing = s.standing;
  successors = s.successors;
  counted = c;
}

-- ---- a row added

abbrev pub grown : List Row → Row → List Row
grown rows r = rows ++ (r ∷ [])

pub sum-add : (f : Row → ℕ) (rows : List Row) (r : Row) → f r ≡ 0 → sum_by f (grown rows r) ≡ sum_by f rows
sum-add f rows r e = sum_by-snoc f rows r ∙ rw (e, add-zero)

pub count_add : (t : Test) (rows : List Row) (r : Row) → t r ≡ false → count t (grown rows r) ≡ count t rows
unfolding count
count_add t rows r e = sum-add (λ x. cond (t x) 1 0) rows r (rw e)

-- the property of each row of a grown journal: of the rows before, and of the new one
pub grown-row : (rows : List Row) (r : Row) (k : ℕ) (P : Row → Type 0) → k < length (grown rows r) → (k < length rows → P (get_or rows k blank)) → (k ≡ length rows → P r)
    → P (get_or (grown rows r) k blank)
grown-row rows r k P l f g = go (dec_lt k (length rows))
  where
    go : Dec (k < length rows) → P (get_or (grown rows r) k blank)
    go (yes q) = rw (get_or-append rows (r ∷ []) blank k q) (f q)
    go (no q) =
        let z : k ≡ length rows = omega (arith, rw (length-append rows (r ∷ [])) at l) in
        let e : get_or (grown rows r) k blank ≡ r = rw z (get_or-append_seam rows r [] blank) in
        rw e (g z)

-- no passage number twice, and no fee for a toll
pub record Distinct (rows : List Row) (r : Row) : Type 0 where
  pub passage : (p : ℕ) → passage p r ≡ true → count (passage p) rows ≡ 0
  pub fee : (k : ℕ) → k < length rows → toll (get_or rows k blank) ≡ true → fee_naming (suc k) r ≡ false

passage-add : (rows : List Row) (r x : Row) → ((p : ℕ) → passage p r ≡ true → count (passage p) rows ≡ 0) → passage_once rows x ≡ true → passage_once (grown rows r) x ≡ true
unfolding passage_once
passage-add rows r x f = go (toll x)
  where
    go : (t : Bool) → t implies eqb (count (passage x.reference) rows) 1 ≡ true → t implies eqb (count (passage x.reference) (grown rows r)) 1 ≡ true
    go true e = new (passage x.reference r) refl
      where
        new : (b : Bool) → passage x.reference r ≡ b → eqb (count (passage x.reference) (grown rows r)) 1 ≡ true
        new true w = absurd (omega (arith, f x.reference w, eqb-true (count (passage x.reference) rows) 1 e))
        new false w = rw (count_add (passage x.reference) rows r w) e
    go false e = refl

fees-add : (rows : List Row) (r x : Row) (n : ℕ) → (toll x ≡ true → fee_naming n r ≡ false) → fees_fit rows n x ≡ true → fees_fit (grown rows r) n x ≡ true
unfolding fees_fit
fees-add rows r x n f = go (toll x) refl
  where
    go : (t : Bool) → toll x ≡ t → t implies leb (count (fee_naming n) rows) (x.mark - 1) ≡ true → t implies leb (count (fee_naming n) (grown rows r)) (x.mark - 1) ≡ true
    go true q e = rw (count_add (fee_naming n) rows r (f q)) e
    go false q e = refl

pub framed-add : (past : ℕ) (b : Book) (r : Row) → Framed past b → length b.rows < b.room → Distinct b.rows r
    → Shape b.day b.accounts (grown b.rows r) (suc (length b.rows)) r → Live past b.day b.schedule.stage r
    → Framed past (add_row r b)
framed-add past b r s h p w v =
    let rows : List Row = b.rows in
    record {
      day = s.day;
      schedule = s.schedule;
      lists = s.lists;
      holidays = s.holidays;
      sizes = s.sizes;
      fits = le-leb (length (grown rows r)) b.room (rw (length-append rows (r ∷ [])) (omega arith));
      shape = λ k l. grown-row rows r k (λ x. Shape b.day b.accounts (grown b.rows r) (suc k) x) l
          (λ q. let o = s.shape k q in
          shape-carried rows (grown rows r) (carries-append rows (r ∷ [])) b.day b.accounts (suc k) (get_or rows k blank) (omega arith)
          (passage-add rows r (get_or rows k blank) p.passage o.passage) (fees-add rows r (get_or rows k blank) (suc k) (p.fee k q) o.fees) o)
          (λ q. rw q w);
      live = λ k l. grown-row rows r k (λ x. Live past b.day b.schedule.stage x) l (λ q. s.live k q) (λ q. v);
      standing = s.standing;
      successors = s.successors;
    }

-- the sums of an account where the new row is unsettled, no returned check, and of an account that is not closed
pub record Quiet (xs : List Account) (r : Row) : Type 0 where
  pub returned : (n : ℕ) → returned_of n r ≡ false
  pub settled : r.settled ≡ 0
  pub state : eqb (account_no xs r.account).state 3 ≡ false

pub counted-add : (xs : List Account) (rows : List Row) (r : Row) (n : ℕ) → Quiet xs r → SumsFit rows n (account_no xs n) → SumsFit (grown rows r) n (account_no xs n)
unfolding returned_fits used_is_paid closed_clear used paid money owed only source_of debit_of
counted-add xs rows r n p c = record {
  returned = rw (count_add (returned_of n) rows r (p.returned n)) c.returned;
  used-is-paid =
      rw (
        sum-add (only (source_of n) (λ x. x.settled)) rows r (cond-zero (source_of n r) r.settled p.settled),
        sum-add (only (debit_of n) (λ x. x.settled)) rows r (cond-zero (debit_of n r) r.settled p.settled),
      ) c.used-is-paid;
  clear = go (eqb r.account n) refl;
}
  where
    go : (b : Bool) → eqb r.account n ≡ b → closed_clear (grown rows r) n (account_no xs n) ≡ true
    go true e =
        let q : r.account ≡ n = eqb-true r.account n e in
        let z : eqb (account_no xs n).state 3 ≡ false = rw q at p.state in
        rw z
    go false e = rw (sum-add (only (source_of n) remaining) rows r (rw e), sum-add (only (debit_of n) remaining) rows r (rw e)) c.clear

pub near-add-quiet : (past : ℕ) (b : Book) (r : Row) → Near past b → length b.rows < b.room → Distinct b.rows r → Quiet b.accounts r
    → Shape b.day b.accounts (grown b.rows r) (suc (length b.rows)) r → Live past b.day b.schedule.stage r → Near past (add_row r b)
near-add-quiet past b r s h p q w v =
    framed-near past (add_row r b) (framed-add past b r (near-framed past b s) h p w v) (λ k l. counted-add b.accounts b.rows r (suc k) q (s.counted k l))

-- ---- accounts changed

-- accounts that are used stay so
abbrev pub StillUsed : List Account → List Account → Type 0
StillUsed xs ys = (a : ℕ) → not (eqb (account_no xs a).state 0) ≡ true → not (eqb (account_no ys a).state 0) ≡ true

-- accounts that are used stay so, and each stands by itself and has a successor that fits
pub record Kept (today : ℕ) (xs ys : List Account) : Type 0 where
  pub size : length ys ≡ length xs
  pub used : StillUsed xs ys
  pub standing : (k : ℕ) → k < length ys → Standing today (get_or ys k unused)
  pub successors : (k : ℕ) → k < length ys → successor_fits ys (suc k) (get_or ys k unused) ≡ true

pub kept_same : (past : ℕ) (b : Book) → Framed past b → Kept b.day b.accounts b.accounts
kept_same past b s = record { size = refl; used = λ a e. e; standing = s.standing; successors = s.successors }

-- a successor fits while used accounts stay used
pub successor-kept : (xs ys : List Account) → StillUsed xs ys → (n : ℕ) (x : Account) → successor_fits xs n x ≡ true → successor_fits ys n x ≡ true
unfolding successor_fits other_used
successor-kept xs ys u n x = go (eqb x.successor 0)
  where
    other : Bool
    other = not (eqb x.successor n)

    go : (t : Bool) → t || other && not (eqb (account_no xs x.successor).state 0) ≡ true → t || other && not (eqb (account_no ys x.successor).state 0) ≡ true
    go true e = refl
    go false e =
        let used : Bool = not (eqb (account_no xs x.successor).state 0) in
        and_both other (not (eqb (account_no ys x.successor).state 0)) (and_left other used e) (u x.successor (and_right other used e))

-- the property of each account where one is another
pub set-account : (xs : List Account) (k : ℕ) (x : Account) → k < length xs → (i : ℕ) (P : Account → Type 0) → (i ≡ k → P x) → P (get_or xs i unused) → P (get_or (set xs k x) i unused)
set-account xs k x l i P p q = go (ℕ_discrete i k)
  where
    go : Dec (i ≡ k) → P (get_or (set xs k x) i unused)
    go (yes e) = rw (e, get_or-set_same xs k x unused l) (p e)
    go (no e) = rw (get_or-set_other xs k i x unused e) q

pub kept_set : (past : ℕ) (b : Book) (k : ℕ) (x : Account) → Near past b → k < length b.accounts → eqb x.state 0 ≡ false → Standing b.day x
    → successor_fits b.accounts (suc k) x ≡ true → Kept b.day b.accounts (set b.accounts k x)
kept_set past b k x n l z s f = record {
  size = length-set b.accounts k x;
  used = still;
  standing = λ i h. set-account b.accounts k x l i (Standing b.day) (λ e. s) (n.standing i (rw (length-set b.accounts k x) at h));
  successors = λ i h. set-account b.accounts k x l i (λ y. successor_fits (set b.accounts k x) (suc i) y ≡ true)
      (λ e. rw e (successor-kept b.accounts (set b.accounts k x) still (suc k) x f))
      (successor-kept b.accounts (set b.accounts k x) still (suc i) (get_or b.accounts i unused) (n.successors i (rw (length-set b.accounts k x) at h)));
}
  where
    still : StillUsed b.accounts (set b.accounts k x)
    still zero e = e
    still (suc i) e = set-account b.accounts k x l i (λ y. not (eqb y.state 0) ≡ true) (λ q. rw z) e

pub shape-accounts : (today : ℕ) (xs ys : List Account) (rows : List Row) (n : ℕ) (r : Row) → Kept today xs ys → Shape today xs rows n r → Shape today ys rows n r
shape-accounts today xs ys rows n r m v = record {
  kind = v.kind;
  amount = v.amount;
  mark = v.mark;
  words = v.words;
  none = v.none;
  day = v.day;
  account = still v.account;
  reference = v.reference;
  passage = v.passage;
  fees = v.fees;
}
  where
    still : account_used xs r ≡ true → account_used ys r ≡ true
    still e = unfold account_used in m.used r.account e

pub near-accounts : (past : ℕ) (b : Book) (xs : List Account) → Near past b → Kept b.day b.accounts xs
    → ((k : ℕ) → k < length xs → SumsFit b.rows (suc k) (get_or xs k unused)) → Near past (with_accounts xs b)
near-accounts past b xs n m c = record {
  day = n.day;
  schedule = n.schedule;
  lists = n.lists;
  holidays = n.holidays;
  sizes = rw m.size n.sizes;
  fits = n.fits;
  shape = λ i h. shape-accounts b.day b.accounts xs b.rows (suc i) (get_or b.rows i blank) m (n.shape i h);
  live = n.live;
  standing = m.standing;
  successors = m.successors;
  counted = c;
}

-- one account changed
pub near-account : (past : ℕ) (b : Book) (k : ℕ) (x : Account) → Near past b → k < length b.accounts → eqb x.state 0 ≡ false
    → Standing b.day x → successor_fits b.accounts (suc k) x ≡ true → SumsFit b.rows (suc k) x → Near past (with_accounts (set b.accounts k x) b)
near-account past b k x n l z s f c =
    near-accounts past b (set b.accounts k x) n (kept_set past b k x n l z s f)
    (λ i h. set-account b.accounts k x l i (SumsFit b.rows (suc i)) (λ e. rw e c) (n.counted i (rw (length-set b.accounts k x) at h)))

-- ---- a row changed, and accounts with it

-- its kind, account and reference stay
pub record Same (r x : Row) : Type 0 where
  pub kind : r.kind ≡ x.kind
  pub account : r.account ≡ x.account
  pub reference : r.reference ≡ x.reference

-- the property of each row where one is another
pub set-row : (rows : List Row) (j : ℕ) (r : Row) → j < length rows → (k : ℕ) (P : Row → Type 0) → P (get_or rows k blank) → (k ≡ j → P r) → P (get_or (set rows j r) k blank)
set-row rows j r h k P f g = go (ℕ_discrete k j)
  where
    go : Dec (k ≡ j) → P (get_or (set rows j r) k blank)
    go (yes q) =
        let e : get_or (set rows j r) k blank ≡ r = rw q (get_or-set_same rows j r blank h) in
        rw e (g q)
    go (no q) = rw (get_or-set_other rows j k r blank q) f

module _ (rows : List Row) (j : ℕ) (r : Row) (same : Same r (get_or rows j blank)) where
  count-put : (t : Test) → t r ≡ t (get_or rows j blank) → count t (set rows j r) ≡ count t rows
  unfolding count
  count-put t e = sum_by-set-same (λ x. cond (t x) 1 0) rows j r blank (rw e)

  passage-put : (x : Row) → passage_once (set rows j r) x ≡ passage_once rows x
  unfolding passage_once passage
  passage-put x = rw (count-put (passage x.reference) (rw (same.kind, same.reference)))

  fees-put : (n : ℕ) (x : Row) → fees_fit (set rows j r) n x ≡ fees_fit rows n x
  unfolding fees_fit fee_naming
  fees-put n x = rw (count-put (fee_naming n) (rw (same.kind, same.reference)))

  pub shape-put : (today : ℕ) (xs : List Account) (n : ℕ) (x : Row) → n ≤ suc (length rows) → Shape today xs rows n x → Shape today xs (set rows j r) n x
  shape-put today xs n x h s =
      shape-carried rows (set rows j r) (carries-set rows j r same.kind same.account) today xs n x h
      (passage-put x ∙ s.passage) (fees-put n x ∙ s.fees) s

pub framed-put : (past : ℕ) (b : Book) (xs : List Account) (j : ℕ) (r : Row) → Framed past b → j < length b.rows → Same r (get_or b.rows j blank) → Kept b.day b.accounts xs
    → Shape b.day b.accounts b.rows (suc j) r → Live past b.day b.schedule.stage r
    → Framed past (with_rows (set b.rows j r) (with_accounts xs b))
framed-put past b xs j r s h same m w v =
    let rows : List Row = b.rows in
    record {
      day = s.day;
      schedule = s.schedule;
      lists = s.lists;
      holidays = s.holidays;
      sizes = rw m.size s.sizes;
      fits = rw (length-set rows j r) s.fits;
      shape = λ k l. set-row rows j r h k (λ x. Shape b.day xs (set b.rows j r) (suc k) x)
          (let l' : k < length b.rows = rw (length-set b.rows j r) at l in
          shape-accounts b.day b.accounts xs (set rows j r) (suc k) (get_or rows k blank) m
          (shape-put rows j r same b.day b.accounts (suc k) (get_or rows k blank) (omega arith) (s.shape k l')))
          (λ q. rw q (shape-accounts b.day b.accounts xs (set rows j r) (suc j) r m (shape-put rows j r same b.day b.accounts (suc j) r (omega arith) w)));
      live = λ k l. set-row rows j r h k (λ x. Live past b.day b.schedule.stage x) (s.live k (rw (length-set b.rows j r) at l)) (λ q. v);
      standing = m.standing;
      successors = m.successors;
    }

-- a row changed in its due day, dispute and hold alone
abbrev pub core : Row → Row
core r = with_due 0 (with_dispute 0 (with_hold_start 0 r))

pub counted-put : (rows : List Row) (j : ℕ) (r : Row) → core r ≡ core (get_or rows j blank) → (n : ℕ) (x : Account) → SumsFit rows n x → SumsFit (set rows j r) n x
unfolding returned_fits used_is_paid closed_clear returned_of used paid money owed only source_of debit_of count
counted-put rows j r same n x c = record {
  returned = rw (sum-put (λ y. cond (returned_of n y) 1 0) (λ y. refl)) c.returned;
  used-is-paid = rw (sum-put (only (source_of n) (λ y. y.settled)) (λ y. refl), sum-put (only (debit_of n) (λ y. y.settled)) (λ y. refl)) c.used-is-paid;
  clear = rw (sum-put (only (source_of n) remaining) (λ y. refl), sum-put (only (debit_of n) remaining) (λ y. refl)) c.clear;
}
  where
    sum-put : (f : Row → ℕ) → ((y : Row) → f (core y) ≡ f y) → sum_by f (set rows j r) ≡ sum_by f rows
    sum-put f s = sum_by-set-same f rows j r blank (sym (s r) ∙ ap f same ∙ s (get_or rows j blank))

pub near-put-core : (past : ℕ) (b : Book) (j : ℕ) (r : Row) → Near past b → j < length b.rows → core r ≡ core (get_or b.rows j blank)
    → Shape b.day b.accounts b.rows (suc j) r → Live past b.day b.schedule.stage r → Near past (with_rows (set b.rows j r) b)
near-put-core past b j r s h same w v =
    framed-near past (with_rows (set b.rows j r) b)
    (framed-put past b b.accounts j r (near-framed past b s) h
    (record { kind = ap (λ (x : Row). x.kind) same; account = ap (λ (x : Row). x.account) same; reference = ap (λ (x : Row). x.reference) same })
    (kept_same past b (near-framed past b s)) w v)
    (λ k l. counted-put b.rows j r same (suc k) (get_or b.accounts k unused) (s.counted k l))

-- ---- every row changed

-- the law where the changed rows' own shape is given against the rows before
pub framed-map : (past : ℕ) (b : Book) (f : Row → Row) → f blank ≡ blank → ((r : Row) → Same (f r) r)
    → day_fits b.day ≡ true → schedule_fits b.schedule ≡ true → lists_fit b.lists ≡ true
    → holidays_fit b.holidays ≡ true → sizes_fit (length b.accounts) b.room ≡ true → leb (length b.rows) b.room ≡ true
    → ((k : ℕ) → k < length b.rows → Shape b.day b.accounts b.rows (suc k) (f (get_or b.rows k blank)))
    → ((k : ℕ) → k < length b.rows → Live past b.day b.schedule.stage (f (get_or b.rows k blank)))
    → ((k : ℕ) → k < length b.accounts → Standing b.day (get_or b.accounts k unused))
    → ((k : ℕ) → k < length b.accounts → successor_fits b.accounts (suc k) (get_or b.accounts k unused) ≡ true) → Framed past (with_rows (map f b.rows) b)
framed-map past b f rest same d c l y z n w v st su =
    let rows : List Row = b.rows in
    record {
      day = d;
      schedule = c;
      lists = l;
      holidays = y;
      sizes = z;
      fits = rw (length-map rows f) n;
      shape = λ k h.
          let i : k < length b.rows = rw (length-map b.rows f) at h in
          let o = w k i in
          rw (map_at f rows k blank rest)
          (shape-carried rows (map f rows) (carries-map f rest (λ r. (same r).kind) (λ r. (same r).account) rows) b.day b.accounts (suc k) (f (get_or rows k blank)) (omega arith)
          (passage-map (f (get_or rows k blank)) ∙ o.passage) (fees-map (suc k) (f (get_or rows k blank)) ∙ o.fees) o);
      live = λ k h. rw (map_at f rows k blank rest) (v k (rw (length-map b.rows f) at h));
      standing = st;
      successors = su;
    }
  where
    count_map : (t : Test) → ((r : Row) → t (f r) ≡ t r) → count t (map f b.rows) ≡ count t b.rows
    count_map t e = unfold count in (sum_by-map (λ x. cond (t x) 1 0) f b.rows ∙ sum_by-ext (λ x. cond (t (f x)) 1 0) (λ x. cond (t x) 1 0) b.rows (λ r. rw (e r)))

    passage-map : (x : Row) → passage_once (map f b.rows) x ≡ passage_once b.rows x
    passage-map x = unfold passage_once passage in (rw (count_map (passage x.reference) (λ r. rw ((same r).kind, (same r).reference))))

    fees-map : (n : ℕ) (x : Row) → fees_fit (map f b.rows) n x ≡ fees_fit b.rows n x
    fees-map n x = unfold fees_fit fee_naming in (rw (count_map (fee_naming n) (λ r. rw ((same r).kind, (same r).reference))))
