-- A tick's last step keeps a book nearly sound: accounts close, their money leaving as a refund.
use mathlib.Core.Path.{◌≡◌, refl, ◌∙◌}
use mathlib.Core.Bool.{Bool, true, false, cond, ◌&&◌}
use Prim.Native.Nat.{ℕ, zero, suc, ◌≤◌, ◌<◌}
use native.Mathlib.Omega.{arith}
use native.Mathlib.Decide.{dec_lt}
use mathlib.Core.List.{List}
use lib.ListN.{length, get_or, get_or-eq_default}
use lib.Dec.{eqb, leb, ltb}
use borrow.Author.Tests.{le-leb, eq-eqb}
use Rattle.records.specs.AccountOperations.{closed}
use Rattle.lists.specs.Lists.{count, one, change}
use Rattle.lists.proofs.TestLaws.{and_left, and_both, cond_either}
use Rattle.lists.proofs.GatherLaws.{gather-each, length-change, change-at, grown-each}
use Rattle.records.specs.Limits.{final_day, highest_refund}
use Rattle.rules.specs.Rows.{Row, Test, kind_refund, blank, new_row, with_settled, settle_whole, source, fee_naming}
use Rattle.rules.specs.Settlement.{money}
use Rattle.rules.specs.Book.{Account, unused, Book, account, account_no}
use Rattle.rules.specs.Opening.{day_fits}
use Rattle.rules.specs.Tick.{closes, close_if, refund_row, use_up, close_accounts}
use Rattle.rules.specs.Soundness.{kind_fits, most_of, amount_fits, settled_fits, mark_fits, toll_words_fit, no_reference, row_day_fits, due_within, hold_fits, account_used, names, reference_fits, passage, passage_once, fees_fit, successor_fits}
use Rattle.rules.specs.SoundFacts.{Shape, Live, Near}
use Rattle.preservation.proofs.KeepingLaws.{successor-kept}
use Rattle.preservation.proofs.CarriedLaws.{carries-grown, reference-carried}
use Rattle.rules.proofs.StorableLaws.{settled-le}
use Rattle.preservation.proofs.ClosingLaws.{whole-live, keeps, up-blank, refunds, refund, same-closed, rows', closing, counted-closed, standing-closed}

module _ (b : Book) where
  -- ---- accounts stay used

  abbrev accounts' : List Account
  accounts' = change (close_if b) b.accounts

  state-of : (fits : (i : ℕ) → (get_or b.rows i blank).settled ≤ (get_or b.rows i blank).amount) (a : ℕ) → eqb (account_no accounts' a).state 0 ≡ eqb (account_no b.accounts a).state 0
  unfolding close_if
  state-of fits zero = refl
  state-of fits (suc k) = go (dec_lt k (length b.accounts))
    where
      go : Dec (k < length b.accounts) → eqb (get_or accounts' k unused).state 0 ≡ eqb (get_or b.accounts k unused).state 0
      go (yes l) = rw (change-at (close_if b) 1 b.accounts unused k (suc k) (omega arith) l) (at (closes b (suc k) (get_or b.accounts k unused)) refl)
        where
          at : (t : Bool) → closes b (suc k) (get_or b.accounts k unused) ≡ t → eqb (cond t (closed (get_or b.accounts k unused)) (get_or b.accounts k unused)).state 0 ≡ eqb (get_or b.accounts k unused).state 0
          at true e = rw (closing b fits k l e).0
          at false e = refl
      go (no l) =
          let p : length b.accounts ≤ k = omega arith in
          let q : length accounts' ≤ k = rw (length-change (close_if b) 1 b.accounts) p in
          rw (get_or-eq_default accounts' unused q, get_or-eq_default b.accounts unused p)

  successor-closed : (fits : (i : ℕ) → (get_or b.rows i blank).settled ≤ (get_or b.rows i blank).amount) (n : ℕ) (x : Account)
      → successor_fits b.accounts n x ≡ true → successor_fits accounts' n (close_if b n x) ≡ true
  unfolding close_if successor_fits
  successor-closed fits n x e =
      let kept : successor_fits accounts' n x ≡ true = successor-kept b.accounts accounts' (λ a u. rw (state-of fits a) u) n x e in
      cond_either (λ (y : Account). successor_fits accounts' n y ≡ true) (closes b n x) (closed x) x kept kept

  -- ---- rows

  reference-closed : (m : ℕ) (r : Row) → m ≤ suc (length b.rows) → reference_fits (rows' b) m (use_up b r) ≡ reference_fits b.rows m r
  reference-closed m r h =
      reference-carried b.rows (rows' b) (carries-grown (use_up b) (up-blank b) (keeps b (λ y. y.kind) (λ x v. refl)) (keeps b (λ y. y.account) (λ x v. refl)) b.rows (refunds b)) m (use_up b r) h ∙ still
    where
      still : reference_fits b.rows m (use_up b r) ≡ reference_fits b.rows m r
      still = unfold reference_fits names in keeps b (reference_fits b.rows m) (λ x v. refl) r

  count-closed : (t : Test) → ((r : Row) (v : ℕ) → t (with_settled v r) ≡ t r) → ((m i : ℕ) → t (settle_whole (new_row kind_refund m b.day i)) ≡ false) → count t (rows' b) ≡ count t b.rows
  unfolding count
  count-closed t f z = same-closed b (λ r. cond (t r) 1 0) (λ r v. rw (f r v)) (λ m i. rw (z m i))

  shape-closed : ((i : ℕ) → (get_or b.rows i blank).settled ≤ (get_or b.rows i blank).amount) → (m : ℕ) (r : Row) → m ≤ suc (length b.rows)
      → Shape b.day b.accounts b.rows m r → Shape b.day accounts' (rows' b) m (use_up b r)
  unfolding kind_fits amount_fits mark_fits toll_words_fit no_reference row_day_fits account_used passage_once fees_fit passage fee_naming
  shape-closed fits m r h v = record {
    kind = keeps b kind_fits (λ x w. refl) r ∙ v.kind;
    amount = keeps b amount_fits (λ x w. refl) r ∙ v.amount;
    mark = keeps b mark_fits (λ x w. refl) r ∙ v.mark;
    words = keeps b toll_words_fit (λ x w. refl) r ∙ v.words;
    none = keeps b no_reference (λ x w. refl) r ∙ v.none;
    day = keeps b (row_day_fits b.day) (λ x w. refl) r ∙ v.day;
    account = keeps b (account_used accounts') (λ x w. refl) r ∙ rw (state-of fits r.account) v.account;
    reference = reference-closed m r h ∙ v.reference;
    passage = keeps b (passage_once (rows' b)) (λ x w. refl) r ∙ rw (count-closed (passage r.reference) (λ x w. refl) (λ i j. refl)) v.passage;
    fees = keeps b (fees_fit (rows' b) m) (λ x w. refl) r ∙ rw (count-closed (fee_naming m) (λ x w. refl) (λ i j. refl)) v.fees;
  }

  live-closed : (past : ℕ) (r : Row) → Live past b.day b.schedule.stage r → Live past b.day b.schedule.stage (use_up b r)
  unfolding use_up
  live-closed past r v = go (source r) refl (closes b r.account (account b r.account))
    where
      go : (t : Bool) → source r ≡ t → (u : Bool) → Live past b.day b.schedule.stage (cond (t && u) (settle_whole r) r)
      go true e true = whole-live past b.day b.schedule.stage r e
      go true e false = v
      go false e u = v

  record Fresh (y : Row) : Type 0 where
    shape : (m : ℕ) → Shape b.day accounts' (rows' b) m y
    live : (past : ℕ) → Live past b.day b.schedule.stage y

  module _ (fits : (i : ℕ) → (get_or b.rows i blank).settled ≤ (get_or b.rows i blank).amount) (today : leb 1 b.day ≡ true)
      (low : (k : ℕ) → k < length b.accounts → closes b (suc k) (get_or b.accounts k unused) ≡ true → money (suc k) b.rows ≤ highest_refund) where
    fresh : (k : ℕ) → k < length b.accounts → closes b (suc k) (get_or b.accounts k unused) ≡ true → ltb 0 (money (suc k) b.rows) ≡ true → Fresh (refund b (suc k))
    unfolding kind_fits amount_fits most_of mark_fits toll_words_fit no_reference row_day_fits account_used reference_fits passage_once fees_fit settled_fits due_within hold_fits
    fresh k l e m1 =
        let a : ℕ = money (suc k) b.rows in
        record {
          shape = λ m. record {
            kind = refl;
            mark = refl;
            words = refl;
            none = refl;
            reference = refl;
            passage = refl;
            fees = refl;
            amount = and_both (leb 1 a) _ m1 (le-leb a highest_refund (low k l e));
            day = and_both (leb 1 b.day) _ today (le-leb b.day b.day (omega arith));
            account = rw (state-of fits (suc k), (closing b fits k l e).0);
          };
          live = λ past. record { settled = and_both (leb a a) _ (le-leb a a (omega arith)) (eq-eqb a a refl); due = refl; hold = refl };
        }

    all-fresh : (j : ℕ) → j < length (refunds b) → Fresh (get_or (refunds b) j blank)
    unfolding refund_row
    all-fresh = gather-each (refund_row b) Fresh 1 b.accounts unused blank
        (λ n k e l j h. let z : n ≡ suc k = omega arith in rw z (go k l (closes b (suc k) (get_or b.accounts k unused)) refl (ltb 0 (money (suc k) b.rows)) refl j (rw z at h)))
      where
        go : (k : ℕ) → k < length b.accounts → (t : Bool) → closes b (suc k) (get_or b.accounts k unused) ≡ t → (u : Bool) → ltb 0 (money (suc k) b.rows) ≡ u
            → (j : ℕ) → j < length (one (t && u) (refund b (suc k))) → Fresh (get_or (one (t && u) (refund b (suc k))) j blank)
        go k l true e true m zero h = fresh k l e m
        go k l true e true m (suc j) h = absurd (omega arith)
        go k l true e false m j h = absurd (omega arith)
        go k l false e u m j h = absurd (omega arith)

  pub close_accounts-near : (past : ℕ) → Near past b → length (rows' b) ≤ b.room
      → ((k : ℕ) → k < length b.accounts → closes b (suc k) (get_or b.accounts k unused) ≡ true → money (suc k) b.rows ≤ highest_refund) → Near past (close_accounts b)
  unfolding close_accounts day_fits
  close_accounts-near past n room low =
      let fits : (i : ℕ) → (get_or b.rows i blank).settled ≤ (get_or b.rows i blank).amount = fits_all n in
      let today : leb 1 b.day ≡ true = and_left (leb 1 b.day) (leb b.day final_day) n.day in
      let la : length accounts' ≡ length b.accounts = length-change (close_if b) 1 b.accounts in
      record {
        day = n.day;
        schedule = n.schedule;
        lists = n.lists;
        holidays = n.holidays;
        sizes = rw la n.sizes;
        fits = le-leb (length (rows' b)) b.room room;
        shape = λ k h. grown-each (use_up b) blank (up-blank b) b.rows (refunds b) k (λ x. Shape b.day accounts' (rows' b) (suc k) x) h
            (λ l. shape-closed fits (suc k) (get_or b.rows k blank) (omega arith) (n.shape k l))
            (λ j e l. (all-fresh fits today low j l).shape (suc k));
        live = λ k h. grown-each (use_up b) blank (up-blank b) b.rows (refunds b) k (λ x. Live past b.day b.schedule.stage x) h
            (λ l. live-closed past (get_or b.rows k blank) (n.live k l))
            (λ j e l. (all-fresh fits today low j l).live past);
        standing = λ k h.
            let l : k < length b.accounts = rw la at h in
            rw (change-at (close_if b) 1 b.accounts unused k (suc k) (omega arith) l) (standing-closed b fits k l (n.standing k l));
        successors = λ k h.
            let l : k < length b.accounts = rw la at h in
            rw (change-at (close_if b) 1 b.accounts unused k (suc k) (omega arith) l) (successor-closed fits (suc k) (get_or b.accounts k unused) (n.successors k l));
        counted = λ k h.
            let l : k < length b.accounts = rw la at h in
            rw (change-at (close_if b) 1 b.accounts unused k (suc k) (omega arith) l) (counted-closed b fits k l (n.counted k l));
      }
    where
      fits_all : {past : ℕ} → Near past b → (i : ℕ) → (get_or b.rows i blank).settled ≤ (get_or b.rows i blank).amount
      fits_all n i = go (dec_lt i (length b.rows))
        where
          go : Dec (i < length b.rows) → (get_or b.rows i blank).settled ≤ (get_or b.rows i blank).amount
          go (yes l) = settled-le (get_or b.rows i blank) (n.live i l).settled
          go (no l) = let q : length b.rows ≤ i = omega arith in rw (get_or-eq_default b.rows blank q) (omega arith)
