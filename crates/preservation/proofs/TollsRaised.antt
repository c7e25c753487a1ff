-- A tick's fourth step keeps a book nearly sound: tolls due today rise a stage, and their fees are added.
use mathlib.Core.Path.{◌≡◌, refl, sym, ap, ◌∙◌}
use mathlib.Core.Logic.{◌≢◌}
use mathlib.Core.Bool.{Bool, true, false, not, cond, ◌&&◌, true≢false, and-false}
use Prim.Native.Nat.{ℕ, zero, suc, ◌+◌, ◌-◌, ◌≤◌, ◌<◌}
use native.Mathlib.Nat.{add-zero}
use native.Mathlib.Omega.{arith}
use mathlib.Core.List.{List, ◌++◌, map}
use lib.ListN.{length, get_or}
use lib.Dec.{eqb, leb, ltb}
use borrow.Author.Tests.{leb-true, le-leb, ltb-true, lt-ltb, eqb-true, eq-eqb, ne_eqb}
use Rattle.records.specs.Codes.{kind_toll}
use Rattle.lists.specs.Tests.{◌implies◌}
use Rattle.lists.specs.Lists.{sum_by, only, count, one, gather}
use Rattle.lists.proofs.TestLaws.{and_left, and_right, and_both, cond-zero, cond_both}
use Rattle.lists.proofs.SumLaws.{sum_by-append, sum_by-map, sum_by-ext, sum_by-at-le}
use Rattle.lists.proofs.GatherLaws.{gather_none, gather-only, gather-each, grown-each}
use Rattle.records.specs.Limits.{highest_fee}
use Rattle.rules.specs.Schedule.{Schedule, stage_fee}
use Rattle.rules.specs.Rows.{Row, Test, kind_fee, blank, row_no, new_row, with_due, with_mark, with_reference, remaining, unsettled, held_toll, fee_naming, source_of, debit_of}
use Rattle.rules.specs.Settlement.{money, used, paid, owed}
use Rattle.rules.specs.Book.{Account, unused, Book}
use Rattle.rules.specs.Tick.{rises, raise, fee_row, raise_tolls}
use Rattle.rules.specs.Soundness.{kind_fits, most_of, amount_fits, settled_fits, mark_fits, toll_words_fit, no_reference, row_day_fits, due_within, hold_fits, account_used, names, reference_fits, passage, passage_once, fees_fit, returned_of, returned_fits, used_is_paid, closed_clear}
use Rattle.rules.specs.SoundFacts.{Shape, Live, SumsFit, Near}
use Rattle.rules.proofs.StorableLaws.{StorableSchedule, schedule-storable}
use Rattle.preservation.proofs.CarriedLaws.{Carries, carries-grown, reference-carried}
use Rattle.preservation.proofs.SettledLaws.{hold-free}
use Rattle.preservation.proofs.FeeLaws.{stage_fee-le}
use Rattle.preservation.proofs.TickSteps.{Rising, rising, raise-keeps}

-- ---- a row that rises

-- an account that owes nothing has no toll that rises
wanted : (n : ℕ) (r : Row) (m : ℕ) → r.kind ≡ kind_toll → r.settled < r.amount → only (debit_of n) remaining r ≤ 0 → cond (eqb r.account n && true) m 0 ≡ 0
unfolding only debit_of
wanted n r m k l b = go (eqb r.account n) refl
  where
    go : (t : Bool) → eqb r.account n ≡ t → cond (t && true) m 0 ≡ 0
    go true e = let z : r.amount - r.settled ≤ 0 = rw (e, k) at b in absurd (omega arith)
    go false e = refl

module _ (s : Schedule) (today : ℕ) where
  keeps : {B : Type 0} (g : Row → B) → ((r : Row) (v w : ℕ) → g (with_due v (with_mark w r)) ≡ g r) → (r : Row) → g (raise s today r) ≡ g r
  keeps g f = raise-keeps g f s today

  raise-blank : raise s today blank ≡ blank
  unfolding raise rises
  raise-blank = refl

  returned-keeps : (n : ℕ) (r : Row) → returned_of n (raise s today r) ≡ returned_of n r
  unfolding raise returned_of
  returned-keeps n r = go (rises today r) refl
    where
      go : (t : Bool) → rises today r ≡ t → returned_of n (cond t (with_due (r.due + s.stage) (with_mark (r.mark + 1) r)) r) ≡ returned_of n r
      go true e = let k : r.kind ≡ kind_toll = (rising today r e).toll in rw (k, and-false (eqb r.account n))
      go false e = refl

  -- the stage and due day of a row after the step
  live-raised : (past : ℕ) (r : Row) → today ≡ past + 1 → 1 ≤ s.stage → Live past today s.stage r → Live today today s.stage (raise s today r)
  unfolding raise rises settled_fits due_within hold_fits
  live-raised past r t L v = go (rises today r) refl
    where
      stays : (a b c d e : Bool) → (a && b && c && d && e) ≡ false → (x x' y : Bool) → (e ≡ false → x ≡ true → x' ≡ true) → (hi : Bool)
          → (a implies hi && cond (c && b && d) x y) ≡ true → (a implies hi && cond (c && b && d) x' y) ≡ true
      stays false b c d e n x x' y f hi w = refl
      stays true b c d e n x x' y f false w = w
      stays true true true true e n x x' y f true w = f n w
      stays true true true false e n x x' y f true w = w
      stays true true false d e n x x' y f true w = w
      stays true false true d e n x x' y f true w = w
      stays true false false d e n x x' y f true w = w

      go : (q : Bool) → rises today r ≡ q → Live today today s.stage (cond q (with_due (r.due + s.stage) (with_mark (r.mark + 1) r)) r)
      go true e =
          let w : Rising today r = rising today r e in
          let d : r.due ≡ today = w.due in
          record {
            settled = v.settled;
            due = rw (w.toll, le-leb (r.due + s.stage) (today + s.stage) (omega arith)) (cond_both (unsettled r && not (eqb 1 1 && eqb r.dispute 1) && ltb (r.mark + 1) 4) _ _ (lt-ltb today (r.due + s.stage) (omega arith)) (le-leb 1 (r.due + s.stage) (omega arith)));
            hold = hold-free (eqb r.kind 1) (eqb r.dispute 1) _ _ (eqb r.hold 0) w.free v.hold;
          }
      go false e = record {
        settled = v.settled;
        hold = v.hold;
        due = stays (eqb r.kind 1) (not (held_toll r)) (unsettled r) (ltb r.mark 4) (eqb r.due today) e (ltb past r.due) (ltb today r.due) (leb 1 r.due)
            (λ n p. let ne : r.due ≢ today = λ q. true≢false (sym (eq-eqb r.due today q) ∙ n) in lt-ltb today r.due (omega (arith, ltb-true past r.due p))) (leb r.due (today + s.stage)) v.due;
      }

  -- ---- the rows after the step: those of before, raised, and the fees

  module _ (rows : List Row) where
    abbrev later : List Row
    later = map (raise s today) rows

    abbrev added : List Row
    added = gather (fee_row s today) rows

    -- a sum that looks at neither stage nor due day, and to which no fee adds
    sum-later : (g : Row → ℕ) → ((r : Row) → g (raise s today r) ≡ g r) → sum_by g (later ++ added) ≡ sum_by g rows + sum_by g added
    sum-later g f = sum_by-append g later added ∙ ap (λ (n : ℕ). n + sum_by g added) (sum_by-map g (raise s today) rows ∙ sum_by-ext (λ r. g (raise s today r)) g rows f)

    abbrev gets : Row → Bool
    gets x = rises today x && ltb 0 (stage_fee s (x.mark + 1))

    abbrev new_fee : ℕ → Row → Row
    new_fee n x = with_reference n (new_row kind_fee x.account today (stage_fee s (x.mark + 1)))

    fee-zero : (g : Row → ℕ) (n : ℕ) (x : Row) → (gets x ≡ true → g (new_fee n x) ≡ 0) → sum_by g (fee_row s today n x) ≡ 0
    unfolding sum_by fee_row
    fee-zero g n x f = go (gets x) f
      where
        go : (t : Bool) → (t ≡ true → g (new_fee n x) ≡ 0) → sum_by g (one t (new_fee n x)) ≡ 0
        go true f = omega (arith, f refl)
        go false f = refl

    same-later : (g : Row → ℕ) → ((r : Row) → g (raise s today r) ≡ g r) → ((n a m : ℕ) → g (with_reference n (new_row kind_fee a today m)) ≡ 0) → sum_by g (later ++ added) ≡ sum_by g rows
    unfolding fee_row
    same-later g f z = sum-later g f ∙ rw (gather_none (fee_row s today) g 1 rows blank (λ n k e l. fee-zero g n (get_or rows k blank) (λ q. z n _ _)), add-zero)

    count-later : (t : Test) → ((r : Row) → t (raise s today r) ≡ t r) → ((n a m : ℕ) → t (with_reference n (new_row kind_fee a today m)) ≡ false) → count t (later ++ added) ≡ count t rows
    unfolding count
    count-later t f z = same-later (λ r. cond (t r) 1 0) (λ r. rw (f r)) (λ n a m. rw (z n a m))

    carries : Carries rows (later ++ added)
    carries = carries-grown (raise s today) raise-blank (keeps (λ y. y.kind) (λ r v w. refl)) (keeps (λ y. y.account) (λ r v w. refl)) rows added

    -- the fees that name row n: one more where it rises to a stage that has a fee
    fees-later : (k : ℕ) → k < length rows → count (fee_naming (suc k)) (later ++ added)
        ≡ count (fee_naming (suc k)) rows + cond (rises today (get_or rows k blank) && ltb 0 (stage_fee s ((get_or rows k blank).mark + 1))) 1 0
    unfolding count fee_naming fee_row sum_by
    fees-later k l =
        let g : Row → ℕ = λ r. cond (fee_naming (suc k) r) 1 0 in
        sum-later g (λ r. rw (keeps (fee_naming (suc k)) (λ x v w. refl) r))
        ∙ ap (λ (m : ℕ). sum_by g rows + m) (gather-only (fee_row s today) g (suc k) other 1 rows blank k (omega arith) l ∙ self (rises today (get_or rows k blank) && ltb 0 (stage_fee s ((get_or rows k blank).mark + 1))) _)
      where
        other : (m : ℕ) (x : Row) → m ≢ suc k → sum_by (λ r. cond (fee_naming (suc k) r) 1 0) (fee_row s today m x) ≡ 0
        other m x ne = fee-zero (λ r. cond (fee_naming (suc k) r) 1 0) m x (λ q. rw (ne_eqb m (suc k) ne))

        self : (t : Bool) (a : ℕ) → sum_by (λ r. cond (fee_naming (suc k) r) 1 0) (one t (with_reference (suc k) (new_row kind_fee a today (stage_fee s ((get_or rows k blank).mark + 1))))) ≡ cond t 1 0
        self true a = rw (eq-eqb (suc k) (suc k) refl)
        self false a = refl

    -- ---- a row of before

    -- one fee more has its stage: from stage 2 on
    room-for-fee : (c m : ℕ) → c ≤ m - 1 → leb (c + cond (ltb 0 (stage_fee s (m + 1))) 1 0) (m + 1 - 1) ≡ true
    unfolding stage_fee
    room-for-fee c zero h = le-leb (c + 0) 0 (omega arith)
    room-for-fee c (suc m) h = any (ltb 0 (stage_fee s (suc m + 1)))
      where
        any : (t : Bool) → leb (c + cond t 1 0) (suc m + 1 - 1) ≡ true
        any true = le-leb (c + 1) (suc m + 1 - 1) (omega arith)
        any false = le-leb (c + 0) (suc m + 1 - 1) (omega arith)

    fees-fit : (k : ℕ) → k < length rows → fees_fit rows (suc k) (get_or rows k blank) ≡ true → fees_fit (later ++ added) (suc k) (raise s today (get_or rows k blank)) ≡ true
    unfolding fees_fit raise
    fees-fit k l f = rw (fees-later k l) (go (rises today (get_or rows k blank)) refl)
      where
        r : Row
        r = get_or rows k blank

        raised : Bool → Row
        raised t = cond t (with_due (r.due + s.stage) (with_mark (r.mark + 1) r)) r

        go : (t : Bool) → rises today r ≡ t
            → eqb (raised t).kind 1 implies leb (count (fee_naming (suc k)) rows + cond (t && ltb 0 (stage_fee s (r.mark + 1))) 1 0) ((raised t).mark - 1) ≡ true
        go true e =
            let w : Rising today r = rising today r e in
            let c : count (fee_naming (suc k)) rows ≤ r.mark - 1 = leb-true _ _ (rw w.toll at f) in
            rw w.toll (room-for-fee (count (fee_naming (suc k)) rows) r.mark c)
        go false e = rw add-zero f

    mark-raised : (r : Row) → mark_fits r ≡ true → mark_fits (raise s today r) ≡ true
    unfolding mark_fits raise
    mark-raised r v = go (rises today r) refl
      where
        go : (t : Bool) → rises today r ≡ t → mark_fits (cond t (with_due (r.due + s.stage) (with_mark (r.mark + 1) r)) r) ≡ true
        go true e = let w : Rising today r = rising today r e in rw w.toll (le-leb (r.mark + 1) 4 (omega (arith, w.under)))
        go false e = v

    words-raised : (r : Row) → toll_words_fit r ≡ true → toll_words_fit (raise s today r) ≡ true
    unfolding toll_words_fit raise
    words-raised r v = go (rises today r) refl
      where
        go : (t : Bool) → rises today r ≡ t → toll_words_fit (cond t (with_due (r.due + s.stage) (with_mark (r.mark + 1) r)) r) ≡ true
        go true e = let k : r.kind ≡ kind_toll = (rising today r e).toll in rw k (rw k at v)
        go false e = v

    reference-keeps : (n : ℕ) (r : Row) → reference_fits rows n (raise s today r) ≡ reference_fits rows n r
    unfolding reference_fits names
    reference-keeps n r = keeps (reference_fits rows n) (λ x v w. refl) r

    passage-later : (x : Row) → passage_once (later ++ added) x ≡ passage_once rows x
    unfolding passage_once passage
    passage-later x = rw (count-later (passage x.reference) (keeps (passage x.reference) (λ r v w. refl)) (λ n a m. refl))

    shape-raised : (xs : List Account) (k : ℕ) → k < length rows → Shape today xs rows (suc k) (get_or rows k blank) → Shape today xs (later ++ added) (suc k) (raise s today (get_or rows k blank))
    unfolding kind_fits amount_fits no_reference row_day_fits account_used passage_once
    shape-raised xs k l v =
        let r : Row = get_or rows k blank in
        record {
          kind = keeps kind_fits (λ x v w. refl) r ∙ v.kind;
          amount = keeps amount_fits (λ x v w. refl) r ∙ v.amount;
          none = keeps no_reference (λ x v w. refl) r ∙ v.none;
          day = keeps (row_day_fits today) (λ x v w. refl) r ∙ v.day;
          account = keeps (account_used xs) (λ x v w. refl) r ∙ v.account;
          mark = mark-raised r v.mark;
          words = words-raised r v.words;
          reference = reference-carried rows (later ++ added) carries (suc k) (raise s today r) (omega arith) ∙ reference-keeps (suc k) r ∙ v.reference;
          passage = passage-later (raise s today r) ∙ keeps (passage_once rows) (λ x v w. refl) r ∙ v.passage;
          fees = fees-fit k l v.fees;
        }

    -- ---- a fee

    record Fresh (xs : List Account) (y : Row) : Type 0 where
      shape : (n : ℕ) → length rows < n → Shape today xs (later ++ added) n y
      live : Live today today s.stage y

    fresh : (xs : List Account) → (leb 1 today ≡ true) → ((j : ℕ) → stage_fee s j ≤ highest_fee) → (k : ℕ) → k < length rows → Shape today xs rows (suc k) (get_or rows k blank) → gets (get_or rows k blank) ≡ true
        → Fresh xs (new_fee (suc k) (get_or rows k blank))
    unfolding kind_fits amount_fits most_of mark_fits toll_words_fit no_reference row_day_fits account_used reference_fits names passage_once fees_fit settled_fits due_within hold_fits
    fresh xs d f k l v e =
        let x : Row = get_or rows k blank in
        let w : Rising today x = rising today x (and_left (rises today x) _ e) in
        let amt : ℕ = stage_fee s (x.mark + 1) in
        let kd : (row_no (later ++ added) (suc k)).kind ≡ kind_toll = carries.kind (suc k) l ∙ w.toll in
        let ac : (row_no (later ++ added) (suc k)).account ≡ x.account = carries.account (suc k) l in
        record {
          shape = λ n h. record {
            kind = refl;
            words = refl;
            none = refl;
            mark = refl;
            passage = refl;
            fees = refl;
            amount = and_both (leb 1 amt) _ (and_right (rises today x) _ e) (le-leb amt highest_fee (f (x.mark + 1)));
            day = and_both (leb 1 today) _ d (le-leb today today (omega arith));
            account = v.account;
            reference = rw (lt-ltb (suc k) n (omega arith), kd, ac, eq-eqb x.account x.account refl);
          };
          live = record { settled = and_both (leb 0 amt) _ (le-leb 0 amt (omega arith)) refl; due = refl; hold = refl };
        }

    all-fresh : (xs : List Account) → (leb 1 today ≡ true) → ((j : ℕ) → stage_fee s j ≤ highest_fee) → ((k : ℕ) → k < length rows → Shape today xs rows (suc k) (get_or rows k blank))
        → (j : ℕ) → j < length added → Fresh xs (get_or added j blank)
    unfolding fee_row
    all-fresh xs d f v = gather-each (fee_row s today) (Fresh xs) 1 rows blank blank
        (λ n k e l j h. let z : n ≡ suc k = omega arith in rw z (go k l (gets (get_or rows k blank)) refl j (rw z at h)))
      where
        go : (k : ℕ) → k < length rows → (t : Bool) → gets (get_or rows k blank) ≡ t → (j : ℕ) → j < length (one t (new_fee (suc k) (get_or rows k blank))) → Fresh xs (get_or (one t (new_fee (suc k) (get_or rows k blank))) j blank)
        go k l true e zero h = fresh xs d f k l (v k l) e
        go k l true e (suc j) h = absurd (omega arith)
        go k l false e j h = absurd (omega arith)

    -- ---- an account

    counted-raised : (n : ℕ) (x : Account) → SumsFit rows n x → SumsFit (later ++ added) n x
    unfolding returned_fits used_is_paid closed_clear returned_of used paid money owed only source_of debit_of
    counted-raised n x c = record {
      returned = rw (count-later (returned_of n) (returned-keeps n) (λ m a k. rw (and-false (eqb a n)))) c.returned;
      used-is-paid = rw (
        same-later (only (source_of n) (λ r. r.settled)) (keeps (only (source_of n) (λ r. r.settled)) (λ r v w. refl)) (λ m a k. cond-zero (source_of n (with_reference m (new_row kind_fee a today k))) 0 refl),
        same-later (only (debit_of n) (λ r. r.settled)) (keeps (only (debit_of n) (λ r. r.settled)) (λ r v w. refl)) (λ m a k. cond-zero (debit_of n (with_reference m (new_row kind_fee a today k))) 0 refl),
      ) c.used-is-paid;
      clear = clear (eqb x.state 3) c.clear;
    }
      where
        none-wanted : owed n rows ≡ 0 → sum_by (only (debit_of n) remaining) added ≡ 0
        none-wanted z = gather_none (fee_row s today) (only (debit_of n) remaining) 1 rows blank (λ m k e l. fee-zero (only (debit_of n) remaining) m (get_or rows k blank) (λ q.
            let r : Row = get_or rows k blank in
            let w : Rising today r = rising today r (and_left (rises today r) _ q) in
            let b : only (debit_of n) remaining r ≤ 0 = omega (arith, sum_by-at-le (only (debit_of n) remaining) rows k blank l) in
            wanted n r (stage_fee s (r.mark + 1) - 0) w.toll (ltb-true r.settled r.amount w.open-still) b))

        clear : (t : Bool) → (t implies eqb (money n rows) 0 && eqb (owed n rows) 0) ≡ true → (t implies eqb (money n (later ++ added)) 0 && eqb (owed n (later ++ added)) 0) ≡ true
        clear true e =
            let m : money n rows ≡ 0 = eqb-true (money n rows) 0 (and_left (eqb (money n rows) 0) _ e) in
            let o : owed n rows ≡ 0 = eqb-true (owed n rows) 0 (and_right (eqb (money n rows) 0) _ e) in
            let m' : money n (later ++ added) ≡ 0 = same-later (only (source_of n) remaining) (keeps (only (source_of n) remaining) (λ r v w. refl)) (λ i a k. rw (and-false (eqb a n))) ∙ m in
            let o' : owed n (later ++ added) ≡ 0 = omega (arith, sum-later (only (debit_of n) remaining) (keeps (only (debit_of n) remaining) (λ r v w. refl)), none-wanted o) in
            and_both _ _ (eq-eqb (money n (later ++ added)) 0 m') (eq-eqb (owed n (later ++ added)) 0 o')
        clear false e = refl

-- ---- the book

pub raise_tolls-near : (past : ℕ) (b : Book) → Near past b → b.day ≡ past + 1 → length (raise_tolls b).rows ≤ b.room → Near b.day (raise_tolls b)
unfolding raise_tolls
raise_tolls-near past b n t room =
    let s : Schedule = b.schedule in
    let rows : List Row = b.rows in
    let p : StorableSchedule s = schedule-storable s n.schedule in
    let l1 : leb 1 b.day ≡ true = le-leb 1 b.day (omega arith) in
    let fees : (j : ℕ) → j < length (added s b.day rows) → Fresh s b.day rows b.accounts (get_or (added s b.day rows) j blank) =
    all-fresh s b.day rows b.accounts l1 (stage_fee-le s p) n.shape in
    record {
      day = n.day;
      schedule = n.schedule;
      lists = n.lists;
      holidays = n.holidays;
      sizes = n.sizes;
      fits = le-leb _ b.room room;
      shape = λ k h. grown-each (raise s b.day) blank (raise-blank s b.day) rows (added s b.day rows) k
          (λ x. Shape b.day b.accounts (later b.schedule b.day b.rows ++ added b.schedule b.day b.rows) (suc k) x) h
          (λ l. shape-raised s b.day rows b.accounts k l (n.shape k l))
          (λ j e l. (fees j l).shape (suc k) (omega arith));
      live = λ k h. grown-each (raise s b.day) blank (raise-blank s b.day) rows (added s b.day rows) k (λ x. Live b.day b.day b.schedule.stage x) h
          (λ l. live-raised s b.day past (get_or rows k blank) t p.least (n.live k l))
          (λ j e l. (fees j l).live);
      standing = n.standing;
      successors = n.successors;
      counted = λ k h. counted-raised s b.day rows (suc k) (get_or b.accounts k unused) (n.counted k h);
    }
