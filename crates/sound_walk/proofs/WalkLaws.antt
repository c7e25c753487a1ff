-- What a row that stands, and one that does not, shows of the rows.
use mathlib.Core.Path.{◌≡◌, sym, ◌∙◌}
use mathlib.Core.Logic.{◌≢◌}
use mathlib.Core.Bool.{true, false, and-false, or-false, true≢false, false≢true}
use Prim.Native.Nat.{ℕ, ◌+◌, ◌≤◌, ◌<◌}
use native.Mathlib.Omega.{arith}
use mathlib.Core.List.{List, [], ◌∷◌}
use Rattle.account_sums.specs.declared.Sums.{Sums}
use lib.ListN.{get_or}
use lib.Dec.{eqb}
use native.Mathlib.Decide.{dec_lt}
use borrow.Author.Tests.{not-true, ne_eqb, le-ltb}
use borrow.Author.Count.{below_more}
use Rattle.lists.proofs.TestLaws.{all_of-at}
use Rattle.lists.proofs.ListLaws.{every-fails, length-tabulate}
use Rattle.records.specs.Encoding.{row_at, account_at}
use Rattle.records.specs.Limits.{most_accounts}
use Rattle.rules.specs.Rows.{Row, kind_toll, kind_fee, kind_payment, kind_credit, row_no, source, debit, held_toll, held}
use Rattle.rules.specs.Soundness.{kind_fits, amount_fits, settled_fits, account_used, names, reference_fits}
use Rattle.rules.proofs.StorableLaws.{amount-le, settled-le, used-inside}
use Rattle.sound_header.specs.Clauses.{own_words, row_alone, row_passes, rows_stand}
use Rattle.sound_journal.specs.declared.frame.Frame.{Frame}
use Rattle.sound_journal.specs.Passing.{frame_accounts, frame_rows, passes_in}
use Rattle.sound_journal.proofs.JournalLaws.{passes-alike, passes_same}
use Rattle.sound_passages.specs.Trees.{passages_differ, TreesOf}
use Rattle.sound_fees.specs.Fees.{fees_few, FeesCounted}
use Rattle.account_sums.specs.AccountSums.{Tallies, Addable}
use Rattle.account_sums.proofs.SumsLaws.{no-source-debit}
use Rattle.account_sums.proofs.AccountSumsLaws.{addable}
use Rattle.sound_walk.specs.declared.Arrays.{Arrays}
use Rattle.sound_walk.specs.Walks.{Walked, Unfit, Walks, Turn, Stands}

-- a toll is held by its own word, a fee by its toll's, no other row; neither a payment nor a credit is a debit, and every other kind is
pub toll-held : (rows : List Row) (r : Row) → r.kind ≡ kind_toll → eqb r.dispute 1 ≡ held rows r
unfolding held
toll-held rows r e = rw (e, or-false)

pub none-held : (rows : List Row) (r : Row) → r.kind ≢ kind_toll → r.kind ≢ kind_fee → false ≡ held rows r
unfolding held
none-held rows r p q = rw (ne_eqb r.kind kind_toll p, ne_eqb r.kind kind_fee q)

pub no_source : (r : Row) → r.kind ≢ kind_payment → r.kind ≢ kind_credit → source r ≡ false
no_source r p q = rw (ne_eqb r.kind kind_payment p, ne_eqb r.kind kind_credit q)

module _ (f : Frame) where
  -- two tolls of the same passage number
  pub unfit-passage : passages_differ (frame_rows f) ≡ false → Unfit f
  unfit-passage e = rw e (and-false (rows_stand (frame_accounts f) (frame_rows f) f.term.today f.term.stage))

  -- a toll that too many fees name
  pub unfit-fees : fees_few (frame_rows f) ≡ false → Unfit f
  unfit-fees e = simp (e, and-false)

  -- what each result says
  module _ {a : Arrays} {i : ℕ} where
    pub walks-good : Walked f a i → Walks f a i true
    walks-good w = record { good = λ e. w; bad = λ e. absurd (true≢false e) }

    pub walks-bad : Unfit f → Walks f a i false
    walks-bad u = record { good = λ e. absurd (false≢true e); bad = λ e. u }

  module _ (i : ℕ) (r : Row) (t : Turn f i r) where
    -- a row that does not stand
    pub row-unfit : passes_in f (i + 1) r ≡ false → Unfit f
    unfolding rows_stand
    row-unfit e = rw (every-fails (passes_in f) (row_at f.rows.journal.now) f.rows.used i t.inside (sym (passes-alike f i t.inside r t.alike) ∙ e))

    -- and one that does
    pub row-stands : passes_in f (i + 1) r ≡ true → Stands f i r
    row-stands e = record { inside = t.inside; same = passes_same f i t.inside r t.alike e; passes = e }

  module _ (i : ℕ) (r : Row) (t : Stands f i r) where
    part : (k : ℕ) → get_or (row_alone f.term.today f.term.stage r ∷ account_used (frame_accounts f) r ∷ reference_fits (frame_rows f) (i + 1) r ∷ []) k true ≡ true
    part = unfold row_passes in all_of-at _ t.passes

    alone : (k : ℕ) → get_or (kind_fits r ∷ amount_fits r ∷ settled_fits r ∷ own_words f.term.today f.term.stage r ∷ []) k true ≡ true
    alone = unfold row_alone in all_of-at _ (part 0)

    -- a fee names an earlier row
    pub row-earlier : r.kind ≡ kind_fee → r.reference < i + 1
    unfolding reference_fits names
    row-earlier k =
        elim (dec_lt r.reference (i + 1)) [
          | yes h ↦ h
          | no h ↦ absurd (false≢true (simp (k, le-ltb r.reference (i + 1) (omega arith)) at (part 2)))
        ]

    pub row-debit : source r ≡ false → debit r ≡ true
    row-debit = no-source-debit r (alone 0)

    pub row-addable : {sums : List Sums} → Tallies f.rows.journal.now f.rows.used sums i → Addable sums r
    row-addable w = let b = f.bounds in addable f.rows.journal.now f.rows.used _ i w (omega (arith, t.inside, b.few)) r account-le (amount-le r (alone 1)) (settled-le r (alone 2))
      where
        account-le : r.account ≤ most_accounts
        account-le = unfold account_used in
            (let x = used-inside (frame_accounts f) r.account (not-true _ (part 1)) in
            let b = f.bounds in
            omega (arith, b.fewer, length-tabulate (account_at f.accounts.now) f.count))

    -- it is entered everywhere
    pub row-walks : {a b : Arrays} → Walked f a i → f.rows.used ≤ b.space → TreesOf b.space f.rows.journal.now b.cells.now (i + 1)
        → FeesCounted b.space f.rows.journal.now b.counts.now (i + 1) → Tallies f.rows.journal.now f.rows.used b.sums.now (i + 1) → Walks f b (i + 1) true
    row-walks w h g c s = walks-good record { held = h; stood = below_more _ _ w.stood (rw t.same at t.passes); trees = g; fees = c; tallies = s }
