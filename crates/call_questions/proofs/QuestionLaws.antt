-- The questions, with what their tests came to.
use mathlib.Core.Path.{◌≡◌, refl, sym, ap, ◌∙◌}
use mathlib.Core.Bool.{Bool, true, false, not, cond, ◌&&◌}
use Prim.Native.Nat.{ℕ, ◌+◌, ◌*◌, ◌-◌, ◌^◌, ◌≤◌, ◌<◌}
use native.Mathlib.Omega.{arith}
use mathlib.Core.List.{[], ◌∷◌}
use lib.IntN.{ℤ, pos}
use mir.Facts.{to_z-of_z}
use mir.Val.{of_z, to_z, SFits}
use Rattle.std.proofs.Common.{w64}
use lib.ListN.{length, take, drop}
use lib.Dec.{leb}
use borrow.Author.Tests.{leb-true, not-false}
use Rattle.records.specs.declared.refusals.Refusal.{Refusal}
use Rattle.records.specs.Outcomes.{number_of}
use Rattle.records.proofs.OutcomeLaws.{number_of-not_0}
use Rattle.records.specs.Numbers.{answer_unsound, answer_unknown}
use Rattle.records.specs.Layout.{row_width}
use Rattle.records.specs.Encoding.{nat_of, accounts_of, rows_of}
use Rattle.lists.specs.Tests.{◌is◌, ◌from◌to◌, first}
use Rattle.lists.proofs.TestLaws.{and_left, and_right, first-none}
use Rattle.lists.specs.Lists.{least}
use Rattle.records.specs.Limits.{most_rows}
use Rattle.rules.specs.Book.{Account, state_unused, Book, account, account_no, minus, balance}
use Rattle.rules.specs.Tables.{Tables, accounts_in, rows_used, book_of, sound_tables}
use Rattle.rules.specs.Debtors.{heavy_by, heavy, rows_read}
use Rattle.call_rules.specs.Calls.{Replies, RepliesDebtor, question_refusals, question, debtor_call, row_call}
use Rattle.rules.proofs.StorableLaws.{between_le}
use Rattle.rules.proofs.TableLaws.{sound-rows, length-sound-rows}
use Rattle.balances.specs.declared.Sums.{Sums}
use Rattle.balances.specs.declared.debtor.Debtor.{Debtor}
use Rattle.balances.specs.Summed.{Summed}
use Rattle.balances.proofs.AmountLaws.{sums-fit}
use Rattle.posting.proofs.BookLaws.{account-read, used-small, used-room, journal-summable}
use Rattle.call_questions.specs.RowParts.{words_before, Place, words_past, RowPart}

-- ---- the number asked of

-- the word that was handed over reads as it was given
pub numbered : {a : ℤ} {n : ℕ} → n ≡ nat_of (to_z w64 (of_z w64 a)) → SFits w64 a → n ≡ nat_of a
numbered e f = e ∙ ap nat_of (to_z-of_z f)

-- ---- refusals

module _ (t : Tables) (n : ℕ) where
  pub refusal-unsound : sound_tables t ≡ false → 1 ≡ first (question_refusals t n)
  unfolding question_refusals first
  refusal-unsound s = rw s

  -- by the account that was read
  pub refusal-by : sound_tables t ≡ true → (x : Account) → x ≡ account_no (accounts_of t.accounts (accounts_in t)) n → (u : Bool) → x.state is state_unused ≡ u
      → cond u 3 0 ≡ first (question_refusals t n)
  unfolding question_refusals first
  refusal-by s x e u q = rw (s, ← account-read t s n, ← e, q)

  -- a question that is not refused was asked of a sound book
  pub asked-sound : 0 ≡ first (question_refusals t n) → sound_tables t ≡ true
  unfolding question_refusals
  asked-sound e = not-false _ (first-none (answer_unsound, not (sound_tables t)) ((answer_unknown, (account (book_of t) n).state is state_unused) ∷ []) (omega arith) (sym e)).0

-- ---- a question about an account

module _ (f : Book → ℕ → ℤ) (t : Tables) (a : ℤ) (n : ℕ) (e : n ≡ nat_of a) where
  pub question-refused : (r : Refusal) → number_of r ≡ first (question_refusals t n) → Replies (question f t a) (pos (number_of r)) (pos 0)
  unfolding question
  question-refused r q = rw (← e, ← q) (record { number = refl; value = rw (number_of-not_0 r) })

  pub question-answered : 0 ≡ first (question_refusals t n) → (v : ℤ) → v ≡ f (book_of t) n → Replies (question f t a) (pos 0) v
  unfolding question
  question-answered q v w = rw (← e, ← q, w) (record { number = refl; value = refl })

-- ---- balance

module _ (t : Tables) (s : sound_tables t ≡ true) (used : ℕ) (u : used ≡ rows_used t) (n : ℕ) (q : Sums) (e : Summed t.journal n used q) where
  pub sums-small : (q.sources < 2 ^ 63) × (q.debits < 2 ^ 63)
  sums-small = sums-fit t.journal used (rw u (journal-summable t s)) n q e

  pub balance-read : minus q.sources q.debits ≡ balance (book_of t) n
  unfolding balance
  balance-read = rw (sound-rows t s, ← u, ← e.sources, ← e.debits)

-- ---- a heavy debtor

module _ (t : Tables) (a : ℤ) (n : ℕ) (e : n ≡ nat_of a) where
  pub debtor-refused : (r : Refusal) → number_of r ≡ first (question_refusals t n) → RepliesDebtor (debtor_call t a) (pos (number_of r)) (pos 0) (pos 0)
  unfolding debtor_call
  debtor-refused r q =
      let yes = question-refused (λ b m. pos (cond (heavy b m) 1 0)) t a n e r q in
      record { number = yes.number; heavy = yes.value; rows = (question-refused (λ b m. pos (rows_read b m)) t a n e r q).value }

  -- told by the used rows
  pub debtor-answered : 0 ≡ first (question_refusals t n) → {used : ℕ} → used ≡ rows_used t → (d : Debtor)
      → d.heavy ≡ heavy_by (rows_of t.journal used) n used → d.rows ≡ least (heavy_by (rows_of t.journal used) n) used
      → RepliesDebtor (debtor_call t a) (pos 0) (pos (cond d.heavy 1 0)) (pos d.rows)
  unfolding debtor_call heavy rows_read
  debtor-answered q u d h r =
      let s : sound_tables t ≡ true = asked-sound t n q in
      let l : length (book_of t).rows ≡ rows_used t = length-sound-rows t s in
      let yes = question-answered (λ b m. pos (cond (heavy b m) 1 0)) t a n e q (pos (cond d.heavy 1 0)) (rw (h, u, l, sound-rows t s) refl) in
      record { number = yes.number; heavy = yes.value; rows = (question-answered (λ b m. pos (rows_read b m)) t a n e q (pos d.rows) (rw (r, u, l, sound-rows t s) refl)).value }

-- ---- the row

module _ (t : Tables) (a : ℤ) (n : ℕ) (e : n ≡ nat_of a) where
  pub no_row : sound_tables t && n from 1 to rows_used t ≡ false → (p : Place) → RowPart t a p [] (words_past p 0)
  unfolding row_call words_before
  no_row z p = record { words = rw (← e, z); place = rw (← e, z) }

  pub row-part : (k : ℕ) → sound_tables t && n from 1 to rows_used t ≡ true → k ≡ (n - 1) * row_width → (p : Place)
      → RowPart t a p (take (k + row_width - k) (drop k t.journal)) (words_past p k)
  unfolding row_call words_before
  row-part k z h p =
      let w : k + row_width - k ≡ row_width = omega arith in
      record { words = rw (← e, z, w, h); place = rw (← e, z, h) }

-- where a used row lies in the journal
pub record Inside (t : Tables) (n : ℕ) : Type 0 where
  pub first : 1 ≤ n
  pub few : n ≤ most_rows
  pub room : (n - 1) * row_width + row_width ≤ length t.journal

pub row_inside : (t : Tables) (n : ℕ) → sound_tables t && n from 1 to rows_used t ≡ true → Inside t n
row_inside t n z =
    let s = and_left (sound_tables t) (n from 1 to rows_used t) z in
    let r = and_right (sound_tables t) (n from 1 to rows_used t) z in
    let lo = leb-true 1 n (and_left (leb 1 n) (leb n (rows_used t)) r) in
    let hi = between_le 1 (rows_used t) n r in
    record { first = lo; few = omega (arith, used-small t s); room = omega (arith, used-room t s) }
