-- Event 6: what each verdict changes, and which refusals concern it.
use mathlib.Core.Path.{◌≡◌, refl, ap, ◌∙◌}
use mathlib.Core.Bool.{Bool, true, false, not, ◌&&◌}
use Prim.Native.Nat.{◌+◌, ◌-◌}
use native.Mathlib.Omega.{arith}
use mathlib.Core.List.{List, [], ◌∷◌, map}
use lib.ListN.{length, set, length-set, length-map}
use lib.Dec.{ltb}
use Rattle.records.specs.Numbers.{answer_no_row, answer_untimely, answer_full}
use Rattle.records.specs.Codes.{code_yes, event_decision}
use Rattle.lists.specs.Tests.{◌is◌, first}
use Rattle.lists.specs.Lists.{sum_by, count}
use Rattle.rules.specs.Rows.{Row, toll, held_toll}
use Rattle.rules.specs.Book.{Instruction, Book, with_rows, row, put_row, add_row}
use Rattle.rules.specs.Events.{release, reject, with_fees, uphold, decide}
use Rattle.rules.specs.Refusals.{change_of, after, full, ceiling, answer_number, own_refusals}
use Rattle.rules.specs.Tables.{Tables, book_of, sound_tables}
use Rattle.rules.proofs.RefusalLaws.{own_tests, answer_number-own}
use Rattle.rules.proofs.TableLaws.{used_le}
use Rattle.records.specs.Updates.{of_kind}
use Rattle.posting_laws.proofs.RefusalLaws.{at-kind, length-after, no-ceiling, rows-suffice}
use Rattle.posting_laws.proofs.PutRowLaws.{length-put, no-ceiling-put}
use Rattle.event_refusals.specs.Admissions.{Admitted}
use Rattle.event_decision.specs.Decision.{decision_refusals, toll_and_fees, fee_settled, upheld_toll, credit_for}

-- ---- the rows that each verdict leaves

-- verdict 1: the toll and its fees settled whole, and the credit
abbrev pub forgiven_rows : Book → Instruction → List Row
forgiven_rows b e = map (fee_settled e.a) (set b.rows (e.a - 1) (upheld_toll (row b e.a)))

abbrev pub credit_row : Book → Instruction → Row
credit_row b e = credit_for b.rows b.day e

-- verdict 0: the toll free
abbrev pub free_row : Book → Instruction → Row
free_row b e = release b.day (row b e.a)

module _ (b : Book) (e : Instruction) (k : e.kind ≡ event_decision) where
  pub rejected-change : e.b is code_yes ≡ false → change_of e.kind b e ≡ put_row e.a (free_row b e) b
  unfolding change_of decide reject
  rejected-change = at-kind (λ x. x.b is code_yes ≡ false → change_of x.kind b x ≡ put_row x.a (free_row b x) b) e 6 k (λ v. rw v)

  pub upheld-change : e.b is code_yes ≡ true → change_of e.kind b e ≡ add_row (credit_row b e) (with_rows (forgiven_rows b e) b)
  unfolding change_of decide uphold with_fees credit_for toll_and_fees
  upheld-change = at-kind (λ x. x.b is code_yes ≡ true → change_of x.kind b x ≡ add_row (credit_row b x) (with_rows (forgiven_rows b x) b)) e 6 k (λ v. rw v)

  pub length-forgiven : length (forgiven_rows b e) ≡ length b.rows
  length-forgiven = length-map (set b.rows (e.a - 1) (upheld_toll (row b e.a))) (fee_settled e.a) ∙ length-set b.rows (e.a - 1) (upheld_toll (row b e.a))

  pub upheld-length : e.b is code_yes ≡ true → length (after b e).rows ≡ length b.rows + 1
  upheld-length v = length-after b e (forgiven_rows b e) (credit_row b e ∷ []) (ap (λ (x : Book). x.rows) (upheld-change v)) length-forgiven

  -- ---- 13 and 14

  decision-full : ltb b.room (length b.rows + 0) ≡ false → full b e ≡ e.b is code_yes && ltb b.room (length b.rows + 1)
  unfolding full
  decision-full f = go (e.b is code_yes) refl
    where
      go : (v : Bool) → e.b is code_yes ≡ v → ltb b.room (length (after b e).rows) ≡ v && ltb b.room (length b.rows + 1)
      go true v = rw (upheld-length v)
      go false v = rw (length-put b e e.a (free_row b e) (rejected-change v)) f

  decision-ceiling : ceiling b e ≡ false
  unfolding count sum_by credit_for
  decision-ceiling = go (e.b is code_yes) refl
    where
      go : (v : Bool) → e.b is code_yes ≡ v → ceiling b e ≡ false
      go true v = no-ceiling b e (forgiven_rows b e) (credit_row b e ∷ []) (ap (λ (x : Book). x.rows) (upheld-change v)) length-forgiven refl
      go false v = no-ceiling-put b e e.a (free_row b e) (rejected-change v)

-- ---- the answer

module _ (b : Book) (e : Instruction) where
  abbrev event6 : Instruction
  event6 = of_kind event_decision e

  own-6 : ltb b.room (length b.rows + 0) ≡ false → first (own_refusals b event6) ≡ first (decision_refusals b event6)
  unfolding own_tests decision_refusals
  own-6 f = rw (decision-full b event6 refl f, decision-ceiling b event6 refl)

-- the number that event 6 gets, with what each test came to
pub answer-by : (t : Tables) → sound_tables t ≡ true → (e : Instruction) → e.kind ≡ event_decision → Admitted t e → (n h r : Bool)
    → toll (row (book_of t) e.a) && (row (book_of t) e.a).account is e.account ≡ n
    → held_toll (row (book_of t) e.a) ≡ h → e.b is code_yes && ltb (book_of t).room (length (book_of t).rows + 1) ≡ r
    → first ((answer_no_row, not n) ∷ (answer_untimely, not h) ∷ (answer_full, r) ∷ []) ≡ answer_number (book_of t) e
unfolding decision_refusals
answer-by t s e k d n h r v w z =
    let a = at-kind (λ x. first (own_refusals (book_of t) x) ≡ first (decision_refusals (book_of t) x)) e 6 k (own-6 (book_of t) e (rows-suffice t s 0 (omega (arith, used_le t s)))) in
    rw (answer_number-own (book_of t) e d, a, v, w, z)
