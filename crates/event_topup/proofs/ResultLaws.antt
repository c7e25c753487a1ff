-- Event 7: which refusals concern it.
use mathlib.Core.Path.{◌≡◌, refl, ◌∙◌}
use mathlib.Core.Bool.{Bool, true, false, not, ◌&&◌, and-false}
use Prim.Native.Nat.{◌+◌, ◌≤◌}
use mathlib.Core.List.{[], ◌∷◌, ◌++◌}
use lib.ListN.{length}
use lib.Dec.{ltb}
use Rattle.records.specs.Numbers.{answer_untimely, answer_full}
use Rattle.records.specs.Codes.{method_card, code_yes, event_topup_result}
use Rattle.lists.specs.Tests.{◌is◌, first}
use Rattle.lists.specs.Lists.{sum_by, count}
use Rattle.rules.specs.Rows.{Row, kind_payment, new_row, with_mark}
use Rattle.rules.specs.Book.{Instruction, Book, account, low_balance, topup_due}
use Rattle.rules.specs.Events.{pay_topup, decline_topup, topup_result}
use Rattle.rules.specs.Refusals.{change_of, full, ceiling, answer_number, shared_refusals, own_refusals}
use Rattle.rules.specs.Tables.{Tables, book_of, sound_tables}
use Rattle.records.specs.Updates.{of_kind}
use Rattle.rules.proofs.RefusalLaws.{own_tests, answer_number-own}
use Rattle.posting_laws.proofs.RefusalLaws.{at-kind, length-after, no-ceiling}
use Rattle.posting_laws.proofs.AccountEventLaws.{rows_fit, never-full, never-above}
use Rattle.event_refusals.specs.Admissions.{Admitted}
use Rattle.event_topup.specs.TopupResult.{result_refusals}

-- the row that a paid top-up adds
abbrev pub topup_row : Book → Instruction → Row
topup_row b e = with_mark method_card (new_row kind_payment e.account b.day (account b e.account).topup)

module _ (b : Book) (e : Instruction) (fit : length b.rows ≤ b.room) where
  abbrev event7 : Instruction
  event7 = of_kind event_topup_result e

  rows-paid : e.b is code_yes ≡ true → (change_of event_topup_result b event7).rows ≡ b.rows ++ (topup_row b event7 ∷ [])
  unfolding change_of topup_result pay_topup
  rows-paid y = rw y

  rows-declined : e.b is code_yes ≡ false → (change_of event_topup_result b event7).rows ≡ b.rows
  unfolding change_of topup_result decline_topup
  rows-declined y = rw y

  full-7 : (y : Bool) → e.b is code_yes ≡ y → full b event7 ≡ y && ltb b.room (length b.rows + 1)
  unfolding full
  full-7 true q = rw (length-after b event7 b.rows (topup_row b event7 ∷ []) (rows-paid q) refl)
  full-7 false q = never-full b event7 (rows-declined q) fit

  above-7 : (y : Bool) → e.b is code_yes ≡ y → ceiling b event7 ≡ false
  unfolding count sum_by
  above-7 true q = no-ceiling b event7 b.rows (topup_row b event7 ∷ []) (rows-paid q) refl refl
  above-7 false q = never-above b event7 (rows-declined q)

  own-7 : first (own_refusals b event7) ≡ first (result_refusals b event7)
  unfolding own_tests result_refusals
  own-7 = rw (full-7 (e.b is code_yes) refl, above-7 (e.b is code_yes) refl)

-- the number that event 7 gets where no shared refusal applies
pub answer-result : (b : Book) (e : Instruction) → length b.rows ≤ b.room → e.kind ≡ event_topup_result → first (shared_refusals b e) ≡ 0
    → answer_number b e ≡ first (result_refusals b e)
answer-result b e h k a = answer_number-own b e a ∙ at-kind (λ x. first (own_refusals b x) ≡ first (result_refusals b x)) e 7 k (own-7 b e h)

-- "A paid or declined result on an account that is low only through held debts is untimely" (document 02, No. 2): so is any where
-- balance and held debts together are above the threshold, whatever the balance is
pub not-low-untimely : (b : Book) (e : Instruction) → length b.rows ≤ b.room → e.kind ≡ event_topup_result
    → first (shared_refusals b e) ≡ 0 → low_balance b e.account ≡ false → answer_number b e ≡ answer_untimely
unfolding result_refusals first topup_due
not-low-untimely b e h k a l = answer-result b e h k a ∙ rw (l, and-false)

-- the same on sound tables, with what each test came to
pub result_by : (t : Tables) → sound_tables t ≡ true → (e : Instruction) → e.kind ≡ event_topup_result → Admitted t e → (d r : Bool)
    → topup_due (book_of t) e.account ≡ d → e.b is code_yes && ltb (book_of t).room (length (book_of t).rows + 1) ≡ r
    → first ((answer_untimely, not d) ∷ (answer_full, r) ∷ []) ≡ answer_number (book_of t) e
unfolding result_refusals
result_by t s e k a d r w z = rw (answer-result (book_of t) e (rows_fit t s) k a, w, z)
