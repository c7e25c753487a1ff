-- `settlement::next_debit` meets its contract: the first row that wants something, as `find` gives it.
use Prim.Native.Nat.{ℕ, ◌-◌, ◌≤◌, ◌<◌}
use native.Mathlib.Omega.{arith}
use mathlib.Core.Path.{◌≡◌, refl, sym, ◌∙◌}
use mathlib.Core.List.{List}
use lib.IntN.{ℤ}
use Rattle.std.proofs.Common.{rules}
use Rattle.std.proofs.lemmas.Iterator.{first_from_find, YieldsList-from_range}
use Rattle.std.proofs.lemmas.List.FromFn.{length-range_with_len, get_or-range_with_len}
use Rattle.std.specs.Prelude.{Option, Some, None}
use Rattle.records.specs.Encoding.{row_at, rows_of}
use Rattle.lists.specs.Lists.{only}
use Rattle.lists.proofs.SearchLaws.{Finds, first-from}
use Rattle.rules.specs.Rows.{Test, remaining}
use Rattle.settlement.specs.Settling.{of_rank, NextDebit}
use Rattle.settlement.proofs.next_debit.Goals as goal

abbrev want : Test → List ℤ → ℕ → ℕ
want x t k = only x remaining (row_at t k)

next : (x : Test) (t : List ℤ) (used j : ℕ) → j ≤ used → (r : Option ℕ) → Finds (λ k. 0 < want x t k) (λ k. want x t k ≡ 0) j used r
    → NextDebit x t used j r
next x t used j h None m = (first-from (λ k. 0 < want x t k) (λ k. want x t k ≡ 0) j used h None m).passed
next x t used j h (Some k) m =
    let f = first-from (λ k. 0 < want x t k) (λ k. want x t k ≡ 0) j used h (Some k) m in
    let i : m.1 < used - j = rw length-range_with_len at m.2 in
    let within : k < used = omega (arith, sym (get_or-range_with_len j (used - j) m.1 0 i) ∙ m.3 0) in
    record { after = f.after; within = within; passed = f.passed; wants = f.found within }

pub returns : goal.returns
returns c =
    let t = c.args.rows.now in
    let x : Test = of_rank c.args.rank (rows_of t.journal.now t.used) c.args.account in
    next x t.journal.now t.used c.args.j c.requires c.find.result
    (first_from_find _ _ _ (λ k. 0 < want x t.journal.now k) (λ k. want x t.journal.now k ≡ 0) c.find.ensures.ran
    (YieldsList-from_range c.args.j t.used _ refl refl) (λ k q d. search rules) (λ k q d. search rules))
