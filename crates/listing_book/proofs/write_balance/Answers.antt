-- `write_balance` meets its contract: the text of the difference of the sums, then a line feed.
use native.Mathlib.Omega.{arith}
use mathlib.Core.Path.{ap₂, ◌∙◌}
use mir.Syntax.{w64}
use mir.Facts.{to_z-of_z}
use borrow.Author.Rules.{sfits_of}
use Rattle.rules.specs.Book.{minus}
use Rattle.listing_rules.specs.Texts.{line}
use Rattle.balances.proofs.AmountLaws.{sums-fit}
use Rattle.decimal.proofs.WritingLaws.{appended}
use Rattle.listing_book.proofs.write_balance.Goals as goal

pub balance-requires : goal.balance-requires
balance-requires g c =
    let h = sums-fit _ _ c.args.summable.amounts _ _ c.sums_of-s.ensures in
    (omega arith, omega arith)

pub returns-clause-text : goal.returns-clause-text
unfolding line
returns-clause-text g c =
    let m = c.balance in
    let e = to_z-of_z {w = w64} (sfits_of m.type_inv) ∙ m.ensures ∙ ap₂ minus c.sums_of-s.ensures.sources c.sums_of-s.ensures.debits in
    appended _ _ _ _ _ (rw e at c.push_number.ensures.text) c.push.ensures.text
