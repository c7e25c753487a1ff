-- `admit` meets its contract: on sound tables the count and the account read are the book's.
use native.Mathlib.Omega.{arith}
use Rattle.std.proofs.Common.{rules}
use Rattle.std.specs.Prelude.{Err}
use mathlib.Core.Path.{◌≡◌, refl, ◌∙◌}
use Rattle.rules.specs.Tables.{book_of}
use Rattle.rules.proofs.TableLaws.{header-length}
use Rattle.posting.proofs.BookLaws.{account-read, count-read}
use Rattle.event_refusals.proofs.admit.Goals as goal

pub invariant_of-list_refused : goal.invariant_of-list_refused
invariant_of-list_refused c = record { wide = omega (arith, header-length _ c.requires) }

pub returns-in_err-check_shared : goal.returns-in_err-check_shared
unfolding book_of
returns-in_err-check_shared c =
    let x = c.account-x.ensures ∙ account-read _ c.requires c.args.e.account in
    let q : c.from_residual.result ≡ Err c.in_err-check_shared.field-0.0 = search rules in
    rw q (record {
      number = c.in_err-check_shared.ensures _ (c.list_refused-late.ensures _ refl) (record { size = c.count.ensures ∙ count-read _ c.requires; account = x });
      account = tt;
    })

pub returns : goal.returns
unfolding book_of
returns c =
    let x = c.account-x.ensures ∙ account-read _ c.requires c.args.e.account in
    record {
      number = c.in_ok-check_shared.ensures _ (c.list_refused-late.ensures _ refl) (record { size = c.count.ensures ∙ count-read _ c.requires; account = x });
      account = x;
    }
