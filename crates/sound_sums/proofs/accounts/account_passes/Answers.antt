-- `account_passes` meets its contract: three groups of tests, on the account as it is read; the first that fails decides.
use Rattle.sound_sums.proofs.AccountLaws.{passes-by}
use mathlib.Core.Bool.{true, false}
use mathlib.Core.Path.{refl, sym, ◌∙◌}
use Rattle.sound_sums.proofs.accounts.account_passes.Goals as goal

pub returns-then-not-account_alone : goal.returns-then-not-account_alone
returns-then-not-account_alone c =
    let alone = sym c.account_alone.ensures ∙ c.if-not-account_alone.true in
    passes-by c.args.f.now c.args.i c.args.sums.now c.requires.1 c.plain_account-x.result c.plain_account-x.ensures false _ alone refl

pub returns-then-not-successor_fits : goal.returns-then-not-successor_fits
returns-then-not-successor_fits c =
    let alone = sym c.account_alone.ensures ∙ c.if-not-account_alone.false in
    let fits = sym c.successor_fits.ensures ∙ c.if-not-successor_fits.true in
    passes-by c.args.f.now c.args.i c.args.sums.now c.requires.1 c.plain_account-x.result c.plain_account-x.ensures true false alone fits

pub returns : goal.returns
returns c =
    let alone = sym c.account_alone.ensures ∙ c.if-not-account_alone.false in
    let fits = sym c.successor_fits.ensures ∙ c.if-not-successor_fits.false in
    c.sums_agree.ensures ∙ passes-by c.args.f.now c.args.i c.args.sums.now c.requires.1 c.plain_account-x.result c.plain_account-x.ensures true true alone fits
