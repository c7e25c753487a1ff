-- `second_line` meets its contract: the numbers that open the book, or a bad line.
use native.Mathlib.Omega.{arith}
use mathlib.Core.Path.{◌≡◌, refl, sym, ◌∙◌}
use mathlib.Core.Bool.{Bool, true, false}
use Rattle.std.proofs.Common.{rules}
use Rattle.std.specs.Prelude.{is_ok}
use Rattle.lent.specs.Lent.{lent_mut}
use Rattle.listing_lines.specs.Lines.{Judged}
use Rattle.listing_lines.proofs.TakenLaws.{refused-number, opened-number, bad-verdict, judged-bad, judged-good, second-unread, second-refused, second-good, second-book, second-sound}
use Rattle.listing_lines.proofs.second_line.Goals as goal

pub returns-in_err-values-clause-judged : goal.returns-in_err-values-clause-judged
returns-in_err-values-clause-judged c =
    let unread = rw c.in_err-values.ensures.ok_part at c.read_numbers.ensures in
    judged-bad 1 _ _ c.args.line.now _ (second-unread c.args.line.now (sym unread)) (bad-verdict _ c.from_residual.ensures.0)

pub returns-clause-judged : goal.returns-clause-judged
returns-clause-judged c = go (is_ok c.open_book.result) refl
  where
    ok : is_ok c.map_err.result ≡ is_ok c.open_book.result
    ok = search rules

    go : (v : Bool) → is_ok c.open_book.result ≡ v → Judged 1 (lent_mut c.args.t.now) (lent_mut c.open_book.new.t) c.args.line.now c.map_err.result
    go false e =
        let read = rw c.in_ok-values.ensures.ok_part at c.read_numbers.ensures in
        judged-bad 1 _ _ c.args.line.now _
        (second-refused _ _ c.args.line.now _ _ c.requires.sized read.0 read.1 c.open_book.ensures.gives (refused-number _ e)) (ok ∙ e)
    go true e =
        let line = c.args.line.now in
        let s = c.requires.sized in
        let read = rw c.in_ok-values.ensures.ok_part at c.read_numbers.ensures in
        let o = c.open_book.ensures.gives in
        let z = opened-number _ e in
        judged-good 1 _ _ line _ (second-good _ _ line _ _ s read.0 read.1 o z) (ok ∙ e) (second-book _ _ line _ _ s read.0 read.1 o z) (record {
          sized = record { header = omega (arith, s.header); accounts = omega (arith, s.accounts); journal = omega (arith, s.journal); holidays = refl };
          sound = λ q. second-sound _ _ line _ _ s read.0 read.1 o z;
        })
