-- `Rows::numbered` meets its contract: a number past the used rows names none; another names the row before it, counted from 0.
use Rattle.lists.proofs.ListLaws.{numbered-at, numbered-past}
use Rattle.rules.specs.Rows.{blank}
use Rattle.records.specs.Encoding.{row_at}
use Rattle.std.proofs.Common.{rules}
use mathlib.Core.Path.{◌≡◌, sym, ◌∙◌}
use Rattle.table_rows.proofs.Rows.numbered.Goals as goal

pub returns-then-n-self : goal.returns-then-n-self
returns-then-n-self c =
    let s = c.args.self.now in
    let none : c.default-then-n-self.result ≡ blank = search rules in
    none ∙ sym (numbered-past (row_at s.journal.now) s.used c.args.n blank c.if-n-self.true)

pub returns : goal.returns
returns c =
    let s = c.args.self.now in
    c.read_row.ensures ∙ sym (numbered-at (row_at s.journal.now) s.used c.args.n blank c.if-n-eq0.false c.if-n-self.false)
