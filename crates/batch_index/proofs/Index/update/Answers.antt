-- `Index::update` meets its contract: the new rows go in, and the slots are made anew or brought up to them.
use native.Mathlib.Omega.{arith}
use mathlib.Core.Path.{sym, ◌∙◌}
use Rattle.rules.proofs.TableLaws.{header-length}
use Rattle.posting.proofs.BookLaws.{used-room}
use Rattle.batch_index.proofs.IndexLaws.{sound-indexable, index-made}
use Rattle.batch_index.proofs.Index.update.Goals as goal

pub rows-requires : goal.rows-requires
rows-requires c = (omega (arith, header-length _ c.requires.0), used-room _ c.requires.0)

pub index_passages-requires : goal.index_passages-requires
index_passages-requires c =
    (rw (c.rows.ensures.journal, c.rows.ensures.used) (sound-indexable _ c.requires.0), omega (arith, c.rows.ensures.used, c.requires.1), rw c.rows.ensures.journal c.requires.2.trees)

pub invariant_of-countable : goal.invariant_of-countable
invariant_of-countable c = record { countable = rw (c.rows.ensures.journal, c.rows.ensures.used) (sound-indexable _ c.requires.0).rows }

pub returns-then-may_pay_held : goal.returns-then-may_pay_held
returns-then-may_pay_held c = index-made _ _ _ c.rows.ensures.used (rw c.rows.ensures.journal at c.index_passages.ensures) (rw c.rows.ensures.journal at c.index_rows.ensures)

pub update-requires : goal.update-requires
update-requires c = (
  omega (arith, c.rows.ensures.used, c.requires.1),
  rw c.rows.ensures.journal c.requires.2.hold,
  rw (c.rows.ensures.journal, c.rows.ensures.used) (c.requires.2.moneys (sym c.may_pay_held.ensures ∙ c.if-may_pay_held.false)),
)

pub returns : goal.returns
returns c = index-made _ _ _ c.rows.ensures.used (rw c.rows.ensures.journal at c.index_passages.ensures) (rw c.rows.ensures.journal at c.update.ensures)
