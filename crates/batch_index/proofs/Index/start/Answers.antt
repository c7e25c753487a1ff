-- `Index::start` meets its contract: the passage numbers of all rows go in, and the slots are made.
use native.Mathlib.Omega.{arith}
use Rattle.rules.proofs.TableLaws.{header-length}
use Rattle.posting.proofs.BookLaws.{used-room}
use Rattle.batch_index.proofs.IndexLaws.{empty-trees, sound-indexable, index-made}
use Rattle.batch_index.proofs.Index.start.Goals as goal

pub rows-requires : goal.rows-requires
rows-requires c = (omega (arith, header-length _ c.requires.0), used-room _ c.requires.0)

pub index_passages-requires : goal.index_passages-requires
index_passages-requires c =
    (rw (c.rows.ensures.journal, c.rows.ensures.used) (sound-indexable _ c.requires.0), omega arith, empty-trees _ _ c.requires.1)

pub invariant_of-countable : goal.invariant_of-countable
invariant_of-countable c = record { countable = rw (c.rows.ensures.journal, c.rows.ensures.used) (sound-indexable _ c.requires.0).rows }

pub returns : goal.returns
returns c = index-made _ _ _ c.rows.ensures.used (rw c.rows.ensures.journal at c.index_passages.ensures) (rw c.rows.ensures.journal at c.index_rows.ensures)
