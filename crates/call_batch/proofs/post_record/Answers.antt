-- `post_record` meets its contract: the event is posted, its answer stands at its place, and the index is that of the tables after it.
use mathlib.Core.Path.{◌∙◌}
use Rattle.call_words.proofs.AnswerLaws.{answer-storable}
use Rattle.call_batch.proofs.post_record.Goals as goal

pub write_answer-requires : goal.write_answer-requires
write_answer-requires c =
    (c.requires.1, rw c.from-2.ensures (answer-storable _ c.requires.0 _ _ c.post_indexed-outcome.ensures.posts.answer))

pub returns-clause-posts : goal.returns-clause-posts
returns-clause-posts c =
    let q = rw c.from.ensures at c.post_indexed-outcome.ensures.posts in
    record { tables = q.tables; answers = c.write_answer.ensures ∙ rw (c.from-2.ensures, q.answer) }
