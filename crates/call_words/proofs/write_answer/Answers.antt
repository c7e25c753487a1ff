-- `write_answer` meets its contract: five words put from the answer's first, in their order.
use native.Mathlib.Omega.{arith}
use Rattle.records.proofs.FieldLaws.{storable-none, storable-more}
use Rattle.records.specs.Encoding.{answer_words}
use Rattle.call_words.proofs.write_answer.Goals as goal

pub put_words-requires : goal.put_words-requires
put_words-requires c =
    let s = c.requires.1 in
    (omega arith, (c.requires.0, storable-more s.number (storable-more s.first (storable-more s.added (storable-more s.raised (storable-more s.removed storable-none))))))

pub returns : goal.returns
unfolding answer_words
returns c = c.put_words.ensures
