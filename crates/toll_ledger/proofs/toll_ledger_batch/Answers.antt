-- `toll_ledger_batch` meets its contract: the call's own number, tables and answers.
use Rattle.std.proofs.Common.{rules, w64}
use borrow.Author.Rules.{sfits_of}
use mir.Facts.{to_z-of_z}
use Rattle.toll_ledger.proofs.toll_ledger_batch.Goals as goal

pub returns : goal.returns
returns c =
    let g = c.batch_call.ensures.gives in
    record {
      number = rw (to_z-of_z {w = w64} (sfits_of c.number_of.type_inv), c.number_of.ensures) g.number;
      tables = search rules;
      answers = g.answers;
    }
