-- `sums::Remains::add_row` meets its contract: a row is a source or a debit, and each sum takes its share.
use mathlib.Core.Bool.{cond}
use mathlib.Core.Path.{◌≡◌, sym, ◌∙◌}
use Rattle.records.specs.Encoding.{row_at}
use Rattle.rules.specs.Rows.{remaining, source, debit}
use Rattle.account_sums.specs.Tallies.{money_of, owed_of}
use Rattle.account_sums.proofs.SumsLaws.{share-money, share-owed, remaining-small, slot-asked, slot_added}
use Rattle.tick_base.proofs.StageLaws.{not-source}
use Rattle.tick_base.proofs.sums.Remains.add_row.Goals as goal

pub add-requires : goal.add-requires
add-requires c =
    let w : c.part.result ≡ cond (source (row_at c.args.countable.now.rows.journal.now c.args.i)) (remaining (row_at c.args.countable.now.rows.journal.now c.args.i)) 0 =
    c.part.ensures ∙ rw (c.is_source_kind-source.ensures (row_at c.args.countable.now.rows.journal.now c.args.i) (sym c.kind_at.ensures), c.small_settled.ensures, c.small_amount.ensures) in
    slot-asked money_of source remaining share-money c.args.countable.now.rows.journal.now c.args.self.now.money c.args.i c.requires.1.moneys c.args.countable.now.rows.used c.args.countable.now.countable c.requires.0
    c.small_account-a.result c.small_account-a.ensures c.part.result w (remaining-small c.args.countable.now.rows.journal.now c.args.countable.now.rows.used c.args.countable.now.countable)

pub add-requires-2 : goal.add-requires-2
add-requires-2 c =
    let w : c.part-2.result ≡ cond (debit (row_at c.args.countable.now.rows.journal.now c.args.i)) (remaining (row_at c.args.countable.now.rows.journal.now c.args.i)) 0 =
    c.part-2.ensures ∙ rw (c.is_source_kind-source.ensures (row_at c.args.countable.now.rows.journal.now c.args.i) (sym c.kind_at.ensures), c.small_settled.ensures, c.small_amount.ensures, not-source (row_at c.args.countable.now.rows.journal.now c.args.i) (c.args.countable.now.countable.kind c.args.i c.requires.0)) in
    slot-asked owed_of debit remaining share-owed c.args.countable.now.rows.journal.now c.args.self.now.owed c.args.i c.requires.1.owings c.args.countable.now.rows.used c.args.countable.now.countable c.requires.0
    c.small_account-a.result c.small_account-a.ensures c.part-2.result w (remaining-small c.args.countable.now.rows.journal.now c.args.countable.now.rows.used c.args.countable.now.countable)

pub returns : goal.returns
returns c =
    let m : c.part.result ≡ cond (source (row_at c.args.countable.now.rows.journal.now c.args.i)) (remaining (row_at c.args.countable.now.rows.journal.now c.args.i)) 0 =
    c.part.ensures ∙ rw (c.is_source_kind-source.ensures (row_at c.args.countable.now.rows.journal.now c.args.i) (sym c.kind_at.ensures), c.small_settled.ensures, c.small_amount.ensures) in
    let o : c.part-2.result ≡ cond (debit (row_at c.args.countable.now.rows.journal.now c.args.i)) (remaining (row_at c.args.countable.now.rows.journal.now c.args.i)) 0 =
    c.part-2.ensures ∙ rw (c.is_source_kind-source.ensures (row_at c.args.countable.now.rows.journal.now c.args.i) (sym c.kind_at.ensures), c.small_settled.ensures, c.small_amount.ensures, not-source (row_at c.args.countable.now.rows.journal.now c.args.i) (c.args.countable.now.countable.kind c.args.i c.requires.0)) in
    record {
      moneys = slot_added money_of source remaining share-money c.args.countable.now.rows.journal.now c.args.self.now.money c.args.i c.requires.1.moneys c.args.countable.now.rows.used c.args.countable.now.countable c.requires.0
          c.small_account-a.result c.small_account-a.ensures c.part.result m _ c.add.ensures;
      owings = slot_added owed_of debit remaining share-owed c.args.countable.now.rows.journal.now c.args.self.now.owed c.args.i c.requires.1.owings c.args.countable.now.rows.used c.args.countable.now.countable c.requires.0
          c.small_account-a.result c.small_account-a.ensures c.part-2.result o _ c.add-2.ensures;
    }
