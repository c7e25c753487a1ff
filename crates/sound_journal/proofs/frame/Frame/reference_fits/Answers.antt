-- `reference_fits` meets its contract: a toll and a payment name no row; of the others it is the clause on the kind that is looked up.
use Rattle.sound_journal.proofs.JournalLaws.{fits-fee, fits-reversal, fits-credit}
use Rattle.sound_journal.specs.Passing.{frame_rows}
use Rattle.rules.specs.Soundness.{reference_fits}
use mathlib.Core.Path.{◌∙◌}
use Rattle.sound_journal.proofs.frame.Frame.reference_fits.Goals as goal

pub returns-then-r-eq-KIND_TOLL : goal.returns-then-r-eq-KIND_TOLL
unfolding reference_fits
returns-then-r-eq-KIND_TOLL c = rw c.if-r-eq-KIND_TOLL.true

pub returns-then-r-eq-KIND_PAYMENT : goal.returns-then-r-eq-KIND_PAYMENT
unfolding reference_fits
returns-then-r-eq-KIND_PAYMENT c = rw c.if-r-eq-KIND_PAYMENT.true

pub returns-then-r-eq-KIND_FEE : goal.returns-then-r-eq-KIND_FEE
returns-then-r-eq-KIND_FEE c =
    rw (c.eq.ensures, c.eq-then-r-eq-KIND_FEE.ensures)
    (fits-fee (frame_rows c.args.self.now) c.args.n c.args.r c.named_kind-named.result c.named_kind-named.ensures c.if-r-eq-KIND_FEE.true)

pub returns-then-r-eq-KIND_REVERSAL : goal.returns-then-r-eq-KIND_REVERSAL
returns-then-r-eq-KIND_REVERSAL c =
    c.eq-then-r-eq-KIND_REVERSAL.ensures
    ∙ fits-reversal (frame_rows c.args.self.now) c.args.n c.args.r c.named_kind-named.result c.named_kind-named.ensures c.if-r-eq-KIND_REVERSAL.true

pub returns : goal.returns
returns c =
    rw c.eq-2.ensures at c.implies.ensures
    ∙ fits-credit (frame_rows c.args.self.now) c.args.n c.args.r c.named_kind-named.result c.named_kind-named.ensures c.if-r-eq-KIND_FEE.false c.if-r-eq-KIND_REVERSAL.false
