-- `look_up` meets its contract: it searches for a toll's passage number and asks for a top-up, and passes over no row.
use Rattle.std.proofs.Common.{rules}
use native.Mathlib.Omega.{arith}
use Rattle.rules.proofs.TableLaws.{sound-rows}
use Rattle.posting.proofs.BookLaws.{rows-lie}
use Rattle.event_lookups.proofs.LookupLaws.{looks-up-all}
use Rattle.event_lookups.proofs.look_up.Goals as goal

pub rows-requires : goal.rows-requires
rows-requires c = rows-lie _ c.requires

pub returns-then-e-eq-EVENT_TOLL : goal.returns-then-e-eq-EVENT_TOLL
returns-then-e-eq-EVENT_TOLL c =
    looks-up-all _ _ _ (search rules) (search rules) (λ k. rw (sound-rows _ c.requires, ← c.rows.ensures.used, ← c.rows.ensures.journal) c.passage_found.ensures)
    (λ k. absurd (omega (arith, c.if-e-eq-EVENT_TOLL.true)))

pub returns-then-e-eq-EVENT_TOPUP_RESULT : goal.returns-then-e-eq-EVENT_TOPUP_RESULT
returns-then-e-eq-EVENT_TOPUP_RESULT c =
    looks-up-all _ _ _ (search rules) (search rules) (λ k. absurd (c.if-e-eq-EVENT_TOLL.false k)) (λ k. c.topup_due.ensures)

pub returns-else-e-eq-EVENT_TOPUP_RESULT : goal.returns-else-e-eq-EVENT_TOPUP_RESULT
returns-else-e-eq-EVENT_TOPUP_RESULT c =
    looks-up-all _ _ _ (search rules) (search rules) (λ k. absurd (c.if-e-eq-EVENT_TOLL.false k)) (λ k. absurd (c.if-e-eq-EVENT_TOPUP_RESULT.false k))
