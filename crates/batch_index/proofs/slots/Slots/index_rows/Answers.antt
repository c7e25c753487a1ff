-- `slots::Slots::index_rows` meets its contract: no row is noted before the last.
use Rattle.std.proofs.Common.{rules}
use mathlib.Core.Path.{◌≡◌}
use lib.ListN.{replicate}
use Rattle.records.specs.Limits.{slot_count}
use Rattle.batch_index.proofs.SlotLaws.{end_slot, end-holds}
use Rattle.batch_index.proofs.slots.Slots.index_rows.Goals as goal

pub loop-i-init : goal.loop-i-init
loop-i-init c =
    let filled : c.fill.new.self ≡ replicate slot_count (end_slot c.args.countable.now.rows.used) = search rules in
    rw filled (end-holds _ _)
