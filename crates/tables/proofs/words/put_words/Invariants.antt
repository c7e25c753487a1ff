-- The numbers from the i-th on are still to be stored.
use Rattle.std.specs.Prelude.{◌≡◌, map, pos, drop}
use Rattle.tables.specs.Changes.{put_all}
use Rattle.tables.proofs.words.put_words.Given as goal

abbrev pub invariant-loop-i : goal.invariant-loop-i
invariant-loop-i g l = put_all l.t l.p l.i (map pos (drop l.i l.words)) ≡ put_all l.fn.t l.p 0 (map pos l.words)
