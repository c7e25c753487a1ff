-- `named_kind` meets its contract: a row that is not earlier, or of another account, is of no kind.
use Rattle.sound_journal.proofs.JournalLaws.{names-later, names-other, names_same}
use Rattle.sound_journal.specs.Passing.{frame_rows}
use Rattle.sound_journal.proofs.frame.Frame.named_kind.Goals as goal

pub returns-then-r-n : goal.returns-then-r-n
returns-then-r-n c m = names-later (frame_rows c.args.self.now) c.args.n c.args.r m c.if-r-n.true

pub returns-then-named-r : goal.returns-then-named-r
returns-then-named-r c m = names-other (frame_rows c.args.self.now) c.args.n c.args.r m c.numbered-named.result c.numbered-named.ensures c.if-named-r.true

pub returns : goal.returns
returns c m = names_same (frame_rows c.args.self.now) c.args.n c.args.r m c.numbered-named.result c.numbered-named.ensures c.if-r-n.false c.if-named-r.false
