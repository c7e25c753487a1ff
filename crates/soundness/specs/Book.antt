-- The clauses on the used rows and the accounts; SoundParts proves that with those on lengths and header they are rules' sound_tables.
use Rattle.std.specs.Prelude.{◌≡◌, Bool, ℕ, List, [], ◌∷◌}
use Rattle.lists.specs.Tests.{all_of}
use Rattle.rules.specs.Rows.{Row}
use Rattle.rules.specs.Book.{Account}
use Rattle.sound_header.specs.Clauses.{rows_stand}
use Rattle.sound_journal.specs.declared.frame.Frame.{Frame}
use Rattle.sound_journal.specs.Passing.{frame_accounts, frame_rows}
use Rattle.sound_passages.specs.Trees.{passages_differ}
use Rattle.sound_fees.specs.Fees.{fees_few}
use Rattle.sound_sums.specs.Accounts.{accounts_stand}

-- the rows stand, their passage numbers differ, no toll has too many fees, and the accounts stand
unfoldable pub book_passes : List Account → List Row → ℕ → ℕ → Bool
book_passes xs rows today L = all_of (rows_stand xs rows today L ∷ passages_differ rows ∷ fees_few rows ∷ accounts_stand today rows xs ∷ [])

-- b says whether they hold of the used rows and the accounts of a frame
abbrev pub Stands : Frame → Bool → Type 0
Stands f b = b ≡ book_passes (frame_accounts f) (frame_rows f) f.term.today f.term.stage
