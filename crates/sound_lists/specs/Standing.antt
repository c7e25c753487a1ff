-- The clauses on the header's rate lists, which are two of rules' sound_tables.
use Rattle.std.specs.Prelude.{Bool, ◌&&◌, ◌+◌, ◌*◌, List, ℤ, drop}
use Rattle.lists.specs.Lists.{every}
use Rattle.records.specs.Layout.{header_lists, list_width}
use Rattle.rules.specs.RateLists.{lists_fit}
use Rattle.rules.specs.Tables.{lists_used, lists_in, zero_word}

unfoldable pub lists_stand : List ℤ → Bool
lists_stand h = lists_fit (lists_in h) && every zero_word (drop (header_lists + lists_used h * list_width) h)
