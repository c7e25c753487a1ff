-- What has been looked up in the tables for an event.
use Rattle.std.specs.Prelude.{ℕ, ◌≤◌, ◌<◌, ◌≡◌, ◌&&◌, List, ℤ}
use Rattle.records.specs.Codes.{event_toll, event_topup_result}
use Rattle.records.specs.Encoding.{row_at}
use Rattle.lists.specs.Tests.{◌is◌}
use Rattle.lists.specs.Lists.{only, exists}
use Rattle.rules.specs.Rows.{Test, toll, remaining, source_of, debit_of}
use Rattle.rules.specs.Book.{Instruction, topup_due}
use Rattle.rules.specs.Tables.{Tables, rows_used, book_of}
use Rattle.event_lookups.specs.declared.Lookup.{Lookup}

-- nothing remains of the rows before row i that pass the test
abbrev pub NothingLeft : Test → List ℤ → ℕ → Type 0
NothingLeft p t i = (k : ℕ) → k < i → only p remaining (row_at t k) ≡ 0

-- k is what the tables t have for the event e: of a toll whether its passage number is there, of a top-up result whether it is due, and
-- rows before which nothing remains of its account's sources, and of its debits, held or not
pub record LooksUp (t : Tables) (e : Instruction) (k : Lookup) : Type 0 where
  pub duplicate : e.kind ≡ event_toll → k.duplicate ≡ exists (λ r. toll r && r.reference is e.a) (book_of t).rows
  pub due : e.kind ≡ event_topup_result → k.due ≡ topup_due (book_of t) e.account
  pub source_in : k.source ≤ rows_used t
  pub debit-in : k.debit ≤ rows_used t
  pub sources : NothingLeft (source_of e.account) t.journal k.source
  pub debits : NothingLeft (debit_of e.account) t.journal k.debit
