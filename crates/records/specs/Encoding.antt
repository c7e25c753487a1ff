-- The words of a lent table, read as records and written from them. Reading is total: it has a meaning on any words.
use Rattle.std.specs.Prelude.{ℕ, ◌+◌, ◌*◌, ◌^◌, ◌<◌, List, [], ◌∷◌, ◌++◌, map, ℤ, pos, negsuc, get_or}
use Rattle.lists.specs.Lists.{tabulate}
use Rattle.records.specs.declared.Row.{Row}
use Rattle.records.specs.declared.Account.{Account}
use Rattle.records.specs.declared.Event.{Event}
use Rattle.records.specs.declared.Instruction.{Instruction}
use Rattle.records.specs.declared.Answer.{Answer}
use Rattle.records.specs.Layout

-- a signed word as a natural number: a negative one is past every limit
unfoldable pub nat_of : ℤ → ℕ
nat_of (pos n) = n
nat_of (negsuc n) = 2 ^ 63

-- the word at a place, 0 past the end
unfoldable pub word : List ℤ → ℕ → ℕ
word t k = nat_of (get_or t k (pos 0))

-- ---- reading

-- the account whose words start at a place
unfoldable pub account_from : List ℤ → ℕ → Account
account_from t p = record {
  state = word t (p + Layout.state_place);
  request = word t (p + Layout.request_place);
  returned = word t (p + Layout.returned_place);
  threshold = word t (p + Layout.threshold_place);
  topup = word t (p + Layout.topup_place);
  declines = word t (p + Layout.declines_place);
  declined = word t (p + Layout.declined_place);
  reserve = word t (p + Layout.reserve_place);
  successor = word t (p + Layout.successor_place);
}

-- the row whose words start at a place
unfoldable pub row_from : List ℤ → ℕ → Row
row_from t p = record {
  kind = word t (p + Layout.kind_place);
  account = word t (p + Layout.account_place);
  day = word t (p + Layout.row_day_place);
  amount = word t (p + Layout.amount_place);
  settled = word t (p + Layout.settled_place);
  mark = word t (p + Layout.mark_place);
  due = word t (p + Layout.due_place);
  dispute = word t (p + Layout.dispute_place);
  hold = word t (p + Layout.hold_place);
  reference = word t (p + Layout.reference_place);
}

-- account i and row i of their tables, counted from 0; and the first n of them
abbrev pub account_at : List ℤ → ℕ → Account
account_at t i = account_from t (i * Layout.account_width)

-- row i, counted from 0
abbrev pub row_at : List ℤ → ℕ → Row
row_at t i = row_from t (i * Layout.row_width)

-- the first n accounts
abbrev pub accounts_of : List ℤ → ℕ → List Account
accounts_of t n = tabulate (account_at t) n

-- the first n rows
abbrev pub rows_of : List ℤ → ℕ → List Row
rows_of t n = tabulate (row_at t) n

-- an event record's words, and those of a single event's table
unfoldable pub instruction_of : Event → Instruction
instruction_of e = record {
  kind = nat_of e.kind;
  account = nat_of e.account;
  a = nat_of e.a;
  b = nat_of e.b;
  c = nat_of e.c;
  d = nat_of e.d;
  e = nat_of e.e;
  f = nat_of e.f;
  g = nat_of e.g;
}

-- a single event's table: "kind, account, a, b, c, d, e", and f and g (document 02, No. 1)
unfoldable pub instruction_from : List ℤ → Instruction
instruction_from t = record {
  kind = word t Layout.event_kind_place;
  account = word t Layout.event_account_place;
  a = word t Layout.a_place;
  b = word t Layout.b_place;
  c = word t Layout.c_place;
  d = word t Layout.d_place;
  e = word t Layout.e_place;
  f = word t Layout.f_place;
  g = word t Layout.g_place;
}

-- ---- writing: the words of each record, in order of their places

-- "Accounts, 7 words each: state, close request day, returned checks, top-up threshold, top-up amount, declines, day of last decline",
-- and the reserve and the successor (document 02, Nos. 4 and 8)
abbrev pub account_fields : Account → List ℕ
account_fields x =
    x.state ∷ x.request ∷ x.returned ∷ x.threshold ∷ x.topup ∷ x.declines ∷ x.declined ∷ x.reserve ∷ x.successor ∷ []

-- the same numbers as signed words
unfoldable pub account_words : Account → List ℤ
account_words x = map pos (account_fields x)

-- "Journal, 10 words a row: kind, account, day, amount, settled, mark, due day, dispute, hold start, reference"
unfoldable pub row_words : Row → List ℤ
row_words r = map pos
    (r.kind ∷ r.account ∷ r.day ∷ r.amount ∷ r.settled ∷ r.mark ∷ r.due ∷ r.dispute ∷ r.hold ∷ r.reference ∷ [])

-- "Answer, five words: number, first new row, new rows, tolls raised, 1 if the top-up was removed"
unfoldable pub answer_words : Answer → List ℤ
answer_words a = map pos (a.number ∷ a.first ∷ a.added ∷ a.raised ∷ a.removed ∷ [])

-- the words of each element, one after the other
unfoldable pub write_all : {A : Type 0} → (A → List ℤ) → List A → List ℤ
write_all words [] = []
write_all words (x ∷ xs) = words x ++ write_all words xs

-- ---- what a signed word can hold

-- a signed word can hold each number of the list, found by its place
pub record Storable (xs : List ℕ) : Type 0 where
  pub each : (k : ℕ) → get_or xs k 0 < 2 ^ 63

-- each word of an account
abbrev pub StorableAccount : Account → Type 0
StorableAccount x = Storable (account_fields x)

pub record StorableRow (r : Row) : Type 0 where
  pub kind : r.kind < 2 ^ 63
  pub account : r.account < 2 ^ 63
  pub day : r.day < 2 ^ 63
  pub amount : r.amount < 2 ^ 63
  pub settled : r.settled < 2 ^ 63
  pub mark : r.mark < 2 ^ 63
  pub due : r.due < 2 ^ 63
  pub dispute : r.dispute < 2 ^ 63
  pub hold : r.hold < 2 ^ 63
  pub reference : r.reference < 2 ^ 63
