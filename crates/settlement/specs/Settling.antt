-- What the settlement of an account leaves of the journal.
use Rattle.std.specs.Prelude.{not, ◌&&◌, ℕ, ◌*◌, ◌^◌, ◌≤◌, ◌<◌, ◌≡◌, ◌⊎◌, List, ℤ, length, Option, Some, None}
use Rattle.records.specs.Layout.{row_width}
use Rattle.records.specs.Encoding.{row_at, rows_of}
use Rattle.lists.specs.Lists.{only}
use Rattle.rules.specs.Rows.{Row, Test, remaining, debit, toll, source_of, payable, payable_toll, payable_rest}
use Rattle.rules.specs.Settlement.{moved, settle_rank, settle}
use Rattle.settlement.specs.declared.Rank.{Rank}
use Rattle.settlement.specs.declared.Rank.TheVariants.{Tolls, FeesAndReversals}

-- ---- the two ranks

-- a debit of the rank, whoever's, held or not
unfoldable pub in_rank : Rank → Test
in_rank Tolls r = toll r
in_rank FeesAndReversals r = debit r && not (toll r)

-- the debits of account a that settlement may pay with the rank
unfoldable pub of_rank : Rank → List Row → ℕ → Test
of_rank Tolls rows a = payable_toll rows a
of_rank FeesAndReversals rows a = payable_rest rows a

-- ---- the journal

-- a journal with room for the used rows, whose amounts a signed word holds
pub record Journal (t : List ℤ) (used : ℕ) : Type 0 where
  pub room : used * row_width ≤ length t
  pub amounts : (k : ℕ) → k < used → (row_at t k).amount < 2 ^ 63

-- before row i no source of the account has anything left, and before row j no debit of it that is not held wants anything
pub record Passed (t : List ℤ) (used a i j : ℕ) : Type 0 where
  pub sources : (k : ℕ) → k < i → only (source_of a) remaining (row_at t k) ≡ 0
  pub debits : (k : ℕ) → k < j → only (payable (rows_of t used) a) remaining (row_at t k) ≡ 0

-- settlement may begin at source i and debit j: nothing is to be moved, or nothing before them
pub record Begun (t : List ℤ) (used a i j : ℕ) : Type 0 where
  pub i-in : i ≤ used
  pub j-in : j ≤ used
  pub way : (moved a (rows_of t used) ≡ 0) ⊎ Passed t used a i j

-- of the debits that pass a test no row from j up to k wants anything
abbrev pub NoneWants : Test → List ℤ → ℕ → ℕ → Type 0
NoneWants x t j k = (i : ℕ) → j ≤ i → i < k → only x remaining (row_at t i) ≡ 0

-- k is the first used row from j on that wants something
pub record FirstDebit (x : Test) (t : List ℤ) (used j k : ℕ) : Type 0 where
  pub after : j ≤ k
  pub within : k < used
  pub passed : NoneWants x t j k
  pub wants : 0 < only x remaining (row_at t k)

-- the first used row from j on that wants something, and none where none does
abbrev pub NextDebit : Test → List ℤ → ℕ → ℕ → Option ℕ → Type 0
NextDebit x t used j None = NoneWants x t j used
NextDebit x t used j (Some k) = FirstDebit x t used j k

-- the used rows become those given; the others are as before
pub record RowsBecome (t u : List ℤ) (used : ℕ) (new : List Row) : Type 0 where
  pub size : length u ≡ length t
  pub rows : rows_of u used ≡ new
  pub rest : (k : ℕ) → used ≤ k → row_at u k ≡ row_at t k

-- the used rows become those after settlement
abbrev pub Settled : List ℤ → List ℤ → ℕ → ℕ → Type 0
Settled t u used a = RowsBecome t u used (settle a (rows_of t used))

-- the used rows become those after the settlement of one rank, and settlement of what is left may begin at source i and debit j
pub record RankSettled (k : Rank) (t u : List ℤ) (used a i j : ℕ) : Type 0 where
  pub become : RowsBecome t u used (settle_rank (of_rank k (rows_of t used) a) a (rows_of t used))
  pub journal : Journal u used
  pub begun : Begun u used a i j
