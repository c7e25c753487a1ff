-- The relation between a book and a replay: what a row and an entry of one number have in common, what an account and its note have,
-- and the whole.
use mathlib.Core.Path.{◌≡◌, refl}
use mathlib.Core.Bool.{true, false, cond, false≢true}
use Prim.Native.Nat.{ℕ, ◌+◌, ◌*◌, ◌≤◌, ◌<◌}
use mathlib.Core.List.{List}
use lib.Dec.{eqb}
use Rattle.lists.proofs.PairLaws.{Pairs}
use Rattle.rules.specs.Rows.{Row, blank, last_stage, toll, held_toll, unsettled}
use Rattle.rules.specs.Book.{Account, state_closed, Book}
use Rattle.replay.specs.Entries.{Entry, no_entry}
use Rattle.replay.specs.Replay.{Note, Replay}
use Rattle.replay.specs.Demand3.{toll_named}

-- what is compared of a row and its entry
pub record SameLine (r : Row) (x : Entry) : Type 0 where
  pub kind : r.kind ≡ x.kind
  pub account : r.account ≡ x.account
  pub day : r.day ≡ x.day
  pub amount : r.amount ≡ x.amount
  pub settled : r.settled ≡ x.covered
  pub hold : held_toll r ≡ x.hold

-- the day up to which a toll's open days are counted: its hold's first day while it is held
abbrev pub clock_of : ℕ → Row → ℕ
clock_of today r = cond (held_toll r) r.hold today

-- what the replay counts of a toll: ticks since the hold began, and open days, of which L make a stage and the rest lies before the due
-- day; late is 0, and 1 in the midst of a tick, when a stage's last open day is counted and the stage not yet reached
pub record CountsOf (late today L : ℕ) (r : Row) (x : Entry) : Type 0 where
  pub ticks : held_toll r ≡ true → x.ticks + r.hold ≡ today
  pub fresh : r.dispute ≡ 0 → x.ticks ≡ 0
  pub clock : toll r ≡ true → unsettled r ≡ true → r.mark < last_stage → x.open-days + r.due ≡ r.mark * L + L + clock_of today r
  pub low : toll r ≡ true → r.mark * L ≤ x.open-days
  pub high : toll r ≡ true → r.mark < last_stage → x.open-days < r.mark * L + L + late

pub record Match (late today L : ℕ) (r : Row) (x : Entry) : Type 0 where
  pub line : SameLine r x
  pub counts : CountsOf late today L r x

-- R, and the toll that the row names is the entry's
pub record Named (R : Row → Entry → Type 0) (rows : List Row) (r : Row) (x : Entry) : Type 0 where
  pub is : R r x
  pub toll : toll_named rows r ≡ x.toll

abbrev pub Rows : (Row → Entry → Type 0) → List Row → List Entry → Type 0
Rows R rows xs = Pairs (Named R rows) rows xs

-- the noted top-up amount is the account's while it has one
pub record Noted (x : Account) (n : Note) : Type 0 where
  pub request : x.request ≡ n.request
  pub topup : 0 < x.topup → x.topup ≡ n.topup
  pub successor : x.successor ≡ n.successor
  pub closed : eqb x.state state_closed ≡ n.closed

pub record Agrees (b : Book) (p : Replay) : Type 0 where
  pub day : b.day ≡ p.day
  pub schedule : b.schedule ≡ p.schedule
  pub lists : b.lists ≡ p.lists
  pub holidays : b.holidays ≡ p.holidays
  pub rows : Rows (Match 0 b.day b.schedule.stage) b.rows p.entries
  pub notes : Pairs Noted b.accounts p.notes

-- ---- where there is no row and no entry

pub same-line-blank : SameLine blank no_entry
same-line-blank = record { kind = refl; account = refl; day = refl; amount = refl; settled = refl; hold = refl }

-- a row that is no toll
pub counts-other : (late today L : ℕ) (r : Row) (x : Entry) → toll r ≡ false → (r.dispute ≡ 0 → x.ticks ≡ 0) → CountsOf late today L r x
counts-other late today L r x k e = record {
  ticks = λ h. absurd (false≢true (rw k at h));
  fresh = e;
  clock = λ h. absurd (false≢true (rw k at h));
  low = λ h. absurd (false≢true (rw k at h));
  high = λ h. absurd (false≢true (rw k at h));
}

pub match-blank : (late today L : ℕ) → Match late today L blank no_entry
match-blank late today L = record { line = same-line-blank; counts = counts-other late today L blank no_entry refl (λ h. refl) }
