-- Rows and entries that grow: elements changed in place, none of them in kind or reference, and new ones at the end. The tolls that fees
-- name stay, since a fee names an earlier row. And the settlement that ends an event.
use mathlib.Core.Path.{◌≡◌, refl, ◌∙◌}
use mathlib.Core.Bool.{Bool, true, false, cond, ◌&&◌}
use Prim.Native.Nat.{ℕ, zero, suc, ◌+◌, ◌-◌, ◌≤◌, ◌<◌}
use native.Mathlib.Omega.{arith}
use native.Mathlib.Decide.{dec_lt}
use mathlib.Core.List.{List, [], ◌∷◌, ◌++◌, append-nil}
use lib.ListN.{length, get_or, get_or-append, get_or-eq_default}
use borrow.Author.Tests.{ltb-true, lt-ltb}
use Rattle.lists.specs.Tests.{◌is◌}
use Rattle.lists.proofs.PairLaws.{Pairs, none, more, pairs-length, pairs-at, pairs-in, pairs-each, pairs-append}
use Rattle.rules.specs.Rows.{Row, kind_toll, kind_fee, blank, row_no, settle_more}
use Rattle.rules.specs.Book.{Book, settled}
use Rattle.rules.specs.SoundFacts.{Near}
use Rattle.replay.specs.Entries.{Entry, no_entry, entry_no, with_covered}
use Rattle.replay.specs.Replay.{Replay, settled_replay}
use Rattle.replay.specs.Demand3.{toll_named}
use Rattle.replay.proofs.Relation.{Match, Named, Rows, Agrees, match-blank}
use Rattle.replay.proofs.Settling.{settle_all-pairs}
use Rattle.replay.proofs.SoundRows.{sound-row}

-- ---- rows that grow

-- fees name earlier rows
abbrev pub Referring : List Row → Type 0
Referring rows = (k : ℕ) → k < length rows → (get_or rows k blank).kind is kind_fee ≡ true → (get_or rows k blank).reference ≤ k

pub referring : (b : Book) → Near b.day b → Referring b.rows
referring b near k h f = let q = (sound-row b near k h).refers f in omega arith

-- a row in place of another
pub record Kept (r s : Row) : Type 0 where
  pub kind : s.kind ≡ r.kind
  pub reference : s.reference ≡ r.reference

pub kept_self : (r : Row) → Kept r r
kept_self r = record { kind = refl; reference = refl }

pub kind-kept : (rows olds news : List Row) → Pairs Kept rows olds → (n : ℕ) → n ≤ length rows → (row_no (olds ++ news) n).kind ≡ (row_no rows n).kind
kind-kept rows olds news p zero h = refl
kind-kept rows olds news p (suc n) h =
    let l = pairs-length p in
    let b : n < length olds = omega arith in
    rw (get_or-append olds news blank n b) (pairs-in blank blank p n h).kind

named-kept : (rows olds news : List Row) → Referring rows → Pairs Kept rows olds → (k : ℕ) → k < length rows
    → toll_named (olds ++ news) (get_or olds k blank) ≡ toll_named rows (get_or rows k blank)
unfolding toll_named
named-kept rows olds news f p k h =
    let q = pairs-in blank blank p k h in
    rw (q.kind, q.reference) (go ((get_or rows k blank).kind is kind_fee) refl)
  where
    n : ℕ
    n = (get_or rows k blank).reference

    go : (v : Bool) → (get_or rows k blank).kind is kind_fee ≡ v → cond (v && (row_no (olds ++ news) n).kind is kind_toll) n 0 ≡ cond (v && (row_no rows n).kind is kind_toll) n 0
    go true e = let b = f k h e in rw (kind-kept rows olds news p n (omega arith))
    go false e = refl

abbrev pub SameToll : Entry → Entry → Type 0
SameToll x y = x.toll ≡ y.toll

pub grow : {R S : Row → Entry → Type 0} (rows : List Row) (xs : List Entry) → Referring rows → Rows R rows xs
    → (olds : List Row) (olds' : List Entry) → Pairs Kept rows olds → Pairs SameToll xs olds' → Pairs S olds olds'
    → (news : List Row) (news' : List Entry) → Pairs (Named S (olds ++ news)) news news'
    → Rows S (olds ++ news) (olds' ++ news')
grow rows xs f p olds olds' q u s news news' n =
    let l = pairs-length q in
    let m = pairs-length p in
    pairs-append (pairs-each blank no_entry olds olds' (pairs-length s) (λ k h. record {
      is = pairs-in blank no_entry s k h;
      toll = named-kept rows olds news f q k (omega arith) ∙ (pairs-in blank no_entry p k (omega arith)).toll ∙ pairs-in no_entry no_entry u k (omega arith);
    })) n

-- none is added
pub regrow : {R S : Row → Entry → Type 0} (rows : List Row) (xs : List Entry) → Referring rows → Rows R rows xs
    → (olds : List Row) (olds' : List Entry) → Pairs Kept rows olds → Pairs SameToll xs olds' → Pairs S olds olds' → Rows S olds olds'
regrow rows xs f p olds olds' q u s = rw (append-nil olds, append-nil olds') at (grow rows xs f p olds olds' q u s [] [] none)

-- ---- the row and the entry of a number

-- the place of a row that there is
pub record Place (rows : List Row) (n : ℕ) : Type 0 where
  pub low : 1 ≤ n
  pub high : n - 1 < length rows

pub row-there : (rows : List Row) (n : ℕ) → ((row_no rows n).kind ≡ 0 → ⊥) → Place rows n
row-there rows zero e = absurd (e refl)
row-there rows (suc n) e = go (dec_lt n (length rows))
  where
    go : Dec (n < length rows) → Place rows (suc n)
    go (yes h) = record { low = omega arith; high = omega arith }
    go (no h) = absurd (e (rw (get_or-eq_default rows blank {n = n} (omega arith))))

pub row-place : (rows : List Row) (n k : ℕ) → (row_no rows n).kind ≡ suc k → Place rows n
row-place rows n k e = row-there rows n (λ z. omega arith)

pub number_at : {A : Type 0} (xs : List A) (n : ℕ) (d : A) → 1 ≤ n → get_or xs (n - 1) d ≡ get_or (d ∷ xs) n d
number_at xs zero d h = absurd (omega arith)
number_at xs (suc n) d h = let z : suc n - 1 ≡ n = omega arith in rw z

pub rows-no : {late today L : ℕ} {rows : List Row} {xs : List Entry} → Rows (Match late today L) rows xs → (n : ℕ) → Named (Match late today L) rows (row_no rows n) (entry_no xs n)
unfolding toll_named
rows-no {late} {today} {L} {rows} p n = pairs-at blank no_entry q (more q p) n
  where
    q : Named (Match late today L) rows blank no_entry
    q = record { is = match-blank late today L; toll = refl }

-- ---- settlement

pub match-keep : (late today L : ℕ) (r : Row) (x : Entry) (n : ℕ) → Match late today L r x → Match late today L (settle_more r n) (with_covered (x.covered + n) x)
match-keep late today L r x n m =
    let f = m.line in
    let t = m.counts in
    let s : r.settled ≡ x.covered = f.settled in
    record {
      line = record { kind = f.kind; account = f.account; day = f.day; amount = f.amount; settled = rw s; hold = f.hold };
      counts = record {
        ticks = t.ticks;
        fresh = t.fresh;
        clock = λ k u. t.clock k (lt-ltb r.settled r.amount (let h : r.settled + n < r.amount = ltb-true _ _ u in omega arith));
        low = t.low;
        high = t.high;
      };
    }

pub settled-agrees : (b : Book) (p : Replay) → Agrees b p → Agrees (settled b) (settled_replay p)
unfolding settled settled_replay
settled-agrees b p a = record {
  day = a.day;
  schedule = a.schedule;
  lists = a.lists;
  holidays = a.holidays;
  rows = rw (← (pairs-length a.notes))
      (settle_all-pairs (Match 0 b.day b.schedule.stage) (λ r x m. m.line) (match-keep 0 b.day b.schedule.stage) (length b.accounts) a.rows);
  notes = a.notes;
}
