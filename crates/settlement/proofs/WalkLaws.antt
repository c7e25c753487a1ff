-- The walk of settlement over the journal, for one rank: what holds at each turn of its two loops.
use mathlib.Core.Path.{◌≡◌, refl, sym, ◌∙◌}
use mathlib.Core.Logic.{◌≢◌, ◌⊎◌, inl, inr, ⊎_elim, ⊎_map}
use Prim.Native.Nat.{ℕ, ◌+◌, ◌-◌, ◌^◌, ◌≤◌, ◌<◌}
use native.Mathlib.Omega.{arith}
use native.Mathlib.Decide.{ℕ_discrete}
use native.Mathlib.Numerals.{add-one}
use mathlib.Core.List.{List}
use lib.IntN.{ℤ}
use lib.ListN.{length, take, get_or, set}
use Rattle.std.proofs.lemmas.List.{get_or-take, length-take-le}
use Rattle.records.specs.Encoding.{row_at, rows_of}
use Rattle.lists.specs.Lists.{sum_by, only}
use Rattle.lists.proofs.ListLaws.{length-tabulate, tabulate-at}
use Rattle.lists.proofs.SumLaws.{sum_by-take-skip, sum_by-at-le, only-le}
use Rattle.rules.specs.Rows.{Row, Test, blank, remaining, settle_more, source_of, payable}
use Rattle.rules.specs.Settlement.{money, debt, moved, moved_to, settle_rank}
use Rattle.rules.proofs.AllocationLaws.{apart_none}
use Rattle.rules.proofs.RankLaws as laws
use Rattle.rules.proofs.SettlementLaws.{payable-pay, payable-steady}
use Rattle.tables.specs.Changes.{RowChanged}
use Rattle.tables.proofs.ChangeLaws.{changed-rows}
use Rattle.settlement.specs.declared.Rank.{Rank}
use Rattle.settlement.specs.Settling.{of_rank, Journal, Passed, Begun, NoneWants, RankSettled}
use Rattle.settlement.proofs.RankTestLaws.{of_rank-rank, of_rank-le, of_rank-same, moved-rank, wants-pay}
use Rattle.settlement.proofs.PayingLaws.{Paying, paying-start, next-source, out-of-sources, out-of-debits, transfer, paying-transfer, source-after}

-- t is the journal now, t₀ as it was

-- the debits of account a that a rank pays, as a journal stands
abbrev debits_in : Rank → ℕ → ℕ → List ℤ → Test
debits_in k a used t = of_rank k (rows_of t used) a

-- nothing is left to move, in this rank or any: the walk only goes on to its end
pub record Done (k : Rank) (a used : ℕ) (t₀ t : List ℤ) : Type 0 where
  pub rows : rows_of t used ≡ settle_rank (debits_in k a used t₀) a (rows_of t₀ used)
  pub still : moved a (rows_of t used) ≡ 0

-- sources before i have nothing, debits of the rank before j want nothing
pub record Going (k : Rank) (a used : ℕ) (t₀ t : List ℤ) (i j : ℕ) : Type 0 where
  pub paid : ℕ
  pub paying : Paying (debits_in k a used t₀) a (rows_of t₀ used) (rows_of t used) i j paid

pub record Walking (k : Rank) (a used : ℕ) (t₀ t : List ℤ) (i j : ℕ) : Type 0 where
  pub size : length t ≡ length t₀
  pub rest : (n : ℕ) → used ≤ n → row_at t n ≡ row_at t₀ n
  pub journal : Journal t used
  pub i-in : i ≤ used
  pub j-in : j ≤ used
  pub way : Done k a used t₀ t ⊎ Going k a used t₀ t i j

row_of : (t : List ℤ) (used n : ℕ) → n < used → get_or (rows_of t used) n blank ≡ row_at t n
row_of t used n h = tabulate-at (row_at t) used n blank h

rows-length : (t : List ℤ) (used : ℕ) → length (rows_of t used) ≡ used
rows-length t used = length-tabulate (row_at t) used

-- rows of which none has a share
none_before : (f : Row → ℕ) (t : List ℤ) (used i : ℕ) → i ≤ used → ((n : ℕ) → n < i → f (row_at t n) ≡ 0) → sum_by f (take i (rows_of t used)) ≡ 0
unfolding sum_by
none_before f t used i h z =
    let e : 0 + i ≡ i = omega arith in
    rw e at (sum_by-take-skip f (rows_of t used) blank 0 i (rw (e, rows-length t used) h) (λ n l q. rw (row_of t used n (omega arith)) (z n (omega arith))))

-- the same the other way
before-none : (f : Row → ℕ) (t : List ℤ) (used i : ℕ) → i ≤ used → sum_by f (take i (rows_of t used)) ≡ 0 → (n : ℕ) → n < i → f (row_at t n) ≡ 0
before-none f t used i h z n l =
    let rows : List Row = rows_of t used in
    let e : get_or (take i rows) n blank ≡ row_at t n = get_or-take i rows n blank l ∙ row_of t used n (omega arith) in
    let s : f (row_at t n) ≤ sum_by f (take i rows) = rw e at (sum_by-at-le f (take i rows) n blank (rw (length-take-le i rows (rw (rows-length t used) h)) l)) in
    omega (arith, s, z)

-- from the first row on nothing lies before
pub begun_first : (a used : ℕ) (t : List ℤ) → Begun t used a 0 0
begun_first a used t = record { i-in = omega arith; j-in = omega arith; way = inr (record { sources = λ k h. absurd (omega arith); debits = λ k h. absurd (omega arith) }) }

module _ (k : Rank) (a used : ℕ) where
  pub walking_start : (t : List ℤ) (i j : ℕ) → Journal t used → Begun t used a i j → Walking k a used t t i j
  walking_start t i j h b = record {
    size = refl;
    rest = λ n q. refl;
    journal = h;
    i-in = b.i-in;
    j-in = b.j-in;
    way = ⊎_map still going b.way;
  }
    where
      rows : List Row
      rows = rows_of t used

      x : Test
      x = debits_in k a used t

      still : moved a rows ≡ 0 → Done k a used t t
      still e = record { rows = sym (laws.settle_rank-same x a (of_rank-rank k rows a) rows (moved-rank k rows a e)); still = e }

      none : Passed t used a i j → (n : ℕ) → n < j → only x remaining (row_at t n) ≡ 0
      none p n l = omega (arith, of_rank-le k rows a (row_at t n), p.debits n l)

      going : Passed t used a i j → Going k a used t t i j
      going p = record {
        paid = 0;
        paying = paying-start x a rows i j (none_before (only (source_of a) remaining) t used i b.i-in p.sources) (none_before (only x remaining) t used j b.j-in (none p));
      }

  -- what the rank pays does not change on the way
  same-debits : (t₀ t : List ℤ) (i j : ℕ) (w : Going k a used t₀ t i j) → debits_in k a used t ≡ debits_in k a used t₀
  same-debits t₀ t i j w =
      let x : Test = debits_in k a used t₀ in
      let e : payable (rows_of t used) a ≡ payable (rows_of t₀ used) a = rw w.paying.now (payable-pay x a a w.paid (rows_of t₀ used)) in
      of_rank-same k (rows_of t₀ used) (rows_of t used) a e

  -- ---- on to the next debit, and to the next source

  pub walking-debit : (t₀ t : List ℤ) (i j n : ℕ) → Walking k a used t₀ t i j → j ≤ n → n ≤ used → NoneWants (debits_in k a used t) t j n
      → Walking k a used t₀ t i n
  walking-debit t₀ t i j n w after within passed = record {
    size = w.size;
    rest = w.rest;
    journal = w.journal;
    i-in = w.i-in;
    j-in = within;
    way = ⊎_map (λ d. d) on w.way;
  }
    where
      on : Going k a used t₀ t i j → Going k a used t₀ t i n
      on g =
          let e : j + (n - j) ≡ n = omega (arith, after) in
          let rows : List Row = rows_of t used in
          let x : Test = debits_in k a used t in
          let f : x ≡ debits_in k a used t₀ = same-debits t₀ t i j g in
          let z : sum_by (only x remaining) (take n rows) ≡ 0 =
          rw e at (sum_by-take-skip (only x remaining) rows blank j (n - j) (rw (e, rows-length t used) within)
          (λ m l q. rw (row_of t used m (omega (arith, within))) (passed m l (omega arith))))
          ∙ rw f g.paying.debits in
          record { paid = g.paid; paying = record { now = g.paying.now; sources = g.paying.sources; debits = rw f at z; within = g.paying.within } }

  pub walking-source : (t₀ t : List ℤ) (i j : ℕ) → Walking k a used t₀ t i j → i < used → only (source_of a) remaining (row_at t i) ≡ 0
      → Walking k a used t₀ t (i + 1) j
  walking-source t₀ t i j w h z = record {
    size = w.size;
    rest = w.rest;
    journal = w.journal;
    i-in = omega arith;
    j-in = w.j-in;
    way = ⊎_map (λ d. d) on w.way;
  }
    where
      on : Going k a used t₀ t i j → Going k a used t₀ t (i + 1) j
      on g = record {
        paid = g.paid;
        paying = rw add-one (next-source (debits_in k a used t₀) a (rows_of t₀ used) (rows_of t used) i j g.paid g.paying (rw (rows-length t used) h) (rw (row_of t used i h) z));
      }

-- ---- one turn: m, the lesser of what source i has and debit j wants, is about to change hands

pub record Turn (k : Rank) (a used : ℕ) (t₀ t : List ℤ) (i j m : ℕ) : Type 0 where
  pub walk : Walking k a used t₀ t i j
  pub in-i : i < used
  pub in-j : j < used
  pub has : m ≤ only (source_of a) remaining (row_at t i)
  pub wants : m ≤ only (debits_in k a used t) remaining (row_at t j)
  pub some : 0 < m

-- something is to be moved, so the walk is not done
pub turn-going : (k : Rank) (a used : ℕ) (t₀ t : List ℤ) (i j m : ℕ) → Turn k a used t₀ t i j m → Going k a used t₀ t i j
unfolding moved money debt
turn-going k a used t₀ t i j m w = ⊎_elim never (λ g. g) w.walk.way
  where
    never : Done k a used t₀ t → Going k a used t₀ t i j
    never d =
        let rows : List Row = rows_of t used in
        let s : only (source_of a) remaining (row_at t i) ≤ sum_by (only (source_of a) remaining) rows = rw (row_of t used i w.in-i) at (sum_by-at-le (only (source_of a) remaining) rows i blank (rw (rows-length t used) w.in-i)) in
        let u : only (payable rows a) remaining (row_at t j) ≤ sum_by (only (payable rows a) remaining) rows = rw (row_of t used j w.in-j) at (sum_by-at-le (only (payable rows a) remaining) rows j blank (rw (rows-length t used) w.in-j)) in
        absurd (omega (arith, d.still, w.has, w.wants, w.some, of_rank-le k rows a (row_at t j)))

-- ---- a payment from source i to debit j

-- a part of what a row has or wants can be added to what is settled of it
pub part-fits : (t : Test) (r : Row) (m : ℕ) → m ≤ only t remaining r → 0 < m → r.amount < 2 ^ 63 → r.settled + m < 2 ^ 63
part-fits t r m l p h = omega (arith, only-le t remaining r)

-- a source is no debit
pub source-no-debit : (k : Rank) (a used : ℕ) (t : List ℤ) (i j m : ℕ) → m ≤ only (source_of a) remaining (row_at t i)
    → m ≤ only (debits_in k a used t) remaining (row_at t j) → 0 < m → j ≢ i
source-no-debit k a used t i j m li lj p e =
    let x : Test = debits_in k a used t in
    let q : m ≤ only x remaining (row_at t i) = rw e at lj in
    omega (arith, apart_none (source_of a) x (of_rank-rank k (rows_of t used) a).no-source (row_at t i) m li q)

changed-journal : (used : ℕ) (t u : List ℤ) (i m : ℕ) → Journal t used → RowChanged t u i (settle_more (row_at t i) m) → Journal u used
changed-journal used t u i m g c = record {
  room = rw c.size g.room;
  amounts = λ n h.
      elim (ℕ_discrete n i) [
        | yes e ↦ rw (e, c.there) (g.amounts i (rw e at h))
        | no d ↦ rw (c.others n d) (g.amounts n h)
      ];
}

module _ (k : Rank) (a used : ℕ) (t₀ t u v : List ℤ) (i j m : ℕ) (r : Turn k a used t₀ t i j m)
    (c : RowChanged t u i (settle_more (row_at t i) m)) (d : RowChanged u v j (settle_more (row_at u j) m)) where
  abbrev w : Walking k a used t₀ t i j
  w = r.walk

  abbrev hi : i < used
  hi = r.in-i

  abbrev hj : j < used
  hj = r.in-j

  going : Going k a used t₀ t i j
  going = turn-going k a used t₀ t i j m r

  rows-after : rows_of v used ≡ transfer i j m (rows_of t used)
  unfolding transfer
  rows-after =
      let e : rows_of u used ≡ set (rows_of t used) i (settle_more (row_at t i) m) = changed-rows t u i (settle_more (row_at t i) m) c used hi in
      let f : rows_of v used ≡ set (rows_of u used) j (settle_more (row_at u j) m) = changed-rows u v j (settle_more (row_at u j) m) d used hj in
      f ∙ rw (← row_of u used j hj, e, ← row_of t used i hi)

  has : m ≤ only (source_of a) remaining (get_or (rows_of t used) i blank)
  has = rw (row_of t used i hi) r.has

  wants : m ≤ only (debits_in k a used t₀) remaining (get_or (rows_of t used) j blank)
  wants = rw (row_of t used j hj, ← same-debits k a used t₀ t i j going) r.wants

  in-i : i < length (rows_of t used)
  in-i = rw (rows-length t used) hi

  in-j : j < length (rows_of t used)
  in-j = rw (rows-length t used) hj

  pub walking-pay : Walking k a used t₀ v i j
  walking-pay = record {
    size = d.size ∙ c.size ∙ w.size;
    rest = λ n q. d.others n (λ e. omega arith) ∙ c.others n (λ e. omega arith) ∙ w.rest n q;
    journal = changed-journal used u v j m (changed-journal used t u i m w.journal c) d;
    i-in = w.i-in;
    j-in = w.j-in;
    way = inr (record {
      paid = going.paid + m;
      paying = rw rows-after (paying-transfer (debits_in k a used t₀) a (of_rank-rank k (rows_of t₀ used) a) (rows_of t₀ used) (rows_of t used) i j going.paid m going.paying in-i has in-j wants);
    });
  }

  -- what the source has after it
  pub source-left : only (source_of a) remaining (row_at v i) ≡ only (source_of a) remaining (row_at t i) - m
  source-left =
      let e = source-after (debits_in k a used t₀) a (of_rank-rank k (rows_of t₀ used) a) (rows_of t₀ used) (rows_of t used) i j going.paid m going.paying in-i has in-j wants in
      rw (← row_of v used i hi, rows-after) (e ∙ rw (row_of t used i hi))

-- ---- the walk ends, and settlement of what is left may begin where it ended and at the debit where it began

module _ (k : Rank) (a used : ℕ) (t₀ t : List ℤ) (i₀ j₀ i j : ℕ) (b : Begun t₀ used a i₀ j₀) (w : Walking k a used t₀ t i j) where
  abbrev old : List Row
  old = rows_of t₀ used

  abbrev new : List Row
  new = rows_of t used

  abbrev x : Test
  x = debits_in k a used t₀

  abbrev rank : laws.Rank a x
  rank = of_rank-rank k old a

  passed : new ≡ settle_rank x a old → Passed t₀ used a i₀ j₀ → Going k a used t₀ t i j → Passed t used a i j₀
  unfolding settle_rank
  passed e p g = record {
    sources = before-none (only (source_of a) remaining) t used i w.i-in g.paying.sources;
    debits = λ n l.
        let q : payable new a ≡ payable old a = rw e (payable-pay x a a (moved_to x a old) old) in
        let h : n < used = omega (arith, b.j-in) in
        let s : only (payable old a) remaining (get_or new n blank) ≤ only (payable old a) remaining (get_or old n blank) =
        rw e (wants-pay x (payable old a) a (moved_to x a old) (payable-steady old a) old n) in
        rw q (omega (arith, rw (row_of t used n h, row_of t₀ used n h) at s, p.debits n l));
  }

  ended : new ≡ settle_rank x a old → RankSettled k t₀ t used a i j₀
  ended e = record {
    become = record { size = w.size; rows = e; rest = w.rest };
    journal = w.journal;
    begun = record { i-in = w.i-in; j-in = b.j-in; way = ⊎_elim still (λ p. ⊎_map (λ d. d.still) (passed e p) w.way) b.way };
  }
    where
      still : moved a old ≡ 0 → (moved a new ≡ 0) ⊎ Passed t used a i j₀
      still z = inl (rw (e, laws.settle_rank-same x a rank old (moved-rank k old a z)) z)

  pub no-source-left : used ≤ i → RankSettled k t₀ t used a i j₀
  no-source-left h = ended (⊎_elim (λ d. d.rows) (λ g. out-of-sources x a rank old new i j g.paid g.paying (rw (rows-length t used) h)) w.way)

  pub no-debit-left : used ≤ j → RankSettled k t₀ t used a i j₀
  no-debit-left h = ended (⊎_elim (λ d. d.rows) (λ g. out-of-debits x a rank old new i j g.paid g.paying (rw (rows-length t used) h)) w.way)

-- ---- the stores of a turn fit

module _ (k : Rank) (a used : ℕ) (t₀ t : List ℤ) (i j m : ℕ) (w : Turn k a used t₀ t i j m) where
  pub source_fits : (row_at t i).settled + m < 2 ^ 63
  source_fits = part-fits (source_of a) (row_at t i) m w.has w.some (w.walk.journal.amounts i w.in-i)

  -- the debit is another row, so the source's store leaves it as it was
  pub debit-fits : (u : List ℤ) → RowChanged t u i (settle_more (row_at t i) m) → (row_at u j).settled + m < 2 ^ 63
  debit-fits u c =
      rw (c.others j (source-no-debit k a used t i j m w.has w.wants w.some))
      (part-fits (debits_in k a used t) (row_at t j) m w.wants w.some (w.walk.journal.amounts j w.in-j))
