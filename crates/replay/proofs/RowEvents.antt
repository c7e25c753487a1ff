-- Events 4, 5 and 6 keep the relation: they change a row that the event names, and 4 and 6 add rows.
use mathlib.Core.Path.{◌≡◌, refl, sym, ◌∙◌}
use mathlib.Core.Bool.{Bool, true, false, cond, ◌&&◌, true≢false, false≢true, and-false}
use Prim.Native.Nat.{ℕ, ◌+◌, ◌*◌, ◌-◌, ◌≤◌, ◌<◌}
use native.Mathlib.Omega.{arith}
use mathlib.Core.List.{List, [], ◌∷◌, append_assoc}
use lib.ListN.{length, get_or, set}
use lib.Seq.{get_or-set_same, set-set}
use borrow.Author.Tests.{ltb-true, ne_eqb, eqb-true}
use Rattle.records.specs.Codes.{method_check_returned, dispute_upheld, code_yes}
use Rattle.records.specs.Updates.{with_returned, with_state}
use Rattle.records.specs.AccountOperations.{check_returned}
use Rattle.lists.specs.Tests.{◌is◌}
use Rattle.lists.specs.Lists.{sum_by, only}
use Rattle.lists.proofs.TestLaws.{and_left, cond_either}
use Rattle.lists.proofs.SumLaws.{sum_by-set-same}
use Rattle.lists.proofs.PairLaws.{Pairs, none, more, pairs-to, pairs_set, pairs-set-left, pairs-map, pairs-map-right, pairs-self, pairs-set-self, pairs-sum, pairs-length}
use Rattle.rules.specs.Rows.{Row, kind_toll, kind_fee, kind_payment, kind_credit, dispute_held, blank, new_row, with_mark, with_reference, with_settled, with_dispute, row_no, toll, held_toll, remaining, settle_whole, fee_naming}
use Rattle.rules.specs.Rows
use Rattle.rules.specs.Book.{Account, state_pending, state_closed, Instruction, Book, account, row, put_account, put_row}
use Rattle.rules.specs.Events.{return_check, hold_from, hold_toll, release, reject, with_fees, uphold, decide}
use Rattle.rules.specs.SoundFacts.{Near}
use Rattle.replay.specs.Entries.{Entry, no_entry, entry_no, new_entry, with_covered, with_hold, cover_whole, uncovered, fee_of}
use Rattle.replay.specs.Replay.{Note, Replay, with_closed, reopen, change_entry, add_return, set_hold, toll_and_fees, add_credit, free_toll}
use Rattle.replay.specs.Demand3.{toll_named}
use Rattle.replay.proofs.Relation.{SameLine, Match, Named, Noted, Agrees, counts-other}
use Rattle.replay.proofs.SoundRows.{sound-row}
use Rattle.replay.proofs.Growing.{Referring, referring, Kept, kept_self, kind-kept, SameToll, grow, regrow, Place, row-place, number_at, rows-no}
use Rattle.replay.proofs.PlainEvents.{noted-no, note-agrees}

-- ---- a row and its entry change

change-agrees : (b : Book) (p : Replay) → Referring b.rows → Agrees b p → (n : ℕ) → 1 ≤ n → (r : Row) (x : Entry) → Kept (row b n) r → SameToll (entry_no p.entries n) x
    → Match 0 b.day b.schedule.stage r x → Agrees (put_row n r b) (change_entry n x p)
change-agrees b p f a n h r x k t m = record {
  day = a.day;
  schedule = a.schedule;
  lists = a.lists;
  holidays = a.holidays;
  rows = regrow b.rows p.entries f a.rows (set b.rows (n - 1) r) (set p.entries (n - 1) x)
      (pairs-set-self kept_self b.rows (n - 1) r blank (rw (number_at b.rows n blank h) k))
      (pairs-set-self (λ y. refl) p.entries (n - 1) x no_entry (rw (number_at p.entries n no_entry h) t))
      (pairs_set (n - 1) r x m (pairs-to (λ s y q. q.is) a.rows));
  notes = a.notes;
}

-- ---- 5

pub hold_toll-agrees : (b : Book) (p : Replay) (e : Instruction) → Near b.day b → Agrees b p → (row b e.a).kind ≡ kind_toll → (row b e.a).dispute ≡ 0
    → Agrees (hold_toll b e) (set_hold true p e)
unfolding hold_toll set_hold hold_from
hold_toll-agrees b p e near a k d =
    let r : Row = row b e.a in
    let m = (rows-no a.rows e.a).is in
    let f = m.line in
    let t = m.counts in
    let z : (entry_no p.entries e.a).ticks ≡ 0 = t.fresh d in
    let h : held_toll r ≡ false = rw (k, d) in
    change-agrees b p (referring b near) a e.a (row-place b.rows e.a 0 k).low _ _ (record { kind = refl; reference = refl }) refl (record {
      line = record { kind = f.kind; account = f.account; day = f.day; amount = f.amount; settled = f.settled; hold = rw k };
      counts = record {
        ticks = λ q. omega arith;
        fresh = λ q. absurd (omega arith);
        clock = λ q u l. rw k (rw h at (t.clock q u l));
        low = t.low;
        high = t.high;
      };
    })

-- ---- 6, verdict 0

-- a row whose hold ends
pub release-match : (late today L : ℕ) (r : Row) (x : Entry) → held_toll r ≡ true → r.hold ≤ today → Match late today L r x → Match late today L (release today r) (with_hold false x)
unfolding release
release-match late today L r x h l m =
    let f = m.line in
    let t = m.counts in
    let none : toll r && false ≡ false = and-false (toll r) in
    record {
      line = record { kind = f.kind; account = f.account; day = f.day; amount = f.amount; settled = f.settled; hold = none };
      counts = record {
        ticks = λ q. absurd (false≢true (rw none at q));
        fresh = λ q. absurd (omega arith);
        clock = λ q u n. rw none (let c : x.open-days + r.due ≡ r.mark * L + L + r.hold = rw h at (t.clock q u n) in omega arith);
        low = t.low;
        high = t.high;
      };
    }

reject-agrees : (b : Book) (p : Replay) (e : Instruction) → Near b.day b → Agrees b p → held_toll (row b e.a) ≡ true → (row b e.a).kind ≡ kind_toll
    → Agrees (reject b e) (set_hold false p e)
unfolding reject set_hold
reject-agrees b p e near a h k =
    let n = row-place b.rows e.a 0 k in
    let past : (row b e.a).hold ≤ b.day = rw (number_at b.rows e.a blank n.low) at ((sound-row b near (e.a - 1) n.high).holding (rw (number_at b.rows e.a blank n.low) h)).past in
    change-agrees b p (referring b near) a e.a n.low _ _ (unfold release in (record { kind = refl; reference = refl })) refl
    (release-match 0 b.day b.schedule.stage (row b e.a) _ h past (rows-no a.rows e.a).is)

-- ---- 6, verdict 1

-- a row settled whole
pub whole-match : (late today L : ℕ) (r : Row) (x : Entry) → Match late today L r x → Match late today L (settle_whole r) (cover_whole x)
whole-match late today L r x m =
    let f = m.line in
    let t = m.counts in
    record {
      line = record { kind = f.kind; account = f.account; day = f.day; amount = f.amount; settled = f.amount; hold = f.hold };
      counts = record {
        ticks = t.ticks;
        fresh = t.fresh;
        clock = λ q u. let l : r.amount < r.amount = ltb-true _ _ u in absurd (omega arith);
        low = t.low;
        high = t.high;
      };
    }

-- the fees of toll n are the same rows and entries
pub fee-same : (rows : List Row) (n : ℕ) → (row_no rows n).kind ≡ kind_toll → (r : Row) (x : Entry) → SameLine r x → toll_named rows r ≡ x.toll → fee_naming n r ≡ fee_of n x
unfolding fee_naming fee_of toll_named
fee-same rows n k r x f t = rw f.kind (go (x.kind is kind_fee) (rw f.kind at t))
  where
    positive : 1 ≤ n
    positive = (row-place rows n 0 k).low

    go : (v : Bool) → cond (v && (row_no rows r.reference).kind is kind_toll) r.reference 0 ≡ x.toll → v && r.reference is n ≡ v && x.toll is n
    go false q = refl
    go true q = toll ((row_no rows r.reference).kind is kind_toll) refl q
      where
        toll : (v : Bool) → (row_no rows r.reference).kind is kind_toll ≡ v → cond v r.reference 0 ≡ x.toll → r.reference is n ≡ x.toll is n
        toll true g w = rw w
        toll false g w =
            let differs : r.reference ≡ n → ⊥ = λ z. true≢false (sym (rw (z, k)) ∙ g) in
            rw (ne_eqb r.reference n differs, ne_eqb x.toll n (omega (arith, positive)))

module _ (b : Book) (p : Replay) (e : Instruction) (near : Near b.day b) (a : Agrees b p) (k : (row b e.a).kind ≡ kind_toll) where
  abbrev n : ℕ
  n = e.a

  abbrev i : ℕ
  i = n - 1

  abbrev x : Entry
  x = entry_no p.entries n

  place : Place b.rows n
  place = row-place b.rows n 0 k

  in-entries : i < length p.entries
  in-entries = let l = pairs-length a.rows in omega (arith, place.high)

  -- the entries once the toll is freed
  abbrev freed : List Entry
  freed = set p.entries i (with_hold false x)

  freed-at : entry_no freed n ≡ with_hold false x
  freed-at = sym (number_at freed n no_entry place.low) ∙ get_or-set_same p.entries i (with_hold false x) no_entry in-entries

  -- what f and g give for the toll and its fees
  fees-same : (f : Row → ℕ) (g : Entry → ℕ) → ((r : Row) (y : Entry) → SameLine r y → f r ≡ g y) → ((y : Entry) → g (with_hold false y) ≡ g y) → with_fees b n f ≡ toll_and_fees n g freed
  unfolding with_fees toll_and_fees
  fees-same f g same keep =
      let q : f (row b n) ≡ g x = same (row b n) x (rows-no a.rows n).is.line in
      let u : sum_by (only (fee_naming n) f) b.rows ≡ sum_by (only (fee_of n) g) p.entries =
      pairs-sum (pairs-to {R = Named (Match 0 b.day b.schedule.stage) b.rows} (λ r y m. unfold only in (rw (fee-same b.rows n k r y m.is.line m.toll, same r y m.is.line))) a.rows) in
      let w : sum_by (only (fee_of n) g) freed ≡ sum_by (only (fee_of n) g) p.entries =
      sum_by-set-same (only (fee_of n) g) p.entries i (with_hold false x) no_entry (unfold only fee_of in (rw (number_at p.entries n no_entry place.low, keep x))) in
      rw (freed-at, keep x) (omega arith)

  -- the toll, settled whole
  upheld-match : Match 0 b.day b.schedule.stage (settle_whole (Rows.with_hold_start 0 (with_dispute dispute_upheld (row b n)))) (cover_whole (with_hold false x))
  upheld-match =
      let m = (rows-no a.rows n).is in
      let f = m.line in
      let t = m.counts in
      record {
        line = record { kind = f.kind; account = f.account; day = f.day; amount = f.amount; settled = f.amount; hold = rw k };
        counts = record {
          ticks = λ q. absurd (false≢true (rw k at q));
          fresh = λ q. absurd (omega arith);
          clock = λ q u. let l : (row b n).amount < (row b n).amount = ltb-true _ _ u in absurd (omega arith);
          low = t.low;
          high = t.high;
        };
      }

  pub uphold-agrees : Agrees (uphold b e) (add_credit (set_hold false p e) e)
  unfolding uphold add_credit set_hold toll_named
  uphold-agrees =
      let r : Row = settle_whole (Rows.with_hold_start 0 (with_dispute dispute_upheld (row b n))) in
      let y : Entry = cover_whole (with_hold false x) in
      let twice : set freed i (cover_whole (entry_no freed n)) ≡ set p.entries i y = rw (freed-at, set-set p.entries i (with_hold false x) y) in
      let low = place.low in
      rw twice (record {
        day = a.day;
        schedule = a.schedule;
        lists = a.lists;
        holidays = a.holidays;
        notes = a.notes;
        rows = grow b.rows p.entries (referring b near) a.rows _ _
            (pairs-map-right fee-settled (λ s t q. kept-fee s t q) (pairs-set-self kept_self b.rows i r blank (rw (number_at b.rows n blank low) (record { kind = refl; reference = refl }))))
            (pairs-map-right fee-covered (λ s t q. toll-fee s t q) (pairs-set-self (λ z. refl) p.entries i y no_entry (rw (number_at p.entries n no_entry low))))
            (pairs-map fee-settled fee-covered fee-match (pairs_set i r y (record { is = upheld-match; toll = (rows-no a.rows n).toll }) a.rows))
            (_ ∷ []) (_ ∷ []) (more (record { is = record { line = credit-face; counts = counts-other 0 b.day b.schedule.stage _ _ refl (λ q. refl) }; toll = refl }) none);
      })
    where
      fee-settled : Row → Row
      fee-settled r = cond (fee_naming n r) (settle_whole r) r

      fee-covered : Entry → Entry
      fee-covered y = cond (fee_of n y) (cover_whole y) y

      kept-fee : (s t : Row) → Kept s t → Kept s (fee-settled t)
      kept-fee s t q = cond_either (λ (u : Row). Kept s u) (fee_naming n t) (settle_whole t) t (record { kind = q.kind; reference = q.reference }) q

      toll-fee : (s t : Entry) → SameToll s t → SameToll s (fee-covered t)
      toll-fee s t q = cond_either (λ (u : Entry). SameToll s u) (fee_of n t) (cover_whole t) t q q

      fee-match : (r : Row) (y : Entry) → Named (Match 0 b.day b.schedule.stage) b.rows r y → Match 0 b.day b.schedule.stage (fee-settled r) (fee-covered y)
      fee-match r y m = rw (fee-same b.rows n k r y m.is.line m.toll) (go (fee_of n y))
        where
          go : (v : Bool) → Match 0 b.day b.schedule.stage (cond v (settle_whole r) r) (cond v (cover_whole y) y)
          go true = whole-match 0 b.day b.schedule.stage r y m.is
          go false = m.is

      credit-face : SameLine
          (with_reference n (with_settled (with_fees b n remaining) (new_row kind_credit e.account b.day (with_fees b n (λ r. r.amount)))))
          (with_covered (toll_and_fees n uncovered freed) (new_entry kind_credit e.account p.day (toll_and_fees n (λ y. y.amount) freed)))
      credit-face = record {
        kind = refl;
        account = refl;
        day = a.day;
        amount = fees-same (λ r. r.amount) (λ y. y.amount) (λ r y f. f.amount) (λ y. refl);
        settled = fees-same remaining uncovered (λ r y f. rw (f.amount, f.settled)) (λ y. refl);
        hold = refl;
      }

pub decide-agrees : (b : Book) (p : Replay) (e : Instruction) → Near b.day b → Agrees b p → held_toll (row b e.a) ≡ true → Agrees (decide b e) (free_toll p e)
unfolding decide free_toll
decide-agrees b p e near a h = go (e.b is code_yes)
  where
    k : (row b e.a).kind ≡ kind_toll
    k = eqb-true _ _ (and_left ((row b e.a).kind is kind_toll) ((row b e.a).dispute is dispute_held) h)

    go : (v : Bool) → Agrees (cond v (uphold b e) (reject b e)) (cond v (add_credit (set_hold false p e) e) (set_hold false p e))
    go true = uphold-agrees b p e near a k
    go false = reject-agrees b p e near a h k

-- ---- 4

returned-noted : (x : Account) (n : Note) → Noted x n → Noted (check_returned x) (with_closed false n)
unfolding check_returned
returned-noted x n q = go (x.state is state_closed) refl
  where
    go : (v : Bool) → x.state is state_closed ≡ v → Noted (with_returned (x.returned + 1) (cond v (with_state state_pending x) x)) (with_closed false n)
    go true e = record { request = q.request; topup = q.topup; successor = q.successor; closed = refl }
    go false e = record { request = q.request; topup = q.topup; successor = q.successor; closed = e }

pub return_check-agrees : (b : Book) (p : Replay) (e : Instruction) → Near b.day b → Agrees b p → (row b e.a).kind ≡ kind_payment → Agrees (return_check b e) (add_return p e)
unfolding return_check add_return toll_named
return_check-agrees b p e near a k =
    let n : ℕ = e.a in
    let place : Place b.rows n = row-place b.rows n 3 k in
    let c : Book = put_account e.account (check_returned (account b e.account)) b in
    let r : Row = with_mark method_check_returned (row b n) in
    let ac : Agrees c (reopen p e) = note-agrees b p a e.account (check_returned (account b e.account)) _ (returned-noted _ _ (noted-no b p a e.account)) in
    let m = (rows-no a.rows n).is in
    let f = m.line in
    let old : Row = get_or b.rows (n - 1) blank in
    let kept : Kept old r = rw (number_at b.rows n blank place.low) (record { kind = refl; reference = refl }) in
    let olds : List Row = set b.rows (n - 1) r in
    let keeps : Pairs Kept b.rows olds = pairs-set-self kept_self b.rows (n - 1) r blank kept in
    let new : Match 0 b.day b.schedule.stage r (get_or p.entries (n - 1) no_entry) =
    rw (number_at p.entries n no_entry place.low) (record {
      line = record { kind = f.kind; account = f.account; day = f.day; amount = f.amount; settled = f.settled; hold = f.hold };
      counts = counts-other 0 b.day b.schedule.stage r _ (rw k) m.counts.fresh;
    }) in
    rw (append_assoc olds, append_assoc p.entries) (record {
      day = a.day;
      schedule = a.schedule;
      lists = a.lists;
      holidays = a.holidays;
      notes = ac.notes;
      rows = grow b.rows p.entries (referring b near) a.rows olds p.entries keeps (pairs-self (λ y. refl) p.entries)
          (pairs-set-left (n - 1) r no_entry new (pairs-to (λ s y q. q.is) a.rows))
          (_ ∷ _ ∷ []) (_ ∷ _ ∷ [])
          (more (record { is = record { line = record { kind = refl; account = refl; day = a.day; amount = f.amount; settled = refl; hold = refl }; counts = counts-other 0 b.day b.schedule.stage _ _ refl (λ q. refl) }; toll = refl })
          (more (record {
            is = record { line = record { kind = refl; account = refl; day = a.day; amount = refl; settled = refl; hold = refl }; counts = counts-other 0 b.day b.schedule.stage _ _ refl (λ q. refl) };
            toll = rw (kind-kept b.rows olds _ keeps n (omega (arith, place.low, place.high)), k);
          }) none));
    })
