-- Events 1, 2, 3, 7, 8, 10, 11 and 12 keep the relation: they change a note or a list, add a row and its entry, or change what the replay
-- does not keep.
use mathlib.Core.Path.{◌≡◌, refl, sym, ap, ◌∙◌}
use mathlib.Core.Bool.{Bool, true, false, cond, false≢true}
use Prim.Native.Nat.{ℕ, zero, suc, ◌*◌, ◌-◌, ◌≤◌, ◌<◌}
use native.Mathlib.Omega.{arith}
use native.Mathlib.Decide.{dec_lt}
use mathlib.Core.List.{[], ◌∷◌, ◌++◌}
use lib.ListN.{length, get_or, get_or-eq_default}
use Rattle.records.specs.Codes.{code_yes}
use Rattle.records.specs.Layout.{request_place, successor_place}
use Rattle.records.specs.Encoding.{account_fields}
use Rattle.records.specs.AccountOperations.{opened, declined_on, topup_paid, close_requested_on, reserve_set, successor_set}
use Rattle.records.proofs.AccountLaws.{declined-cases}
use Rattle.lists.specs.Tests.{◌is◌, all_of}
use Rattle.lists.proofs.PairLaws.{none, more, pairs-at, pairs_set, pairs-set-left, pairs-self, pairs-to}
use Rattle.rules.specs.Rows.{Row}
use Rattle.rules.specs.Book.{Account, unused, state_unused, state_closed, Instruction, Book, account, put_account, add_row}
use Rattle.rules.specs.Events.{open_account, toll_rate, post_toll, post_payment, pay_topup, decline_topup, topup_result, request_close, add_list, set_reserve, set_successor}
use Rattle.rules.specs.Soundness.{unused_zero}
use Rattle.rules.specs.SoundFacts.{Near}
use Rattle.rules.proofs.StorableLaws.{unused-zero}
use Rattle.replay.specs.Entries.{Entry, kind_payment, new_entry}
use Rattle.replay.specs.Replay.{Note, no_note, Replay, note_no, put_note, add_entry, toll_goes_to, note_topup, note_request, note_successor, note_list, add_toll, add_payment, add_topup}
use Rattle.replay.specs.Demand3.{toll_named}
use Rattle.replay.proofs.Relation.{SameLine, Match, Noted, Agrees, counts-other}
use Rattle.replay.proofs.SoundRows.{stage-length}
use Rattle.replay.proofs.Growing.{Referring, referring, kept_self, grow}

-- ---- accounts and notes

pub noted-no : (b : Book) (p : Replay) → Agrees b p → (n : ℕ) → Noted (account b n) (note_no p.notes n)
noted-no b p a n = pairs-at unused no_note q (more q a.notes) n
  where
    q : Noted unused no_note
    q = record { request = refl; topup = λ h. refl; successor = refl; closed = refl }

-- an account and its note change
pub note-agrees : (b : Book) (p : Replay) → Agrees b p → (n : ℕ) (x : Account) (y : Note) → Noted x y → Agrees (put_account n x b) (put_note n y p)
note-agrees b p a n x y q = record { day = a.day; schedule = a.schedule; lists = a.lists; holidays = a.holidays; rows = a.rows; notes = pairs_set (n - 1) x y q a.notes }

-- an account changes
account-agrees : (b : Book) (p : Replay) → Agrees b p → (n : ℕ) → 1 ≤ n → (x : Account) → Noted x (note_no p.notes n) → Agrees (put_account n x b) p
account-agrees b p a zero h x q = absurd (omega arith)
account-agrees b p a (suc n) h x q =
    let z : suc n - 1 ≡ n = omega arith in
    record { day = a.day; schedule = a.schedule; lists = a.lists; holidays = a.holidays; rows = a.rows; notes = rw z (pairs-set-left n x no_note q a.notes) }

-- a rate list more
pub add_list-agrees : (b : Book) (p : Replay) (e : Instruction) → Agrees b p → Agrees (add_list b e) (note_list p e)
unfolding add_list note_list
add_list-agrees b p e a = record { day = a.day; schedule = a.schedule; lists = rw a.lists; holidays = a.holidays; rows = a.rows; notes = a.notes }

-- a reserve added or removed: the replay keeps none
pub set_reserve-agrees : (b : Book) (p : Replay) (e : Instruction) → Agrees b p → 1 ≤ e.account → Agrees (set_reserve b e) p
unfolding set_reserve
set_reserve-agrees b p e a n =
    let q = noted-no b p a e.account in
    account-agrees b p a e.account n (reserve_set e.a (account b e.account)) (record { request = q.request; topup = q.topup; successor = q.successor; closed = q.closed })

-- a successor named
pub set_successor-agrees : (b : Book) (p : Replay) (e : Instruction) → Agrees b p → Agrees (set_successor b e) (note_successor p e)
unfolding set_successor note_successor
set_successor-agrees b p e a =
    let q = noted-no b p a e.account in
    note-agrees b p a e.account (successor_set e.a (account b e.account)) _ (record { request = q.request; topup = q.topup; successor = refl; closed = q.closed })

none-unused : (k : ℕ) → get_or (account_fields unused) k 0 ≡ 0
none-unused k = unused-zero unused refl (unfold unused_zero all_of in refl) k

-- no word of an unused account is other than 0
unused-word : (b : Book) → Near b.day b → (n : ℕ) → (account b n).state ≡ state_unused → (k : ℕ) → get_or (account_fields (account b n)) k 0 ≡ 0
unused-word b near zero e k = none-unused k
unused-word b near (suc n) e k = elim (dec_lt n (length b.accounts)) [
  | yes h ↦ unused-zero (get_or b.accounts n unused) e (near.standing n h).zero k
  | no h ↦ ap (λ (x : Account). get_or (account_fields x) k 0) (get_or-eq_default b.accounts unused {n = n} (omega arith)) ∙ none-unused k
]

-- ---- a row and its entry are added

pub add-agrees : (b : Book) (p : Replay) → Referring b.rows → Agrees b p → (r : Row) (x : Entry) → Match 0 b.day b.schedule.stage r x
    → toll_named (b.rows ++ (r ∷ [])) r ≡ x.toll → Agrees (add_row r b) (add_entry x p)
add-agrees b p f a r x m t = record {
  day = a.day;
  schedule = a.schedule;
  lists = a.lists;
  holidays = a.holidays;
  rows = grow b.rows p.entries f a.rows b.rows p.entries
      (pairs-self kept_self b.rows) (pairs-self (λ y. refl) p.entries) (pairs-to (λ s y n. n.is) a.rows)
      (r ∷ []) (x ∷ []) (more (record { is = m; toll = t }) none);
  notes = a.notes;
}

-- ---- 1 and 8

pub open_account-agrees : (b : Book) (p : Replay) (e : Instruction) → Near b.day b → Agrees b p → (account b e.account).state ≡ state_unused → Agrees (open_account b e) (note_topup p e)
unfolding open_account note_topup
open_account-agrees b p e near a u =
    note-agrees b p a e.account (opened e.a e.b) _
    (let q = noted-no b p a e.account in
    record {
      request = sym (unused-word b near e.account u request_place) ∙ q.request;
      topup = λ h. refl;
      successor = sym (unused-word b near e.account u successor_place) ∙ q.successor;
      closed = rw u at q.closed;
    })

pub request_close-agrees : (b : Book) (p : Replay) (e : Instruction) → Agrees b p → (account b e.account).state is state_closed ≡ false → Agrees (request_close b e) (note_request p e)
unfolding request_close note_request
request_close-agrees b p e a u =
    note-agrees b p a e.account (close_requested_on b.day (account b e.account)) _
    (let q = noted-no b p a e.account in record { request = a.day; topup = q.topup; successor = q.successor; closed = sym u ∙ q.closed })

-- ---- 2, 3 and 7

-- a toll of an account that is not closed is its own
pub toll-stays : (b : Book) (p : Replay) → Agrees b p → (n : ℕ) → (account b n).state is state_closed ≡ false → toll_goes_to p.notes n ≡ n
unfolding toll_goes_to
toll-stays b p a n u = let z : (note_no p.notes n).closed ≡ false = sym (noted-no b p a n).closed ∙ u in rw z

-- and of one that is closed its successor's
pub toll-passes : (b : Book) (p : Replay) → Agrees b p → (n : ℕ) → (account b n).state is state_closed ≡ true → toll_goes_to p.notes n ≡ (account b n).successor
unfolding toll_goes_to
toll-passes b p a n u =
    let q = noted-no b p a n in
    let z : (note_no p.notes n).closed ≡ true = sym q.closed ∙ u in
    rw z (sym q.successor)

pub post_toll-agrees : (b : Book) (p : Replay) (e : Instruction) → Near b.day b → Agrees b p → (account b e.account).state is state_closed ≡ false → Agrees (post_toll b e) (add_toll p e)
unfolding post_toll add_toll toll_rate toll_named
post_toll-agrees b p e near a u =
    let L : ℕ = b.schedule.stage in
    let l = stage-length b near in
    let z : 0 * L ≡ 0 = omega arith in
    add-agrees b p (referring b near) a _ _ (record {
      line = record { kind = refl; account = sym (toll-stays b p a e.account u); day = a.day; amount = rw a.lists; settled = refl; hold = refl };
      counts = record {
        ticks = λ h. absurd (false≢true h);
        fresh = λ h. refl;
        clock = λ k u m. omega arith;
        low = λ k. omega arith;
        high = λ k m. omega arith;
      };
    }) refl

-- a payment
payment-agrees : (b : Book) (p : Replay) → Referring b.rows → Agrees b p → (r : Row) (x : Entry) → SameLine r x → r.kind ≡ kind_payment → x.ticks ≡ 0 → x.toll ≡ 0 → Agrees (add_row r b) (add_entry x p)
unfolding toll_named
payment-agrees b p g a r x f q t n =
    add-agrees b p g a r x (record { line = f; counts = counts-other 0 b.day b.schedule.stage r x (rw q) (λ h. t) }) (rw q (sym n))

pub post_payment-agrees : (b : Book) (p : Replay) (e : Instruction) → Near b.day b → Agrees b p → Agrees (post_payment b e) (add_payment p e)
unfolding post_payment add_payment
post_payment-agrees b p e near a =
    payment-agrees b p (referring b near) a _ _ (record { kind = refl; account = refl; day = a.day; amount = refl; settled = refl; hold = refl }) refl refl refl

pub topup_result-agrees : (b : Book) (p : Replay) (e : Instruction) → Near b.day b → Agrees b p → 1 ≤ e.account → 0 < (account b e.account).topup
    → Agrees (topup_result b e) (add_topup p e)
unfolding topup_result add_topup pay_topup decline_topup
topup_result-agrees b p e near a n t = go (e.b is code_yes)
  where
    x : Account
    x = account b e.account

    q : Noted x (note_no p.notes e.account)
    q = noted-no b p a e.account

    declined : Noted (declined_on b.day x) (note_no p.notes e.account)
    declined =
        declined-cases (λ y. Noted y (note_no p.notes e.account)) b.day x
        (record { request = q.request; topup = λ h. absurd (omega arith); successor = q.successor; closed = q.closed })
        (λ l. record { request = q.request; topup = q.topup; successor = q.successor; closed = q.closed })

    go : (v : Bool) → Agrees (cond v (pay_topup b e) (decline_topup b e))
        (cond v (add_entry (new_entry kind_payment e.account p.day (note_no p.notes e.account).topup) p) p)
    go true = payment-agrees (put_account e.account (topup_paid x) b) p (referring b near) (account-agrees b p a e.account n (topup_paid x) (record { request = q.request; topup = q.topup; successor = q.successor; closed = q.closed })) _ _
        (record { kind = refl; account = refl; day = a.day; amount = q.topup t; settled = refl; hold = refl }) refl refl refl
    go false = account-agrees b p a e.account n _ declined
