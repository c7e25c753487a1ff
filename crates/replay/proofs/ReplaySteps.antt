-- The replay's steps, by themselves: none but the tick changes a toll's fees or open days.
use mathlib.Core.Path.{◌≡◌, refl, sym, ◌∙◌}
use mathlib.Core.Logic.{◌≢◌}
use mathlib.Core.Bool.{Bool, true, false, cond, and-false}
use Prim.Native.Nat.{ℕ, zero, suc, ◌-◌, ◌≤◌}
use native.Mathlib.Omega.{arith}
use mathlib.Core.List.{List, [], ◌∷◌, ◌++◌, append-nil}
use lib.ListN.{get_or, set}
use borrow.Author.Tests.{ne_eqb}
use Rattle.records.specs.Codes.{code_yes, event_dispute, event_decision, event_tick}
use Rattle.records.specs.declared.Instruction.{Instruction}
use Rattle.lists.specs.Tests.{◌is◌}
use Rattle.lists.specs.Lists.{one}
use Rattle.lists.proofs.TestLaws.{cond_either}
use Rattle.lists.proofs.PairLaws.{Pairs, none, more, pairs-at, pairs-to, pairs-map-self, pairs-set-self}
use Rattle.lists.proofs.CollectLaws.{collect, collect-append, collect-pairs, collect-none}
use Rattle.rules.proofs.KindLaws.{by_kind}
use Rattle.replay.specs.Entries.{Entry, kind_fee, no_entry, entry_no, cover_whole, fee_of, unused_of, cover_rank, cover, settle_entries, settle_all_entries}
use Rattle.replay.specs.Replay.{Replay, note_topup, note_request, note_successor, note_list, add_toll, add_payment, add_topup, add_return, set_hold, add_credit, free_toll, step_of}
use Rattle.replay.proofs.Growing.{number_at}

-- the fee entries that name toll n: amounts and days
abbrev pub fee_share : ℕ → Entry → List (ℕ × ℕ)
fee_share n x = one (fee_of n x) (x.amount, x.day)

pub record Steady (xs ys : List Entry) : Type 0 where
  pub fees : (n : ℕ) → 1 ≤ n → collect (fee_share n) ys ≡ collect (fee_share n) xs
  pub opened : (n : ℕ) → (entry_no ys n).open-days ≡ (entry_no xs n).open-days

pub steady_self : (xs : List Entry) → Steady xs xs
steady_self xs = record { fees = λ n h. refl; opened = λ n. refl }

pub steady_then : {xs ys zs : List Entry} → Steady xs ys → Steady ys zs → Steady xs zs
steady_then s t = record { fees = λ n h. t.fees n h ∙ s.fees n h; opened = λ n. t.opened n ∙ s.opened n }

-- ---- entries that change in place

pub record Still (x y : Entry) : Type 0 where
  pub kind : y.kind ≡ x.kind
  pub toll : y.toll ≡ x.toll
  pub amount : y.amount ≡ x.amount
  pub day : y.day ≡ x.day
  pub opened : y.open-days ≡ x.open-days

pub still-self : (x : Entry) → Still x x
still-self x = record { kind = refl; toll = refl; amount = refl; day = refl; opened = refl }

pub share-same : (n : ℕ) (x y : Entry) → y.kind ≡ x.kind → y.toll ≡ x.toll → y.amount ≡ x.amount → y.day ≡ x.day → fee_share n x ≡ fee_share n y
unfolding fee_of
share-same n x y k t a d = rw (k, t, a, d)

pub steady-still : {xs ys : List Entry} → Pairs Still xs ys → Steady xs ys
steady-still p = record {
  fees = λ n h. sym (collect-pairs (pairs-to (λ x y s. share-same n x y s.kind s.toll s.amount s.day) p));
  opened = λ n. (pairs-at no_entry no_entry (still-self no_entry) (more (still-self no_entry) p) n).opened;
}

-- ---- entries that are added

pub record New (x : Entry) : Type 0 where
  pub toll : x.toll ≡ 0
  pub opened : x.open-days ≡ 0

new-share : (n : ℕ) (x : Entry) → 1 ≤ n → x.toll ≡ 0 → fee_share n x ≡ []
unfolding fee_of
new-share n x h e = rw (ne_eqb x.toll n (λ z. omega arith), and-false (x.kind is kind_fee))

pub opened-append : (xs ys : List Entry) → ((k : ℕ) → (get_or ys k no_entry).open-days ≡ 0) → (n : ℕ) → (entry_no (xs ++ ys) n).open-days ≡ (entry_no xs n).open-days
opened-append xs ys e zero = refl
opened-append xs ys e (suc n) = go xs n
  where
    go : (zs : List Entry) (k : ℕ) → (get_or (zs ++ ys) k no_entry).open-days ≡ (get_or zs k no_entry).open-days
    go [] k = e k
    go (z ∷ zs) zero = refl
    go (z ∷ zs) (suc k) = go zs k

pub steady-append : (xs ys : List Entry) → Pairs (λ x y. New x) ys ys → Steady xs (xs ++ ys)
steady-append xs ys p = record {
  fees = λ n h. collect-append (fee_share n) xs ys ∙ rw (collect-none (fee_share n) ys (pairs-to (λ x y s. new-share n x h s.toll) p), append-nil (collect (fee_share n) xs));
  opened = opened-append xs ys (λ k. (pairs-at {R = λ x y. New x} no_entry no_entry (record { toll = refl; opened = refl }) p k).opened);
}

steady-add : (xs : List Entry) (x : Entry) → New x → Steady xs (xs ++ (x ∷ []))
steady-add xs x s = steady-append xs (x ∷ []) (more s none)

-- ---- settlement

cover-still : (f : Entry → ℕ) (n : ℕ) (xs : List Entry) → Pairs Still xs (cover f n xs)
unfolding cover
cover-still f n [] = none
cover-still f n (x ∷ xs) = more (record { kind = refl; toll = refl; amount = refl; day = refl; opened = refl }) (cover-still f (n - f x) xs)

rank-steady : (want : Entry → ℕ) (a : ℕ) (xs : List Entry) → Steady xs (cover_rank want a xs)
unfolding cover_rank
rank-steady want a xs = steady_then (steady-still (cover-still (unused_of a) _ xs)) (steady-still (cover-still want _ (cover (unused_of a) _ xs)))

pub settle-steady : (n : ℕ) (xs : List Entry) → Steady xs (settle_all_entries n xs)
unfolding settle_all_entries settle_entries
settle-steady zero xs = steady_self xs
settle-steady (suc n) xs = steady_then (settle-steady n xs) (steady_then (rank-steady _ (suc n) _) (rank-steady _ (suc n) _))

-- ---- events 1 to 8

-- the entry of a number changes
set-steady : (xs : List Entry) (n : ℕ) (y : Entry) → 1 ≤ n → Still (entry_no xs n) y → Steady xs (set xs (n - 1) y)
set-steady xs n y h s = steady-still (pairs-set-self still-self xs (n - 1) y no_entry (rw (number_at xs n no_entry h) s))

hold-steady : (v : Bool) (p : Replay) (e : Instruction) → 1 ≤ e.a → Steady p.entries (set_hold v p e).entries
unfolding set_hold
hold-steady v p e h = set-steady p.entries e.a _ h (record { kind = refl; toll = refl; amount = refl; day = refl; opened = refl })

credit-steady : (p : Replay) (e : Instruction) → 1 ≤ e.a → Steady p.entries (add_credit p e).entries
unfolding add_credit
credit-steady p e h =
    steady_then (set-steady p.entries e.a (cover_whole (entry_no p.entries e.a)) h (record { kind = refl; toll = refl; amount = refl; day = refl; opened = refl }))
    (steady_then (steady-still (pairs-map-self (λ x. cond (fee_of e.a x) (cover_whole x) x)
    (λ x. cond_either (λ (y : Entry). Still x y) (fee_of e.a x) (cover_whole x) x (record { kind = refl; toll = refl; amount = refl; day = refl; opened = refl }) (still-self x)) _))
    (steady-add _ _ (record { toll = refl; opened = refl })))

free-steady : (p : Replay) (e : Instruction) → 1 ≤ e.a → Steady p.entries (free_toll p e).entries
unfolding free_toll
free-steady p e h = cond_either (λ (q : Replay). Steady p.entries q.entries) (e.b is code_yes) (add_credit (set_hold false p e) e) (set_hold false p e)
    (steady_then (hold-steady false p e h) (credit-steady (set_hold false p e) e h)) (hold-steady false p e h)

-- a step of the same schedule and steady entries
pub record Stepped (p q : Replay) : Type 0 where
  pub schedule : q.schedule ≡ p.schedule
  pub steady : Steady p.entries q.entries

-- a decision and a dispute name an entry by its number, from 1
pub record Proper (e : Instruction) : Type 0 where
  pub dispute : e.kind ≡ event_dispute → 1 ≤ e.a
  pub decision : e.kind ≡ event_decision → 1 ≤ e.a

-- events but the tick, and kinds of no event
pub step-steady : (k : ℕ) (p : Replay) (e : Instruction) → k ≢ event_tick → (k ≡ event_dispute → 1 ≤ e.a) → (k ≡ event_decision → 1 ≤ e.a)
    → Stepped p (step_of k p e)
unfolding step_of note_topup note_request note_successor note_list add_toll add_payment add_topup add_return set_hold add_credit free_toll
step-steady k p e =
    by_kind (λ k. k ≢ event_tick → (k ≡ event_dispute → 1 ≤ e.a) → (k ≡ event_decision → 1 ≤ e.a) → Stepped p (step_of k p e))
    (record {
      opened = λ n f g. record { schedule = refl; steady = steady_self p.entries };
      toll = λ n f g. record { schedule = refl; steady = steady-add p.entries _ (record { toll = refl; opened = refl }) };
      payment = λ n f g. record { schedule = refl; steady = steady-add p.entries _ (record { toll = refl; opened = refl }) };
      returned-check = λ n f g. record {
        schedule = refl;
        steady = steady_then (steady-add p.entries _ (record { toll = refl; opened = refl })) (steady-add _ _ (record { toll = refl; opened = refl }));
      };
      dispute = λ n f g. record { schedule = refl; steady = hold-steady true p e (f refl) };
      decision = λ n f g. record {
        schedule = cond_either (λ (q : Replay). q.schedule ≡ p.schedule) (e.b is code_yes) (add_credit (set_hold false p e) e) (set_hold false p e) refl refl;
        steady = free-steady p e (g refl);
      };
      topup-result = λ n f g. cond_either (λ (q : Replay). Stepped p q) (e.b is code_yes) _ p
          (record { schedule = refl; steady = steady-add p.entries _ (record { toll = refl; opened = refl }) }) (record { schedule = refl; steady = steady_self p.entries });
      close-request = λ n f g. record { schedule = refl; steady = steady_self p.entries };
      tick = λ n f g. absurd (n refl);
      rate-list = λ n f g. record { schedule = refl; steady = steady_self p.entries };
      reserve = λ n f g. record { schedule = refl; steady = steady_self p.entries };
      successor = λ n f g. record { schedule = refl; steady = steady_self p.entries };
      none = λ n f g. record { schedule = refl; steady = steady_self p.entries };
      past = λ k n f g. record { schedule = refl; steady = steady_self p.entries };
    }) k
