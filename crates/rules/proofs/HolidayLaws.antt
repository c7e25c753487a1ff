-- The holidays as words of their table and as days; and a sound book with other holidays that fit.
use mathlib.Core.Path.{◌≡◌, refl}
use mathlib.Core.Bool.{Bool, true}
use Prim.Native.Nat.{ℕ, ◌+◌, ◌-◌, ◌≤◌}
use native.Mathlib.Omega.{arith}
use mathlib.Core.List.{List, [], ◌∷◌, map}
use lib.ListN.{length}
use lib.IntN.{ℤ, pos}
use lib.Dec.{leb, ltb}
use borrow.Author.Tests.{leb-true}
use Rattle.lists.specs.Tests.{◌from◌to◌}
use Rattle.lists.specs.Lists.{every, every_from}
use Rattle.lists.proofs.TestLaws.{and_left, and_right}
use Rattle.records.specs.Limits.{final_day, most_holidays}
use Rattle.records.specs.Encoding.{nat_of}
use Rattle.records.proofs.EncodingLaws.{pos-nat_of}
use Rattle.rules.specs.BusinessDays.{holiday_no, holiday_fits, holidays_fit}
use Rattle.rules.specs.Book.{Book, with_holidays}
use Rattle.rules.specs.SoundFacts.{Near}
use Rattle.rules.specs.Soundness.{sound}
use Rattle.rules.proofs.SoundnessLaws.{sound-facts, facts-sound}

-- ---- days written as words and read, words read and written

pub days-again : (hs : List ℕ) → map nat_of (map pos hs) ≡ hs
unfolding nat_of
days-again [] = refl
days-again (h ∷ hs) = rw (days-again hs)

-- a holiday that fits is no day past the last
holiday-le : (hs : List ℕ) (n h : ℕ) → holiday_fits hs n h ≡ true → h ≤ final_day
unfolding holiday_fits
holiday-le hs n h e =
    let within : Bool = h from 1 to final_day in
    leb-true h final_day (and_right (leb 1 h) (leb h final_day) (and_left within (ltb (holiday_no hs (n - 1)) h) e))

-- so its word is a natural number, and stands as it was read
words-again : (hs : List ℕ) (n : ℕ) (ws : List ℤ) → every_from (holiday_fits hs) n (map nat_of ws) ≡ true → map pos (map nat_of ws) ≡ ws
unfolding every_from
words-again hs n [] e = refl
words-again hs n (w ∷ ws) e =
    let first : Bool = holiday_fits hs n (nat_of w) in
    let rest : Bool = every_from (holiday_fits hs) (n + 1) (map nat_of ws) in
    let small : nat_of w ≤ final_day = holiday-le hs n (nat_of w) (and_left first rest e) in
    rw (pos-nat_of w (omega (arith, small)), words-again hs (n + 1) ws (and_right first rest e))

pub holidays-again : (ws : List ℤ) → holidays_fit (map nat_of ws) ≡ true → map pos (map nat_of ws) ≡ ws
unfolding holidays_fit
holidays-again ws e =
    let hs : List ℕ = map nat_of ws in
    words-again hs 1 ws (and_right (leb (length hs) most_holidays) (every (holiday_fits hs) hs) e)

-- ---- a sound book with other holidays

pub near-with_holidays : (past : ℕ) (hs : List ℕ) (b : Book) → holidays_fit hs ≡ true → Near past b → Near past (with_holidays hs b)
near-with_holidays past hs b f n = record {
  day = n.day;
  schedule = n.schedule;
  lists = n.lists;
  sizes = n.sizes;
  fits = n.fits;
  shape = n.shape;
  live = n.live;
  standing = n.standing;
  successors = n.successors;
  counted = n.counted;
  holidays = f;
}

pub sound-with_holidays : (hs : List ℕ) (b : Book) → holidays_fit hs ≡ true → sound b ≡ true → sound (with_holidays hs b) ≡ true
sound-with_holidays hs b f e =
    let s = sound-facts b e in
    facts-sound (with_holidays hs b) (record { near = near-with_holidays b.day hs b f s.near; no-idle-money = s.no-idle-money })
