-- What an accepted event is known to be: each refusal of the table fails.
use mathlib.Core.Path.{◌≡◌, refl}
use mathlib.Core.Bool.{false, not}
use Prim.Native.Nat.{ℕ}
use Rattle.lists.proofs.TestLaws.{positive, case_of, first-zero}
use Rattle.records.specs.Numbers.{answer_malformed, answer_unknown, answer_taken, answer_closed, answer_unclassed, answer_misdated, answer_duplicate, answer_barred, answer_no_row, answer_untimely, answer_last_day, answer_full, answer_ceiling, answer_list_refused, answer_reserve, answer_successor}
use Rattle.rules.specs.Book.{Instruction, Book}
use Rattle.rules.specs.Refusals.{well_formed, list_refused, unknown, taken, on_closed, successor_refused, unclassed, misdated, duplicate, barred, no_row, untimely, reserve_refused, last_day, full, ceiling, refusals, answer_number}

pub record Accepted (b : Book) (e : Instruction) : Type 0 where
  pub formed : not (well_formed e) ≡ false
  pub last : list_refused b e ≡ false
  pub known : unknown b e ≡ false
  pub free : taken b e ≡ false
  pub unclosed : on_closed b e ≡ false
  pub nameable : successor_refused b e ≡ false
  pub classed : unclassed b e ≡ false
  pub dated : misdated b e ≡ false
  pub new : duplicate b e ≡ false
  pub allowed : barred b e ≡ false
  pub named : no_row b e ≡ false
  pub timely : untimely b e ≡ false
  pub changes : reserve_refused b e ≡ false
  pub later : last_day b e ≡ false
  pub fits : full b e ≡ false
  pub low : ceiling b e ≡ false

pub accepted : (b : Book) (e : Instruction) → answer_number b e ≡ 0 → Accepted b e
unfolding answer_number refusals case_of positive
accepted b e q =
    let fails : (n : ℕ) → case_of (refusals b e) n ≡ false = first-zero (refusals b e) refl q in
    record {
      formed = fails answer_malformed;
      last = fails answer_list_refused;
      known = fails answer_unknown;
      free = fails answer_taken;
      unclosed = fails answer_closed;
      nameable = fails answer_successor;
      classed = fails answer_unclassed;
      dated = fails answer_misdated;
      new = fails answer_duplicate;
      allowed = fails answer_barred;
      named = fails answer_no_row;
      timely = fails answer_untimely;
      changes = fails answer_reserve;
      later = fails answer_last_day;
      fits = fails answer_full;
      low = fails answer_ceiling;
    }
