-- A turn of the program: what is read and printed, and that the program can take its next turn.
use mathlib.Core.Path.{◌≡◌, refl, sym, ap, ◌∙◌}
use mathlib.Core.Bool.{Bool, true, false, true≢false, ◌||◌}
use Prim.Native.Nat.{ℕ, ◌+◌, ◌≤◌, ◌<◌}
use native.Mathlib.Omega.{arith}
use mathlib.Core.List.{List, [], ◌++◌, append-nil}
use borrow.Author.Tests.{leb-false}
use lib.Dec.{leb}
use lib.ListN.{length, take, drop, length-drop, take-append-drop}
use lib.Seq.{take-length}
use Rattle.decimal.specs.Bytes.{index_of}
use Rattle.rules.specs.Tables.{Tables, book_of}
use Rattle.listing_rules.specs.Texts.{lines_of}
use Rattle.listing_rules.specs.Listing.{most_lines, listed}
use Rattle.listing_lines.specs.Lines.{Sized, Ready}
use denote.Enum.Bare.{sameb}
use Rattle.listing_steps.specs.contracts.Phase.{the_type}
use Rattle.listing_steps.specs.declared.Phase.{Phase}
use Rattle.listing_steps.specs.declared.Phase.TheVariants as phase
use Rattle.listing_steps.specs.declared.Place.{Place}
use Rattle.listing_steps.specs.Steps.{is_waiting, is_over, waits, over, over_at, to_list, Waiting}
use Rattle.listing.specs.Turns.{nearly_full, State, taking_at, Starts, Standing, Reads, Turned}
use Rattle.listing.specs.Turns.{due, unprinted, after_print}

-- ---- phases

pub waiting_is : (f : Phase) → is_waiting f ≡ true → f ≡ phase.Waiting
waiting_is phase.Taking e = absurd (true≢false (sym e))
waiting_is phase.Waiting e = refl
waiting_is phase.Over e = absurd (true≢false (sym e))

pub over-is : (f : Phase) → is_over f ≡ true → f ≡ phase.Over
over-is phase.Taking e = absurd (true≢false (sym e))
over-is phase.Waiting e = absurd (true≢false (sym e))
over-is phase.Over e = refl

-- the tests of two phases
pub same-waiting : (f : Phase) → sameb the_type f phase.Waiting ≡ is_waiting f
same-waiting phase.Taking = refl
same-waiting phase.Waiting = refl
same-waiting phase.Over = refl

pub same-over : (f : Phase) → sameb the_type f phase.Over ≡ is_over f
same-over phase.Taking = refl
same-over phase.Waiting = refl
same-over phase.Over = refl

-- ---- printed

module _ (p : Place) (out : List ℕ) where
  pub due-waits : waits p ≡ true → due p out ≡ true
  unfolding due
  due-waits e = ap (λ (b : Bool). b || over p || leb nearly_full (length out)) e

  pub due-over : over p ≡ true → due p out ≡ true
  unfolding due
  due-over e = ap (λ (f : Phase). is_waiting f || is_over f || leb nearly_full (length out)) (over-is p.phase e)

  pub due-taking : p.phase ≡ phase.Taking → leb nearly_full (length out) ≡ due p out
  unfolding due
  due-taking e = rw e refl

  due-else : due p out ≡ false → length out < nearly_full
  unfolding due
  due-else e = go (waits p) (over p) e
    where
      go : (a b : Bool) → (a || b || leb nearly_full (length out)) ≡ false → length out < nearly_full
      go true b q = absurd (true≢false q)
      go false true q = absurd (true≢false q)
      go false false q = leb-false nearly_full (length out) q

  -- little is left of it
  pub unprinted-short : length (unprinted p out) < nearly_full
  unfolding unprinted
  unprinted-short = go (due p out) refl
    where
      go : (b : Bool) → due p out ≡ b → length (unprinted p out) < nearly_full
      go true e = rw e (omega arith)
      go false e = rw e (due-else e)

  -- nothing, where it waits
  pub unprinted-none : waits p ≡ true → unprinted p out ≡ []
  unfolding unprinted
  unprinted-none e = rw (due-waits e) refl

  pub printed-due : due p out ≡ true → unprinted p out ≡ []
  unfolding unprinted
  printed-due e = rw e refl

  pub printed-else : due p out ≡ false → unprinted p out ≡ out
  unfolding unprinted
  printed-else e = rw e refl

-- ---- a read

-- bytes were read after those that waited, or none were
module _ (t : Tables) (old new : List ℕ) (p : Place) (out : List ℕ) (more : ℕ) (k : take (length old) new ≡ old) (l : length new ≡ length old + more)
    (w : out ≡ []) where
  abbrev got : List ℕ
  got = drop (length old) new

  length_got : length got ≡ more
  length_got = omega (arith, length-drop (length old) new, l)

  pub read-follows : new ≡ old ++ got
  read-follows = sym (take-append-drop (length old) new) ∙ ap (λ (x : List ℕ). x ++ got) k

  pub read-kept : more ≡ 0 → new ≡ old
  read-kept z =
      let same : length old ≡ length new = omega arith in
      sym (take-length new) ∙ ap (λ (n : ℕ). take n new) (sym same) ∙ k

  abbrev before : State
  before = record { tables = t; input = old; out = out; place = p }

  pub read-some : 0 < more → Reads before (record { tables = t; input = new; out = out; place = taking_at p.lines })
  read-some z = record {
    got = got;
    some = λ o. record { empty = w; some = omega (arith, length_got); place = refl; bytes = read-follows; tables = refl; out = refl };
    none = λ o. absurd (true≢false (sym o));
  }

  pub read-none : more ≡ 0 → (q : State) → q.place ≡ over_at p.lines → q.out ≡ out ++ listed p.lines (book_of t) (lines_of new) → Reads before q
  unfolding to_list
  read-none z q o e = record {
    got = got;
    some = λ k. absurd (true≢false (sym (ap over o) ∙ k));
    none = λ k. record { empty = w; over = k; rest = rw (append-nil old, ← read-kept z) e };
  }

-- ---- the next turn

-- it can be taken after this one is printed
standing-printed : (q : State) → Ready q.place.lines q.tables → q.place.lines < most_lines → (waits q.place ≡ true → Waiting q.input)
    → Standing (after_print q)
standing-printed q r l w = record {
  stands = record { ready = r; room = omega (arith, unprinted-short q.place q.out); few = l };
  waiting = w;
  empty = unprinted-none q.place q.out;
}

module _ (s q : State) (w : Turned s q) where
  -- it takes at most a line
  pub lines-turned : over q.place ≡ false → q.place.lines ≤ s.place.lines + 1
  lines-turned o = go (waits s.place) refl
    where
      go : (b : Bool) → waits s.place ≡ b → q.place.lines ≤ s.place.lines + 1
      go false e = (w.steps e).lines
      go true e = omega (arith, ap (λ (p : Place). p.lines) ((w.reads e).some o).place)

  -- and unless it is over the next turn can be taken
  pub standing-turned : Standing s → s.place.lines + 1 < most_lines → over q.place ≡ false → Standing (after_print q)
  standing-turned g l o = go (waits s.place) refl
    where
      go : (b : Bool) → waits s.place ≡ b → Standing (after_print q)
      go false e =
          let z = w.steps e in
          standing-printed q (z.ready o) (omega (arith, z.lines)) z.waiting
      go true e =
          let r = (w.reads e).some o in
          standing-printed q (rw (r.place, r.tables) g.stands.ready) (omega (arith, ap (λ (p : Place). p.lines) r.place)) (λ k. absurd (true≢false (sym k ∙ ap waits r.place)))

-- the first turn can be taken
pub standing-start : (s : State) → Starts s → Sized s.tables → Standing s
unfolding index_of
standing-start s e z = record {
  stands = rw (e.place, e.out) (record {
    ready = record { sized = z; sound = λ q. absurd (omega arith) };
    room = omega arith;
    few = omega arith;
  });
  waiting = λ w. rw e.input (record { unended = refl; few = omega arith });
  empty = λ w. e.out;
}
