-- The turns of the program together: what a run says is the listing of its input, and it ends when the input does.
use mathlib.Core.Path.{◌≡◌, refl, sym, ap, ◌∙◌}
use mathlib.Core.Bool.{Bool, true, false, cond, true≢false}
use Prim.Native.Nat.{ℕ, ◌+◌, ◌*◌, ◌≤◌, ◌<◌}
use native.Mathlib.Omega.{arith}
use mathlib.Core.List.{List, [], ◌∷◌, ◌++◌, append-nil, append_assoc}
use lib.ListN.{length, length-append, length-drop}
use Rattle.rules.specs.Book.{Book}
use Rattle.rules.specs.Tables.{book_of}
use Rattle.listing_rules.specs.Texts.{lines_of}
use Rattle.listing_rules.specs.Listing.{book_by, good_text, listed, listing}
use Rattle.listing_lines.specs.Lines.{Sized}
use Rattle.listing_steps.specs.declared.Place.{Place}
use Rattle.listing_steps.specs.Steps.{waits, over, to_list}
use Rattle.listing.specs.declared.Ending.{Ending}
use Rattle.listing.specs.declared.Ending.TheVariants.{Listed, Unended}
use Rattle.listing.specs.Turns.{State, Starts, Standing, Gets, Ends, Steps, Turned}
use Rattle.listing.specs.Turns.{due, handed, unprinted, after_print}
use Rattle.listing.specs.Runs.{most_turns, turns_per_byte, Run, begins, steps, reads, ends, Going, Ran}
use Rattle.listing.proofs.TurnLaws.{due-over, standing-start, standing-turned, lines-turned}

-- ---- listed

-- no line before line 3 looks at the book
listed-second : (b c : Book) (ls : List (List ℕ)) → listed 1 b ls ≡ listed 1 c ls
unfolding listed good_text book_by
listed-second b c [] = refl
listed-second b c (l ∷ ls) = refl

pub listed_start : (b c : Book) (ls : List (List ℕ)) → listed 0 b ls ≡ listed 0 c ls
unfolding listed good_text book_by
listed_start b c [] = refl
listed_start b c (l ∷ ls) = rw (listed-second b c ls) refl

-- ---- what a run says

-- unless it is over, what is listed is what is said, what is written and not yet printed, and what is left to list; at the end it is what
-- is said
pub record Tells (input : List ℕ) (s : State) (left said : List ℕ) : Type 0 where
  pub on : over s.place ≡ false → listing input ≡ said ++ (s.out ++ to_list s.tables s.input s.place left)
  pub off : over s.place ≡ true → listing input ≡ said

-- printing moves what is written to what is said
said-printed : (said rest : List ℕ) (q : State)
    → said ++ (q.out ++ rest) ≡ (said ++ handed q) ++ (unprinted q.place q.out ++ rest)
unfolding handed unprinted
said-printed said rest q = go (due q.place q.out)
  where
    go : (b : Bool) → said ++ (q.out ++ rest) ≡ (said ++ cond b q.out []) ++ (cond b [] q.out ++ rest)
    go true = sym (append_assoc said q.out rest)
    go false = rw (append-nil said) refl

-- at the end all of it
said-over : (said : List ℕ) (q : State) → over q.place ≡ true → said ++ (q.out ++ []) ≡ said ++ handed q
unfolding handed
said-over said q o =
    ap (λ (l : List ℕ). said ++ l) (append-nil q.out) ∙ ap (λ (b : Bool). said ++ cond b q.out []) (sym (due-over q.place q.out o))

-- after a turn
tells-printed : (input : List ℕ) (q : State) (left said : List ℕ)
    → listing input ≡ said ++ (q.out ++ cond (over q.place) [] (to_list q.tables q.input q.place left))
    → Tells input (after_print q) left (said ++ handed q)
tells-printed input q left said e =
    let l = to_list q.tables q.input q.place left in
    let f : (b : Bool) → over q.place ≡ b → listing input ≡ said ++ (q.out ++ cond b [] l) =
    λ b z. e ∙ ap (λ (o : Bool). said ++ (q.out ++ cond o [] l)) z in
    record {
      on = λ o. f false o ∙ said-printed said l q;
      off = λ o. f true o ∙ said-over said q o;
    }

-- what is written and what is left to list, before a turn and after it
abbrev before : State → List ℕ → List ℕ
before s left = s.out ++ to_list s.tables s.input s.place left

abbrev after : State → List ℕ → List ℕ
after q left = q.out ++ cond (over q.place) [] (to_list q.tables q.input q.place left)

goes-start : (input : List ℕ) (s : State) → Starts s → listing input ≡ before s input
unfolding listing to_list
goes-start input s e = rw (e.place, e.input, e.out) (listed_start _ (book_of s.tables) (lines_of input))

goes_step : (s q : State) (left : List ℕ) → Steps s q → before s left ≡ after q left
goes_step s q left z = rw (z.goes left, z.text, append_assoc) refl

goes-read : (s q : State) (got left : List ℕ) → Gets s q got → before s (got ++ left) ≡ after q left
unfolding to_list
goes-read s q got left z = rw (z.out, z.place, z.tables, z.bytes, append_assoc s.input got left) refl

goes_end : (s q : State) → Ends s q → before s [] ≡ after q []
goes_end s q z = rw (z.rest, z.over) (sym (append-nil (before s [])))

pub tells-run : {input : List ℕ} {n : ℕ} {s : State} {left said : List ℕ} → Run input n s left said → Tells input s left said
tells-run {input} (begins {s} e) = record {
  on = λ o. goes-start input s e;
  off = λ o. absurd (true≢false (sym o ∙ ap over e.place));
}
tells-run {input} (steps {n} {s} q {left} {said} r o e z) =
    tells-printed input q left said ((tells-run r).on o ∙ ap (λ (l : List ℕ). said ++ l) (goes_step s q left z))
tells-run {input} (reads {n} {s} q got left {said} r o e z) =
    tells-printed input q left said ((tells-run r).on o ∙ ap (λ (l : List ℕ). said ++ l) (goes-read s q got left z))
tells-run {input} (ends {n} {s} q {said} r o e z) =
    tells-printed input q [] said ((tells-run r).on o ∙ ap (λ (l : List ℕ). said ++ l) (goes_end s q z))

-- "prints event answers, rows, used accounts": a run that is over has said the listing of its input, in whatever parts it came
pub run-listing : {input : List ℕ} {n : ℕ} {s : State} {left said : List ℕ} → Run input n s left said
    → over s.place ≡ true → said ≡ listing input
run-listing r o = sym ((tells-run r).off o)

-- ---- how long a run is

-- 1 where it waits
abbrev one : Bool → ℕ
one b = cond b 1 0

one-le : (b : Bool) → one b ≤ 1
one-le true = omega arith
one-le false = omega arith

-- each turn takes a byte of what is left or is read, but for one that waits before the next read
count-run : {input : List ℕ} {n : ℕ} {s : State} {left said : List ℕ} → Run input n s left said → over s.place ≡ false
    → turns_per_byte * length left + n + length s.input + 1 ≤ turns_per_byte * length input + one (waits s.place)
count-run {input} (begins {s} e) h = rw (e.place, e.input) (omega arith)
count-run {input} (steps {n} {s} q {left} {said} r o e z) h = go (waits q.place) refl (count-run r o)
  where
    go : (b : Bool) → waits q.place ≡ b
        → turns_per_byte * length left + n + length s.input + 1 ≤ turns_per_byte * length input + one (waits s.place)
        → turns_per_byte * length left + (n + 1) + length q.input + 1 ≤ turns_per_byte * length input + one b
    go false k ih = omega (arith, ih, ap one e, (z.takes h k).0, ap length z.left, length-drop z.taken s.input, z.within)
    go true k ih = omega (arith, ih, ap one e, ap length (z.stays k).1)
count-run {input} (reads {n} {s} q got left {said} r o e z) h =
    rw z.place (omega (arith, count-run r o, ap one e, length-append got left, ap length z.bytes, length-append s.input got, z.some))
count-run {input} (ends {n} {s} q {said} r o e z) h = absurd (true≢false (sym z.over ∙ h))

-- a run that is not over has read a byte for every three turns
pub run-turns : {input : List ℕ} {n : ℕ} {s : State} {left said : List ℕ} → Run input n s left said → over s.place ≡ false
    → n + turns_per_byte * length left ≤ turns_per_byte * length input
run-turns {s = s} r o = omega (arith, count-run r o, one-le (waits s.place))

-- so it is over before its turns are used up, unless the input has a third as many bytes
pub run_ends : {input : List ℕ} {s : State} {left said : List ℕ} → Run input most_turns s left said
    → turns_per_byte * length input < most_turns → over s.place ≡ true
run_ends {s = s} r h = go (over s.place) refl
  where
    go : (b : Bool) → over s.place ≡ b → over s.place ≡ true
    go true o = o
    go false o = absurd (omega (arith, run-turns r o))

-- ---- the program's loop

-- before a turn of it, so many turns are taken
pub record Looping (s : State) (taken : ℕ) : Type 0 where
  pub standing : Standing s
  pub on : over s.place ≡ false
  pub lines : s.place.lines ≤ taken
  pub going : Going s taken

-- it has begun
pub going_start : (s : State) → Starts s → Going s 0
going_start s e = record { got = []; said = []; run = λ more. begins e }

module _ (s q : State) (n : ℕ) (g : Going s n) (o : over s.place ≡ false) (w : Turned s q) where
  -- one turn more
  pub going-turned : over q.place ≡ false → Going (after_print q) (n + 1)
  going-turned z = go (waits s.place) refl
    where
      go : (b : Bool) → waits s.place ≡ b → Going (after_print q) (n + 1)
      go false e = record { got = g.got; said = g.said ++ handed q; run = λ more. steps q (g.run more) o e (w.steps e) }
      go true e =
          let r = w.reads e in
          record {
            got = g.got ++ r.got;
            said = g.said ++ handed q;
            run = λ more.
                let h : Run ((g.got ++ r.got) ++ more) n s (r.got ++ more) g.said = rw (append_assoc g.got r.got more) (g.run (r.got ++ more)) in
                reads q r.got more h o e (r.some z);
          }

  -- the program ends after it
  pub ran-turned : (r : Ending) → (r ≡ Listed → over q.place ≡ true) → (r ≡ Unended → ⊥) → Ran (after_print q) r
  ran-turned r l u = go (over q.place) (waits s.place) refl refl
    where
      ran : (got said : List ℕ) → Run got (n + 1) (after_print q) [] said → Ran (after_print q) r
      ran got said k = record {
        turns = n + 1;
        got = got;
        said = said;
        run = k;
        listed = l;
        unended = λ e. absurd (u e);
      }

      go : (b w : Bool) → over q.place ≡ b → waits s.place ≡ w → Ran (after_print q) r
      go false v z e = let k = going-turned z in ran (k.got ++ []) k.said (k.run [])
      go true false z e = ran (g.got ++ []) (g.said ++ handed q) (steps q (g.run []) o e (w.steps e))
      go true true z e = ran (g.got ++ []) (g.said ++ handed q) (ends q (g.run []) o e ((w.reads e).none z))

pub looping-start : (s : State) → Starts s → Sized s.tables → Looping s 0
looping-start s e z = record {
  standing = standing-start s e z;
  on = ap over e.place;
  lines = omega (arith, ap (λ (p : Place). p.lines) e.place);
  going = going_start s e;
}

pub looping-turned : (s q : State) (taken : ℕ) → Looping s taken → taken < most_turns → Turned s q → over q.place ≡ false
    → Looping (after_print q) (taken + 1)
looping-turned s q taken l h w o = record {
  standing = standing-turned s q w l.standing (omega (arith, l.lines)) o;
  on = o;
  lines = omega (arith, l.lines, lines-turned s q w o);
  going = going-turned s q taken l.going l.on w o;
}

-- it ends after a turn
pub ran-loop : (s q : State) (taken : ℕ) (r : Ending) → Looping s taken → Turned s q → (r ≡ Listed → over q.place ≡ true) → (r ≡ Unended → ⊥)
    → Ran (after_print q) r
ran-loop s q taken r l w = ran-turned s q taken l.going l.on w r

-- its turns are used up
pub ran-unended : (s : State) → Looping s most_turns → Ran s Unended
ran-unended s l = record {
  turns = most_turns;
  got = l.going.got ++ [];
  said = l.going.said;
  run = l.going.run [];
  listed = λ z. absurd (cc);
  unended = λ z. (refl, l.on);
}

-- where it ends because the listing is over, it has handed the listing of what it got to be printed
pub ran-listing : (s : State) (r : Ran s Listed) → r.said ≡ listing r.got
ran-listing s r = run-listing r.run (r.listed refl)

-- where its turns are used up, it has got a third as many bytes
pub ran-long : (s : State) (r : Ran s Unended) → most_turns ≤ turns_per_byte * length r.got
ran-long s r = let u = r.unended refl in omega (arith, run-turns r.run u.1, u.0)
