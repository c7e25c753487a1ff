-- The steps of the listing: waiting, a line that is too long, a whole line, the end of the input.
use mathlib.Core.Path.{◌≡◌, refl, sym, ◌∙◌}
use mathlib.Core.Bool.{Bool, true, false, not, cond, true≢false}
use Prim.Native.Nat.{ℕ, ◌+◌, ◌*◌, ◌≤◌, ◌<◌}
use native.Mathlib.Omega.{arith}
use mathlib.Core.List.{List, [], ◌∷◌, ◌++◌, append-nil}
use borrow.Author.Tests.{lt-ltb, le-ltb}
use lib.ListN.{length, take, drop}
use Rattle.std.specs.Prelude.{is_ok}
use Rattle.std.proofs.lemmas.Bool.{cases_lt}
use Rattle.std.proofs.Common.{inl, inr}
use Rattle.decimal.specs.Bytes.{index_of}
use Rattle.decimal.proofs.WritingLaws.{appended}
use Rattle.rules.specs.Book.{Book}
use Rattle.rules.specs.Tables.{Tables, accounts_in, room_in, rows_used, book_of}
use Rattle.rules.proofs.TableLaws.{used_le}
use Rattle.listing_rules.specs.Texts.{lines_of, book_text, bad_line}
use Rattle.listing_rules.specs.Listing.{is_good, book_by, good_text, listed}
use Rattle.listing_rules.specs.Sizes.{most_line_bytes, most_answer_bytes, most_row_bytes, most_account_bytes, book_names_bytes, most_book_bytes}
use Rattle.listing_rules.proofs.LineLaws.{lines-last}
use Rattle.listing_input.proofs.TakenLaws.{listed-line, line_taken, line-too-long}
use Rattle.listing_lines.specs.Lines.{Verdict, Ready, line_text, Taken}
use Rattle.listing_steps.specs.declared.Phase.{Phase}
use Rattle.listing_steps.specs.declared.Place.{Place}
use Rattle.listing_steps.specs.Steps.{is_waiting, is_over, Stands, to_list, waiting_at, over_at, Awaits, Stepped}

-- ---- a step

module _ (bytes : ℕ) (t : Tables) (i b : List ℕ) (p : Place) (s : Stands bytes t b p) where
  -- no whole line yet
  pub step-waits : index_of 10 i ≡ length i → length i ≤ most_line_bytes → Stepped t t i i b b p (waiting_at p)
  unfolding to_list
  step-waits e h = record {
    said = [];
    taken = 0;
    text = rw (append-nil b) refl;
    goes = λ more. refl;
    ready = λ q. s.ready;
    left = refl;
    within = omega arith;
    lines = omega arith;
    short = omega arith;
    takes = λ q z. absurd (true≢false z);
    waiting = λ q. record { unended = e; few = h };
    stays = λ q. (refl, refl);
    keeps = λ q. refl;
    silent = λ q. refl;
  }

  -- more bytes than a good line has
  pub step-long : (c : List ℕ) → index_of 10 i ≡ length i → most_line_bytes < length i → c ≡ b ++ bad_line (p.lines + 1)
      → length c ≤ length b + most_answer_bytes → Stepped t t i i b c p (over_at p.lines)
  unfolding to_list
  step-long c e h w l = record {
    said = bad_line (p.lines + 1);
    taken = 0;
    text = w;
    goes = λ more. line-too-long p.lines (book_of t) i more e h ∙ sym (append-nil (bad_line (p.lines + 1)));
    ready = λ q. absurd (true≢false q);
    left = refl;
    within = omega arith;
    lines = omega arith;
    short = l;
    takes = λ q z. absurd (true≢false q);
    waiting = λ q. absurd (true≢false (sym q));
    stays = λ q. absurd (true≢false (sym q));
    keeps = λ q. absurd (true≢false (sym q));
    silent = λ q. absurd (true≢false (sym q));
  }

  -- either of them
  pub step-awaits : (c : List ℕ) (q : Place) → index_of 10 i ≡ length i → Awaits i b c p.lines q → Stepped t t i i b c p q
  step-awaits c q e a = elim (cases_lt most_line_bytes (length i)) [
    | inl long ↦ rw (a.over long) (step-long c e long (a.text long) a.short)
    | inr few ↦ rw (a.waits few, a.silent few) (step-waits e few)
  ]

  -- a whole line, good or bad
  module _ (u : Tables) (c : List ℕ) (stop : ℕ) (r : Verdict) (e : stop ≡ index_of 10 i) (h : stop < length i)
      (w : Taken p.lines t u (take stop i) b c r) where
    abbrev after : Phase → Place
    after f = record { lines = p.lines + 1; phase = f }

    abbrev l : List ℕ
    l = take stop i

    abbrev j : List ℕ
    j = drop (stop + 1) i

    -- what was to be listed is the line's text, and the rest where the line is good
    line-goes : (f : Phase) → is_over f ≡ not (is_ok r) → (more : List ℕ)
        → to_list t i p more ≡ line_text p.lines (book_of t) l ++ cond (is_over f) [] (to_list u j (after f) more)
    unfolding to_list line_text
    line-goes f o more =
        line_taken p.lines (book_of t) i stop more e h
        ∙ rw (o, w.good) (go (is_good p.lines l) w.book)
      where
        go : (g : Bool) → (g ≡ true → book_of u ≡ book_by p.lines (book_of t) l)
            → cond g (good_text p.lines (book_of t) l ++ listed (p.lines + 1) (book_by p.lines (book_of t) l) (lines_of (j ++ more))) (bad_line (p.lines + 1))
            ≡ cond g (good_text p.lines (book_of t) l) (bad_line (p.lines + 1)) ++ cond (not g) [] (listed (p.lines + 1) (book_of u) (lines_of (j ++ more)))
        go true k = rw (k refl) refl
        go false k = sym (append-nil (bad_line (p.lines + 1)))

    good_of : (f : Phase) → is_over f ≡ not (is_ok r) → is_over f ≡ false → is_good p.lines l ≡ true
    good_of f o q = sym w.good ∙ go (is_ok r) (sym o ∙ q)
      where
        go : (g : Bool) → not g ≡ false → g ≡ true
        go true z = refl
        go false z = absurd (true≢false z)

    pub step_line : (f : Phase) → is_over f ≡ not (is_ok r) → is_waiting f ≡ false → Stepped t u i j b c p (after f)
    step_line f o n = record {
      said = line_text p.lines (book_of t) l;
      taken = stop + 1;
      text = w.text;
      goes = line-goes f o;
      ready = λ q. w.ready (good_of f o q);
      left = refl;
      within = omega arith;
      lines = omega arith;
      short = w.short;
      takes = λ q z. (omega arith, refl);
      waiting = λ q. absurd (true≢false (sym q ∙ n));
      stays = λ q. absurd (true≢false (sym q ∙ n));
      keeps = λ q. absurd (true≢false (sym q ∙ n));
      silent = λ q. absurd (true≢false (sym q ∙ n));
    }

-- ---- the end of the input

-- a line of 1 to 3 is missing
pub end-missing : (n : ℕ) (b : Book) → n < 3 → bad_line (n + 1) ≡ listed n b []
unfolding listed
end-missing n b h = rw (lt-ltb n 3 h) refl

-- the book
pub end-book : (n : ℕ) (b : Book) → 3 ≤ n → book_text b ≡ listed n b []
unfolding listed
end-book n b h = rw (le-ltb n 3 h) refl

-- its rows and accounts have room
pub end-room : (n : ℕ) (t : Tables) (size bytes : ℕ) → Ready n t → 3 ≤ n → size + most_book_bytes ≤ bytes
    → size + book_names_bytes + rows_used t * most_row_bytes + accounts_in t * most_account_bytes ≤ bytes
end-room n t size bytes r h k =
    let a : accounts_in t ≡ 64 = rw r.sized.accounts refl in
    let j : room_in t ≡ 512 = rw r.sized.journal refl in
    omega (arith, used_le t (r.sound (omega arith)))

-- nothing is left
pub rest-none : (n : ℕ) (b : Book) (rest : List ℕ) → length rest ≡ 0 → listed n b [] ≡ listed n b (lines_of rest)
unfolding lines_of
rest-none n b [] e = refl
rest-none n b (x ∷ rest) e = absurd (omega arith)

-- the bytes that are left are the last line
module _ (n : ℕ) (t u : Tables) (rest b c : List ℕ) (r : Verdict) (w : Taken n t u rest b c r) (e : index_of 10 rest ≡ length rest) (h : 0 < length rest) where
  last_line : listed n (book_of t) (lines_of rest) ≡ cond (is_good n rest) (good_text n (book_of t) rest ++ listed (n + 1) (book_by n (book_of t) rest) []) (bad_line (n + 1))
  last_line = listed-line n (book_of t) rest (lines_of rest) [] (lines-last rest e h)

  -- it is bad
  pub rest-bad : is_ok r ≡ false → c ≡ b ++ listed n (book_of t) (lines_of rest)
  unfolding line_text
  rest-bad g =
      let k : is_good n rest ≡ false = sym w.good ∙ g in
      rw (last_line, k) (rw k at w.text)

  -- it is good, and then the end comes
  module _ (g : is_ok r ≡ true) where
    good-rest : is_good n rest ≡ true
    good-rest = sym w.good ∙ g

    pub rest-ready : Ready (n + 1) u
    rest-ready = w.ready good-rest

    pub rest-good : (d : List ℕ) → d ≡ c ++ listed (n + 1) (book_of u) [] → d ≡ b ++ listed n (book_of t) (lines_of rest)
    unfolding line_text
    rest-good d q =
        rw (last_line, good-rest, ← w.book good-rest) (appended b c d _ _ (rw good-rest at w.text) q)
