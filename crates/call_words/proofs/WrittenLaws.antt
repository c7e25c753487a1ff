-- Answers written one after the other: after each, the table holds the answers so far, and its other words are as before.
use mathlib.Core.Path.{◌≡◌, refl, sym, ap, ◌∙◌}
use Prim.Native.Nat.{ℕ, ◌+◌, ◌*◌, ◌≤◌}
use native.Mathlib.Omega.{arith}
use mathlib.Core.List.{List, [], ◌∷◌, ◌++◌, append_assoc, append-nil}
use lib.IntN.{ℤ}
use lib.ListN.{length, set, drop, length-append, length-drop}
use lib.Seq.{set_at, drop-drop}
use Rattle.records.specs.Layout.{answer_width}
use Rattle.records.specs.Encoding.{answer_words, write_all}
use Rattle.rules.specs.Book.{Answer}
use Rattle.call_rules.specs.Calls.{written}
use Rattle.tables.specs.Changes.{put_all}
use Rattle.call_words.specs.Answers.{AnswerIn}

-- ---- put_all

-- words put after p take the place of the first words of what follows it
put_all-after : (zs p rest : List ℤ) (n j : ℕ) → length p ≡ n + j → length zs ≤ length rest → put_all (p ++ rest) n j zs ≡ p ++ (zs ++ drop (length zs) rest)
unfolding put_all
put_all-after [] p rest n j l h = refl
put_all-after (z ∷ zs) p [] n j l h = absurd (omega arith)
put_all-after (z ∷ zs) p (y ∷ ys) n j l h =
    let a : set (p ++ (y ∷ ys)) (n + j) z ≡ (p ++ (z ∷ [])) ++ ys = set_at p y ys z (n + j) l ∙ sym (append_assoc p (z ∷ []) ys) in
    let m : length (p ++ (z ∷ [])) ≡ n + (j + 1) = length-append p (z ∷ []) ∙ omega arith in
    rw a (put_all-after zs (p ++ (z ∷ [])) ys n (j + 1) m (omega arith) ∙ append_assoc p (z ∷ []) (zs ++ drop (length zs) ys))

-- ---- write_all

length-answers : (xs : List Answer) → length (write_all answer_words xs) ≡ length xs * answer_width
unfolding write_all answer_words
length-answers [] = refl
length-answers (x ∷ xs) = omega (arith, length-answers xs)

answers-snoc : (xs : List Answer) (x : Answer) → write_all answer_words (xs ++ (x ∷ [])) ≡ write_all answer_words xs ++ answer_words x
unfolding write_all
answers-snoc [] x = append-nil (answer_words x)
answers-snoc (y ∷ xs) x = rw (answers-snoc xs x, append_assoc)

width : (x : Answer) → length (answer_words x) ≡ answer_width
unfolding answer_words
width x = refl

-- ---- written

pub written_none : (t : List ℤ) → written [] t ≡ t
unfolding written write_all
written_none t = refl

-- the next answer, put at its place
pub written_next : (xs : List Answer) (x : Answer) (t : List ℤ) → AnswerIn t (length xs)
    → put_all (written xs t) (length xs * answer_width) 0 (answer_words x) ≡ written (xs ++ (x ∷ [])) t
unfolding written
written_next xs x t h =
    let p : List ℤ = write_all answer_words xs in
    let rest : List ℤ = drop (length xs * answer_width) t in
    let n : length p ≡ length xs * answer_width + 0 = omega (arith, length-answers xs) in
    let w : length (answer_words x) ≤ length rest = omega (arith, width x, length-drop (length xs * answer_width) t) in
    let d : length xs * answer_width + answer_width ≡ length (xs ++ (x ∷ [])) * answer_width = omega (arith, length-append xs (x ∷ [])) in
    put_all-after (answer_words x) p rest (length xs * answer_width) 0 n w
    ∙ sym (append_assoc p (answer_words x) (drop (length (answer_words x)) rest))
    ∙ rw (← answers-snoc xs x, width x, drop-drop answer_width (length xs * answer_width) t, d)

-- the first answer of a table
pub written_one : (x : Answer) (t : List ℤ) → answer_width ≤ length t → put_all t 0 0 (answer_words x) ≡ written (x ∷ []) t
written_one x t h = ap (λ (u : List ℤ). put_all u 0 0 (answer_words x)) (sym (written_none t)) ∙ written_next [] x t h
