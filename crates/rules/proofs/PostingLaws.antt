-- Laws of posting: a refused event leaves the book as it was and the other answer words 0, for every refusal.
use mathlib.Core.Path.{◌≡◌, refl, sym, ap, ◌∙◌}
use mathlib.Core.Bool.{Bool, true, false}
use Prim.Native.Nat.{suc}
use mathlib.Core.List.{List, [], ◌∷◌, ◌++◌}
use lib.ListN.{length}
use lib.Dec.{eqb}
use Rattle.rules.specs.Book.{Instruction, Book}
use Rattle.rules.specs.Refusals.{answer_number, after}
use Rattle.rules.specs.Posting.{acceptance, refusal_by, post, receive, book_after, answers_to}

-- ---- post

pub post-refused : (b : Book) (e : Instruction) → eqb (answer_number b e) 0 ≡ false → post b e ≡ record { answer = refusal_by (answer_number b e); book = b }
unfolding post
post-refused b e q = rw q

pub post-accepted : (b : Book) (e : Instruction) → eqb (answer_number b e) 0 ≡ true → post b e ≡ record { answer = acceptance b e; book = after b e }
unfolding post
post-accepted b e q = rw q

-- the answer's number is 0 exactly where the event is accepted
pub post-number : (b : Book) (e : Instruction) → eqb (post b e).answer.number 0 ≡ eqb (answer_number b e) 0
unfolding post acceptance
post-number b e = go (eqb (answer_number b e) 0) refl
  where
    go : (v : Bool) → eqb (answer_number b e) 0 ≡ v → eqb (post b e).answer.number 0 ≡ v
    go true q = rw q
    go false q = rw q q

-- an answer with a number other than 0 has no other word
pub post-number-alone : (b : Book) (e : Instruction) → eqb (post b e).answer.number 0 ≡ false → (post b e).answer ≡ refusal_by (post b e).answer.number
post-number-alone b e q = let r = post-refused b e (sym (post-number b e) ∙ q) in rw r

-- ---- book_after and answers_to: events in order are events one by one

pub book_after-append : (b : Book) (es fs : List Instruction) → book_after b (es ++ fs) ≡ book_after (book_after b es) fs
unfolding book_after
book_after-append b [] fs = refl
book_after-append b (e ∷ es) fs = book_after-append (receive b e).book es fs

pub answers_to-append : (b : Book) (es fs : List Instruction) → answers_to b (es ++ fs) ≡ answers_to b es ++ answers_to (book_after b es) fs
unfolding book_after answers_to
answers_to-append b [] fs = refl
answers_to-append b (e ∷ es) fs = rw (answers_to-append (receive b e).book es fs)

pub length-answers_to : (b : Book) (es : List Instruction) → length (answers_to b es) ≡ length es
unfolding answers_to
length-answers_to b [] = refl
length-answers_to b (e ∷ es) = ap suc (length-answers_to (receive b e).book es)
