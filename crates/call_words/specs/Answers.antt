-- What an answer needs of its table: five words, and each word a number that it can hold.
use Rattle.std.specs.Prelude.{ℕ, ◌+◌, ◌*◌, ◌^◌, ◌≤◌, ◌<◌, List, ℤ, length}
use Rattle.records.specs.Layout.{answer_width}
use Rattle.rules.specs.Book.{Answer}

-- the table has an answer i, counted from 0
abbrev pub AnswerIn : List ℤ → ℕ → Type 0
AnswerIn t i = i * answer_width + answer_width ≤ length t

pub record StorableAnswer (x : Answer) : Type 0 where
  pub number : x.number < 2 ^ 63
  pub first : x.first < 2 ^ 63
  pub added : x.added < 2 ^ 63
  pub raised : x.raised < 2 ^ 63
  pub removed : x.removed < 2 ^ 63
