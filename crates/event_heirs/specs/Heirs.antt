-- An event as it is handed over: a toll of a closed account goes to its heir, if it has one.
use Rattle.rules.specs.Book.{Instruction, Answer}
use Rattle.rules.specs.Successors.{forwarded}
use Rattle.rules.specs.Tables.{Tables, book_of}
use Rattle.posting.specs.Posts.{Posts}

-- the event e, received on the sound tables t, gives the answer r and the tables u
abbrev pub Receives : Tables → Tables → Instruction → Answer → Type 0
Receives t u e r = Posts t u (forwarded (book_of t) e) r
