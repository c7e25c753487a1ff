-- `push_date` meets its contract: the pieces of the date, one after the other.
use Rattle.std.proofs.Common.{◌≡◌, List, ℕ, ◌++◌, ◌∷◌, [], ◌/◌, ◌%◌, ◌∙◌, append_assoc}
use Rattle.dates.specs.declared.Date.{Date}
use Rattle.decimal.specs.Decimal.{two_digits, text_of_date, date_text}
use Rattle.decimal.proofs.text.Text.push_date.Goals as goal

-- the pieces after a text are the date after it
pieces : (t : List ℕ) (d : Date)
    → ((((((t ++ two_digits (d.year / 100)) ++ two_digits (d.year % 100)) ++ (45 ∷ [])) ++ two_digits d.month) ++ (45 ∷ [])) ++ two_digits d.day)
    ≡ t ++ text_of_date d
unfolding text_of_date
pieces t d = simp append_assoc

pub returns-clause-text : goal.returns-clause-text
unfolding date_text
returns-clause-text g c =
    c.push_two-4.ensures.text
    ∙ rw (c.push-2.ensures.text, c.push_two-3.ensures.text, c.push.ensures.text, c.push_two-2.ensures.text, c.push_two.ensures.text)
    (pieces c.args.self.now c.date_of-date.result ∙ rw c.date_of-date.ensures)
