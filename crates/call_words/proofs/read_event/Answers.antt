-- `read_event` meets its contract: nine words, read in the layout's order.
use Rattle.records.specs.Encoding.{instruction_from}
use Rattle.call_words.proofs.read_event.Goals as goal

pub returns : goal.returns
unfolding instruction_from
returns c =
    rw (c.get.ensures, c.get-2.ensures, c.get-3.ensures, c.get-4.ensures, c.get-5.ensures)
    (rw (c.get-6.ensures, c.get-7.ensures, c.get-8.ensures, c.get-9.ensures))
