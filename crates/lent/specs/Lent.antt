-- The lent tables as a contract names them: by what they hold at one moment.
use Rattle.std.specs.Prelude.{◌≡◌, length}
use Rattle.rules.specs.Tables as rules
use Rattle.lent.specs.declared.Tables.{Tables}
use Rattle.lent.specs.declared.TablesMut.{TablesMut}

-- what tables lent to be read hold, as the tables of a book without holidays; with any, tables_with adds them
abbrev pub lent : Tables → rules.Tables
lent t = rules.three_tables t.header.now t.accounts.now t.journal.now

-- what tables lent to be written hold, likewise, at entry (`t.old`) or at exit (`t.new`)
abbrev pub lent_mut : TablesMut → rules.Tables
lent_mut t = rules.three_tables t.header.now t.accounts.now t.journal.now

-- the same three tables, of the same lengths, whatever they hold: what a call writes to them, its caller finds in the tables that it lent
abbrev pub SameTables : TablesMut → TablesMut → Type 0
SameTables t u =
    (t.header.ghost_name ≡ u.header.ghost_name)
    × (t.accounts.ghost_name ≡ u.accounts.ghost_name)
    × (t.journal.ghost_name ≡ u.journal.ghost_name)
    × (length u.header.now ≡ length t.header.now)
    × (length u.accounts.now ≡ length t.accounts.now)
    × (length u.journal.now ≡ length t.journal.now)
