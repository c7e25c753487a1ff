-- The steps are the contracts of toll_ledger's functions: what a caller learns from each contract is a step, or an opening. The holidays,
-- lent to be read, are the same list at a call's entry and exit.
use mathlib.Core.Path.{refl}
use mathlib.Core.List.{[]}
use lib.IntN.{ℤ}
use contract.Lifetimes.{Lfts}
use denote.Triple.Clauses.{AtExit}
use borrow.Fn.Kinds.{Dens, ended_of}
use Rattle.rules.specs.Tables.{tables_at}
use Rattle.call_rules.specs.Calls.{Gives, open_call}
use Rattle.toll_ledger.proofs.toll_ledger_open.Kinds as open-kinds
use Rattle.toll_ledger.proofs.toll_ledger_open.Reads as open-reads
use Rattle.toll_ledger.proofs.toll_ledger_event.Kinds as event-kinds
use Rattle.toll_ledger.proofs.toll_ledger_event.Reads as event-reads
use Rattle.toll_ledger.proofs.toll_ledger_batch.Kinds as batch-kinds
use Rattle.toll_ledger.proofs.toll_ledger_batch.Reads as batch-reads
use Rattle.toll_ledger.proofs.toll_ledger_balance.Kinds as balance-kinds
use Rattle.toll_ledger.proofs.toll_ledger_balance.Reads as balance-reads
use Rattle.toll_ledger.proofs.toll_ledger_topup_due.Kinds as due-kinds
use Rattle.toll_ledger.proofs.toll_ledger_topup_due.Reads as due-reads
use Rattle.toll_ledger.proofs.toll_ledger_debtor.Kinds as debtor-kinds
use Rattle.toll_ledger.proofs.toll_ledger_debtor.Reads as debtor-reads
use Rattle.calls_replayed.specs.Runs.{Step, event-step, batch-step, balance-step, topup-due-step, debtor-step}

-- toll_ledger_open: the arguments a, the number n, the tables at exit e
pub open-contract : (κs : Lfts 5) (a : Dens κs open-kinds.ps) (n : ℤ) (e : AtExit (ended_of 5 open-kinds.ps open-kinds.r) κs) → open-reads.Learnt κs a n e
    → Gives (open_call (tables_at a.0.now a.1.0.now a.1.1.0.now a.1.1.1.0.now) a.1.1.1.1.0.now) n (tables_at e.0.now e.1.0.now e.1.1.0.now a.1.1.1.0.now) []
open-contract κs a n e g = g

-- toll_ledger_event
pub event-contract : (κs : Lfts 6) (a : Dens κs event-kinds.ps) (n : ℤ) (e : AtExit (ended_of 6 event-kinds.ps event-kinds.r) κs) → event-reads.Learnt κs a n e
    → Step (tables_at a.0.now a.1.0.now a.1.1.0.now a.1.1.1.0.now) (tables_at e.0.now e.1.0.now e.1.1.0.now a.1.1.1.0.now)
event-contract κs a n e g = event-step a.1.1.1.1.0.now a.1.1.1.1.1.0.now e.1.1.1.1.1.0.now n g

-- toll_ledger_batch
pub batch-contract : (κs : Lfts 6) (a : Dens κs batch-kinds.ps) (n : ℤ) (e : AtExit (ended_of 6 batch-kinds.ps batch-kinds.r) κs) → batch-reads.Learnt κs a n e
    → Step (tables_at a.0.now a.1.0.now a.1.1.0.now a.1.1.1.0.now) (tables_at e.0.now e.1.0.now e.1.1.0.now a.1.1.1.0.now)
batch-contract κs a n e g = batch-step a.1.1.1.1.0.now a.1.1.1.1.1.0.now e.1.1.1.1.1.0.now n g

-- toll_ledger_balance
pub balance-contract : (κs : Lfts 5) (a : Dens κs balance-kinds.ps) (n : ℤ) (e : AtExit (ended_of 5 balance-kinds.ps balance-kinds.r) κs)
    → balance-reads.Learnt κs a n e
    → Step (tables_at a.0.now a.1.0.now a.1.1.0.now a.1.1.1.0.now) (tables_at a.0.now a.1.0.now a.1.1.0.now a.1.1.1.0.now)
balance-contract κs a n e g = balance-step a.1.1.1.1.0 n e.1.1.1.1.1.0.now g refl

-- toll_ledger_topup_due
pub due-contract : (κs : Lfts 5) (a : Dens κs due-kinds.ps) (n : ℤ) (e : AtExit (ended_of 5 due-kinds.ps due-kinds.r) κs)
    → due-reads.Learnt κs a n e
    → Step (tables_at a.0.now a.1.0.now a.1.1.0.now a.1.1.1.0.now) (tables_at a.0.now a.1.0.now a.1.1.0.now a.1.1.1.0.now)
due-contract κs a n e g = topup-due-step a.1.1.1.1.0 n e.1.1.1.1.1.0.now g refl

-- toll_ledger_debtor
pub debtor-contract : (κs : Lfts 6) (a : Dens κs debtor-kinds.ps) (n : ℤ) (e : AtExit (ended_of 6 debtor-kinds.ps debtor-kinds.r) κs)
    → debtor-reads.Learnt κs a n e
    → Step (tables_at a.0.now a.1.0.now a.1.1.0.now a.1.1.1.0.now) (tables_at a.0.now a.1.0.now a.1.1.0.now a.1.1.1.0.now)
debtor-contract κs a n e g = debtor-step a.1.1.1.1.0 n e.1.1.1.1.1.0.now e.1.1.1.1.1.1.0.now g refl
