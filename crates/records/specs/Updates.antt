-- A row, an account and an instruction with one field changed: with their reading and writing (Encoding), the only definitions that list
-- all the fields of one.
use Rattle.std.specs.Prelude.{ℕ}
use Rattle.records.specs.declared.Row.{Row}
use Rattle.records.specs.declared.Account.{Account}
use Rattle.records.specs.declared.Instruction.{Instruction}

-- ---- rows

-- kind 0, empty: the row where the journal has none
abbrev pub blank : Row
blank = record { kind = 0; account = 0; day = 0; amount = 0; settled = 0; mark = 0; due = 0; dispute = 0; hold = 0; reference = 0 }

-- "New rows carry today and start unsettled": kind, account, day and amount; "words without a use in a kind are 0"
abbrev pub new_row : ℕ → ℕ → ℕ → ℕ → Row
new_row k a d n =
    record { kind = k; account = a; day = d; amount = n; settled = 0; mark = 0; due = 0; dispute = 0; hold = 0; reference = 0 }

abbrev pub with_settled : ℕ → Row → Row
with_settled v r = record {
  kind = r.kind;
  account = r.account;
  day = r.day;
  amount = r.amount;
  settled = v;
  mark = r.mark;
  due = r.due;
  dispute = r.dispute;
  hold = r.hold;
  reference = r.reference;
}

abbrev pub with_mark : ℕ → Row → Row
with_mark v r = record {
  kind = r.kind;
  account = r.account;
  day = r.day;
  amount = r.amount;
  settled = r.settled;
  mark = v;
  due = r.due;
  dispute = r.dispute;
  hold = r.hold;
  reference = r.reference;
}

abbrev pub with_due : ℕ → Row → Row
with_due v r = record {
  kind = r.kind;
  account = r.account;
  day = r.day;
  amount = r.amount;
  settled = r.settled;
  mark = r.mark;
  due = v;
  dispute = r.dispute;
  hold = r.hold;
  reference = r.reference;
}

abbrev pub with_dispute : ℕ → Row → Row
with_dispute v r = record {
  kind = r.kind;
  account = r.account;
  day = r.day;
  amount = r.amount;
  settled = r.settled;
  mark = r.mark;
  due = r.due;
  dispute = v;
  hold = r.hold;
  reference = r.reference;
}

abbrev pub with_hold_start : ℕ → Row → Row
with_hold_start v r = record {
  kind = r.kind;
  account = r.account;
  day = r.day;
  amount = r.amount;
  settled = r.settled;
  mark = r.mark;
  due = r.due;
  dispute = r.dispute;
  hold = v;
  reference = r.reference;
}

abbrev pub with_reference : ℕ → Row → Row
with_reference v r = record {
  kind = r.kind;
  account = r.account;
  day = r.day;
  amount = r.amount;
  settled = r.settled;
  mark = r.mark;
  due = r.due;
  dispute = r.dispute;
  hold = r.hold;
  reference = v;
}

-- ---- accounts

-- "unused accounts are all 0"
abbrev pub unused : Account
unused =
    record { state = 0; request = 0; returned = 0; threshold = 0; topup = 0; declines = 0; declined = 0; reserve = 0; successor = 0 }

abbrev pub with_state : ℕ → Account → Account
with_state v x = record {
  state = v;
  request = x.request;
  returned = x.returned;
  threshold = x.threshold;
  topup = x.topup;
  declines = x.declines;
  declined = x.declined;
  reserve = x.reserve;
  successor = x.successor;
}

abbrev pub with_request : ℕ → Account → Account
with_request v x = record {
  state = x.state;
  request = v;
  returned = x.returned;
  threshold = x.threshold;
  topup = x.topup;
  declines = x.declines;
  declined = x.declined;
  reserve = x.reserve;
  successor = x.successor;
}

abbrev pub with_returned : ℕ → Account → Account
with_returned v x = record {
  state = x.state;
  request = x.request;
  returned = v;
  threshold = x.threshold;
  topup = x.topup;
  declines = x.declines;
  declined = x.declined;
  reserve = x.reserve;
  successor = x.successor;
}

abbrev pub with_topup : ℕ → ℕ → Account → Account
with_topup t n x = record {
  state = x.state;
  request = x.request;
  returned = x.returned;
  threshold = t;
  topup = n;
  declines = x.declines;
  declined = x.declined;
  reserve = x.reserve;
  successor = x.successor;
}

abbrev pub with_declines : ℕ → ℕ → Account → Account
with_declines n d x = record {
  state = x.state;
  request = x.request;
  returned = x.returned;
  threshold = x.threshold;
  topup = x.topup;
  declines = n;
  declined = d;
  reserve = x.reserve;
  successor = x.successor;
}

abbrev pub with_reserve : ℕ → Account → Account
with_reserve v x = record {
  state = x.state;
  request = x.request;
  returned = x.returned;
  threshold = x.threshold;
  topup = x.topup;
  declines = x.declines;
  declined = x.declined;
  reserve = v;
  successor = x.successor;
}

abbrev pub with_successor : ℕ → Account → Account
with_successor v x = record {
  state = x.state;
  request = x.request;
  returned = x.returned;
  threshold = x.threshold;
  topup = x.topup;
  declines = x.declines;
  declined = x.declined;
  reserve = x.reserve;
  successor = v;
}

-- ---- instructions

-- the instruction with another kind: at a known kind, tests on the kind compute
abbrev pub of_kind : ℕ → Instruction → Instruction
of_kind k e = record { kind = k; account = e.account; a = e.a; b = e.b; c = e.c; d = e.d; e = e.e; f = e.f; g = e.g }

-- the instruction on another account
abbrev pub on_account : ℕ → Instruction → Instruction
on_account n e = record { kind = e.kind; account = n; a = e.a; b = e.b; c = e.c; d = e.d; e = e.e; f = e.f; g = e.g }

-- the instruction with another word a, which for some kinds names a row
abbrev pub on_row : ℕ → Instruction → Instruction
on_row n e = record { kind = e.kind; account = e.account; a = n; b = e.b; c = e.c; d = e.d; e = e.e; f = e.f; g = e.g }
