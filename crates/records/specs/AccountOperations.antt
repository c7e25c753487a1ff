-- An account's own operations (document 01, "Events"; document 02, Nos. 4 and 8): what each event makes of the account that it names.
use Rattle.std.specs.Prelude.{ℕ, ◌+◌, Bool, cond, leb}
use Rattle.lists.specs.Tests.{◌is◌}
use Rattle.records.specs.declared.Account.{Account}
use Rattle.records.specs.Codes.{state_open, state_pending, state_closed}
use Rattle.records.specs.Limits.{most_declines}
use Rattle.records.specs.Updates.{unused, with_state, with_request, with_returned, with_topup, with_declines, with_reserve, with_successor}

-- event 1: "Open: a threshold, b top-up amount"
abbrev pub opened : ℕ → ℕ → Account
opened threshold amount = with_topup threshold amount (with_state state_open unused)

-- event 4: "the count rises; a closed account becomes pending with its old request day"
unfoldable pub check_returned : Account → Account
check_returned x = with_returned (x.returned + 1) (cond (x.state is state_closed) (with_state state_pending x) x)

-- the next decline is the third: the reserve's, where there is one ("After the primary's second decline .., the next result concerns the
-- reserve", document 02, No. 4)
abbrev pub last_decline : Account → Bool
last_decline x = leb most_declines x.declines

-- all five words of the top-up 0: "the third clears all four words"; "A reserve that is declined removes both methods" (document 02, No. 4)
abbrev pub topup_removed : Account → Account
topup_removed x = with_reserve 0 (with_declines 0 0 (with_topup 0 0 x))

-- event 7: "Declined: count up, last decline today; the third clears all four words"
unfoldable pub declined_on : ℕ → Account → Account
declined_on today x = cond (last_decline x) (topup_removed x) (with_declines (x.declines + 1) today x)

-- event 7: "Paid: .. declines and last decline 0"; "A reserve that pays clears the declines and removes the primary, the reserve taking its
-- place" (document 02, No. 4)
abbrev pub topup_paid : Account → Account
topup_paid x = with_reserve (cond (last_decline x) 0 x.reserve) (with_declines 0 0 x)

-- event 8: "Close request: pending from today"
abbrev pub close_requested_on : ℕ → Account → Account
close_requested_on today x = with_request today (with_state state_pending x)

-- event 9: "each pending account .. closes"
abbrev pub closed : Account → Account
closed x = with_state state_closed x

-- event 11: "adds or removes a reserve" (document 02, No. 4)
abbrev pub reserve_set : ℕ → Account → Account
reserve_set reserve x = with_reserve reserve x

-- event 12: "names, for a closed account, a successor account" (document 02, No. 8)
abbrev pub successor_set : ℕ → Account → Account
successor_set successor x = with_successor successor x
