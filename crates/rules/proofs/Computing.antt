-- What unfolds for the definitions to compute, under one name: an example says `unfolding computing`, and proofs keep every
-- definition shut.
use Rattle.lists.specs.Tests
use Rattle.lists.specs.Lists
use Rattle.records.specs.AccountOperations
use Rattle.records.specs.Encoding
use Rattle.dates.specs.Gregorian
use Rattle.rules.specs.Schedule
use Rattle.rules.specs.ClassCases
use Rattle.rules.specs.RateLists
use Rattle.rules.specs.BusinessDays
use Rattle.rules.specs.Rows
use Rattle.rules.specs.Settlement
use Rattle.rules.specs.Book
use Rattle.rules.specs.Debtors
use Rattle.rules.specs.Successors
use Rattle.rules.specs.Events
use Rattle.rules.specs.Tick
use Rattle.rules.specs.Refusals
use Rattle.rules.specs.Posting
use Rattle.rules.specs.Opening
use Rattle.rules.specs.Soundness
use Rattle.rules.specs.Tables

unfoldable pub computing : Unit {0}
unfolding Tests.all_of Tests.first Lists.sum_by Lists.only Lists.count Lists.exists Lists.every_from Lists.change_from Lists.tabulate Lists.first_from Lists.gather_from AccountOperations.check_returned AccountOperations.declined_on Encoding.nat_of Encoding.word Encoding.account_from Encoding.row_from Encoding.instruction_of Encoding.instruction_from Encoding.account_words Encoding.row_words Encoding.answer_words Encoding.write_all Schedule.classes Schedule.class ClassCases.class_cases Schedule.rate Schedule.stage_fee Schedule.rates_fit Schedule.schedule_fits RateLists.last_begun RateLists.in_force RateLists.list_in_range RateLists.list_fits RateLists.lists_fit Debtors.counted_debt Debtors.debt_in Debtors.heavy_by Debtors.heavy Debtors.rows_read BusinessDays.saturday BusinessDays.sunday BusinessDays.holiday BusinessDays.business_day BusinessDays.holiday_fits BusinessDays.holidays_fit Rows.held Rows.fee_naming Rows.source_of Rows.debit_of Rows.payable Rows.payable_toll Rows.payable_rest Rows.held_debit Settlement.allocate Settlement.money Settlement.debt Settlement.moved Settlement.moved_to Settlement.pay Settlement.settle_rank Settlement.settle_ranks Settlement.settle Settlement.settle_accounts Settlement.used Settlement.paid Settlement.owed Settlement.held_debt Book.sources Book.debits Book.minus Book.balance Book.low_balance Book.topup_due Book.settled Successors.other_used Successors.has_heir Successors.toll_account Successors.forwarded Events.open_account Events.toll_rate Events.post_toll Events.post_payment Events.return_check Events.hold_from Events.hold_toll Events.release Events.reject Events.with_fees Events.uphold Events.decide Events.pay_topup Events.decline_topup Events.topup_result Events.request_close Events.add_list Events.set_reserve Events.set_successor Tick.next_day Tick.hold_ends Tick.end_hold Tick.end_holds Tick.before_raising Tick.rises Tick.raise Tick.fee_row Tick.raise_tolls Tick.raised_by Tick.closes Tick.close_if Tick.refund_row Tick.use_up Tick.close_accounts Tick.tick Refusals.change_of Refusals.after Refusals.open_form Refusals.toll_form Refusals.payment_form Refusals.return_form Refusals.dispute_form Refusals.decision_form Refusals.result_form Refusals.request_form Refusals.tick_form Refusals.list_form Refusals.reserve_form Refusals.successor_form Refusals.form_of Refusals.well_formed Refusals.list_refused Refusals.unknown Refusals.taken Refusals.on_closed Refusals.successor_refused Refusals.unclassed Refusals.misdated Refusals.duplicate Refusals.barred Refusals.no_row Refusals.untimely Refusals.reserve_refused Refusals.last_day Refusals.full Refusals.ceiling Refusals.refusals Refusals.answer_number Posting.removes_topup Posting.new_rows Posting.acceptance Posting.post Posting.book_after Posting.answers_to Opening.opening Opening.day_fits Opening.sizes_fit Soundness.kind_fits Soundness.most_of Soundness.amount_fits Soundness.settled_fits Soundness.mark_fits Soundness.toll_words_fit Soundness.no_reference Soundness.row_day_fits Soundness.due_within Soundness.hold_fits Soundness.account_used Soundness.names Soundness.reference_fits Soundness.passage Soundness.passage_once Soundness.fees_fit Soundness.row_sound Soundness.state_fits Soundness.unused_zero Soundness.request_fits Soundness.topup_fits Soundness.decline_fits Soundness.successor_fits Soundness.returned_of Soundness.returned_fits Soundness.used_is_paid Soundness.no_idle_money Soundness.closed_clear Soundness.account_sound Soundness.sound Tables.schedule_from Tables.rates_from Tables.first_list_in Tables.list_from Tables.lists_used Tables.lists_in Tables.book_of Tables.schedule_words Tables.rates_words Tables.list_words Tables.later_lists_words Tables.header_words Tables.tables_of Tables.whole_records Tables.lengths_fit Tables.used_fits Tables.zero_word Tables.later_rows_zero Tables.unused_lists_zero Tables.sound_tables Gregorian.leap Gregorian.month_days Gregorian.days_of_month Gregorian.date_in Gregorian.date_from Gregorian.date_of
computing = tt
