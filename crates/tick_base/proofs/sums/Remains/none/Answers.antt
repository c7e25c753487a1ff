-- `sums::Remains::none` meets its contract.
use Rattle.account_sums.specs.Tallies.{money_of, owed_of}
use Rattle.account_sums.proofs.TallyLaws.{tallied-none}
use Rattle.records.specs.Limits.{slot_count}
use Rattle.tick_base.proofs.sums.Remains.none.Goals as goal

pub returns : goal.returns
returns c = λ t. record { moneys = tallied-none money_of slot_count t; owings = tallied-none owed_of slot_count t }
