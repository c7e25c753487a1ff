-- A claim for every kind of event: one case for each of them, and one for every other number.
use Prim.Native.Nat.{ℕ, zero, suc}
use Rattle.records.specs.Codes.{event_open, event_toll, event_payment, event_returned_check, event_dispute, event_decision, event_topup_result, event_close_request, event_tick, event_rate_list, event_reserve, event_successor}

-- the cases of a claim P about a kind
pub record ByKind (P : ℕ → Type 0) : Type 0 where
  pub opened : P event_open
  pub toll : P event_toll
  pub payment : P event_payment
  pub returned-check : P event_returned_check
  pub dispute : P event_dispute
  pub decision : P event_decision
  pub topup-result : P event_topup_result
  pub close-request : P event_close_request
  pub tick : P event_tick
  pub rate-list : P event_rate_list
  pub reserve : P event_reserve
  pub successor : P event_successor
  pub none : P 0
  pub past : (k : ℕ) → P (suc (suc (suc (suc (suc (suc (suc (suc (suc (suc (suc (suc (suc k)))))))))))))

pub by_kind : (P : ℕ → Type 0) → ByKind P → (k : ℕ) → P k
by_kind P c zero = c.none
by_kind P c (suc zero) = c.opened
by_kind P c (suc (suc zero)) = c.toll
by_kind P c (suc (suc (suc zero))) = c.payment
by_kind P c (suc (suc (suc (suc zero)))) = c.returned-check
by_kind P c (suc (suc (suc (suc (suc zero))))) = c.dispute
by_kind P c (suc (suc (suc (suc (suc (suc zero)))))) = c.decision
by_kind P c (suc (suc (suc (suc (suc (suc (suc zero))))))) = c.topup-result
by_kind P c (suc (suc (suc (suc (suc (suc (suc (suc zero)))))))) = c.close-request
by_kind P c (suc (suc (suc (suc (suc (suc (suc (suc (suc zero))))))))) = c.tick
by_kind P c (suc (suc (suc (suc (suc (suc (suc (suc (suc (suc zero)))))))))) = c.rate-list
by_kind P c (suc (suc (suc (suc (suc (suc (suc (suc (suc (suc (suc zero))))))))))) = c.reserve
by_kind P c (suc (suc (suc (suc (suc (suc (suc (suc (suc (suc (suc (suc zero)))))))))))) = c.successor
by_kind P c (suc (suc (suc (suc (suc (suc (suc (suc (suc (suc (suc (suc (suc k))))))))))))) = c.past k
