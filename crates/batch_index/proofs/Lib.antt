pub mod SideLaws
pub mod SlotLaws
pub mod IndexLaws
pub mod MoneyLaws
pub mod KeptLaws
