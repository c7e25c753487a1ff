pub mod TopupResult
