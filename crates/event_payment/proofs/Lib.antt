pub mod PaymentLaws
