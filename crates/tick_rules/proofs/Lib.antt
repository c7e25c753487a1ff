pub mod KeptLaws
pub mod FreedLaws
pub mod RisingLaws
pub mod LateLaws
pub mod RefundLaws
pub mod QuietLaws
pub mod CountLaws
pub mod UnclosedLaws
