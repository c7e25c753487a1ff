pub mod CallLaws
pub mod OpenCallLaws
pub mod CallsKept
pub mod HolidaysStay
pub mod CallComputing
pub mod CallExamples
pub mod CallBorders
