pub mod HolidayLaws
