pub mod RowLaws
pub mod ReserveLaws
pub mod GrantLaws
