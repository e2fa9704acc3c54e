pub mod PrefixLaws
pub mod TableLaws
pub mod DigitsLaws
pub mod FrameLaws
pub mod AnswerLaws
