pub mod Borrows
pub mod DigitWords
pub mod GrevlexLaws
pub mod GrevlexRanks
pub mod MonomialLaws
pub mod TermLaws
