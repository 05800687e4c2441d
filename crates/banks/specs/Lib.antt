pub mod Rows
pub mod Kinds
pub mod Joined
pub mod PlotBankLemmas
