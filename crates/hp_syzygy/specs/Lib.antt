pub mod ChainLaws
pub mod ChainOrders
pub mod DividingTests
pub mod FrameLevels
pub mod MemberRanks
pub mod VariableTests
