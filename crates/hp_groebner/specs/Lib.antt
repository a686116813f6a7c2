pub mod BasisEnds
pub mod KeptCofactors
pub mod LimitRules
pub mod NewPairs
pub mod PairQueues
pub mod Runs
