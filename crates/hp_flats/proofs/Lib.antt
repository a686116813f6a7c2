pub mod ClassValues
pub mod ConeKernels
pub mod CoverPuts
pub mod CoverSteps
pub mod CutKernels
pub mod RankLevels
pub mod Spans
pub mod ValuePoints
