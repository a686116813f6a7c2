mod LaterMembers
mod NextGenerator
mod NextNumbered
mod NextPower
mod GreatestDegree
