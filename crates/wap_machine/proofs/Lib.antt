pub mod Rows
pub mod Ready
pub mod Operands
pub mod Doing
pub mod Weighing
pub mod CallLaws
pub mod HostLaws
pub mod StepLaws
pub mod GoingLaws
pub mod RunsLaws
pub mod BoundedLaws
mod RoundLaws
