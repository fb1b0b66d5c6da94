pub mod Denominators
pub mod PointTaking
pub mod Taking
pub mod steps
