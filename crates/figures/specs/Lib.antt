pub mod Curve
pub mod Greatest
pub mod Portions
pub mod Power
pub mod Root
pub mod Share
