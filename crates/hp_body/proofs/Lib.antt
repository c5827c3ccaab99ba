pub mod Found
pub mod Only
pub mod Finish
pub mod BodyFound
pub mod BodyOnly
pub mod BodyFinish
