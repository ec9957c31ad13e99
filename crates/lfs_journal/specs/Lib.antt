pub mod Book
pub mod Reading
pub mod Faults
pub mod Laws
pub mod HeadSeen
pub mod Joined
pub mod JointLaws
