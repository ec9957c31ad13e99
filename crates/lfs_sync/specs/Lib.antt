pub mod Shown
pub mod Synced
pub mod SyncLaws
pub mod SyncRows
pub mod Planned
pub mod Sides
pub mod Merging
