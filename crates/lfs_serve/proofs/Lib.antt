pub mod StepLemmas
pub mod HostFolderLemmas
pub mod BatchingLemmas
pub mod RepackingLemmas
pub mod RequestsLead
pub mod TreeLemmas
