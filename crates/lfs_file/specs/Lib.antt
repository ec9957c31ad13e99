pub mod Capacity
pub mod Content
pub mod Laws
pub mod Laying
pub mod Pointer
pub mod SkipList
