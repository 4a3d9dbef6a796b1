pub mod LineKinds
pub mod Cutting
pub mod Owners
pub mod Drafts
pub mod Reading
pub mod FirstWrong
