-- Laws that the proofs of this crate share.
pub mod Shapes
pub mod GroupLaws
pub mod DiskLaw
pub mod FileLaw
pub mod FrameLaw
pub mod CountLaw
pub mod RulesLaw
