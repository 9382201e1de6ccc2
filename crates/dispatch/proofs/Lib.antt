-- Laws that the proofs of this crate share.
pub mod Charges
pub mod Outcomes
pub mod DesignLaws
pub mod AccountLaws
pub mod PageLaws
pub mod FaultLaws
pub mod WriteLaws
pub mod WritebackLaws
