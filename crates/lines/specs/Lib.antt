-- The event program's lines.
pub mod Text
pub mod Decimal
pub mod DecimalLaws
pub mod Lines
