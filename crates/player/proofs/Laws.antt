-- Laws that the programs' proofs lean on.
pub mod Text
pub mod Lines
pub mod Links
pub mod Play
