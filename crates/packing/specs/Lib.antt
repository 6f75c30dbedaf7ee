-- What the contracts of this crate cite. A caller needs Packed alone.
pub mod Sizes
pub mod Packed
