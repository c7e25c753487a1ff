-- The definition of the listing.
pub mod Texts
pub mod Listing
pub mod Sizes
