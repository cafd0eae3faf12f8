-- The round trips: from bytes, from entries, from the lists that are lent; then of the calls; and the sample bundle.
pub mod FromBytes
pub mod FromEntries
pub mod FromLists
pub mod SameBytes
pub mod Calls
pub mod Written
