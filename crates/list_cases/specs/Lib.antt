pub mod RequestLists
pub mod Lists
