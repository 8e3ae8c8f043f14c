pub mod base_lists
