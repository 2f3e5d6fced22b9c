pub mod ItemCodes
