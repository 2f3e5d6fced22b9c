mod Naming
mod Knowing
mod Converting
mod Targeting
mod Words
mod Told
mod Applying
mod FieldLemmas
