-- Setting an item of a list.
pub use Rattle.path_heap.proofs.Sets.{past_end}
