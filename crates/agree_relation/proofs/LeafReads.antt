-- What stands in memory at a leaf.
use Rattle.std.proofs.Common.{◌≡◌, ℕ, ◌^◌, true, false, Some, None, ◌∙◌, subst}
use Rattle.cxx_hierarchy.specs.declared.records.ClassId.{ClassId}
use Rattle.cxx_hierarchy.specs.declared.records.ValueType.{ValueType}
use Rattle.path_model.specs.Values.{Leaf, Objects}
use Rattle.path_model.specs.TypedStates.{IsLeafMade}
use Rattle.path_model.specs.Rules.{is_unset}
use Rattle.abi_sound.specs.Locations.{Span}
use Rattle.byte_memory.specs.Bits.{number_from}
use Rattle.byte_memory.specs.Store.{Store}
use Rattle.agree_parts.specs.Addresses.{leaf_bits}
use Rattle.agree_relation.specs.Worlds.{World, world_classes, places_in}
use Rattle.agree_relation.specs.Words.{heap_of, word_of_value, AreBitsOf}
use Rattle.agree_relation.specs.Columns.{LeavesStand}
use Rattle.agree_relation.proofs.Values.{word_some, word_none}

-- the word of its value
pub leaf_word : (w : World) (s : Objects) (memory : Store) (a : Leaf) (t : ValueType ClassId) (x : Span) → LeavesStand w s memory → IsLeafMade (world_classes w) s.classes a t → s.is_closed a.part.object ≡ false → leaf_bits (world_classes w) (places_in w) (heap_of s.classes memory.regions) a ≡ x →
    number_from memory.bit x.start x.length ≡ word_of_value w (heap_of s.classes memory.regions) x.length (s.leaf a)
leaf_word w s memory a t x leaves made open_there there = (subst (AreBitsOf w (heap_of s.classes memory.regions) (s.leaf a) memory.bit) there (leaves.leaf a t made open_there)).is

-- some word where the leaf is set
pub leaf_some : (w : World) (s : Objects) (memory : Store) (a : Leaf) (t : ValueType ClassId) (x : Span) → LeavesStand w s memory → IsLeafMade (world_classes w) s.classes a t → s.is_closed a.part.object ≡ false → leaf_bits (world_classes w) (places_in w) (heap_of s.classes memory.regions) a ≡ x →
    is_unset (s.leaf a) ≡ false → (word : ℕ) × (number_from memory.bit x.start x.length ≡ Some word) × (word_of_value w (heap_of s.classes memory.regions) x.length (s.leaf a) ≡ Some word)
leaf_some w s memory a t x leaves made open_there there set_there =
    let word = word_some w (heap_of s.classes memory.regions) (2 ^ x.length) (s.leaf a) set_there in
    (word.0, leaf_word w s memory a t x leaves made open_there there ∙ word.1, word.1)

-- and none where it is not
pub leaf_none : (w : World) (s : Objects) (memory : Store) (a : Leaf) (t : ValueType ClassId) (x : Span) → LeavesStand w s memory → IsLeafMade (world_classes w) s.classes a t → s.is_closed a.part.object ≡ false → leaf_bits (world_classes w) (places_in w) (heap_of s.classes memory.regions) a ≡ x →
    is_unset (s.leaf a) ≡ true → number_from memory.bit x.start x.length ≡ None
leaf_none w s memory a t x leaves made open_there there unset = leaf_word w s memory a t x leaves made open_there there ∙ word_none w (heap_of s.classes memory.regions) (2 ^ x.length) (s.leaf a) unset
