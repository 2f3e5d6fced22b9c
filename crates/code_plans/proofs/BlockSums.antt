-- How many words a sub-VTT has, and where those of bases begin in it.
use Rattle.std.proofs.Common.{◌≡◌, suc, ◌+◌, ◌≤◌, true, List, [], ◌∷◌, ◌++◌, length, ap, arith}
use Rattle.std.specs.Prelude.{filter, if◌then◌else◌, nat_eq}
use Rattle.std.specs.List.{flat_map}
use Rattle.std.proofs.lemmas.List.{length-append, length-map}
use Rattle.foundation.proofs.Truth.{split}
use Rattle.cxx_hierarchy.specs.declared.records.ClassId.{ClassId}
use Rattle.cxx_hierarchy.specs.Classes.{Classes}
use Rattle.cxx_hierarchy.specs.Hierarchies.{IsHierarchy}
use Rattle.cxx_subobject.specs.Subobjects.{whole_of, shared_base}
use Rattle.cxx_subobject.specs.Preorder.{preorder}
use Rattle.abi_sound.specs.Places.{Places}
use Rattle.abi_vtt.specs.Vtts.{item, has_vtt, needs_word, words_of_bases, extended_by, shared_items, vtt_items}
use Rattle.abi_vtt.specs.Blocks.{block, block_length, lengths_of, lengths_before, built_classes, built_shared}
use Rattle.abi_vtt.proofs.BlockLemmas.{opened, length_same, turn_length}
use Rattle.abi_tables.specs.Counts.{vtt_words}

-- a block has the word of the view, the blocks of its bases, and the words of its base subobjects
pub block_is : (h : Classes) → IsHierarchy h → (l : Places) (d : ClassId) → block_length h l d ≡ 1 + lengths_of h l (built_classes h d) + length (filter (needs_word h l) (preorder h d))
block_is h keeps l d =
    let bases = flat_map (λ b. block h l (extended_by (whole_of d) b) b) (built_classes h d) in
    let all : block_length h l d ≡ suc (length (bases ++ words_of_bases h l (whole_of d) d)) = ap length (opened h keeps l (whole_of d) d) in
    let parts = length-append bases (words_of_bases h l (whole_of d) d) in
    let first = turn_length h l (λ b. block h l (extended_by (whole_of d) b) b) (λ b. length_same h keeps l (extended_by (whole_of d) b) b) (built_classes h d) in
    let last = length-map (filter (needs_word h l) (preorder h d)) (item (whole_of d)) in
    omega arith

-- a VTT has the block of its class and those of its virtual bases
pub vtt_is : (h : Classes) → IsHierarchy h → (l : Places) (c : ClassId) → has_vtt h c ≡ true → vtt_words h l c ≡ block_length h l c + lengths_of h l (built_shared h c)
vtt_is h keeps l c has =
    let all : vtt_words h l c ≡ length (vtt_items h l c) = ap (λ b. if b then length (vtt_items h l c) else 0) has in
    let parts = length-append (block h l (whole_of c) c) (flat_map (shared_items h l) (built_shared h c)) in
    let more = turn_length h l (shared_items h l) (λ v. length_same h keeps l (shared_base v) v) (built_shared h c) in
    omega arith

pub before_within : (h : Classes) (l : Places) (b : ClassId) (list : List ClassId) → lengths_before h l b list ≤ lengths_of h l list
before_within h l b [] = omega arith
before_within h l b (d ∷ rest) = split (nat_eq d.0 b.0) (λ t. (if t then 0 else block_length h l d + lengths_before h l b rest) ≤ block_length h l d + lengths_of h l rest) (λ _. omega arith) (λ _. let more = before_within h l b rest in omega arith)
