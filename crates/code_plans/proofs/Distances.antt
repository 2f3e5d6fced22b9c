-- How far from a sub-VTT those of bases stand, as numbers that are read.
use Rattle.std.proofs.Common.{◌≡◌, ℕ, zero, suc, ◌+◌, ◌-◌, ◌≤◌, ◌<◌, true, false, Some, List, [], ◌∷◌, map, length, get_or, ap, ◌∙◌, arith}
use Rattle.std.specs.Prelude.{filter, slice_get}
use Rattle.foundation.proofs.Places.{get_within}
use Rattle.cxx_hierarchy.specs.declared.records.ClassId.{ClassId}
use Rattle.cxx_hierarchy.specs.declared.records.Base.{Base}
use Rattle.cxx_hierarchy.specs.Classes.{Classes, bases_of}
use Rattle.cxx_hierarchy.specs.Hierarchies.{IsHierarchy}
use Rattle.cxx_hierarchy.specs.VirtualBases.{IsDirectBase, HasVirtualBase, further}
use Rattle.cxx_subobject.specs.VirtualBases.{virtual_bases}
use Rattle.abi_sound.specs.Places.{Places}
use Rattle.abi_slots.specs.Rows.{class_of_base}
use Rattle.abi_vtt.specs.Vtts.{has_vtt, is_built_base}
use Rattle.abi_vtt.specs.Blocks.{block_length, lengths_of, lengths_before, built_classes, built_shared, block_distance, shared_distance}
use Rattle.abi_vtt.proofs.MarkLemmas.{has_some, some_has}
use Rattle.abi_tables.specs.Counts.{words_of_all_classes, most_words, vtt_words}
use Rattle.code_plans.specs.ClassTables.{AreBlocks}
use Rattle.code_plans.specs.invariants.Walks.{capped_count}
use Rattle.code_plans.proofs.WordLimits.{vtt_within}
use Rattle.code_plans.proofs.BlockSums.{block_is, vtt_is, before_within}

-- a base with virtual bases gives them to its class
base_has : (h : Classes) → IsHierarchy h → (c b : ClassId) → IsDirectBase h c false b → has_vtt h b ≡ true → has_vtt h c ≡ true
base_has h keeps c b edge has = let v = some_has h keeps b has in has_some h keeps c v.0 (further c b v.0 false edge v.1)

-- the block of a class, by its VTT
pub block_from : (h : Classes) → IsHierarchy h → (l : Places) (c : ClassId) (list : List ClassId) (words sum block : ℕ) → has_vtt h c ≡ true → words ≡ vtt_words h l c → words ≤ most_words → list ≡ virtual_bases h c →
    sum ≡ capped_count (lengths_of h l (filter (has_vtt h) list)) → block ≡ words - sum → block ≡ block_length h l c
block_from h keeps l c list words sum block has is few listed shared left =
    let vtt = vtt_is h keeps l c has in
    let all : lengths_of h l (filter (has_vtt h) list) ≡ lengths_of h l (built_shared h c) = ap (λ (vs : List ClassId). lengths_of h l (filter (has_vtt h) vs)) listed in
    omega arith

-- how far the block of a direct base stands
pub base_from : (h : Classes) → IsHierarchy h → (l : Places) (c b : ClassId) → c.0 < length h → words_of_all_classes h l ≤ most_words → IsDirectBase h c false b → has_vtt h b ≡ true → (bases : List (Base ClassId)) (before distance : ℕ) → bases ≡ bases_of h c →
    before ≡ capped_count (lengths_before h l b (map class_of_base (filter (is_built_base h) bases))) → distance ≡ capped_count (before + 1) → distance ≡ block_distance h l c b
base_from h keeps l c b known few edge has bases before distance listed sum is =
    let same : lengths_before h l b (map class_of_base (filter (is_built_base h) bases)) ≡ lengths_before h l b (built_classes h c) = ap (λ (bs : List (Base ClassId)). lengths_before h l b (map class_of_base (filter (is_built_base h) bs))) listed in
    let less = before_within h l b (built_classes h c) in
    let block = block_is h keeps l c in
    let vtt = vtt_is h keeps l c (base_has h keeps c b edge has) in
    let small = vtt_within h l c known few in
    omega arith

-- the length that is kept of a class
block_kept : (h : Classes) (l : Places) (blocks : List ℕ) (c : ClassId) → AreBlocks h l blocks → c.0 < length blocks → has_vtt h c ≡ true → get_or blocks c.0 0 ≡ block_length h l c
block_kept h l blocks c are lt has =
    let there = get_within blocks c.0 lt in
    read blocks c.0 there.0 there.1 ∙ are.each c.0 there.0 there.1 has
  where
    read : (xs : List ℕ) (i n : ℕ) → slice_get xs i ≡ Some n → get_or xs i 0 ≡ n
    read [] i n e = absurd (cc)
    read (x ∷ xs) zero n e = let same : x ≡ n = cc in same
    read (x ∷ xs) (suc i) n e = read xs i n e

-- where the block of a virtual base stands in the VTT
pub shared_from : (h : Classes) → IsHierarchy h → (l : Places) (c v : ClassId) → c.0 < length h → words_of_all_classes h l ≤ most_words → HasVirtualBase h c v → (blocks : List ℕ) (list : List ClassId) (block before distance : ℕ) → AreBlocks h l blocks → length blocks ≡ length h → list ≡ virtual_bases h c →
    block ≡ get_or blocks c.0 0 → before ≡ capped_count (lengths_before h l v (filter (has_vtt h) list)) → distance ≡ capped_count (block + before) → distance ≡ shared_distance h l c v
shared_from h keeps l c v known few has blocks list block before distance are size listed kept sum is =
    let same : lengths_before h l v (filter (has_vtt h) list) ≡ lengths_before h l v (built_shared h c) = ap (λ (vs : List ClassId). lengths_before h l v (filter (has_vtt h) vs)) listed in
    let less = before_within h l v (built_shared h c) in
    let own = kept ∙ block_kept h l blocks c are (omega arith) (has_some h keeps c v has) in
    let vtt = vtt_is h keeps l c (has_some h keeps c v has) in
    let small = vtt_within h l c known few in
    omega arith
