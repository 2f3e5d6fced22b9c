-- The numbers of the words of virtual bases and vcall words are small.
use Rattle.std.proofs.Common.{◌+◌, ◌*◌, ◌<◌, ◌^◌, false, List, length, arith}
use Rattle.std.proofs.lemmas.Option.{slice_get_within}
use Rattle.cxx_hierarchy.specs.declared.records.ClassId.{ClassId}
use Rattle.cxx_hierarchy.specs.Classes.{Classes}
use Rattle.cxx_hierarchy.specs.Hierarchies.{IsHierarchy}
use Rattle.cxx_hierarchy.specs.VirtualBases.{HasVirtualBase}
use Rattle.abi_sound.specs.declared.class_layout.ClassLayout.{ClassLayout}
use Rattle.abi_sound.specs.Places.{places_of}
use Rattle.abi_sound.specs.Sound.{IsSoundLayout}
use Rattle.abi_slots.specs.declared.words.Offset.TheVariants.{ToBase}
use Rattle.abi_slots.specs.Listing.{offsets, vbase_number}
use Rattle.abi_slots.proofs.Listings.{vbase_there}
use Rattle.abi_slots.proofs.OffsetBounds.{few_offsets}
use Rattle.abi_slots.proofs.ClassOffsets.{primaries_of}

pub vbase_small : (h : Classes) (rows : List ClassLayout) → IsHierarchy h → IsSoundLayout h rows → (c v : ClassId) → c.0 < length h → HasVirtualBase h c v → 8 * (vbase_number h (places_of h rows) c v + 3) < 2 ^ 62
vbase_small h rows keeps sound c v known has =
    let l = places_of h rows in
    let there = vbase_there h l keeps (primaries_of h rows sound) false c v known has in
    let lt = slice_get_within (offsets h l false c) (vbase_number h l c v) (ToBase v) there in
    let few = few_offsets h l keeps (primaries_of h rows sound) false c known in
    omega arith
