-- What is told of parts.
use Rattle.std.proofs.Common.{◌≡◌, ◌+◌, Some, List, refl, ap, sym, ◌∙◌}
use Rattle.cxx_hierarchy.specs.declared.records.ClassId.{ClassId}
use Rattle.cxx_subobject.specs.Locations.{ObjectPart, hops_of}
use Rattle.path_model.specs.Values.{Objects}
use Rattle.path_model.specs.Outs.{location_of, object_class, class_or_first}
use Rattle.path_model.specs.TypedStates.{IsPartMade}
use Rattle.byte_memory.specs.declared.memory.Region.{Region}
use Rattle.abi_sound.specs.Locations.{place_along_hops}
use Rattle.agree_parts.specs.Heaps.{object_start}
use Rattle.agree_parts.specs.Addresses.{address}
use Rattle.agree_parts.proofs.Made.{part_at}
use Rattle.agree_relation.specs.Worlds.{World, world_classes, places_in}
use Rattle.agree_relation.specs.Words.{heap_of}
use Rattle.agree_relation.specs.Agrees.{LiesAt}

-- where a part lies, from the outside
pub part_lies : (w : World) (s : Objects) (regions : List Region) (p : ObjectPart) (c : ClassId) → IsPartMade (world_classes w) s.classes p c → LiesAt w (heap_of s.classes regions) (location_of s p) (address (world_classes w) (places_in w) (heap_of s.classes regions) p)
part_lies w s regions p c made =
    let class : object_class s p.object ≡ made.class = ap class_or_first made.made in
    let g = heap_of s.classes regions in
    record {
      object = p.object;
      number = refl;
      class = made.made ∙ ap (λ (d : ClassId). Some d) (sym class);
      is = part_at (world_classes w) (places_in w) g p c made ∙ ap (λ (d : ClassId). object_start g p.object + place_along_hops (world_classes w) (places_in w) d (hops_of p.owner p.at)) (sym class);
    }
