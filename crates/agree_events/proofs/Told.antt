-- What an event tells of its part.
use Rattle.std.proofs.Common.{◌≡◌, ◌+◌, Option, Some, List, [], ◌∷◌, ◌++◌, refl, ap, sym, ◌∙◌}
use Rattle.std.specs.Prelude.{slice_get}
use Rattle.cxx_hierarchy.specs.declared.records.ClassId.{ClassId}
use Rattle.cxx_subobject.specs.Locations.{ObjectPart, hops_of}
use Rattle.path_model.specs.declared.outs.Out.TheVariants.{Built as BuiltOut, Ending as EndingOut}
use Rattle.path_model.specs.Values.{Objects}
use Rattle.path_model.specs.Outs.{class_or_first, object_class, location_of}
use Rattle.path_model.specs.Steps.{class_of_part}
use Rattle.abi_sound.specs.Locations.{place_along_hops}
use Rattle.byte_machine.specs.declared.turn.RawOut.{RawOut}
use Rattle.byte_machine.specs.declared.turn.RawOut.TheVariants.{Built, Ending}
use Rattle.agree_parts.specs.Heaps.{Heap, object_start}
use Rattle.agree_parts.proofs.Made.{part_at}
use Rattle.agree_relation.specs.Worlds.{World, world_classes, places_in}
use Rattle.agree_relation.specs.Frames.{PlaceNumbers}
use Rattle.agree_relation.specs.Agrees.{LiesAt}
use Rattle.agree_events.specs.Events.{HasToldMore}
use Rattle.agree_events.proofs.Noted.{Made, at_part}

-- a part lies where its location says
pub lies_at : (w : World) (g : Heap) (s : Objects) (p : ObjectPart) (c : ClassId) → s.classes ≡ g.classes → Made w g p c → LiesAt w g (location_of s p) (at_part w g p)
lies_at w g s p c classes made =
    let class : made.class ≡ object_class s p.object = ap class_or_first (sym made.made ∙ ap (λ cs. slice_get cs p.object) (sym classes)) in
    record {
      object = p.object;
      number = refl;
      class = made.made ∙ ap (λ (d : ClassId). Some d) class;
      is = part_at (world_classes w) (places_in w) g p c made ∙ ap (λ (d : ClassId). object_start g p.object + place_along_hops (world_classes w) (places_in w) d (hops_of p.owner p.at)) class;
    }

part_class : (w : World) (g : Heap) (p : ObjectPart) (c : ClassId) → Made w g p c → c.0 ≡ (class_of_part p).0
part_class w g p c made = ap (λ (o : Option ClassId). (class_or_first o).0) (sym made.of_class)

pub tells_built : (w : World) (at : PlaceNumbers) (g : Heap) (s : Objects) (p : ObjectPart) (c : ClassId) (outs : List RawOut) → s.classes ≡ g.classes → Made w g p c → HasToldMore w at g outs (outs ++ Built c.0 (at_part w g p) ∷ []) (BuiltOut (class_of_part p) (location_of s p) ∷ [])
tells_built w at g s p c outs classes made = record { more = Built c.0 (at_part w g p) ∷ []; is = refl; reads = ((part_class w g p c made, lies_at w g s p c classes made), tt) }

pub tells_ending : (w : World) (at : PlaceNumbers) (g : Heap) (s : Objects) (p : ObjectPart) (c : ClassId) (outs : List RawOut) → s.classes ≡ g.classes → Made w g p c → HasToldMore w at g outs (outs ++ Ending c.0 (at_part w g p) ∷ []) (EndingOut (class_of_part p) (location_of s p) ∷ [])
tells_ending w at g s p c outs classes made = record { more = Ending c.0 (at_part w g p) ∷ []; is = refl; reads = ((part_class w g p c made, lies_at w g s p c classes made), tt) }
