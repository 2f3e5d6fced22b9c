-- What the notes say of the view of a part's complete object.
use Rattle.std.proofs.Common.{◌≡◌, ℕ, Some, ◌∙◌}
use Rattle.cxx_hierarchy.specs.declared.records.ClassId.{ClassId}
use Rattle.cxx_subobject.specs.declared.Subobject.{Subobject}
use Rattle.cxx_subobject.specs.Subobjects.{whole_of, same_subobject}
use Rattle.cxx_subobject.specs.Locations.{ObjectPart}
use Rattle.path_plan.specs.Places.{part}
use Rattle.path_plan.specs.Phases.{Phases, Raw}
use Rattle.path_plan.specs.Views.{view}
use Rattle.path_model.specs.Places.{owner_class}
use Rattle.path_model.specs.TypedStates.{IsPartMade}
use Rattle.byte_shadow.specs.Shadows.{Notes}
use Rattle.byte_machine.specs.Checks.{same_address_and_class}
use Rattle.agree_parts.specs.Heaps.{Heap}
use Rattle.agree_parts.specs.Addresses.{address}
use Rattle.agree_parts.specs.Placed.{AreObjectsLaid}
use Rattle.agree_parts.proofs.Made.{complete_made}
use Rattle.agree_relation.specs.Worlds.{World, world_classes, places_in}
use Rattle.agree_relation.specs.Columns.{shadow_pair, PhasesStand, ViewsAreNoted}
use Rattle.agree_relation.proofs.Owners.{owner_noted, pair_test, own_owner}

-- the complete object of what an address and a class number name, and the view of that, are noted
pub record IsViewNoted (notes : Notes) (at class : ℕ) (owner seen : ℕ × ℕ) : Type 0 where
  pub owner_is : notes.owner at class ≡ Some owner
  pub view_is : notes.view owner.0 owner.1 ≡ Some seen

-- so are those of a part that was begun, where its complete object, of class d, has the view x, of class e
pub view_noted : (w : World) (g : Heap) (s : Phases) (notes : Notes) (p : ObjectPart) (c d e : ClassId) (x : Subobject) → PhasesStand w g s notes → ViewsAreNoted w g s notes → IsPartMade (world_classes w) g.classes p c → owner_class (world_classes w) g.classes p.object p.owner ≡ Some d → (s.phase p ≡ Raw → ⊥) →
    view s p.object p.owner d ≡ Some x → IsPartMade (world_classes w) g.classes (part p.object p.owner x) e →
    IsViewNoted notes (address (world_classes w) (places_in w) g p) c.0 (shadow_pair w g (part p.object p.owner (whole_of d)) d) (shadow_pair w g (part p.object p.owner x) e)
view_noted w g s notes p c d e x phased viewed made owner begun seen there = record {
  owner_is = owner_noted w g s notes p c d phased made owner begun;
  view_is = viewed.view p.object p.owner d e x (complete_made (world_classes w) g p c d made owner) seen there;
}

-- whether the part is the view itself
pub view_tested : (w : World) (g : Heap) (p : ObjectPart) (c e : ClassId) (x : Subobject) → AreObjectsLaid (world_classes w) w.setup.rows g → IsPartMade (world_classes w) g.classes p c → IsPartMade (world_classes w) g.classes (part p.object p.owner x) e →
    same_address_and_class (shadow_pair w g (part p.object p.owner x) e) (address (world_classes w) (places_in w) g p) c.0 ≡ same_subobject x p.at
view_tested w g p c e x laid made there = pair_test w g (part p.object p.owner x) p e c laid there made ∙ own_owner p.object p.owner x p.at
