-- The check of a view: what a machine whose columns stand has to decide it.
use Rattle.std.proofs.Common.{◌≡◌, true, false, Some}
use Rattle.std.specs.Prelude.{not}
use Rattle.cxx_hierarchy.specs.declared.records.ClassId.{ClassId}
use Rattle.cxx_subobject.specs.declared.Subobject.{Subobject}
use Rattle.cxx_subobject.specs.Subobjects.{whole_of}
use Rattle.cxx_subobject.specs.Locations.{ObjectPart}
use Rattle.path_plan.specs.Places.{part}
use Rattle.path_plan.specs.Phases.{Raw, is_ready}
use Rattle.path_plan.specs.Views.{view}
use Rattle.path_model.specs.Values.{Objects}
use Rattle.path_model.specs.TypedStates.{IsPartMade}
use Rattle.path_model.specs.Uses.{class_of_owner}
use Rattle.path_model.specs.Rules.{is_outside}
use Rattle.abi_primary.specs.Kinds.{IsDynamic}
use Rattle.byte_machine.specs.Running.{Running}
use Rattle.byte_machine.proofs.CheckLeads.{HasView, TellsOf}
use Rattle.agree_parts.specs.Addresses.{address}
use Rattle.agree_relation.specs.Worlds.{World, IsProgramWorld, world_classes, places_in, fixed}
use Rattle.agree_relation.specs.Words.{heap_of}
use Rattle.agree_relation.specs.Columns.{shadow_pair, ColumnsStand}
use Rattle.agree_relation.proofs.Views.{view_noted}
use Rattle.agree_relation.proofs.InView.{view_can, view_is_told}

module _ (w : World) (s : Objects) (r : Running) (world : IsProgramWorld w) (columns : ColumnsStand w s r.memory r.objects r.heap r.notes) (p : ObjectPart) (c d e : ClassId) (x : Subobject) (made : IsPartMade (world_classes w) s.classes p c) (owner : class_of_owner (world_classes w) s p ≡ Some d) (seen : view s.phases p.object p.owner d ≡ Some x) (there : IsPartMade (world_classes w) s.classes (part p.object p.owner x) e) where
  -- the complete object of a part that was begun, and its view
  pub machine_view : (s.phases.phase p ≡ Raw → ⊥) →
      HasView r (address (world_classes w) (places_in w) (heap_of s.classes r.memory.regions) p) c.0 (shadow_pair w (heap_of s.classes r.memory.regions) (part p.object p.owner (whole_of d)) d) (shadow_pair w (heap_of s.classes r.memory.regions) (part p.object p.owner x) e)
  machine_view begun =
      let noted = view_noted w (heap_of s.classes r.memory.regions) s.phases r.notes p c d e x columns.phases columns.views made owner begun seen there in
      record { owner_is = noted.owner_is; view_is = noted.view_is }

  -- a dynamic part is told to be in the view exactly where the rule does not say that it is outside
  pub machine_tells : is_ready (s.phases.phase (part p.object p.owner x)) ≡ true → s.is_closed p.object ≡ false → IsDynamic (world_classes w) c →
      TellsOf (fixed w) r (shadow_pair w (heap_of s.classes r.memory.regions) (part p.object p.owner x) e) (address (world_classes w) (places_in w) (heap_of s.classes r.memory.regions) p) c.0 (not (is_outside (world_classes w) s p))
  machine_tells ready open_there dynamic = record {
    can = view_can w s r.memory r.objects r.heap r.notes world columns p c d e x made owner seen there ready open_there;
    is = λ inside tells. view_is_told w s r.memory r.objects r.heap r.notes world columns p c d e x made owner seen there ready open_there dynamic inside tells;
  }
