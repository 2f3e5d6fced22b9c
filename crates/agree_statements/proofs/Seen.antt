-- What the notes and the tables tell of the view of a part that is ready.
use Rattle.std.proofs.Common.{◌≡◌, true, false, Some, List, [], ap, sym, ◌∙◌}
use Rattle.std.specs.Prelude.{not}
use Rattle.cxx_hierarchy.specs.declared.records.ClassId.{ClassId}
use Rattle.cxx_subobject.specs.declared.Subobject.{Subobject}
use Rattle.cxx_subobject.specs.Subobjects.{whole_of, whole}
use Rattle.cxx_subobject.specs.Locations.{ObjectPart}
use Rattle.cxx_subobject.specs.Inside.{IsInside}
use Rattle.cxx_subobject.proofs.InsideLemmas.{join_whole}
use Rattle.cxx_subobject.proofs.TreeLemmas.{subobject_same}
use Rattle.cxx_search.proofs.Within.{inside_within}
use Rattle.path_plan.specs.Places.{part}
use Rattle.path_plan.specs.Phases.{is_ready}
use Rattle.path_plan.specs.Views.{view}
use Rattle.path_model.specs.Values.{Objects}
use Rattle.path_model.specs.Uses.{class_of_owner, view_in, view_of}
use Rattle.path_model.specs.Rules.{is_unready}
use Rattle.path_model.specs.Typed.{AllSettled}
use Rattle.path_model.specs.TypedStates.{IsPartMade}
use Rattle.path_model.proofs.Facts.{ready_of}
use Rattle.abi_primary.specs.Kinds.{IsDynamic}
use Rattle.byte_machine.specs.Running.{Running}
use Rattle.agree_parts.proofs.Made.{owner_there, complete_made}
use Rattle.agree_relation.specs.Worlds.{World, IsProgramWorld, world_classes}
use Rattle.agree_relation.specs.Words.{heap_of}
use Rattle.agree_relation.specs.Columns.{ColumnsStand, shadow_pair}
use Rattle.agree_relation.specs.Goings.{Going, ArePlanned}
use Rattle.agree_relation.proofs.Objects.{objects_laid}
use Rattle.agree_relation.proofs.Phases.{ready_begun}
use Rattle.agree_relation.proofs.Views.{view_noted, view_tested}
use Rattle.agree_relation.proofs.InView.{outside_is, view_can, view_is_told}
use Rattle.agree_relation.proofs.SeenParts.{view_made, view_ready}
use Rattle.agree_statements.specs.Statements.{AreSeen}
use Rattle.agree_statements.proofs.Checks.{TellsView}
use Rattle.agree_statements.proofs.Useds.{TellsViews}

-- a part that is ready, its complete object, and the view of that
pub record IsInSight (w : World) (s : Objects) (p : ObjectPart) (c : ClassId) : Type 0 where
  pub complete : ClassId
  pub owner : class_of_owner (world_classes w) s p ≡ Some complete
  pub at : Subobject
  pub class : ClassId
  pub there : IsPartMade (world_classes w) s.classes (part p.object p.owner at) class
  pub seen : view s.phases p.object p.owner complete ≡ Some at
  pub is_view : view_of (world_classes w) s p ≡ Some at
  pub ready : is_ready (s.phases.phase (part p.object p.owner at)) ≡ true

pub in_sight : (w : World) (s : Objects) (goings : List Going) (p : ObjectPart) (c : ClassId) → ArePlanned w s.classes s.phases goings → AllSettled (world_classes w) s → AreSeen (world_classes w) s → IsPartMade (world_classes w) s.classes p c → is_unready s p ≡ false → IsInSight w s p c
in_sight w s goings p c planned settled seen made fine =
    let h = world_classes w in
    let g = heap_of s.classes [] in
    let owner = owner_there h g p c made in
    let x = seen.view p c made fine in
    let is : view s.phases p.object p.owner owner.0 ≡ Some x.0 = ap (view_in s.phases p.object p.owner) (sym owner.1) ∙ x.1 in
    let there = view_made w s.classes s.phases goings p.object p.owner owner.0 x.0 planned (complete_made h g p c owner.0 made owner.1) is in
    record {
      complete = owner.0;
      owner = owner.1;
      at = x.0;
      class = there.0;
      there = there.1;
      seen = is;
      is_view = x.1;
      ready = view_ready h s.phases p.object p.owner owner.0 x.0 (settled p.object made.class made.made) is;
    }

pub tells_views : (w : World) (s : Objects) (goings : List Going) (b : Running) → IsProgramWorld w → ColumnsStand w s b.memory b.objects b.heap b.notes → ArePlanned w s.classes s.phases goings → AllSettled (world_classes w) s → AreSeen (world_classes w) s → TellsViews w s b
tells_views w s goings b world columns planned settled seen = record { of = tells }
  where
    tells : (p : ObjectPart) (c : ClassId) → IsPartMade (world_classes w) s.classes p c → s.is_closed p.object ≡ false → is_unready s p ≡ false → IsDynamic (world_classes w) c → TellsView w s b p c
    tells p c made open_there fine dynamic =
        let h = world_classes w in
        let g = heap_of s.classes b.memory.regions in
        let laid = objects_laid w s b.memory.regions b.objects b.heap world columns.objects in
        let k = in_sight w s goings p c planned settled seen made fine in
        let noted = view_noted w g s.phases b.notes p c k.complete k.class k.at columns.phases columns.views made k.owner (ready_begun (s.phases.phase p) (ready_of s p fine)) k.seen k.there in
        let test = view_tested w g p c k.class k.at laid made k.there in
        record {
          owner = shadow_pair w g (part p.object p.owner (whole_of k.complete)) k.complete;
          view = shadow_pair w g (part p.object p.owner k.at) k.class;
          has = record { owner_is = noted.owner_is; view_is = noted.view_is };
          itself = λ same.
              let one : k.at ≡ p.at = subobject_same k.at p.at (sym test ∙ same) in
              let inside : IsInside h k.at p.at = record { class = k.class; of_class = k.there.of_class; part = whole_of k.class; valid = whole [] tt; joined = sym one ∙ sym (join_whole k.at k.class) } in
              outside_is w s b.memory b.objects b.heap b.notes world columns p c k.complete k.class k.at made k.owner k.seen k.there k.ready open_there ∙ ap not (inside_within h world.hierarchy k.at p.at inside);
          tells = λ apart. record {
            can = view_can w s b.memory b.objects b.heap b.notes world columns p c k.complete k.class k.at made k.owner k.seen k.there k.ready open_there;
            is = λ told tells. view_is_told w s b.memory b.objects b.heap b.notes world columns p c k.complete k.class k.at made k.owner k.seen k.there k.ready open_there dynamic told tells;
          };
        }
