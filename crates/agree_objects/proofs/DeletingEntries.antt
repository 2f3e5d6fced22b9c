-- The entry of a deleting destructor leads to the plan of the whole object, where that is complete (Itanium C++ ABI 2.5.2, 5.1.4.3).
use Rattle.std.proofs.Common.{◌≡◌, ◌<◌, true, false, Some, List, [], length, slice_get, refl, ap, sym, ◌∙◌, subst}
use Rattle.cxx_hierarchy.specs.declared.records.ClassId.{ClassId}
use Rattle.cxx_subobject.specs.declared.Subobject.{Subobject}
use Rattle.cxx_subobject.specs.Subobjects.{IsSubobject, join, whole_of}
use Rattle.cxx_subobject.specs.Locations.{Step, ObjectPart}
use Rattle.cxx_overrider.specs.Virtuals.{is_virtual}
use Rattle.cxx_search.specs.Searches.{destructor_of, final_in}
use Rattle.cxx_search.proofs.Bases.{destructor_signature}
use Rattle.cxx_search.proofs.Virtuals.{test_virtual}
use Rattle.path_plan.specs.Places.{part}
use Rattle.path_plan.specs.Phases.{is_complete}
use Rattle.path_plan.specs.declared.form.Form.TheVariants.{InFull}
use Rattle.path_plan.specs.Views.{view}
use Rattle.path_plan.specs.Whole.{whole_part}
use Rattle.path_model.specs.Places.{owner_class}
use Rattle.path_model.specs.Values.{Objects}
use Rattle.path_model.specs.Rules.{is_unready, is_outside}
use Rattle.path_model.specs.TypedStates.{IsPartMade}
use Rattle.path_model.specs.Uses.{view_in, view_of}
use Rattle.byte_machine.specs.Calls.{Callee, callee, kept_for, nothing_used}
use Rattle.byte_machine.specs.Frames.{nothing_kept}
use Rattle.byte_machine.specs.Running.{Running}
use Rattle.agree_dispatch.proofs.OwnKeys.{deleting_own}
use Rattle.agree_dispatch.specs.Words.{HasEntryWord}
use Rattle.code_blocks.specs.Blocks.{routine_start}
use Rattle.code_ops.specs.Setups.{PlanCode}
use Rattle.code_ops.specs.declared.routines.Course.TheVariants.{Deletes}
use Rattle.agree_parts.specs.Addresses.{address}
use Rattle.agree_parts.specs.Heaps.{Heap}
use Rattle.agree_parts.proofs.Inside.{known_class}
use Rattle.agree_parts.proofs.Made.{owner_there}
use Rattle.abi_slots.proofs.Dynamics.{virtual_dynamic}
use Rattle.abi_slots.specs.CodeRows.{code_of}
use Rattle.abi_slots.specs.Listing.{entry_number, entry_key}
use Rattle.abi_slots.specs.declared.code_numbers.BlockKind.TheVariants.{EndDeleting}
use Rattle.abi_slots.specs.declared.words.CodeKind.TheVariants.{Deleting}
use Rattle.agree_relation.specs.Columns.{ColumnsStand}
use Rattle.agree_relation.specs.Words.{heap_of}
use Rattle.agree_relation.specs.Worlds.{IsProgramWorld, World, world_classes, places_in}
use Rattle.agree_relation.proofs.Objects.{objects_laid, objects_placed}
use Rattle.agree_views.proofs.Telling.{told_entry}
use Rattle.agree_calls.proofs.Kept.{deleted_kept}
use Rattle.agree_calls.specs.Shown.{IsSeenFrom, ShowsViews}
use Rattle.agree_objects.proofs.FinalEnds.{whole_end, end_found, end_not_pure}

module _ (w : World) (s : Objects) (b : Running) (world : IsProgramWorld w) (columns : ColumnsStand w s b.memory b.objects b.heap b.notes) (shows : ShowsViews w s b.memory) where
  abbrev g : Heap
  g = heap_of s.classes b.memory.regions

  -- a pointer to a part of class c that is deleted by its table, in a heap object of class d
  pub record IsDeleted (p : ObjectPart) (c d : ClassId) : Type 0 where
    pub made : IsPartMade (world_classes w) s.classes p c
    pub unclosed : s.is_closed p.object ≡ false
    pub ready : is_unready s p ≡ false
    pub within : is_outside (world_classes w) s p ≡ false
    pub dispatched : is_virtual (world_classes w) (destructor_of (world_classes w) c) ≡ true
    pub owner : p.owner ≡ []
    pub class : slice_get s.classes p.object ≡ Some d
    pub full : is_complete (s.phases.phase (whole_part p.object d)) ≡ true

  -- what runs by its entry: the plan of the whole, which leaves nothing to do
  pub record LeadsToPlan (p : ObjectPart) (c d : ClassId) : Type 0 where
    pub to : Callee
    pub called : callee w.image b.memory (address (world_classes w) (places_in w) (heap_of s.classes b.memory.regions) p) (entry_number (world_classes w) (places_in w) (entry_key (destructor_of (world_classes w) c) Deleting)) ≡ Some to
    pub block : to.block ≡ world.lowered.at (routine_start w.setup (PlanCode Deletes InFull d))
    pub this : to.this ≡ address (world_classes w) (places_in w) (heap_of s.classes b.memory.regions) (whole_part p.object d)
    pub kept : kept_for nothing_used to.vbase to.add ≡ nothing_kept

  module _ (p : ObjectPart) (c d : ClassId) (a : IsDeleted p c d) where
    -- the view is the whole
    whole_seen : view_of (world_classes w) s p ≡ Some (whole_of d)
    whole_seen =
        let whole : view s.phases p.object [] d ≡ Some (whole_of d) = rw a.full refl in
        ap (λ (o : List Step). view_in s.phases p.object o (owner_class (world_classes w) s.classes p.object o)) a.owner ∙ ap (view_in s.phases p.object []) a.class ∙ whole

    seen : IsSeenFrom w g b.memory p c
    seen = shows.of p c a.made a.unclosed a.ready a.within (virtual_dynamic (world_classes w) (destructor_of (world_classes w) c) (test_virtual (world_classes w) (destructor_of (world_classes w) c) a.dispatched))

    seen_at : seen.view.at ≡ whole_of d
    unfolding seen
    seen_at =
        let is = shows.is_view p c a.made a.unclosed a.ready a.within (virtual_dynamic (world_classes w) (destructor_of (world_classes w) c) (test_virtual (world_classes w) (destructor_of (world_classes w) c) a.dispatched)) in
        let one : Some seen.view.at ≡ Some (whole_of d) = sym is ∙ whole_seen in
        cc

    class_known : c.0 < length (world_classes w)
    class_known = known_class (world_classes w) w.setup.rows g p c (objects_laid w s b.memory.regions b.objects b.heap world columns.objects) a.made

    object_known : d.0 < length (world_classes w)
    object_known = (objects_placed w s b.memory.regions b.objects b.heap columns.objects).known p.object d a.class

    -- the part is a subobject of the object
    inside : IsSubobject (world_classes w) d p.at
    inside =
        let owner = owner_there (world_classes w) g p c a.made in
        let one : Some owner.0 ≡ Some d = sym owner.1 ∙ ap (owner_class (world_classes w) s.classes p.object) a.owner ∙ a.class in
        let same : owner.0 ≡ d = cc (one) in
        subst (λ (e : ClassId). IsSubobject (world_classes w) e p.at) same owner.2

    final : final_in (world_classes w) seen.view.at (join seen.view.at seen.inner) (destructor_of (world_classes w) c) ≡ Some (whole_end (world_classes w) d)
    final =
        ap (λ (y : Subobject). final_in (world_classes w) seen.view.at y (destructor_of (world_classes w) c)) (ap (λ (q : ObjectPart). q.at) seen.is)
        ∙ ap (λ (x : Subobject). final_in (world_classes w) x p.at (destructor_of (world_classes w) c)) seen_at ∙ end_found (world_classes w) world.hierarchy c d p.at class_known object_known inside

    word : HasEntryWord (world_classes w) (places_in w) w.image w.numbers b.memory (entry_key (destructor_of (world_classes w) c) Deleting) (whole_end (world_classes w) d) (address (world_classes w) (places_in w) g p) (address (world_classes w) (places_in w) g (part p.object p.owner (whole_of d)))
    word =
        let h = world_classes w in
        let k = entry_key (destructor_of h c) Deleting in
        let own = deleting_own h world.hierarchy c (destructor_signature h c class_known) (test_virtual h (destructor_of h c) a.dispatched) in
        let told = told_entry w g b.memory seen.view seen.view_class seen.complete seen.stands seen.inner k (whole_end h d) seen.valid seen.of_class own final in
        subst (λ (q : ObjectPart). HasEntryWord h (places_in w) w.image w.numbers b.memory k (whole_end h d) (address h (places_in w) g q) (address h (places_in w) g (part q.object q.owner (whole_of d)))) seen.is told

    pub leads_to_plan : LeadsToPlan p c d
    leads_to_plan =
        let h = world_classes w in
        let runs = word.runs (end_not_pure h d) in
        let number : code_of w.numbers (destructor_of h d) EndDeleting ≡ Some (world.lowered.at (routine_start w.setup (PlanCode Deletes InFull d))) = world.lowered.numbered (PlanCode Deletes InFull d) (destructor_of h d) (object_known, refl) refl in
        let one : Some runs.block ≡ Some (world.lowered.at (routine_start w.setup (PlanCode Deletes InFull d))) = sym runs.coded ∙ number in
        record {
          to = _;
          called = runs.called;
          block = cc (one);
          this = ap (λ (o : List Step). address h (places_in w) g (part p.object o (whole_of d))) a.owner;
          kept = deleted_kept w world (destructor_of h d) c;
        }
