-- What an event of one part does to virtual pointers.
use Rattle.std.proofs.Common.{◌≡◌, ℕ, ⊎_elim, true, false, Some, List, refl, ap, subst, sym, ◌∙◌}
use Rattle.cxx_hierarchy.specs.declared.records.ClassId.{ClassId}
use Rattle.cxx_subobject.specs.declared.Subobject.{Subobject}
use Rattle.cxx_subobject.specs.Subobjects.{whole_of}
use Rattle.cxx_subobject.specs.Locations.{Step, ObjectPart}
use Rattle.path_plan.specs.Places.{part}
use Rattle.path_plan.specs.Phases.{is_ready}
use Rattle.path_plan.specs.Views.{view}
use Rattle.path_plan.proofs.Same.{Owns, owner_cases, part_owns}
use Rattle.path_model.specs.Values.{Objects, inner_part}
use Rattle.abi_primary.specs.Kinds.{IsDynamic}
use Rattle.byte_memory.specs.Store.{Store}
use Rattle.byte_shadow.specs.Shadows.{Notes}
use Rattle.byte_machine.specs.Running.{table_of}
use Rattle.agree_parts.specs.Heaps.{Heap}
use Rattle.agree_parts.proofs.Made.{inner_is_made}
use Rattle.agree_relation.specs.Worlds.{World, world_classes}
use Rattle.agree_relation.specs.Columns.{HasPointers, PointersStand}
use Rattle.agree_relation.proofs.Pointers.{pointers_kept}
use Rattle.agree_events.proofs.Own.{whole_in}
use Rattle.agree_events.proofs.Noted.{IsOnly, Made, at_part, HasView, one_view, view_elsewhere}

-- the virtual pointers of the parts of a complete object are as they were
abbrev pub KeepsOwner : World → Heap → ℕ → List Step → Store → Store → Type 0
KeepsOwner w g k o memory memory' = (r : ObjectPart) (e : ClassId) → Made w g r e → IsDynamic (world_classes w) e → r.object ≡ k → r.owner ≡ o → table_of memory' (at_part w g r) ≡ table_of memory (at_part w g r)

-- so are those of each other complete object that is open
abbrev pub KeepsOthers : World → Heap → Objects → ObjectPart → Store → Store → Type 0
KeepsOthers w g s p memory memory' = (k : ℕ) (o : List Step) → (Owns p k o → ⊥) → s.is_closed k ≡ false → KeepsOwner w g k o memory memory'

owner_kept : (w : World) (g : Heap) (memory memory' : Store) (q : ObjectPart) (c d : ClassId) → Made w g q c → KeepsOwner w g q.object q.owner memory memory' → HasPointers w g memory q c d → HasPointers w g memory' q c d
owner_kept w g memory memory' q c d made keeps has = pointers_kept w g memory memory' q c d (record { each = λ i e valid class dynamic. keeps (inner_part q i) e (inner_is_made (world_classes w) g q c e i made valid class) dynamic refl refl }) has

pub pointers_change : (w : World) (g : Heap) (s s' : Objects) (memory memory' : Store) (p : ObjectPart) → IsOnly p s.phases s'.phases → ((k : ℕ) → s'.is_closed k ≡ false → s.is_closed k ≡ false) → KeepsOthers w g s' p memory memory'
    → ((k : ℕ) (o : List Step) (b c : ClassId) (x : Subobject) → Owns p k o → Made w g (part k o (whole_of b)) b → Made w g (part k o x) c → s'.is_closed k ≡ false → view s'.phases k o b ≡ Some x → is_ready (s'.phases.phase (part k o x)) ≡ true → IsDynamic (world_classes w) c → HasPointers w g memory' (part k o x) c b)
    → PointersStand w g s memory → PointersStand w g s' memory'
pointers_change w g s s' memory memory' p only opens keeps here old = record {
  pointers = λ k o b c x there made is_open is ready dynamic. ⊎_elim
      (λ owns. here k o b c x owns there made is_open is ready dynamic)
      (λ differ. owner_kept w g memory memory' (part k o x) c b made (keeps k o differ is_open)
      (old.pointers k o b c x there made (opens k is_open) (sym (view_elsewhere p s.phases s'.phases only k o b differ) ∙ is) (ap is_ready (sym (only.phase (part k o x) (λ same. differ (part_owns p k o x same)))) ∙ ready) dynamic))
      (owner_cases p k o);
}

-- where the view is known
pub pointers_here : (w : World) (g : Heap) (s : Objects) (memory : Store) (notes : Notes) (p : ObjectPart) (d : ClassId) (y : Subobject) (e : ClassId) → Made w g (whole_in p d) d → HasView w g s.phases notes p d y e
    → (s.is_closed p.object ≡ false → is_ready (s.phases.phase (part p.object p.owner y)) ≡ true → IsDynamic (world_classes w) e → HasPointers w g memory (part p.object p.owner y) e d)
    → (k : ℕ) (o : List Step) (b c : ClassId) (x : Subobject) → Owns p k o → Made w g (part k o (whole_of b)) b → Made w g (part k o x) c → s.is_closed k ≡ false → view s.phases k o b ≡ Some x → is_ready (s.phases.phase (part k o x)) ≡ true → IsDynamic (world_classes w) c → HasPointers w g memory (part k o x) c b
pointers_here w g s memory notes p d y e whole view_has has k o b c x owns there made is_open is ready dynamic =
    let one = one_view w g s.phases notes p d y e whole view_has k o b c x owns there is made in
    subst (λ (q : ObjectPart). HasPointers w g memory q c b) one.0
    (subst (λ (a : ClassId). HasPointers w g memory (part p.object p.owner y) a b) one.2
    (subst (λ (a : ClassId). HasPointers w g memory (part p.object p.owner y) e a) one.1
    (has (ap s.is_closed owns.object ∙ is_open) (ap (λ (q : ObjectPart). is_ready (s.phases.phase q)) one.0 ∙ ready) (subst (λ (a : ClassId). IsDynamic (world_classes w) a) (sym one.2) dynamic))))
