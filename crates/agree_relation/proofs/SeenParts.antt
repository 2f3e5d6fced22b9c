-- The view of a complete object is one of its parts; and the end of a heap object's whole closes that object.
use Rattle.std.proofs.Common.{◌≡◌, ℕ, Bool, true, false, Some, None, List, [], ◌∷◌, refl, ap, subst, sym, ◌∙◌}
use Rattle.std.specs.Prelude.{◌&&◌, if◌then◌else◌, slice_get}
use Rattle.foundation.proofs.Truth.{split, is_false}
use Rattle.cxx_hierarchy.specs.declared.records.ClassId.{ClassId}
use Rattle.cxx_hierarchy.specs.Classes.{Classes}
use Rattle.cxx_subobject.specs.declared.Subobject.{Subobject}
use Rattle.cxx_subobject.specs.Subobjects.{whole_of}
use Rattle.cxx_subobject.specs.Locations.{Step, ObjectPart}
use Rattle.path_plan.specs.Places.{part, same_complete_object, same_part}
use Rattle.path_plan.specs.Phases.{Phases, End, is_complete, is_ready, top_subobject}
use Rattle.path_plan.specs.Views.{view, Settled}
use Rattle.path_plan.specs.Whole.{whole_part}
use Rattle.path_plan.proofs.Same.{owner_same, part_same, part_itself}
use Rattle.path_model.specs.Values.{Objects}
use Rattle.path_model.specs.Outs.{class_or_first, object_class}
use Rattle.path_model.specs.Steps.{ends_object}
use Rattle.path_model.specs.TypedStates.{IsPartMade}
use Rattle.agree_relation.specs.Worlds.{World, world_classes}
use Rattle.agree_relation.specs.Goings.{Going, has_begun, stack_in, AreGoing, ArePlanned}
use Rattle.agree_relation.proofs.Closing.{IsClosing}

-- the top of a stack is a part whose plan goes on
top_made : (w : World) (classes : List ClassId) (fs : List Going) (k : ℕ) (o : List Step) (x : Subobject) → AreGoing w classes fs → top_subobject (stack_in fs k o) ≡ Some x → (e : ClassId) × IsPartMade (world_classes w) classes (part k o x) e
top_made w classes [] k o x going e = absurd (let f : None ≡ Some x = e in cc)
top_made w classes (f ∷ fs) k o x going e = split (has_begun f.left && same_complete_object f.part.object f.part.owner k o)
    (λ b. (has_begun f.left && same_complete_object f.part.object f.part.owner k o) ≡ b → top_subobject (if b then f.part.at ∷ stack_in fs k o else stack_in fs k o) ≡ Some x → (e : ClassId) × IsPartMade (world_classes w) classes (part k o x) e)
    (λ begun _ first.
    let at : f.part.at ≡ x = let g : Some f.part.at ≡ Some x = first in cc in
    let one = owner_same f.part.object f.part.owner k o (right (has_begun f.left) (same_complete_object f.part.object f.part.owner k o) begun) in
    let same : f.part ≡ part k o x = λ i. part (one.0 i) (one.1 i) (at i) in
    (f.class, subst (λ (p : ObjectPart). IsPartMade (world_classes w) classes p f.class) same going.0.made))
    (λ _ _ first. top_made w classes fs k o x going.1 first) refl e
  where
    right : (a b : Bool) → (a && b) ≡ true → b ≡ true
    right true b both = both
    right false b both = absurd (cc)

-- the view of a complete object is one of its parts
pub view_made : (w : World) (classes : List ClassId) (s : Phases) (fs : List Going) (k : ℕ) (o : List Step) (d : ClassId) (x : Subobject) → ArePlanned w classes s fs → IsPartMade (world_classes w) classes (part k o (whole_of d)) d → view s k o d ≡ Some x →
    (e : ClassId) × IsPartMade (world_classes w) classes (part k o x) e
view_made w classes s fs k o d x planned whole seen = split (is_complete (s.phase (part k o (whole_of d))))
    (λ b. (if b then Some (whole_of d) else top_subobject (s.running k o)) ≡ Some x → (e : ClassId) × IsPartMade (world_classes w) classes (part k o x) e)
    (λ _ e. let same : whole_of d ≡ x = cc in (d, subst (λ (y : Subobject). IsPartMade (world_classes w) classes (part k o y) d) same whole))
    (λ _ e. top_made w classes fs k o x planned.going (ap top_subobject (sym (planned.stack k o)) ∙ e)) seen

-- in an object that is settled it is ready
pub view_ready : (h : Classes) (s : Phases) (k : ℕ) (o : List Step) (d : ClassId) (x : Subobject) → Settled h k s → view s k o d ≡ Some x → is_ready (s.phase (part k o x)) ≡ true
view_ready h s k o d x settled seen = settled.ready_view o d x seen

-- the end of a part closes the heap object whose whole it is, and no other one

abbrev pub closed_after : Objects → ObjectPart → ℕ → Bool
closed_after s p k = if ends_object s (End p) k then true else s.is_closed k

pub whole_end_closes : (s : Objects) (k : ℕ) (c : ClassId) → slice_get s.classes k ≡ Some c → IsClosing s k (closed_after s (whole_part k c))
whole_end_closes s k c class = record {
  here = let same : same_part (whole_part k c) (whole_part k (object_class s k)) ≡ true = ap (λ (d : ClassId). same_part (whole_part k c) (whole_part k d)) (ap class_or_first class) ∙ part_itself (whole_part k c) in ap (λ (b : Bool). if b then true else s.is_closed k) same;
  others = λ j other.
      let differ : same_part (whole_part k c) (whole_part j (object_class s j)) ≡ false = is_false _ (λ same. other (sym (ap (λ (p : ObjectPart). p.object) (part_same (whole_part k c) (whole_part j (object_class s j)) same)))) in
      ap (λ (b : Bool). if b then true else s.is_closed j) differ;
}

pub other_end_closes_none : (s : Objects) (p : ObjectPart) (c : ClassId) → slice_get s.classes p.object ≡ Some c → (p ≡ whole_part p.object c → ⊥) → (k : ℕ) → closed_after s p k ≡ s.is_closed k
other_end_closes_none s p c class other k = ap (λ (b : Bool). if b then true else s.is_closed k) (is_false (same_part p (whole_part k (object_class s k))) (λ same.
    let one = part_same p (whole_part k (object_class s k)) same in
    let object : p.object ≡ k = ap (λ (q : ObjectPart). q.object) one in
    let there : object_class s k ≡ c = ap (object_class s) (sym object) ∙ ap class_or_first class in
    other (one ∙ λ i. whole_part (sym object i) (there i))))
