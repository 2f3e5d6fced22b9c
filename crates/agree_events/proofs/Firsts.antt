-- The frames of objects that are made, and of those that are deleted.
use Rattle.std.proofs.Common.{◌≡◌, ℕ, ⊎_elim, Bool, true, false, ◌&&◌, Some, List, [], ◌∷◌, ◌++◌, length, refl, ap, subst, sym, ◌∙◌}
use Rattle.std.specs.Prelude.{if◌then◌else◌}
use Rattle.std.specs.List.{Contains, slice_get}
use Rattle.cxx_hierarchy.specs.declared.records.ClassId.{ClassId}
use Rattle.cxx_hierarchy.specs.Hierarchies.{IsHierarchy}
use Rattle.cxx_subobject.specs.declared.Subobject.{Subobject}
use Rattle.cxx_subobject.specs.Locations.{Step, ObjectPart}
use Rattle.foundation.proofs.Truth.{split}
use Rattle.foundation.proofs.Deciding.{decide_number}
use Rattle.foundation.proofs.Members.{has_from_contains}
use Rattle.path_plan.specs.Places.{part, same_complete_object}
use Rattle.path_plan.specs.Phases.{Phases, is_in_bases, is_running}
use Rattle.path_plan.specs.declared.form.Form.{Form}
use Rattle.path_plan.specs.declared.form.Form.TheVariants.{InFull, AsBase}
use Rattle.path_plan.specs.Whole.{whole_part, IsNew, IsSameBut}
use Rattle.path_plan.proofs.Same.{owner_same}
use Rattle.agree_parts.proofs.Made.{whole_made}
use Rattle.code_ops.specs.Routines.{IsCourse}
use Rattle.code_ops.specs.declared.routines.Course.{Course}
use Rattle.agree_relation.specs.Worlds.{World, world_classes}
use Rattle.agree_relation.specs.Goings.{Going, going, has_begun, stack_in, AreGoing, WaitsIn, AllWaitIn, IsInStep, ArePlanned}
use Rattle.agree_relation.proofs.Grown.{part_more, old_part}
use Rattle.agree_events.proofs.Stacks.{going_off}
use Rattle.agree_events.proofs.Opened.{some_heap, waiting}

-- the plan of a heap object of which nothing runs
pub planned_first : (w : World) → IsHierarchy (world_classes w) → (classes : List ClassId) (s : Phases) (course : Course) (k : ℕ) (c : ClassId) (fs : List Going) → IsCourse course InFull → slice_get classes k ≡ Some c → ((o : List Step) → s.running k o ≡ []) → ArePlanned w classes s fs
    → ArePlanned w classes s (going w course InFull c (whole_part k c) ∷ fs)
planned_first w keeps classes s course k c fs fits there idle planned =
    let made = whole_made (world_classes w) (some_heap classes) k c there in
    let none : (o : List Step) → stack_in fs k o ≡ [] = λ o. sym (planned.stack k o) ∙ idle o in
    record {
      going = (waiting w keeps classes course InFull c c (whole_part k c) fs fits made made (λ o deep. none o) (none [], refl, refl), planned.going);
      waits = (tt, planned.waits);
      stack = λ j o. planned.stack j o ∙ sym (going_off w keeps course InFull c (whole_part k c) fs j o);
      in_step = planned.in_step;
    }

-- one object more

going_more : (w : World) (classes : List ClassId) (c : ClassId) (fs : List Going) → AreGoing w classes fs → AreGoing w (classes ++ c ∷ []) fs
going_more w classes c [] are = tt
going_more w classes c (f ∷ fs) are = let g = are.0 in (
  record {
    made = part_more (world_classes w) classes c f.class f.part g.made;
    complete = g.complete;
    whole = part_more (world_classes w) classes c g.complete (part f.part.object f.part.owner _) g.whole;
    course = g.course;
    kind = g.kind;
    rest = g.rest;
    is = g.is;
    ends = g.ends;
    deep = g.deep;
    stands = g.stands;
  },
  going_more w classes c fs are.1,
)

-- no frame is one of the new object
none_new : (w : World) (classes : List ClassId) (fs : List Going) → AreGoing w classes fs → (o : List Step) → stack_in fs (length classes) o ≡ []
none_new w classes [] are o = refl
none_new w classes (f ∷ fs) are o = split (has_begun f.left && same_complete_object f.part.object f.part.owner (length classes) o) (λ b. (if b then f.part.at ∷ stack_in fs (length classes) o else stack_in fs (length classes) o) ≡ [])
    (λ e. absurd (old_part (world_classes w) classes f.class f.part are.0.made (owner_same f.part.object f.part.owner (length classes) o (second (has_begun f.left) (same_complete_object f.part.object f.part.owner (length classes) o) e)).0))
    (λ e. none_new w classes fs are.1 o)
  where
    second : (a b : Bool) → (a && b) ≡ true → b ≡ true
    second true b e = e
    second false b e = absurd (cc)

waits_in_more : (s s' : Phases) (k : ℕ) → IsSameBut k s s' → (form : Form) (p : ObjectPart) (stack : List Subobject) → (p.object ≡ k → ⊥) → WaitsIn s form p stack → WaitsIn s' form p stack
waits_in_more s s' k same InFull p stack other waits = tt
waits_in_more s s' k same AsBase p [] other waits = absurd waits
waits_in_more s s' k same AsBase p (y ∷ rest) other waits = ap is_in_bases (same.phase (part p.object p.owner y) other) ∙ waits

waits_more : (w : World) (classes : List ClassId) (s s' : Phases) → IsSameBut (length classes) s s' → (fs : List Going) → AreGoing w classes fs → AllWaitIn s fs → AllWaitIn s' fs
waits_more w classes s s' same [] are waits = tt
waits_more w classes s s' same (f ∷ fs) are waits = (waits_in_more s s' (length classes) same f.form f.part (stack_in fs f.part.object f.part.owner) (old_part (world_classes w) classes f.class f.part are.0.made) waits.0, waits_more w classes s s' same fs are.1 waits.1)

in_step_more : (s s' : Phases) (k : ℕ) → IsSameBut k s s' → IsNew k s' → IsInStep s → IsInStep s'
in_step_more s s' k same new keeps = record {
  runs = λ j o y has. ⊎_elim
      (λ e. absurd (has_from_contains [] y (subst (λ (xs : List Subobject). Contains xs y) (new.idle o) (subst (λ i. Contains (s'.running i o) y) e has))))
      (λ other. ap is_running (same.phase (part j o y) other) ∙ keeps.runs j o y (subst (λ (xs : List Subobject). Contains xs y) (same.running j o other) has)) (decide_number j k);
  once = λ j o a b y first second. ⊎_elim
      (λ e. let none : s'.running j o ≡ [] = ap (λ i. s'.running i o) e ∙ new.idle o in absurd (nothing a y (ap (λ xs. slice_get xs a) (sym none) ∙ first)))
      (λ other. let is = same.running j o other in keeps.once j o a b y (ap (λ xs. slice_get xs a) (sym is) ∙ first) (ap (λ xs. slice_get xs b) (sym is) ∙ second)) (decide_number j k);
}
  where
    nothing : (a : ℕ) (y : Subobject) → slice_get [] a ≡ Some y → ⊥
    nothing a y e = cc

-- the frames of a state stay those after one object more was made, and nothing of it was begun
pub planned_more : (w : World) → (classes : List ClassId) (s s' : Phases) (c : ClassId) (fs : List Going) → IsSameBut (length classes) s s' → IsNew (length classes) s' → ArePlanned w classes s fs → ArePlanned w (classes ++ c ∷ []) s' fs
planned_more w classes s s' c fs same new planned = record {
  going = going_more w classes c fs planned.going;
  waits = waits_more w classes s s' same fs planned.going planned.waits;
  stack = λ j o. ⊎_elim
      (λ e. ap (λ i. s'.running i o) e ∙ (new.idle o ∙ (sym (none_new w classes fs planned.going o) ∙ ap (λ i. stack_in fs i o) (sym e))))
      (λ other. same.running j o other ∙ planned.stack j o) (decide_number j (length classes));
  in_step = in_step_more s s' (length classes) same new planned.in_step;
}
