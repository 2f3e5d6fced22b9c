-- The frames of a plan step by step: those that are opened, and the stacks of those that have begun.
use Rattle.std.proofs.Common.{◌≡◌, ℕ, Bool, true, false, List, [], ◌∷◌, ◌++◌, map, refl, ap, sym, ◌∙◌}
use Rattle.std.specs.Prelude.{not, if◌then◌else◌}
use Rattle.cxx_hierarchy.specs.declared.records.ClassId.{ClassId}
use Rattle.cxx_hierarchy.specs.Hierarchies.{IsHierarchy}
use Rattle.cxx_subobject.specs.declared.Subobject.{Subobject}
use Rattle.cxx_subobject.specs.Locations.{Step, ObjectPart}
use Rattle.foundation.proofs.Truth.{split}
use Rattle.path_plan.specs.Places.{base_part, shared_part, same_complete_object}
use Rattle.path_plan.specs.Phases.{Phases, popped, rest_of, phases_after}
use Rattle.path_plan.specs.declared.form.Form.{Form}
use Rattle.path_plan.specs.declared.form.Form.TheVariants.{InFull, AsBase}
use Rattle.code_blocks.specs.Blocks.{items, base_course}
use Rattle.code_blocks.specs.Items.{Item, Does, Shares, Inherits, Holds, indices, event_of}
use Rattle.code_blocks.specs.declared.items.Kind.{Kind}
use Rattle.code_blocks.specs.declared.items.Kind.TheVariants.{AtBegin, AtReady, AtInit, AtBody, AtDone, AtEnding, AtBases, AtEnd}
use Rattle.code_ops.specs.declared.routines.Course.{Course}
use Rattle.agree_relation.specs.Worlds.{World, world_classes}
use Rattle.agree_relation.specs.Goings.{Going, going, at_left, element_going, opened_goings, has_begun, stack_in}
use Rattle.agree_events.proofs.Left.{AreLeft, Behind, plan_of}

-- a part at the start of its plan has not begun
not_begun : (w : World) → IsHierarchy (world_classes w) → (course : Course) (form : Form) (c : ClassId) → has_begun (items w.setup course form c) ≡ false
not_begun w keeps course form c = let plan = plan_of w.setup keeps course form c in ap has_begun plan.is ∙ ap not plan.begins

-- and is on no stack
waits_off : (f : Going) (fs : List Going) (k : ℕ) (o : List Step) → has_begun f.left ≡ false → stack_in (f ∷ fs) k o ≡ stack_in fs k o
waits_off f fs k o e = rw e refl

pub going_off : (w : World) → IsHierarchy (world_classes w) → (course : Course) (form : Form) (c : ClassId) (p : ObjectPart) (fs : List Going) (k : ℕ) (o : List Step) → stack_in (going w course form c p ∷ fs) k o ≡ stack_in fs k o
going_off w keeps course form c p fs k o = waits_off (going w course form c p) fs k o (not_begun w keeps course form c)

pub elements_off : (w : World) → IsHierarchy (world_classes w) → (f : Going) (m : ℕ) (d : ClassId) (is : List ℕ) (fs : List Going) (k : ℕ) (o : List Step) → stack_in (map (element_going w f m d) is ++ fs) k o ≡ stack_in fs k o
elements_off w keeps f m d [] fs k o = refl
elements_off w keeps f m d (i ∷ is) fs k o = waits_off (element_going w f m d i) (map (element_going w f m d) is ++ fs) k o (not_begun w keeps (base_course f.course) InFull d) ∙ elements_off w keeps f m d is fs k o

-- p, begun, over the frames below
abbrev pub over : ObjectPart → List Going → ℕ → List Step → List Subobject
over p below k o = if same_complete_object p.object p.owner k o then p.at ∷ stack_in below k o else stack_in below k o

pub stack_opened : (w : World) → IsHierarchy (world_classes w) → (f : Going) (bases : Bool) (left : List Item) (below : List Going) → AreLeft w.setup f.course f.form f.class bases left → (k : ℕ) (o : List Step) → stack_in (opened_goings w f left below) k o ≡ over f.part below k o
stack_opened w keeps f bases [] below tail k o = absurd tail
stack_opened w keeps f bases (Does e ∷ left) below tail k o = rw tail.0 refl
stack_opened w keeps f bases (Shares v ∷ left) below tail k o = going_off w keeps (base_course f.course) AsBase v (shared_part f.part v) (opened_goings w f left below) k o ∙ stack_opened w keeps f bases left below tail.3 k o
stack_opened w keeps f bases (Inherits b ∷ left) below tail k o = going_off w keeps (base_course f.course) AsBase b.class (base_part f.part b) (opened_goings w f left below) k o ∙ stack_opened w keeps f bases left below tail.3 k o
stack_opened w keeps f bases (Holds way m d n ∷ left) below tail k o = elements_off w keeps f m d (indices way n) (opened_goings w f left below) k o ∙ stack_opened w keeps f bases left below tail.1 k o

popped_over : (p : ObjectPart) (below : List Going) (r : ℕ → List Step → List Subobject) (k : ℕ) (o : List Step) → r k o ≡ over p below k o → popped r p k o ≡ stack_in below k o
popped_over p below r k o e = split (same_complete_object p.object p.owner k o)
    (λ b. r k o ≡ (if b then p.at ∷ stack_in below k o else stack_in below k o) → (if b then rest_of (r k o) else r k o) ≡ stack_in below k o)
    (λ t f. ap rest_of f) (λ t f. f) e

-- after an own event of the top frame the stacks are those of the frames that are left
pub stack_step : (w : World) → IsHierarchy (world_classes w) → (s : Phases) (f : Going) (e : Kind) (left : List Item) (below : List Going) → Behind w.setup f.course f.form f.class e left
    → ((k : ℕ) (o : List Step) → s.running k o ≡ stack_in (at_left f (Does e ∷ left) ∷ below) k o)
    → (k : ℕ) (o : List Step) → (phases_after s (event_of e f.part)).running k o ≡ stack_in (opened_goings w f left below) k o
stack_step w keeps s f AtBegin left below tail are k o = (λ i. if same_complete_object f.part.object f.part.owner k o then f.part.at ∷ are k o i else are k o i) ∙ sym (stack_opened w keeps f true left below tail k o)
stack_step w keeps s f AtReady left below tail are k o = are k o ∙ sym (stack_opened w keeps f false left below tail k o)
stack_step w keeps s f (AtInit m) left below tail are k o = are k o ∙ sym (stack_opened w keeps f false left below tail k o)
stack_step w keeps s f AtBody left below tail are k o = are k o ∙ sym (stack_opened w keeps f false left below tail k o)
stack_step w keeps s f AtDone left below tail are k o = popped_over f.part below s.running k o (are k o) ∙ ap (λ (xs : List Item). stack_in (opened_goings w f xs below) k o) (sym tail)
stack_step w keeps s f AtEnding left below tail are k o = (λ i. if same_complete_object f.part.object f.part.owner k o then f.part.at ∷ are k o i else are k o i) ∙ sym (stack_opened w keeps f false left below tail k o)
stack_step w keeps s f AtBases left below tail are k o = are k o ∙ sym (stack_opened w keeps f true left below tail k o)
stack_step w keeps s f AtEnd left below tail are k o = popped_over f.part below s.running k o (are k o) ∙ ap (λ (xs : List Item). stack_in (opened_goings w f xs below) k o) (sym tail)
