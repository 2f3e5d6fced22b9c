-- The frames that an event opens are frames of the plan.
use Rattle.std.proofs.Common.{◌≡◌, ℕ, ◌<◌, inl, inr, ⊎_elim, Bool, List, [], ◌∷◌, ◌++◌, length, map, append_assoc, refl, ap, subst, sym, ◌∙◌, arith}
use Rattle.std.specs.Prelude.{if◌then◌else◌}
use Rattle.std.specs.List.{Contains}
use Rattle.cxx_hierarchy.specs.declared.records.ClassId.{ClassId}
use Rattle.cxx_hierarchy.specs.declared.records.FieldType.TheVariants.{Object}
use Rattle.cxx_hierarchy.specs.Hierarchies.{IsHierarchy}
use Rattle.cxx_subobject.specs.declared.Subobject.{Subobject}
use Rattle.cxx_subobject.specs.Subobjects.{whole_of}
use Rattle.cxx_subobject.specs.Locations.{Step, ObjectPart, IsElement}
use Rattle.foundation.proofs.Truth.{split}
use Rattle.foundation.proofs.Members.{Has}
use Rattle.foundation.proofs.Places.{contains_first, contains_later}
use Rattle.path_plan.specs.Places.{part, base_part, shared_part, element, same_complete_object}
use Rattle.path_plan.specs.declared.form.Form.{Form}
use Rattle.path_plan.specs.declared.form.Form.TheVariants.{InFull, AsBase}
use Rattle.path_plan.proofs.Same.{owner_same, owner_itself}
use Rattle.path_model.specs.TypedStates.{IsPartMade}
use Rattle.agree_parts.specs.Heaps.{Heap}
use Rattle.agree_parts.proofs.Made.{base_made, shared_made, element_is_made}
use Rattle.code_blocks.specs.Blocks.{base_course}
use Rattle.code_blocks.specs.Items.{Item, Does, Shares, Inherits, Holds, indices}
use Rattle.code_blocks.specs.Lowered.{IsEnd}
use Rattle.code_ops.specs.Routines.{IsCourse}
use Rattle.code_ops.specs.declared.routines.Course.{Course}
use Rattle.code_ops.specs.declared.routines.Course.TheVariants.{Constructs, Destroys, Deletes}
use Rattle.agree_relation.specs.Worlds.{World, world_classes}
use Rattle.agree_relation.specs.Goings.{Going, going, element_going, opened_goings, stack_in, IsDeeper, StandsOnStack, IsGoing, AreGoing}
use Rattle.agree_events.proofs.Left.{AreLeft, plan_of}
use Rattle.agree_events.proofs.Stacks.{over, stack_opened, elements_off}

-- complete objects inside others

deeper_longer : (o r : List Step) → IsDeeper o r → length r < length o
deeper_longer [] r deep = absurd deep
deeper_longer (s ∷ o) r deep = ⊎_elim (λ e. let f : length o ≡ length r = ap length e in omega arith) (λ more. let f = deeper_longer o r more in omega arith) deep

deeper_not : (o r : List Step) → IsDeeper o r → r ≡ o → ⊥
deeper_not o r deep e = let f = deeper_longer o r deep in let g : length r ≡ length o = ap length e in omega arith

deeper_down : (o : List Step) (s : Step) (r : List Step) → IsDeeper o (s ∷ r) → IsDeeper o r
deeper_down [] s r deep = absurd deep
deeper_down (t ∷ o) s r deep = ⊎_elim (λ e. inr (subst (λ (xs : List Step). IsDeeper xs r) (sym e) (inl refl))) (λ more. inr (deeper_down o s r more)) deep

-- what is known of a frame wherever it stands in its items
pub record Holding (w : World) (classes : List ClassId) (f : Going) (below : List Going) : Type 0 where
  pub made : IsPartMade (world_classes w) classes f.part f.class
  pub complete : ClassId
  pub whole : IsPartMade (world_classes w) classes (part f.part.object f.part.owner (whole_of complete)) complete
  pub course : IsCourse f.course f.form
  pub deep : (o : List Step) → IsDeeper o f.part.owner → stack_in below f.part.object o ≡ []
  pub stands : StandsOnStack f.form f.class complete f.part (stack_in below f.part.object f.part.owner)

pub over_deeper : (p : ObjectPart) (below : List Going) (o : List Step) → IsDeeper o p.owner → over p below p.object o ≡ stack_in below p.object o
over_deeper p below o deep = split (same_complete_object p.object p.owner p.object o) (λ b. (if b then p.at ∷ stack_in below p.object o else stack_in below p.object o) ≡ stack_in below p.object o)
    (λ e. absurd (deeper_not o p.owner deep (owner_same p.object p.owner p.object o e).1)) (λ e. refl)

pub over_itself : (p : ObjectPart) (below : List Going) → over p below p.object p.owner ≡ p.at ∷ stack_in below p.object p.owner
over_itself p below = rw (owner_itself p.object p.owner) refl

-- the whole is on the stack of each of its bases
whole_on : (form : Form) (c d : ClassId) (p : ObjectPart) (stack : List Subobject) → StandsOnStack form c d p stack → Contains (p.at ∷ stack) (whole_of d)
whole_on InFull c d p stack stands = subst (λ (y : Subobject). Contains (p.at ∷ stack) y) (stands.1 ∙ ap whole_of (sym stands.2)) (contains_first p.at stack)
whole_on AsBase c d p stack stands = contains_later p.at stack (whole_of d) stands

pub end_next : (w : World) (course : Course) (form : Form) (c : ClassId) (i : Item) (left : List Item) → IsEnd w.setup course form c (i ∷ left) → IsEnd w.setup course form c left
end_next w course form c i left end = record { before = end.before ++ i ∷ []; is = append_assoc end.before (i ∷ []) left ∙ end.is }

pub base_fits : (course : Course) (form : Form) → IsCourse (base_course course) form
base_fits Constructs form = tt
base_fits Destroys form = tt
base_fits Deletes form = tt

-- a part that waits at its first event
pub waiting : (w : World) → IsHierarchy (world_classes w) → (classes : List ClassId) (course : Course) (form : Form) (c d : ClassId) (q : ObjectPart) (gs : List Going) → IsCourse course form → IsPartMade (world_classes w) classes q c
    → IsPartMade (world_classes w) classes (part q.object q.owner (whole_of d)) d → ((o : List Step) → IsDeeper o q.owner → stack_in gs q.object o ≡ []) → StandsOnStack form c d q (stack_in gs q.object q.owner) → IsGoing w classes (going w course form c q) gs
waiting w keeps classes course form c d q gs fits made whole deep stands = let plan = plan_of w.setup keeps course form c in record {
  made = made;
  complete = d;
  whole = whole;
  course = fits;
  kind = plan.first;
  rest = plan.left;
  is = plan.is;
  ends = record { before = []; is = refl };
  deep = deep;
  stands = stands;
}

-- the stack of the parts that an event of f opens
abbrev Opens : Going → List Going → List Going → Type 0
Opens f below gs = (k : ℕ) (o : List Step) → stack_in gs k o ≡ over f.part below k o

base_going : (w : World) → IsHierarchy (world_classes w) → (classes : List ClassId) (f : Going) (below gs : List Going) → Holding w classes f below → Opens f below gs → (c : ClassId) (at : Subobject) → IsPartMade (world_classes w) classes (part f.part.object f.part.owner at) c
    → IsGoing w classes (going w (base_course f.course) AsBase c (part f.part.object f.part.owner at)) gs
base_going w keeps classes f below gs holds opens c at made = waiting w keeps classes (base_course f.course) AsBase c holds.complete (part f.part.object f.part.owner at) gs (base_fits f.course AsBase) made holds.whole
    (λ o deep. opens f.part.object o ∙ over_deeper f.part below o deep ∙ holds.deep o deep)
    (subst (λ (xs : List Subobject). Contains xs (whole_of holds.complete)) (sym (opens f.part.object f.part.owner ∙ over_itself f.part below)) (whole_on f.form f.class holds.complete f.part (stack_in below f.part.object f.part.owner) holds.stands))

-- objects of these classes, wherever they lie
abbrev pub some_heap : List ClassId → Heap
some_heap classes = record { classes = classes; starts = [] }

element_stands : (w : World) → IsHierarchy (world_classes w) → (classes : List ClassId) (f : Going) (below gs : List Going) → Holding w classes f below → Opens f below gs → (m i : ℕ) (d : ClassId) → IsElement (world_classes w) f.class m i (Object d) → IsGoing w classes (element_going w f m d i) gs
element_stands w keeps classes f below gs holds opens m i d is =
    let step : Step = record { base = f.part.at; member = m; index = i } in
    let made = element_is_made (world_classes w) (some_heap classes) f.part f.class d m i holds.made is in
    waiting w keeps classes (base_course f.course) InFull d d (element f.part m i d) gs (base_fits f.course InFull) made made
    (λ o deep. let down = deeper_down o step f.part.owner deep in opens f.part.object o ∙ over_deeper f.part below o down ∙ holds.deep o down)
    (opens f.part.object (step ∷ f.part.owner) ∙ over_deeper f.part below (step ∷ f.part.owner) (inl refl) ∙ holds.deep (step ∷ f.part.owner) (inl refl), refl, refl)

elements_going : (w : World) → IsHierarchy (world_classes w) → (classes : List ClassId) (f : Going) (below gs : List Going) → Holding w classes f below → Opens f below gs → AreGoing w classes gs → (m : ℕ) (d : ClassId) (is : List ℕ) → ((i : ℕ) → Has is i → IsElement (world_classes w) f.class m i (Object d))
    → AreGoing w classes (map (element_going w f m d) is ++ gs)
elements_going w keeps classes f below gs holds opens are m d [] each = are
elements_going w keeps classes f below gs holds opens are m d (i ∷ is) each = (
  element_stands w keeps classes f below (map (element_going w f m d) is ++ gs) holds (λ k o. elements_off w keeps f m d is gs k o ∙ opens k o) m i d (each i (inl refl)),
  elements_going w keeps classes f below gs holds opens are m d is (λ j has. each j (inr has)),
)

pub going_opened : (w : World) → IsHierarchy (world_classes w) → (classes : List ClassId) (f : Going) (below : List Going) → Holding w classes f below → AreGoing w classes below → (bases : Bool) (left : List Item) → IsEnd w.setup f.course f.form f.class left → AreLeft w.setup f.course f.form f.class bases left
    → AreGoing w classes (opened_goings w f left below)
going_opened w keeps classes f below holds are bases [] end tail = absurd tail
going_opened w keeps classes f below holds are bases (Does k ∷ left) end tail =
    (record { made = holds.made; complete = holds.complete; whole = holds.whole; course = holds.course; kind = k; rest = left; is = refl; ends = end; deep = holds.deep; stands = holds.stands }, are)
going_opened w keeps classes f below holds are bases (Shares v ∷ left) end tail = (
  base_going w keeps classes f below (opened_goings w f left below) holds (stack_opened w keeps f bases left below tail.3) v (shared_part f.part v).at (shared_made (world_classes w) (some_heap classes) f.part f.class v holds.made tail.2),
  going_opened w keeps classes f below holds are bases left (end_next w f.course f.form f.class (Shares v) left end) tail.3,
)
going_opened w keeps classes f below holds are bases (Inherits b ∷ left) end tail = (
  base_going w keeps classes f below (opened_goings w f left below) holds (stack_opened w keeps f bases left below tail.3) b.class (base_part f.part b).at (base_made (world_classes w) (some_heap classes) f.part f.class b holds.made tail.1),
  going_opened w keeps classes f below holds are bases left (end_next w f.course f.form f.class (Inherits b) left end) tail.3,
)
going_opened w keeps classes f below holds are bases (Holds way m d n ∷ left) end tail =
    elements_going w keeps classes f below (opened_goings w f left below) holds (stack_opened w keeps f bases left below tail.1) (going_opened w keeps classes f below holds are bases left (end_next w f.course f.form f.class (Holds way m d n) left end) tail.1) m d (indices way n) tail.0
