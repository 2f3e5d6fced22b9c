-- In the plan of an object the last event of a constructor that has a body stands behind that body, and nowhere else.
use Rattle.std.proofs.Common.{◌≡◌, ℕ, zero, suc, ◌+◌, refl, Bool, true, false, Option, Some, None, List, [], ◌∷◌, ◌++◌, length, ap, sym, ◌∙◌}
use Rattle.std.specs.Prelude.{slice_get, if◌then◌else◌}
use Rattle.std.specs.List.{flat_map}
use Rattle.cxx_hierarchy.specs.declared.records.ClassId.{ClassId}
use Rattle.cxx_hierarchy.specs.declared.records.Base.{Base}
use Rattle.cxx_hierarchy.specs.declared.records.Member.{Member}
use Rattle.cxx_hierarchy.specs.declared.records.FieldType.{FieldType}
use Rattle.cxx_hierarchy.specs.declared.records.FieldType.TheVariants.{Value, Object}
use Rattle.cxx_hierarchy.specs.Classes.{Classes, bases_of, members_of}
use Rattle.cxx_hierarchy.specs.Declarations.{elements_of}
use Rattle.cxx_program.specs.declared.program.Owner.TheVariants.{Constructor}
use Rattle.cxx_program.specs.declared.program.TypedProgram.{TypedProgram}
use Rattle.cxx_subobject.specs.Subobjects.{class_of}
use Rattle.foundation.proofs.Truth.{split}
use Rattle.path_plan.specs.Places.{ObjectPart, base_part, shared_part, element}
use Rattle.path_plan.specs.Phases.{PartEvent, Body, Done, End}
use Rattle.path_plan.specs.declared.form.Form.{Form}
use Rattle.path_plan.specs.declared.form.Form.TheVariants.{InFull, AsBase}
use Rattle.path_plan.specs.Plans.{Inner, backwards, upto, virtual_order, shared_events, base_events, init_events, typed_events, member_events, body_events, built_by, build, typed_ending, member_ending, ended_by, unbuild}
use Rattle.path_plan.specs.Whole.{whole_part, construction, destruction}
use Rattle.path_plan.proofs.Bases.{class_base}
use Rattle.path_model.specs.States.{plan_bodies, owned_body, is_body}
use Rattle.path_model.specs.Outs.{class_or_first}
use Rattle.path_model.specs.Steps.{class_of_part}
use Rattle.agree_plans.specs.Courses.{IsClosing, StartsOwn, EventsFollow}

module _ (program : TypedProgram) (building : Bool) where
  -- a list that may stand behind any event
  pub record IsPlain (es : List PartEvent) : Type 0 where
    pub starts : StartsOwn program es
    pub follows : EventsFollow program building es

  plain_none : IsPlain []
  plain_none = record { starts = tt; follows = tt }

  plain_cons : (e : PartEvent) (es : List PartEvent) → (IsClosing program e → ⊥) → IsPlain es → IsPlain (e ∷ es)
  plain_cons e es own a = record { starts = own; follows = (λ other. a.starts, a.follows) }

  starts_append : (es fs : List PartEvent) → StartsOwn program es → StartsOwn program fs → StartsOwn program (es ++ fs)
  starts_append [] fs a b = b
  starts_append (e ∷ es) fs a b = a

  follows_append : (es fs : List PartEvent) → EventsFollow program building es → IsPlain fs → EventsFollow program building (es ++ fs)
  follows_append [] fs a b = b.follows
  follows_append (e ∷ es) fs a b = (λ other. starts_append es fs (a.0 other) b.starts, follows_append es fs a.1 b)

  plain_append : (es fs : List PartEvent) → IsPlain es → IsPlain fs → IsPlain (es ++ fs)
  plain_append es fs a b = record { starts = starts_append es fs a.starts b.starts; follows = follows_append es fs a.follows b }

  plain_flat : {X : Type 0} (f : X → List PartEvent) (xs : List X) → ((x : X) → IsPlain (f x)) → IsPlain (flat_map f xs)
  plain_flat f [] each = plain_none
  plain_flat f (x ∷ xs) each = plain_append (f x) (flat_map f xs) (each x) (plain_flat f xs each)

  -- the plans of all parts of their class
  abbrev pub AllPlain : Inner → Type 0
  AllPlain inner = (form : Form) (c : ClassId) (p : ObjectPart) → class_of p.at ≡ Some c → IsPlain (inner form c p)

  shared_plain : (inner : Inner) → AllPlain inner → (form : Form) (p : ObjectPart) (order : List ClassId) → IsPlain (shared_events inner form p order)
  shared_plain inner all AsBase p order = plain_none
  shared_plain inner all InFull p order = plain_flat (λ v. inner AsBase v (shared_part p v)) order (λ v. all AsBase v (shared_part p v) refl)

  base_plain : (inner : Inner) → AllPlain inner → (c : ClassId) (p : ObjectPart) → class_of p.at ≡ Some c → (b : Base ClassId) → IsPlain (base_events inner p b)
  base_plain inner all c p class b = split b.is_virtual (λ t. IsPlain (if t then [] else inner AsBase b.class (base_part p b))) (λ e. plain_none) (λ e. all AsBase b.class (base_part p b) (class_base p c b class))

  elements_plain : (inner : Inner) → AllPlain inner → (p : ObjectPart) (m : ℕ) (d : ClassId) (indices : List ℕ) → IsPlain (flat_map (λ i. inner InFull d (element p m i d)) indices)
  elements_plain inner all p m d indices = plain_flat (λ i. inner InFull d (element p m i d)) indices (λ i. all InFull d (element p m i d) refl)

  init_plain : (set : Bool) (p : ObjectPart) (m : ℕ) → IsPlain (init_events set p m)
  init_plain true p m = plain_cons _ [] (λ closing. closing) plain_none
  init_plain false p m = plain_none

  typed_plain : (inner : Inner) → AllPlain inner → (c : ClassId) (p : ObjectPart) (m : ℕ) (indices : List ℕ) (type : FieldType ClassId) → IsPlain (typed_events inner (plan_bodies program) c p m indices type)
  typed_plain inner all c p m indices (Value type) = init_plain ((plan_bodies program).initializer c m) p m
  typed_plain inner all c p m indices (Object d) = elements_plain inner all p m d indices

  member_plain : (inner : Inner) → AllPlain inner → (c : ClassId) (p : ObjectPart) (m : ℕ) (o : Option (Member ClassId)) → IsPlain (member_events inner (plan_bodies program) c p m o)
  member_plain inner all c p m None = plain_none
  member_plain inner all c p m (Some member) = typed_plain inner all c p m (upto (elements_of member.count)) member.ty

  typed_ending_plain : (inner : Inner) → AllPlain inner → (p : ObjectPart) (m : ℕ) (indices : List ℕ) (type : FieldType ClassId) → IsPlain (typed_ending inner p m indices type)
  typed_ending_plain inner all p m indices (Value type) = plain_none
  typed_ending_plain inner all p m indices (Object d) = elements_plain inner all p m d indices

  member_ending_plain : (inner : Inner) → AllPlain inner → (p : ObjectPart) (m : ℕ) (o : Option (Member ClassId)) → IsPlain (member_ending inner p m o)
  member_ending_plain inner all p m None = plain_none
  member_ending_plain inner all p m (Some member) = typed_ending_plain inner all p m (backwards (upto (elements_of member.count))) member.ty

module _ (h : Classes) (program : TypedProgram) where
  -- construction

  last_plain : (c : ClassId) (p : ObjectPart) → class_of p.at ≡ Some c → (declared : Bool) → is_body (owned_body program (Constructor c)) ≡ declared → IsPlain program true (body_events declared p ++ Done p ∷ [])
  last_plain c p class true is = record { starts = λ closing. closing; follows = (λ other. absurd other, (λ other. tt, tt)) }
  last_plain c p class false is =
      let same : class_of_part p ≡ c = ap class_or_first class in
      let open_end : is_body (owned_body program (Constructor (class_of_part p))) ≡ false = ap (λ d. is_body (owned_body program (Constructor d))) same ∙ is in
      plain_cons program true (Done p) [] (λ closing. let f : true ≡ false = sym closing ∙ open_end in cc) (plain_none program true)

  built_plain : (inner : Inner) → AllPlain program true inner → AllPlain program true (built_by h (plan_bodies program) inner)
  built_plain inner all form c p class =
      plain_cons program true _ _ (λ closing. closing)
      (plain_append program true (shared_events inner form p (virtual_order h c)) _ (shared_plain program true inner all form p (virtual_order h c))
      (plain_append program true (flat_map (base_events inner p) (bases_of h c)) _ (plain_flat program true (base_events inner p) (bases_of h c) (base_plain program true inner all c p class))
      (plain_cons program true _ _ (λ closing. closing)
      (plain_append program true (flat_map (λ m. member_events inner (plan_bodies program) c p m (slice_get (members_of h c) m)) (upto (length (members_of h c)))) _
      (plain_flat program true (λ m. member_events inner (plan_bodies program) c p m (slice_get (members_of h c) m)) (upto (length (members_of h c))) (λ m. member_plain program true inner all c p m (slice_get (members_of h c) m)))
      (last_plain c p class ((plan_bodies program).constructor c) refl)))))

  build_plain : (n : ℕ) → AllPlain program true (build h (plan_bodies program) n)
  unfolding build
  build_plain zero form c p class = plain_none program true
  build_plain (suc n) form c p class = built_plain (build h (plan_bodies program) n) (build_plain n) form c p class

  pub construction_plain : (k : ℕ) (c : ClassId) → IsPlain program true (construction h (plan_bodies program) k c)
  construction_plain k c = build_plain (c.0 + 1) InFull c (whole_part k c) refl

  -- destruction

  first_plain : (declared : Bool) (p : ObjectPart) → IsPlain program false (body_events declared p)
  first_plain true p = plain_cons program false (Body p) [] (λ closing. closing) (plain_none program false)
  first_plain false p = plain_none program false

  ended_plain : (inner : Inner) → AllPlain program false inner → AllPlain program false (ended_by h (plan_bodies program) inner)
  ended_plain inner all form c p class =
      plain_cons program false _ _ (λ closing. closing)
      (plain_append program false (body_events ((plan_bodies program).destructor c) p) _ (first_plain ((plan_bodies program).destructor c) p)
      (plain_append program false (flat_map (λ m. member_ending inner p m (slice_get (members_of h c) m)) (backwards (upto (length (members_of h c))))) _
      (plain_flat program false (λ m. member_ending inner p m (slice_get (members_of h c) m)) (backwards (upto (length (members_of h c)))) (λ m. member_ending_plain program false inner all p m (slice_get (members_of h c) m)))
      (plain_cons program false _ _ (λ closing. closing)
      (plain_append program false (flat_map (base_events inner p) (backwards (bases_of h c))) _ (plain_flat program false (base_events inner p) (backwards (bases_of h c)) (base_plain program false inner all c p class))
      (plain_append program false (shared_events inner form p (backwards (virtual_order h c))) _ (shared_plain program false inner all form p (backwards (virtual_order h c)))
      (plain_cons program false (End p) [] (λ closing. closing) (plain_none program false)))))))

  unbuild_plain : (n : ℕ) → AllPlain program false (unbuild h (plan_bodies program) n)
  unfolding unbuild
  unbuild_plain zero form c p class = plain_none program false
  unbuild_plain (suc n) form c p class = ended_plain (unbuild h (plan_bodies program) n) (unbuild_plain n) form c p class

  pub destruction_plain : (k : ℕ) (c : ClassId) → IsPlain program false (destruction h (plan_bodies program) k c)
  destruction_plain k c = unbuild_plain (c.0 + 1) InFull c (whole_part k c) refl
