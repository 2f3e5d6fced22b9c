-- What is left of a plan behind an own event: parts of the class, each where it may stand, and the last event last.
use Rattle.std.proofs.Common.{◌≡◌, ℕ, ◌<◌, inl, inr, Bool, true, false, Option, Some, None, List, [], ◌∷◌, ◌++◌, map, length, append_assoc, refl, subst, sym, ◌∙◌, arith}
use Rattle.std.specs.Prelude.{slice_get, if◌then◌else◌}
use Rattle.std.specs.List.{flat_map, Contains}
use Rattle.cxx_hierarchy.specs.declared.records.ClassId.{ClassId}
use Rattle.cxx_hierarchy.specs.declared.records.Base.{Base}
use Rattle.cxx_hierarchy.specs.declared.records.Member.{Member}
use Rattle.cxx_hierarchy.specs.declared.records.ValueType.{ValueType}
use Rattle.cxx_hierarchy.specs.declared.records.FieldType.{FieldType}
use Rattle.cxx_hierarchy.specs.declared.records.FieldType.TheVariants.{Value, Object}
use Rattle.cxx_hierarchy.specs.Classes.{bases_of, members_of}
use Rattle.cxx_hierarchy.specs.Declarations.{elements_of}
use Rattle.cxx_hierarchy.specs.VirtualBases.{HasVirtualBase}
use Rattle.cxx_hierarchy.specs.Hierarchies.{IsHierarchy}
use Rattle.cxx_subobject.specs.Locations.{IsElement}
use Rattle.foundation.proofs.Truth.{split}
use Rattle.foundation.proofs.Members.{Has, contains_from_has}
use Rattle.path_plan.specs.declared.form.Form.{Form}
use Rattle.path_plan.specs.declared.form.Form.TheVariants.{InFull, AsBase}
use Rattle.path_plan.specs.Plans.{Bodies, upto, backwards, virtual_order}
use Rattle.path_plan.specs.Pieces.{Choice}
use Rattle.path_plan.proofs.Order.{order_virtual}
use Rattle.path_plan.proofs.Members.{has_count, has_backwards}
use Rattle.path_model.specs.States.{plan_bodies}
use Rattle.code_blocks.specs.Blocks.{items}
use Rattle.code_blocks.specs.Items.{Item, Does, Shares, Inherits, Holds, indices, shared_base_items, base_items, init_items, body_items, typed_items, member_items}
use Rattle.code_blocks.specs.Lowered.{IsEnd}
use Rattle.code_blocks.specs.declared.items.Kind.{Kind}
use Rattle.code_blocks.specs.declared.items.Kind.TheVariants.{AtBegin, AtReady, AtInit, AtBody, AtDone, AtEnding, AtBases, AtEnd}
use Rattle.code_blocks.specs.declared.items.Way.{Way}
use Rattle.code_blocks.specs.declared.items.Way.TheVariants.{Forwards, Backwards}
use Rattle.code_ops.specs.Setups.{Setup}
use Rattle.code_ops.specs.declared.routines.Course.{Course}
use Rattle.code_ops.specs.declared.routines.Course.TheVariants.{Constructs, Destroys, Deletes}
use Rattle.agree_relation.specs.Goings.{is_first_event, stops}

-- bases stand behind `begin` and behind `bases` alone
abbrev pub opens_bases : Kind → Bool
opens_bases AtBegin = true
opens_bases AtReady = false
opens_bases (AtInit m) = false
opens_bases AtBody = false
opens_bases AtDone = false
opens_bases AtEnding = false
opens_bases AtBases = true
opens_bases AtEnd = false

abbrev pub bodies_in : Setup → Bodies
bodies_in x = plan_bodies x.program

-- an initializer sets a member that is a number or a pointer
pub record IsSet (x : Setup) (c : ClassId) (m : ℕ) : Type 0 where
  pub member : Member ClassId
  pub there : slice_get (members_of x.h c) m ≡ Some member
  pub type : ValueType ClassId
  pub type_is : member.ty ≡ Value type
  pub set : (bodies_in x).initializer c m ≡ true

-- the class declares the constructor or the destructor whose body a plan runs
abbrev pub has_own_body : Setup → Course → ClassId → Bool
has_own_body x Constructs c = (bodies_in x).constructor c
has_own_body x Destroys c = (bodies_in x).destructor c
has_own_body x Deletes c = (bodies_in x).destructor c

abbrev pub IsFine : Setup → Course → ClassId → Kind → Type 0
IsFine x course c AtBegin = Unit {0}
IsFine x course c AtReady = Unit {0}
IsFine x course c (AtInit m) = IsSet x c m
IsFine x course c AtBody = has_own_body x course c ≡ true
IsFine x course c AtDone = Unit {0}
IsFine x course c AtEnding = Unit {0}
IsFine x course c AtBases = Unit {0}
IsFine x course c AtEnd = Unit {0}

abbrev pub AreLeft : Setup → Course → Form → ClassId → Bool → List Item → Type 0
AreLeft x course form c bases [] = ⊥
AreLeft x course form c bases (Does k ∷ left) = (is_first_event k ≡ false) × IsFine x course c k × Choice (stops k) (left ≡ []) (AreLeft x course form c (opens_bases k) left)
AreLeft x course form c bases (Shares v ∷ left) = (bases ≡ true) × (form ≡ InFull) × HasVirtualBase x.h c v × AreLeft x course form c bases left
AreLeft x course form c bases (Inherits b ∷ left) = (bases ≡ true) × Contains (bases_of x.h c) b × (b.is_virtual ≡ false) × AreLeft x course form c bases left
AreLeft x course form c bases (Holds way m d n ∷ left) = ((i : ℕ) → Has (indices way n) i → IsElement x.h c m i (Object d)) × AreLeft x course form c bases left

-- behind an own event of kind k
abbrev pub Behind : Setup → Course → Form → ClassId → Kind → List Item → Type 0
Behind x course form c k left = Choice (stops k) (left ≡ []) (AreLeft x course form c (opens_bases k) left)

pub record IsPlan (x : Setup) (course : Course) (form : Form) (c : ClassId) : Type 0 where
  pub first : Kind
  pub left : List Item
  pub is : items x course form c ≡ Does first ∷ left
  pub begins : is_first_event first ≡ true
  pub goes : stops first ≡ false
  pub fine : IsFine x course c first
  pub behind : AreLeft x course form c (opens_bases first) left

-- parts and own events, each where it may stand
shared_left : (x : Setup) (course : Course) (c : ClassId) (order : List ClassId) (ys : List Item) → ((v : ClassId) → Has order v → HasVirtualBase x.h c v) → AreLeft x course InFull c true ys → AreLeft x course InFull c true (map Shares order ++ ys)
shared_left x course c [] ys each left = left
shared_left x course c (v ∷ order) ys each left = (refl, refl, each v (inl refl), shared_left x course c order ys (λ u has. each u (inr has)) left)

shared_by : (x : Setup) (course : Course) (form : Form) (c : ClassId) (order : List ClassId) (ys : List Item) → ((v : ClassId) → Has order v → HasVirtualBase x.h c v) → AreLeft x course form c true ys → AreLeft x course form c true (shared_base_items form order ++ ys)
shared_by x course AsBase c order ys each left = left
shared_by x course InFull c order ys each left = shared_left x course c order ys each left

bases_left : (x : Setup) (course : Course) (form : Form) (c : ClassId) (bs : List (Base ClassId)) (ys : List Item) → ((b : Base ClassId) → Has bs b → Contains (bases_of x.h c) b) → AreLeft x course form c true ys → AreLeft x course form c true (flat_map base_items bs ++ ys)
bases_left x course form c [] ys each left = left
bases_left x course form c (b ∷ bs) ys each left = split b.is_virtual (λ t. b.is_virtual ≡ t → AreLeft x course form c true (((if t then [] else Inherits b ∷ []) ++ flat_map base_items bs) ++ ys))
    (λ _ e. bases_left x course form c bs ys (λ d has. each d (inr has)) left) (λ _ e. (refl, each b (inl refl), e, bases_left x course form c bs ys (λ d has. each d (inr has)) left)) refl

init_left : (x : Setup) (course : Course) (form : Form) (c : ClassId) (b : Bool) (m : ℕ) (ys : List Item) → (b ≡ true → IsSet x c m) → AreLeft x course form c false ys → AreLeft x course form c false (init_items b m ++ ys)
init_left x course form c true m ys set left = (refl, set refl, left)
init_left x course form c false m ys set left = left

pub index_below : (way : Way) (n i : ℕ) → Has (indices way n) i → i < n
index_below Forwards n i has = let r = (has_count 0 n i has).1 in omega arith
index_below Backwards n i has = let r = (has_count 0 n i (has_backwards (upto n) i has)).1 in omega arith

typed_left : (x : Setup) (course : Course) (form : Form) (c : ClassId) (b : Bool) (way : Way) (m : ℕ) (member : Member ClassId) (ys : List Item) → slice_get (members_of x.h c) m ≡ Some member → (b ≡ true → (bodies_in x).initializer c m ≡ true) → (ty : FieldType ClassId) → member.ty ≡ ty
    → AreLeft x course form c false ys → AreLeft x course form c false (typed_items b way m (elements_of member.count) ty ++ ys)
typed_left x course form c b way m member ys at set (Value type) e left = init_left x course form c b m ys (λ t. record { member = member; there = at; type = type; type_is = e; set = set t }) left
typed_left x course form c b way m member ys at set (Object d) e left = (λ i has. record { member = member; there = at; type_is = e; within = index_below way (elements_of member.count) i has }, left)

member_left : (x : Setup) (course : Course) (form : Form) (c : ClassId) (b : Bool) (way : Way) (m : ℕ) (ys : List Item) → (b ≡ true → (bodies_in x).initializer c m ≡ true) → (o : Option (Member ClassId)) → slice_get (members_of x.h c) m ≡ o
    → AreLeft x course form c false ys → AreLeft x course form c false (member_items b way m o ++ ys)
member_left x course form c b way m ys set None at left = left
member_left x course form c b way m ys set (Some member) at left = typed_left x course form c b way m member ys at set member.ty refl left

members_left : (x : Setup) (course : Course) (form : Form) (c : ClassId) (b : ℕ → Bool) (way : Way) (ms : List ℕ) (ys : List Item) → ((m : ℕ) → b m ≡ true → (bodies_in x).initializer c m ≡ true)
    → AreLeft x course form c false ys → AreLeft x course form c false (flat_map (λ m. member_items (b m) way m (slice_get (members_of x.h c) m)) ms ++ ys)
members_left x course form c b way [] ys set left = left
members_left x course form c b way (m ∷ ms) ys set left =
    let rest = flat_map (λ m. member_items (b m) way m (slice_get (members_of x.h c) m)) ms in
    subst (λ (is : List Item). AreLeft x course form c false is) (sym (append_assoc (member_items (b m) way m (slice_get (members_of x.h c) m)) rest ys))
    (member_left x course form c (b m) way m (rest ++ ys) (set m) (slice_get (members_of x.h c) m) refl (members_left x course form c b way ms ys set left))

body_left : (x : Setup) (course : Course) (form : Form) (c : ClassId) (b : Bool) (ys : List Item) → (b ≡ true → has_own_body x course c ≡ true) → AreLeft x course form c false ys → AreLeft x course form c false (body_items b ++ ys)
body_left x course form c true ys own left = (refl, own refl, left)
body_left x course form c false ys own left = left

built_plan : (x : Setup) → IsHierarchy x.h → (form : Form) (c : ClassId) → IsPlan x Constructs form c
built_plan x keeps form c = let bodies = bodies_in x in record {
  first = AtBegin;
  left = _;
  is = refl;
  begins = refl;
  goes = refl;
  fine = tt;
  behind = shared_by x Constructs form c (virtual_order x.h c) _ (λ v has. order_virtual x.h keeps c v has)
      (bases_left x Constructs form c (bases_of x.h c) _ (λ b has. contains_from_has (bases_of x.h c) b has)
      (refl, tt, members_left x Constructs form c (bodies.initializer c) Forwards (upto (length (members_of x.h c))) _ (λ m e. e) (body_left x Constructs form c (bodies.constructor c) (Does AtDone ∷ []) (λ e. e) (refl, tt, refl))));
}

ended_left : (x : Setup) → IsHierarchy x.h → (course : Course) (form : Form) (c : ClassId) → ((bodies_in x).destructor c ≡ true → has_own_body x course c ≡ true)
    → AreLeft x course form c false (body_items ((bodies_in x).destructor c)
    ++ (flat_map (λ m. member_items false Backwards m (slice_get (members_of x.h c) m)) (backwards (upto (length (members_of x.h c))))
    ++ (Does AtBases ∷ (flat_map base_items (backwards (bases_of x.h c)) ++ (shared_base_items form (backwards (virtual_order x.h c)) ++ Does AtEnd ∷ [])))))
ended_left x keeps course form c own = body_left x course form c ((bodies_in x).destructor c) _ own (members_left x course form c (λ m. false) Backwards (backwards (upto (length (members_of x.h c)))) _ (λ m e. absurd (cc)) (
  refl,
  tt,
  bases_left x course form c (backwards (bases_of x.h c)) _ (λ b has. contains_from_has (bases_of x.h c) b (has_backwards (bases_of x.h c) b has))
      (shared_by x course form c (backwards (virtual_order x.h c)) (Does AtEnd ∷ []) (λ v has. order_virtual x.h keeps c v (has_backwards (virtual_order x.h c) v has)) (refl, tt, refl)),
))

-- each plan is one
pub plan_of : (x : Setup) → IsHierarchy x.h → (course : Course) (form : Form) (c : ClassId) → IsPlan x course form c
plan_of x keeps Constructs form c = built_plan x keeps form c
plan_of x keeps Destroys form c = record { first = AtEnding; left = _; is = refl; begins = refl; goes = refl; fine = tt; behind = ended_left x keeps Destroys form c (λ e. e) }
plan_of x keeps Deletes form c = record { first = AtEnding; left = _; is = refl; begins = refl; goes = refl; fine = tt; behind = ended_left x keeps Deletes form c (λ e. e) }

-- what is known of an own event, by what is left behind it
pub record IsAt (x : Setup) (course : Course) (form : Form) (c : ClassId) (k : Kind) (left : List Item) : Type 0 where
  pub fine : IsFine x course c k
  pub behind : Behind x course form c k left

at_later : (x : Setup) (course : Course) (form : Form) (c : ClassId) (bases : Bool) (before : List Item) (k : Kind) (left : List Item) → AreLeft x course form c bases (before ++ Does k ∷ left) → IsAt x course form c k left
at_later x course form c bases [] k left are = record { fine = are.1; behind = are.2 }
at_later x course form c bases (Does j ∷ before) k left are = split (stops j) (λ t. Choice t (before ++ Does k ∷ left ≡ []) (AreLeft x course form c (opens_bases j) (before ++ Does k ∷ left)) → IsAt x course form c k left)
    (λ _ none. absurd (not_empty before none)) (λ _ more. at_later x course form c (opens_bases j) before k left more) are.2
  where
    not_empty : (before : List Item) → before ++ Does k ∷ left ≡ [] → ⊥
    not_empty [] e = cc
    not_empty (i ∷ before) e = cc
at_later x course form c bases (Shares v ∷ before) k left are = at_later x course form c bases before k left are.3
at_later x course form c bases (Inherits b ∷ before) k left are = at_later x course form c bases before k left are.3
at_later x course form c bases (Holds way m d n ∷ before) k left are = at_later x course form c bases before k left are.1

-- each own event of a plan
pub at_event : (x : Setup) → IsHierarchy x.h → (course : Course) (form : Form) (c : ClassId) (k : Kind) (left : List Item) → IsEnd x course form c (Does k ∷ left) → IsAt x course form c k left
at_event x keeps course form c k left end = let plan = plan_of x keeps course form c in go end.before (end.is ∙ plan.is)
  where
    plan : IsPlan x course form c
    plan = plan_of x keeps course form c

    go : (before : List Item) → before ++ Does k ∷ left ≡ Does plan.first ∷ plan.left → IsAt x course form c k left
    go [] e =
        let kinds : Does k ≡ Does plan.first = cc in
        let same : k ≡ plan.first = cc (kinds) in
        let rest : left ≡ plan.left = cc in
        record {
          fine = subst (λ j. IsFine x course c j) (sym same) plan.fine;
          behind = subst (λ (xs : List Item). Behind x course form c k xs) (sym rest) (subst (λ j. Behind x course form c j plan.left) (sym same) (subst (λ b. Choice b (plan.left ≡ []) (AreLeft x course form c (opens_bases plan.first) plan.left)) (sym plan.goes) plan.behind));
        }
    go (i ∷ before) e = let rest : before ++ Does k ∷ left ≡ plan.left = cc in at_later x course form c (opens_bases plan.first) before k left (subst (λ (xs : List Item). AreLeft x course form c (opens_bases plan.first) xs) (sym rest) plan.behind)
