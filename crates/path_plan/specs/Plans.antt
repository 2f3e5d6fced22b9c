-- The plan of a part: the events of its construction and of its destruction, as flat lists (ISO C++03 12.6.2 p5, 12.4 p6, 12.6 p3).
use Rattle.std.specs.Prelude.{ℕ, zero, suc, ◌+◌, Bool, false, nat_eq, ◌||◌, if◌then◌else◌, Option, List, [], ◌∷◌, ◌++◌, length, slice_get}
use Rattle.std.specs.Option.{option_map_or}
use Rattle.std.specs.List.{flat_map}
use Rattle.cxx_hierarchy.specs.declared.records.ClassId.{ClassId}
use Rattle.cxx_hierarchy.specs.declared.records.Base.{Base}
use Rattle.cxx_hierarchy.specs.declared.records.Member.{Member}
use Rattle.cxx_hierarchy.specs.declared.records.FieldType.{FieldType}
use Rattle.cxx_hierarchy.specs.declared.records.FieldType.TheVariants.{Value, Object}
use Rattle.cxx_hierarchy.specs.Classes.{Classes, bases_of, members_of}
use Rattle.cxx_hierarchy.specs.Declarations.{elements_of}
use Rattle.path_plan.specs.declared.form.Form.{Form}
use Rattle.path_plan.specs.declared.form.Form.TheVariants.{InFull, AsBase}
use Rattle.path_plan.specs.Places.{ObjectPart, base_part, shared_part, element}
use Rattle.path_plan.specs.Phases.{PartEvent, Begin, Ready, Init, Body, Done, Ending, Bases, End}

-- which constructors and destructors are declared, and which members an initializer sets
pub record Bodies : Type 0 where
  pub constructor : ClassId → Bool
  pub destructor : ClassId → Bool
  pub initializer : ClassId → ℕ → Bool

-- the virtual bases that a depth-first walk from left to right meets, a base's own ones before it (12.6.2 p5), each as often as it is met
abbrev pub walk : Classes → ℕ → ClassId → List ClassId
walk h zero c = []
walk h (suc n) c = flat_map (λ b. walk h n b.class ++ (if b.is_virtual then b.class ∷ [] else [])) (bases_of h c)

-- a class of this number is listed
abbrev pub is_among : List ClassId → ClassId → Bool
is_among [] v = false
is_among (w ∷ met) v = nat_eq w.0 v.0 || is_among met v

-- each class where it stands first, but for those met before
abbrev pub unmet : List ClassId → List ClassId → List ClassId
unmet met [] = []
unmet met (v ∷ list) = if is_among met v then unmet met list else v ∷ unmet (v ∷ met) list

-- the order in which the virtual bases of a complete object are built (12.6.2 p5)
abbrev pub virtual_order : Classes → ClassId → List ClassId
virtual_order h c = unmet [] (walk h (c.0 + 1) c)

-- n numbers from a on
abbrev pub count_from : ℕ → ℕ → List ℕ
count_from a zero = []
count_from a (suc n) = a ∷ count_from (suc a) n

-- the numbers below n
abbrev pub upto : ℕ → List ℕ
upto n = count_from 0 n

-- a list from its end
abbrev pub backwards : {X : Type 0} → List X → List X
backwards [] = []
backwards (x ∷ xs) = backwards xs ++ x ∷ []

-- a plan for each form, class and part
abbrev pub Inner : Type 0
Inner = Form → ClassId → ObjectPart → List PartEvent

-- the virtual bases, of a complete object alone
abbrev pub shared_events : Inner → Form → ObjectPart → List ClassId → List PartEvent
shared_events inner AsBase p order = []
shared_events inner InFull p order = flat_map (λ v. inner AsBase v (shared_part p v)) order

-- a direct base that is not virtual
abbrev pub base_events : Inner → ObjectPart → Base ClassId → List PartEvent
base_events inner p b = if b.is_virtual then [] else inner AsBase b.class (base_part p b)

-- a member of a number or a pointer type is set only by an initializer
abbrev pub init_events : Bool → ObjectPart → ℕ → List PartEvent
init_events is_set p m = if is_set then Init p m ∷ [] else []

-- a member by its type: the elements of an array one after the other (12.6 p3)
abbrev pub typed_events : Inner → Bodies → ClassId → ObjectPart → ℕ → List ℕ → FieldType ClassId → List PartEvent
typed_events inner bodies c p m indices (Value type) = init_events (bodies.initializer c m) p m
typed_events inner bodies c p m indices (Object d) = flat_map (λ i. inner InFull d (element p m i d)) indices

-- the body, where it is declared
abbrev pub body_events : Bool → ObjectPart → List PartEvent
body_events is_declared p = if is_declared then Body p ∷ [] else []

-- member number m, whose record is given
abbrev pub member_events : Inner → Bodies → ClassId → ObjectPart → ℕ → Option (Member ClassId) → List PartEvent
member_events inner bodies c p m declared = option_map_or (λ member. typed_events inner bodies c p m (upto (elements_of member.count)) member.ty) declared []

-- a construction: it begins, virtual bases, direct bases, the part is ready, its members, its body, it is done (12.6.2 p5)
abbrev pub built_by : Classes → Bodies → Inner → Inner
built_by h bodies inner form c p =
    Begin p ∷ (shared_events inner form p (virtual_order h c)
    ++ (flat_map (base_events inner p) (bases_of h c)
    ++ (Ready p ∷ (flat_map (λ m. member_events inner bodies c p m (slice_get (members_of h c) m)) (upto (length (members_of h c)))
    ++ (body_events (bodies.constructor c) p ++ Done p ∷ [])))))

-- the same to a depth of n: bases and members are of classes of smaller numbers
unfoldable pub build : Classes → Bodies → ℕ → Inner
build h bodies zero form c p = []
build h bodies (suc n) form c p = built_by h bodies (build h bodies n) form c p

-- a member by its type, in the order of destruction
abbrev pub typed_ending : Inner → ObjectPart → ℕ → List ℕ → FieldType ClassId → List PartEvent
typed_ending inner p m indices (Value type) = []
typed_ending inner p m indices (Object d) = flat_map (λ i. inner InFull d (element p m i d)) indices

-- the elements of a member from the last to the first (12.4 p6)
abbrev pub member_ending : Inner → ObjectPart → ℕ → Option (Member ClassId) → List PartEvent
member_ending inner p m declared = option_map_or (λ member. typed_ending inner p m (backwards (upto (elements_of member.count))) member.ty) declared []

-- a destruction: it begins, its body, its members, the part is no more ready, direct bases, virtual bases, it has ended, all backwards (12.4 p6)
abbrev pub ended_by : Classes → Bodies → Inner → Inner
ended_by h bodies inner form c p =
    Ending p ∷ (body_events (bodies.destructor c) p
    ++ (flat_map (λ m. member_ending inner p m (slice_get (members_of h c) m)) (backwards (upto (length (members_of h c))))
    ++ (Bases p ∷ (flat_map (base_events inner p) (backwards (bases_of h c))
    ++ (shared_events inner form p (backwards (virtual_order h c)) ++ End p ∷ [])))))

-- the same to a depth of n
unfoldable pub unbuild : Classes → Bodies → ℕ → Inner
unbuild h bodies zero form c p = []
unbuild h bodies (suc n) form c p = ended_by h bodies (unbuild h bodies n) form c p

-- the construction of a part of class c, as deep as its class needs
abbrev pub plan : Classes → Bodies → Inner
plan h bodies form c p = build h bodies (c.0 + 1) form c p

-- its destruction
abbrev pub unplan : Classes → Bodies → Inner
unplan h bodies form c p = unbuild h bodies (c.0 + 1) form c p
