-- The classes that the ops of plans name are known, and their numbers are small.
use Rattle.std.proofs.Common.{◌≡◌, ℕ, ◌+◌, ◌*◌, ◌≤◌, ◌<◌, ◌^◌, false, Option, Some, None, List, [], ◌∷◌, All, length, get_or, refl, ap, subst, sym, ◌∙◌, arith}
use Rattle.std.specs.Prelude.{slice_get, Contains}
use Rattle.foundation.proofs.Places.{contains_at, any_default}
use Rattle.cxx_hierarchy.specs.declared.records.ClassId.{ClassId}
use Rattle.cxx_hierarchy.specs.declared.records.Base.{Base}
use Rattle.cxx_hierarchy.specs.declared.records.FieldType.TheVariants.{Object}
use Rattle.cxx_hierarchy.specs.Classes.{Classes, bases_of, members_of}
use Rattle.cxx_hierarchy.specs.Hierarchies.{IsHierarchy}
use Rattle.cxx_hierarchy.specs.VirtualBases.{IsDirectBase, HasVirtualBase}
use Rattle.cxx_subobject.specs.declared.Root.TheVariants.{Whole, Shared}
use Rattle.cxx_subobject.specs.declared.locations.Hop.TheVariants.{Inherit, Member as MemberHop}
use Rattle.cxx_subobject.specs.Locations.{IsElement, LeadsTo, to_subobject, to_inner}
use Rattle.cxx_subobject.specs.Subobjects.{IsSubobject, whole, shared, whole_of, subobject}
use Rattle.cxx_subobject.specs.VirtualBases.{virtual_bases}
use Rattle.cxx_subobject.proofs.PathLemmas.{base_before, virtual_below}
use Rattle.cxx_program.specs.declared.program.Owner.{Owner}
use Rattle.cxx_program.specs.declared.program.TypedBody.{TypedBody}
use Rattle.cxx_program.specs.declared.program.TypedProgram.{TypedProgram}
use Rattle.path_model.specs.States.{owned_body}
use Rattle.abi_sound.specs.declared.class_layout.ClassLayout.{ClassLayout}
use Rattle.abi_sound.specs.Places.{places_of}
use Rattle.abi_sound.specs.Sound.{IsSoundLayout}
use Rattle.abi_sound.proofs.PlaceLemmas.{place_at_inner}
use Rattle.abi_tables.proofs.ViewLemmas.{listed_base}
use Rattle.code_ops.specs.Setups.{locals_in}
use Rattle.code_ops.specs.invariants.Fits.{most_local_registers}
use Rattle.code_plans.specs.PlanSites.{HasFewLocals}

-- bases

pub base_known : (h : Classes) → IsHierarchy h → (c b : ClassId) → c.0 < length h → IsDirectBase h c false b → b.0 < length h
base_known h keeps c b known edge = let less = base_before h keeps c b false edge in omega arith

pub virtual_known : (h : Classes) → IsHierarchy h → (c v : ClassId) → c.0 < length h → HasVirtualBase h c v → v.0 < length h
virtual_known h keeps c v known has = let less = virtual_below h keeps c v has in omega arith

pub base_whole : (h : Classes) (c b : ClassId) (path : List ClassId) → IsDirectBase h c false b → path ≡ c ∷ b ∷ [] → IsSubobject h c (subobject Whole path)
base_whole h c b path edge is = subst (λ p. IsSubobject h c (subobject Whole p)) (sym is) (whole (b ∷ []) (edge, tt))

pub base_shared : (h : Classes) (c v : ClassId) (path : List ClassId) → HasVirtualBase h c v → path ≡ v ∷ [] → IsSubobject h c (subobject (Shared v) path)
base_shared h c v path has is = subst (λ p. IsSubobject h c (subobject (Shared v) p)) (sym is) (shared v [] has tt)

-- the virtual bases that a row lists have smaller numbers than their class
pub virtuals_below : (h : Classes) (rows : List ClassLayout) → IsHierarchy h → IsSoundLayout h rows → (c : ClassId) (row : ClassLayout) (list : List ClassId) (n : ℕ) → slice_get rows c.0 ≡ Some row → list ≡ row.virtual_bases → c.0 ≤ n → All (λ (d : ClassId). d.0 < n) list
virtuals_below h rows keeps sound c row list n there is within k d lt =
    let listed : list ≡ virtual_bases h c = is ∙ (sound.full.each c row there).virtuals in
    let less = virtual_below h keeps c (get_or list k d) (listed_base h c list k d listed lt) in
    omega arith

pub virtuals_are : (h : Classes) (rows : List ClassLayout) → IsSoundLayout h rows → (c : ClassId) (row : ClassLayout) (list : List ClassId) → slice_get rows c.0 ≡ Some row → list ≡ row.virtual_bases → list ≡ virtual_bases h c
virtuals_are h rows sound c row list there is = is ∙ (sound.full.each c row there).virtuals

-- and so have direct bases
pub bases_below : (h : Classes) → IsHierarchy h → (c : ClassId) (list : List (Base ClassId)) (n : ℕ) → list ≡ bases_of h c → c.0 ≤ n → All (λ (b : Base ClassId). b.class.0 < n) list
bases_below h keeps c list n is within k d lt =
    let listed : Contains (bases_of h c) (get_or list k d) = subst (λ bs. Contains bs (get_or list k d)) is (k, lt, any_default list k (get_or list k d) d lt) in
    let less = keeps.bases c (get_or list k d) listed in
    omega arith

-- members

-- the class of a member object
pub member_known : (h : Classes) → IsHierarchy h → (c d : ClassId) (m i : ℕ) → c.0 < length h → IsElement h c m i (Object d) → d.0 < length h
member_known h keeps c d m i known element = let low : d.0 < c.0 = keeps.objects c d element.member (contains_at (members_of h c) m element.member element.there) element.type_is in omega arith

-- an element lies within its class
element_small : (h : Classes) (rows : List ClassLayout) → IsSoundLayout h rows → (c d : ClassId) (m i : ℕ) → c.0 < length h → IsElement h c m i (Object d) → (places_of h rows).member c m + i * (places_of h rows).size d < 1048576
element_small h rows sound c d m i known element =
    let l = places_of h rows in
    let inner = Inherit (whole_of d) ∷ [] in
    let leads : LeadsTo h c (Inherit (whole_of c) ∷ MemberHop m i ∷ inner) (Object d) = to_inner c c d (whole_of c) m i inner (Object d) (whole [] tt) refl element (to_subobject d d (whole_of d) (whole [] tt) refl) in
    let place = place_at_inner h l c c d (whole_of c) m i inner refl element in
    let less = (sound.each c known).begins_inside d (Inherit (whole_of c) ∷ MemberHop m i ∷ inner) leads in
    let few = (sound.each c known).bounded in
    omega arith

-- the same of numbers that are read
pub element_same : (a b n f size place : ℕ) → a ≡ place → f ≡ n → b ≡ size → a + f * size ≡ place + n * b
element_same a b n f size place e g k = ap (λ i. i + f * size) e ∙ ap (λ i. place + i * size) g ∙ ap (λ i. place + n * i) (sym k)

numbers_fit : (a b n f size place : ℕ) → place + n * b < 1048576 → a ≡ place → f ≡ n → b ≡ size → a + f * size < 2 ^ 32
numbers_fit a b n f size place less e g k = let same = element_same a b n f size place e g k in omega arith

pub element_fits : (h : Classes) (rows : List ClassLayout) → IsSoundLayout h rows → (c d : ClassId) (m i : ℕ) → c.0 < length h → IsElement h c m i (Object d) → (a f size : ℕ) → a ≡ (places_of h rows).member c m → f ≡ i → (places_of h rows).size d ≡ size → a + f * size < 2 ^ 32
element_fits h rows sound c d m i known element a f size e g k = numbers_fit a ((places_of h rows).size d) i f size ((places_of h rows).member c m) (element_small h rows sound c d m i known element) e g k

-- registers

pub few_locals : (program : TypedProgram) → HasFewLocals program → (owner : Owner) (o : Option TypedBody) → o ≡ owned_body program owner → locals_in o < 2 ^ 31
few_locals program few owner None e = omega arith
few_locals program few owner (Some body) e = let less : length body.locals < most_local_registers = few.each owner body (sym e) in omega arith
