-- Places: of joined subobjects, of locations, and of the objects that steps lead to.
use Rattle.std.proofs.Common.{◌≡◌, ℕ, ◌+◌, ◌*◌, Option, Some, None, List, [], ◌∷◌, ◌++◌, ap, sym, ◌∙◌, arith, append_assoc}
use Rattle.cxx_hierarchy.specs.declared.records.ClassId.{ClassId}
use Rattle.cxx_hierarchy.specs.declared.records.Member.{Member}
use Rattle.cxx_hierarchy.specs.declared.records.ValueType.{ValueType}
use Rattle.cxx_hierarchy.specs.declared.records.FieldType.{FieldType}
use Rattle.cxx_hierarchy.specs.declared.records.FieldType.TheVariants.{Value, Object}
use Rattle.cxx_hierarchy.specs.Classes.{Classes}
use Rattle.cxx_subobject.specs.declared.Root.TheVariants.{Whole}
use Rattle.cxx_subobject.specs.declared.Subobject.{Subobject}
use Rattle.cxx_subobject.specs.Subobjects.{subobject, IsSubobject, whole, shared, last_of, class_of, class_of_path, join}
use Rattle.abi_sound.specs.declared.class_layout.ClassLayout.{ClassLayout}
use Rattle.cxx_subobject.specs.declared.locations.Hop.{Hop}
use Rattle.cxx_subobject.specs.declared.locations.Hop.TheVariants.{Inherit, Member as MemberHop}
use Rattle.cxx_subobject.specs.Locations.{IsElement, Step, IsOwner, hops_of_steps, hops_of}
use Rattle.abi_sound.specs.Places.{Places, size_of_value, direct_base_place, place_along, place_from, place_in_class}
use Rattle.abi_sound.specs.Locations.{size_of_type, stride_in, class_of_type, class_of_member, element_place, element_class, base_place_in, place_behind, place_along_hops, class_at_steps, owner_place}

-- the places along a path are those along its two parts
pub place_join : (h : Classes) (rows : List ClassLayout) (c : ClassId) (p q : List ClassId) → place_along h rows c (p ++ q) ≡ place_along h rows c p + place_along h rows (last_of c p) q
place_join h rows c [] q = omega arith
place_join h rows c (b ∷ p) q = let r = place_join h rows b p q in omega arith

-- the places along a path that is longer by one base
pub place_longer : (h : Classes) (rows : List ClassLayout) (path : List ClassId) (d b : ClassId) → class_of_path path ≡ Some d → place_from h rows (path ++ b ∷ []) ≡ place_from h rows path + direct_base_place h rows d b
place_longer h rows [] d b e = let f : None ≡ Some d = e in cc
place_longer h rows (a ∷ path) d b e =
    let same : last_of a path ≡ d = cc in
    let joined = place_join h rows a path (b ∷ []) in
    let last : direct_base_place h rows (last_of a path) b ≡ direct_base_place h rows d b = ap (λ (x : ClassId). direct_base_place h rows x b) same in
    omega arith

-- a direct base lies its place behind the subobject whose base it is
pub direct_place : (h : Classes) (rows : List ClassLayout) (c d b : ClassId) (s : Subobject) → class_of s ≡ Some d → place_in_class h rows c (subobject s.root (s.path ++ b ∷ [])) ≡ place_in_class h rows c s + direct_base_place h rows d b
direct_place h rows c d b s class = let longer = place_longer h rows s.path d b class in omega arith

-- a subobject of a subobject lies its own place behind that, unless it lies in a virtual base
pub joined : (h : Classes) (rows : List ClassLayout) (c d : ClassId) (s t : Subobject) → IsSubobject h c s → class_of s ≡ Some d → IsSubobject h d t → t.root ≡ Whole → place_in_class h rows c (join s t) ≡ place_in_class h rows c s + place_in_class h rows d t
joined h rows c d s _ x e (shared v path has m) f = cc
joined h rows c d _ _ (whole p l) e (whole q m) f =
    let same : last_of c p ≡ d = cc in
    let r : place_along h rows c (p ++ q) ≡ place_along h rows c p + place_along h rows d q = place_join h rows c p q ∙ ap (λ (x : ClassId). place_along h rows c p + place_along h rows x q) same in
    omega (arith, r)
joined h rows c d _ _ (shared v p has l) e (whole q m) f =
    let same : last_of v p ≡ d = cc in
    let r : place_along h rows v (p ++ q) ≡ place_along h rows v p + place_along h rows d q = place_join h rows v p q ∙ ap (λ (x : ClassId). place_along h rows v p + place_along h rows x q) same in
    omega (arith, r)

-- the place of an element in an object of its class
pub element_place_is : (h : Classes) (l : Places) (o : Option ClassId) (d : ClassId) (m i : ℕ) (type : FieldType ClassId) → o ≡ Some d → IsElement h d m i type → element_place h l o m i ≡ l.member d m + i * size_of_type l type
element_place_is h l o d m i type e is =
    ap (λ (x : Option ClassId). element_place h l x m i) e
    ∙ (ap (λ (x : Option (Member ClassId)). l.member d m + i * stride_in l x) is.there
    ∙ ap (λ (t : FieldType ClassId). l.member d m + i * size_of_type l t) is.type_is)

-- the class of an element that is an object
pub element_class_is : (h : Classes) (o : Option ClassId) (d : ClassId) (m i : ℕ) (type : FieldType ClassId) → o ≡ Some d → IsElement h d m i type → element_class h o m ≡ class_of_type type
element_class_is h o d m i type e is =
    ap (λ (x : Option ClassId). element_class h x m) e
    ∙ (ap class_of_member is.there ∙ ap class_of_type is.type_is)

-- the place of a class subobject is its own
pub place_at_base : (h : Classes) (l : Places) (c : ClassId) (s : Subobject) → place_along_hops h l c (Inherit s ∷ []) ≡ l.place c s
place_at_base h l c s = omega arith

-- the place of an element that is a number or a pointer
pub place_at_value : (h : Classes) (l : Places) (c d : ClassId) (s : Subobject) (m i : ℕ) (type : ValueType ClassId) → class_of s ≡ Some d → IsElement h d m i (Value type) → place_along_hops h l c (Inherit s ∷ MemberHop m i ∷ []) ≡ l.place c s + (l.member d m + i * size_of_value type)
place_at_value h l c d s m i type e is = let p = element_place_is h l (class_of s) d m i (Value type) e is in omega (arith, p)

-- the place of what lies in an element
pub place_at_inner : (h : Classes) (l : Places) (c d e : ClassId) (s : Subobject) (m i : ℕ) (hops : List Hop) → class_of s ≡ Some d → IsElement h d m i (Object e) → place_along_hops h l c (Inherit s ∷ MemberHop m i ∷ hops) ≡ l.place c s + (l.member d m + i * l.size e) + place_along_hops h l e hops
place_at_inner h l c d e s m i hops f is =
    let p = element_place_is h l (class_of s) d m i (Object e) f is in
    let q : place_behind h l (element_class h (class_of s) m) hops ≡ place_along_hops h l e hops = ap (λ (x : Option ClassId). place_behind h l x hops) (element_class_is h (class_of s) d m i (Object e) f is) in
    omega (arith, p, q)

-- the class of the object that steps lead to
pub owner_class_is : (h : Classes) (c d : ClassId) (steps : List Step) → IsOwner h c steps d → class_at_steps h c steps ≡ Some d
owner_class_is h c d [] is = let e : d ≡ c = is in ap Some (sym e)
owner_class_is h c d (step ∷ rest) is = element_class_is h (class_of step.base) is.1 step.member step.index (Object d) is.4 is.5

-- what lies behind steps lies there in the object that they lead to
pub behind_steps : (h : Classes) (l : Places) (c d : ClassId) (steps : List Step) (hops : List Hop) → IsOwner h c steps d → place_along_hops h l c (hops_of_steps steps ++ hops) ≡ owner_place h l c steps + place_along_hops h l d hops
behind_steps h l c d [] hops is = let e : d ≡ c = is in let f : place_along_hops h l d hops ≡ place_along_hops h l c hops = ap (λ (x : ClassId). place_along_hops h l x hops) e in omega (arith, f)
behind_steps h l c d (step ∷ rest) hops is =
    let more : List Hop = Inherit step.base ∷ MemberHop step.member step.index ∷ hops in
    let up = is.0 in
    let r = behind_steps h l c up rest more is.2 in
    let there = owner_class_is h c up rest is.2 in
    let b : base_place_in l (class_at_steps h c rest) step.base ≡ l.place up step.base = ap (λ (x : Option ClassId). base_place_in l x step.base) there in
    let q : place_behind h l (element_class h (class_of step.base) step.member) hops ≡ place_along_hops h l d hops = ap (λ (x : Option ClassId). place_behind h l x hops) (owner_class_is h c d (step ∷ rest) is) in
    let a : place_along_hops h l c ((hops_of_steps rest ++ Inherit step.base ∷ MemberHop step.member step.index ∷ []) ++ hops) ≡ place_along_hops h l c (hops_of_steps rest ++ more) = ap (place_along_hops h l c) (append_assoc (hops_of_steps rest) (Inherit step.base ∷ MemberHop step.member step.index ∷ []) hops) in
    omega (arith, r, b, q, a)

-- the place of a subobject of the object that steps lead to
pub owner_place_is : (h : Classes) (l : Places) (c d : ClassId) (steps : List Step) (s : Subobject) → IsOwner h c steps d → place_along_hops h l c (hops_of steps s) ≡ owner_place h l c steps + l.place d s
owner_place_is h l c d steps s is = let r = behind_steps h l c d steps (Inherit s ∷ []) is in omega (arith, r)
