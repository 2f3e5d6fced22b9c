-- The virtual pointers of a laid hierarchy are sound: inside, and apart from numbers and from each other.
use Rattle.std.proofs.Common.{◌≡◌, ℕ, ◌+◌, ◌*◌, ◌<◌, ◌≤◌, ◌⊎◌, inl, inr, ⊎_elim, Bool, true, false, Option, Some, None, List, [], ◌∷◌, length, refl, ap, sym, ◌∙◌, arith}
use Rattle.std.specs.Prelude.{if◌then◌else◌}
use Rattle.std.specs.List.{slice_get}
use Rattle.cxx_hierarchy.specs.declared.records.ClassId.{ClassId}
use Rattle.cxx_hierarchy.specs.declared.records.ValueType.{ValueType}
use Rattle.cxx_hierarchy.specs.declared.records.FieldType.TheVariants.{Object}
use Rattle.cxx_hierarchy.specs.Classes.{Classes}
use Rattle.abi_primary.specs.declared.Primary.{Primary}
use Rattle.abi_primary.specs.Kinds.{IsDynamic}
use Rattle.cxx_subobject.specs.Locations.{LeadsTo}
use Rattle.abi_sound.specs.declared.class_layout.ClassLayout.{ClassLayout}
use Rattle.abi_sound.specs.Places.{size_in_row}
use Rattle.cxx_subobject.specs.declared.locations.Hop.{Hop}
use Rattle.abi_layout.specs.Kinds.{is_empty}
use Rattle.abi_sound.specs.Locations.{place_along_hops, AreDisjoint, bits_of_value, pointer_span}
use Rattle.abi_sound.specs.Chains.{ShareChain}
use Rattle.abi_sound.specs.Places.{places_of}
use Rattle.abi_layout.proofs.sound.ObjectTree.{Node, Complete, Leaf, Pointer, Placement, Step, Contents, Reaches, here, down, LieApart, contents_of, measures_of}
use Rattle.abi_layout.proofs.sound.ObjectSound.{is_same}
use Rattle.abi_layout.proofs.sound.ObjectKnown.{IsLaidOut}
use Rattle.abi_layout.proofs.sound.ObjectArranged.{object_is_sound}
use Rattle.abi_layout.proofs.sound.ObjectPointers.{HasPointerWay, pointer_way, pointers_shared}

-- the node that steps lead to, if there is one
abbrev end_from : Option Placement → (Node → Option Node) → Option Node
end_from None next = None
end_from (Some k) next = next k.node

abbrev end_of : Contents → List Step → Node → Option Node
end_of contents [] n = Some n
end_of contents (s ∷ p) n = end_from (slice_get (contents n) s.number) (end_of contents p)

reaches_end : (contents : Contents) (n k : Node) (p : List Step) (q : ℕ) → Reaches contents n p q k → end_of contents p n ≡ Some k
reaches_end contents _ _ _ _ (here n) = refl
reaches_end contents _ _ _ _ (down n m s p q k to way) = ap (λ (o : Option Placement). end_from o (end_of contents p)) to.there ∙ reaches_end contents k.node m p q way

-- the same steps from one node lead to one node
pub same_end : (contents : Contents) (n k j : Node) (p o : List Step) (q r : ℕ) → Reaches contents n p q k → Reaches contents n o r j → p ≡ o → k ≡ j
same_end contents n k j p o q r x y e =
    let f : Some k ≡ Some j = sym (reaches_end contents n k p q x) ∙ (ap (λ (t : List Step). end_of contents t n) e ∙ reaches_end contents n j o r y) in cc

-- steps are the same or they are not
pub same_steps : (p o : List Step) → (p ≡ o) ⊎ (p ≡ o → ⊥)
same_steps [] [] = inl refl
same_steps [] (t ∷ o) = inr (λ e. let f : [] ≡ (t ∷ o) = e in cc)
same_steps (s ∷ p) [] = inr (λ e. let f : (s ∷ p) ≡ [] = e in cc)
same_steps (s ∷ p) (t ∷ o) = by_rest (is_same s t) (same_steps p o)
  where
    by_rest : (s ≡ t) ⊎ (s ≡ t → ⊥) → (p ≡ o) ⊎ (p ≡ o → ⊥) → ((s ∷ p) ≡ (t ∷ o)) ⊎ ((s ∷ p) ≡ (t ∷ o) → ⊥)
    by_rest (inl e) (inl f) = inl (cc)
    by_rest (inl e) (inr differ) = inr (λ same. let g : (s ∷ p) ≡ (t ∷ o) = same in differ (cc))
    by_rest (inr differ) rest = inr (λ same. let g : (s ∷ p) ≡ (t ∷ o) = same in differ (cc))

pub inside_size : (b : Bool) (end size : ℕ) → 0 < end → end ≤ 8 * (if b then 0 else size) → end ≤ 8 * size
inside_size true end size some le = absurd (omega arith)
inside_size false end size some le = le

-- a virtual pointer that is reached in a complete object ends inside it
ends_inside : (h : Classes) (rows : List ClassLayout) (nearly : List Bool) (ps : List Primary) → IsLaidOut h rows nearly ps → (c : ClassId) (p : List Step) (q : ℕ) → Reaches (contents_of h rows ps) (Complete c) p q Pointer → q + 8 ≤ size_in_row (slice_get rows c.0)
ends_inside h rows nearly ps known c p q way =
    let tree = object_is_sound h rows nearly ps known.keeps known.laid in
    let inside = inside_size (is_empty h c) (8 * q + 64) (size_in_row (slice_get rows c.0)) (omega arith) (tree.ends (Complete c) Pointer p q way (omega arith)) in
    omega (arith, inside)

-- a number or a pointer and a virtual pointer lie apart
pub leaf_beside : (h : Classes) (rows : List ClassLayout) (nearly : List Bool) (ps : List Primary) → IsLaidOut h rows nearly ps → (c d : ClassId) (m : ℕ) (w : Option ℕ) (type : ValueType ClassId) (p o : List Step) (q r : ℕ) → 1 ≤ bits_of_value w type
    → Reaches (contents_of h rows ps) (Complete c) p q Pointer → Reaches (contents_of h rows ps) (Complete c) o r (Leaf d m w type) → LieApart (measures_of h rows) q Pointer r (Leaf d m w type)
leaf_beside h rows nearly ps known c d m w type p o q r some way other =
    let tree = object_is_sound h rows nearly ps known.keeps known.laid in
    let contents = contents_of h rows ps in
    tree.apart (Complete c) Pointer (Leaf d m w type) p o q r way other refl refl
    (λ e. let same : Pointer ≡ Leaf d m w type = same_end contents (Complete c) Pointer (Leaf d m w type) p o q r way other e in cc) (omega arith) (omega (arith, some))

-- a virtual pointer at a location lies inside
pub pointer_inside : (h : Classes) (rows : List ClassLayout) (nearly : List Bool) (ps : List Primary) → IsLaidOut h rows nearly ps → (c d : ClassId) (hops : List Hop) → c.0 < length h → IsDynamic h d → LeadsTo h c hops (Object d) → place_along_hops h (places_of h rows) c hops + 8 ≤ (places_of h rows).size c
pointer_inside h rows nearly ps known c d hops lt dynamic leads =
    let x = pointer_way h rows nearly ps known c d hops lt dynamic leads in
    ends_inside h rows nearly ps known c x.steps (place_along_hops h (places_of h rows) c hops) x.reaches

-- two virtual pointers are one and shared, or lie apart
pointers_beside : (h : Classes) (rows : List ClassLayout) (nearly : List Bool) (ps : List Primary) → IsLaidOut h rows nearly ps → (c : ClassId) (hops others : List Hop) (q r : ℕ) → c.0 < length h → HasPointerWay h rows ps c hops q → HasPointerWay h rows ps c others r → ShareChain h (places_of h rows) c hops others ⊎ AreDisjoint (pointer_span q) (pointer_span r)
pointers_beside h rows nearly ps known c hops others q r lt x y =
    let tree = object_is_sound h rows nearly ps known.keeps known.laid in
    ⊎_elim
    (λ e. inl (pointers_shared h rows nearly ps known c hops others q r lt x y e))
    (λ differ. inr (⊎_elim (λ a. inl (omega (arith, a))) (λ a. inr (omega (arith, a))) (tree.apart (Complete c) Pointer Pointer x.steps y.steps q r x.reaches y.reaches refl refl differ (omega arith) (omega arith))))
    (same_steps x.steps y.steps)

pub pointers_apart : (h : Classes) (rows : List ClassLayout) (nearly : List Bool) (ps : List Primary) → IsLaidOut h rows nearly ps → (c d e : ClassId) (hops others : List Hop) → c.0 < length h → IsDynamic h d → IsDynamic h e → LeadsTo h c hops (Object d) → LeadsTo h c others (Object e)
    → ShareChain h (places_of h rows) c hops others ⊎ AreDisjoint (pointer_span (place_along_hops h (places_of h rows) c hops)) (pointer_span (place_along_hops h (places_of h rows) c others))
pointers_apart h rows nearly ps known c d e hops others lt dynamic moves leads other =
    let x = pointer_way h rows nearly ps known c d hops lt dynamic leads in
    let y = pointer_way h rows nearly ps known c e others lt moves other in
    pointers_beside h rows nearly ps known c hops others (place_along_hops h (places_of h rows) c hops) (place_along_hops h (places_of h rows) c others) lt x y
