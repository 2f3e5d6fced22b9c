-- One place is one part, and leaves and virtual pointers lie apart.
use Rattle.std.proofs.Common.{◌≡◌, Bool, true, false, ℕ, ◌+◌, ◌*◌, ◌<◌, ◌≤◌, ◌⊎◌, inl, inr, ⊎_elim, Some, List, ◌∷◌, refl, ap, subst, sym, ◌∙◌, arith}
use Rattle.std.specs.Prelude.{slice_get, nat_eq}
use Rattle.std.proofs.lemmas.Bool.{cases_lt, eq-eqb, eqb-true}
use Rattle.cxx_hierarchy.specs.declared.records.ClassId.{ClassId}
use Rattle.cxx_hierarchy.specs.declared.records.ValueType.{ValueType}
use Rattle.cxx_hierarchy.specs.declared.records.FieldType.TheVariants.{Value, Object}
use Rattle.cxx_hierarchy.specs.Classes.{Classes}
use Rattle.cxx_subobject.specs.declared.Subobject.{Subobject}
use Rattle.cxx_subobject.specs.declared.locations.Hop.{Hop}
use Rattle.cxx_subobject.specs.Subobjects.{IsSubobject}
use Rattle.cxx_subobject.specs.Locations.{LeadsTo, ObjectPart, Step, hops_of}
use Rattle.cxx_subobject.proofs.PathLemmas.{class_there}
use Rattle.path_plan.specs.Places.{part, same_part}
use Rattle.path_plan.proofs.Same.{part_same, part_itself}
use Rattle.path_model.specs.Values.{Leaf}
use Rattle.path_model.specs.Places.{owner_class}
use Rattle.path_model.specs.TypedStates.{IsPartMade, IsLeafMade}
use Rattle.abi_primary.specs.Kinds.{IsDynamic}
use Rattle.abi_sound.specs.declared.class_layout.ClassLayout.{ClassLayout}
use Rattle.abi_sound.specs.Places.{Places, places_of}
use Rattle.abi_sound.specs.Locations.{Span, AreDisjoint, place_along_hops, leaf_span, pointer_span, class_at_steps as class_behind}
use Rattle.abi_sound.specs.Chains.{IsInChain, ShareChain}
use Rattle.abi_sound.proofs.ChainLemmas.{chain_valid, chain_place}
use Rattle.abi_sound.proofs.PlaceLemmas.{owner_class_is}
use Rattle.byte_memory.proofs.Lists.{is_false}
use Rattle.agree_parts.specs.Heaps.{Heap, object_start}
use Rattle.agree_parts.specs.Addresses.{address, span, leaf_bits, AreApart}
use Rattle.agree_parts.specs.Placed.{AreObjectsLaid}
use Rattle.agree_parts.proofs.Hops.{steps_one, hops_one, one_owner}
use Rattle.agree_parts.proofs.Objects.{one_class, objects_apart, bits_apart, bits_of_bytes}
use Rattle.agree_parts.proofs.Made.{owner_made, owner_same, other_made, part_leads, part_at, leaf_hops, leaf_leads, leaf_span_is}
use Rattle.agree_parts.proofs.Inside.{part_inside, leaf_inside, pointer_inside, known_complete}
use Rattle.agree_parts.proofs.Sums.{from_complete}

-- two numbers are one, or not
number_cases : (k j : ℕ) → (k ≡ j) ⊎ (k ≡ j → ⊥)
number_cases k j = ⊎_elim (λ (less : k < j). inr (λ e. omega arith)) (λ (more : j ≤ k). ⊎_elim (λ (less : j < k). inr (λ e. omega arith)) (λ (least : k ≤ j). inl (omega arith)) (cases_lt j k)) (cases_lt k j)

-- two parts of one object have its class
same_class : (h : Classes) (g : Heap) (p q : ObjectPart) (c d : ClassId) → (m : IsPartMade h g.classes p c) → (n : IsPartMade h g.classes q d) → p.object ≡ q.object → n.class ≡ m.class
same_class h g p q c d m n e = one_class g q.object n.class m.class n.made (ap (slice_get g.classes) (sym e) ∙ m.made)

-- what lies in an object lies there under its other name
renamed : (h : Classes) (l : Places) (g : Heap) (k j : ℕ) (c d : ClassId) (hops : List Hop) (at : ℕ) → k ≡ j → d ≡ c → at ≡ object_start g j + place_along_hops h l d hops → at ≡ object_start g k + place_along_hops h l c hops
renamed h l g k j c d hops at object class there =
    let start : object_start g k ≡ object_start g j = ap (object_start g) object in
    let place : place_along_hops h l d hops ≡ place_along_hops h l c hops = ap (λ (x : ClassId). place_along_hops h l x hops) class in
    omega arith

swapped : {A B : Type 0} → A ⊎ B → B ⊎ A
swapped x = ⊎_elim (λ a. inr a) (λ b. inl b) x

-- one place names one part of a class
pub one_part : (h : Classes) (rows : List ClassLayout) (g : Heap) (p q : ObjectPart) (c : ClassId) → AreObjectsLaid h rows g → IsPartMade h g.classes p c → IsPartMade h g.classes q c → address h (places_of h rows) g p ≡ address h (places_of h rows) g q → p ≡ q
one_part h rows g p q c laid m n e = ⊎_elim of_one of_two (number_cases p.object q.object)
  where
    of_one : p.object ≡ q.object → p ≡ q
    of_one object =
        let l = places_of h rows in
        let class = same_class h g p q c c m n object in
        let leads : LeadsTo h m.class (hops_of q.owner q.at) (Object c) = subst (λ (x : ClassId). LeadsTo h x (hops_of q.owner q.at) (Object c)) class (part_leads h g q c n) in
        let here = part_at h l g p c m in
        let there = renamed h l g p.object q.object m.class n.class (hops_of q.owner q.at) (address h l g q) object class (part_at h l g q c n) in
        let hops = (laid.sound.each m.class (laid.placed.known p.object m.class m.made)).distinct c (hops_of p.owner p.at) (hops_of q.owner q.at) (part_leads h g p c m) leads (omega arith) in
        let one = hops_one p.owner q.owner p.at q.at hops in
        λ i. part (object i) (one.0 i) (one.1 i)

    of_two : (p.object ≡ q.object → ⊥) → p ≡ q
    of_two other =
        let l = places_of h rows in
        absurd (⊎_elim (λ x. omega arith) (λ x. omega arith) (objects_apart h l g p.object q.object (address h l g p) 1 (address h l g q) 1 laid.placed (part_inside h rows g p c laid m) (part_inside h rows g q c laid n) other))

-- so that their addresses are compared in place of the parts
pub part_test : (h : Classes) (rows : List ClassLayout) (g : Heap) (p q : ObjectPart) (c : ClassId) → AreObjectsLaid h rows g → IsPartMade h g.classes p c → IsPartMade h g.classes q c → nat_eq (address h (places_of h rows) g p) (address h (places_of h rows) g q) ≡ same_part p q
part_test h rows g p q c laid m n = by_test (same_part p q) refl
  where
    by_test : (b : Bool) → same_part p q ≡ b → nat_eq (address h (places_of h rows) g p) (address h (places_of h rows) g q) ≡ b
    by_test true e = eq-eqb _ _ (ap (address h (places_of h rows) g) (part_same p q e))
    by_test false e = is_false _ (λ same. let one = one_part h rows g p q c laid m n (eqb-true _ _ same) in let also : same_part p q ≡ true = ap (same_part p) (sym one) ∙ part_itself p in let f : true ≡ false = sym also ∙ e in cc)

-- where one of two virtual pointers lies, and the other, in one object
moved_apart : (a b start place there : ℕ) → a ≡ start + place → b ≡ start + there → AreDisjoint (pointer_span place) (pointer_span there) → AreApart a 8 b 8
moved_apart a b start place there e f apart = ⊎_elim (λ x. inl (omega arith)) (λ x. inr (omega arith)) apart

-- bits that lie apart in an object do so wherever that starts
moved_disjoint : (start : ℕ) (x y a b : Span) → a ≡ span (8 * start + x.start) x.length → b ≡ span (8 * start + y.start) y.length → AreDisjoint x y → AreDisjoint a b
moved_disjoint start x y a b first second apart =
    let at : a.start ≡ 8 * start + x.start = ap (λ (s : Span). s.start) first in
    let long : a.length ≡ x.length = ap (λ (s : Span). s.length) first in
    let there : b.start ≡ 8 * start + y.start = ap (λ (s : Span). s.start) second in
    let also : b.length ≡ y.length = ap (λ (s : Span). s.length) second in
    ⊎_elim (λ z. inl (omega arith)) (λ z. inr (omega arith)) apart

-- the bits of a leaf under another name of its object
leaf_renamed : (h : Classes) (l : Places) (g : Heap) (b : Leaf) (u : ValueType ClassId) (k : ℕ) (c : ClassId) → (n : IsLeafMade h g.classes b u) → k ≡ b.part.object → n.part.class ≡ c →
    leaf_bits h l g b ≡ span (8 * object_start g k + (leaf_span h l c (leaf_hops b)).start) (leaf_span h l c (leaf_hops b)).length
leaf_renamed h l g b u k c n object class =
    leaf_span_is h l g b u n
    ∙ (ap (λ (x : ClassId). span (8 * object_start g b.part.object + (leaf_span h l x (leaf_hops b)).start) (leaf_span h l x (leaf_hops b)).length) class
    ∙ ap (λ j. span (8 * object_start g j + (leaf_span h l c (leaf_hops b)).start) (leaf_span h l c (leaf_hops b)).length) (sym object))

-- two leaves have no bit in common
pub leaves_apart : (h : Classes) (rows : List ClassLayout) (g : Heap) (a b : Leaf) (t u : ValueType ClassId) → AreObjectsLaid h rows g → IsLeafMade h g.classes a t → IsLeafMade h g.classes b u → (a ≡ b → ⊥) →
    AreDisjoint (leaf_bits h (places_of h rows) g a) (leaf_bits h (places_of h rows) g b)
leaves_apart h rows g a b t u laid m n other = ⊎_elim of_one of_two (number_cases a.part.object b.part.object)
  where
    differ : a.part.object ≡ b.part.object → leaf_hops a ≡ leaf_hops b → ⊥
    differ object hops =
        let first : Step = record { base = a.part.at; member = a.member; index = a.index } in
        let second : Step = record { base = b.part.at; member = b.member; index = b.index } in
        let steps : (first ∷ a.part.owner) ≡ (second ∷ b.part.owner) = steps_one (first ∷ a.part.owner) (second ∷ b.part.owner) hops in
        let step : first ≡ second = cc in
        let owner : a.part.owner ≡ b.part.owner = cc in
        other (λ i. record { part = part (object i) (owner i) (step i).base; member = (step i).member; index = (step i).index })

    of_one : a.part.object ≡ b.part.object → AreDisjoint (leaf_bits h (places_of h rows) g a) (leaf_bits h (places_of h rows) g b)
    of_one object =
        let l = places_of h rows in
        let class = same_class h g a.part b.part m.class n.class m.part n.part object in
        let leads : LeadsTo h m.part.class (leaf_hops b) (Value u) = subst (λ (x : ClassId). LeadsTo h x (leaf_hops b) (Value u)) class (leaf_leads h g b u n) in
        moved_disjoint (object_start g a.part.object) (leaf_span h l m.part.class (leaf_hops a)) (leaf_span h l m.part.class (leaf_hops b)) _ _ (leaf_span_is h l g a t m) (leaf_renamed h l g b u a.part.object m.part.class n object class)
        ((laid.sound.each m.part.class (laid.placed.known a.part.object m.part.class m.part.made)).leaves_apart t u (leaf_hops a) (leaf_hops b) (leaf_leads h g a t m) leads (differ object))

    of_two : (a.part.object ≡ b.part.object → ⊥) → AreDisjoint (leaf_bits h (places_of h rows) g a) (leaf_bits h (places_of h rows) g b)
    of_two differs = bits_apart h (places_of h rows) g a.part.object b.part.object _ _ laid.placed (leaf_inside h rows g a t laid m) (leaf_inside h rows g b u laid n) differs

-- nor have a leaf and a virtual pointer
pub leaf_and_pointer : (h : Classes) (rows : List ClassLayout) (g : Heap) (a : Leaf) (t : ValueType ClassId) (p : ObjectPart) (c : ClassId) → AreObjectsLaid h rows g → IsLeafMade h g.classes a t → IsPartMade h g.classes p c → IsDynamic h c →
    AreDisjoint (leaf_bits h (places_of h rows) g a) (pointer_span (address h (places_of h rows) g p))
leaf_and_pointer h rows g a t p c laid m n dynamic = ⊎_elim of_one of_two (number_cases a.part.object p.object)
  where
    of_one : a.part.object ≡ p.object → AreDisjoint (leaf_bits h (places_of h rows) g a) (pointer_span (address h (places_of h rows) g p))
    of_one object =
        let l = places_of h rows in
        let class = same_class h g a.part p m.class c m.part n object in
        let leads : LeadsTo h m.part.class (hops_of p.owner p.at) (Object c) = subst (λ (x : ClassId). LeadsTo h x (hops_of p.owner p.at) (Object c)) class (part_leads h g p c n) in
        let place = place_along_hops h l m.part.class (hops_of p.owner p.at) in
        let there = renamed h l g a.part.object p.object m.part.class n.class (hops_of p.owner p.at) (address h l g p) object class (part_at h l g p c n) in
        let bits : 8 * address h l g p ≡ 8 * object_start g a.part.object + 8 * place = omega (arith, there) in
        moved_disjoint (object_start g a.part.object) (leaf_span h l m.part.class (leaf_hops a)) (pointer_span place) _ _ (leaf_span_is h l g a t m) (ap (λ n. span n 64) bits)
        (swapped ((laid.sound.each m.part.class (laid.placed.known a.part.object m.part.class m.part.made)).leaf_and_pointer c t (hops_of p.owner p.at) (leaf_hops a) dynamic leads (leaf_leads h g a t m)))

    of_two : (a.part.object ≡ p.object → ⊥) → AreDisjoint (leaf_bits h (places_of h rows) g a) (pointer_span (address h (places_of h rows) g p))
    of_two differs = bits_apart h (places_of h rows) g a.part.object p.object _ _ laid.placed (leaf_inside h rows g a t laid m) (bits_of_bytes _ g p.object _ 8 (pointer_inside h rows g p c laid n dynamic)) differs

-- the virtual pointers of two parts of one object share their owner and a chain, or have no byte in common
pub record ShareOwner (h : Classes) (l : Places) (g : Heap) (p q : ObjectPart) : Type 0 where
  pub complete : ClassId
  pub owner : p.owner ≡ q.owner
  pub owner_is : owner_class h g.classes p.object p.owner ≡ Some complete
  pub chain : IsInChain l complete p.at q.at ⊎ IsInChain l complete q.at p.at

chain_of : (l : Places) (c : ClassId) (s s' t t' : Subobject) → s ≡ s' → t ≡ t' → IsInChain l c s' t' → IsInChain l c s t
chain_of l c s s' t t' e f chain = subst (λ (x : Subobject). IsInChain l c x t) (sym e) (subst (λ (x : Subobject). IsInChain l c s' x) (sym f) chain)

shared_owner : (h : Classes) (rows : List ClassLayout) (g : Heap) (p q : ObjectPart) (c d : ClassId) → (m : IsPartMade h g.classes p c) → ShareChain h (places_of h rows) m.class (hops_of p.owner p.at) (hops_of q.owner q.at) → ShareOwner h (places_of h rows) g p q
shared_owner h rows g p q c d m share =
    let l = places_of h rows in
    let r = one_owner h l m.class (hops_of p.owner p.at) (hops_of q.owner q.at) share in
    let first = hops_one p.owner r.steps p.at r.at_first r.first in
    let second = hops_one q.owner r.steps q.at r.at_second r.second in
    let leads : class_behind h m.class p.owner ≡ Some r.complete = ap (class_behind h m.class) first.0 ∙ r.leads in
    let same : m.inside.0 ≡ r.complete = let e : Some m.inside.0 ≡ Some r.complete = sym (owner_class_is h m.class m.inside.0 p.owner m.inside.1) ∙ leads in cc in
    record {
      complete = r.complete;
      owner = first.0 ∙ sym second.0;
      owner_is = owner_made h g p c m ∙ ap (λ (x : ClassId). Some x) same;
      chain = ⊎_elim (λ x. inl (chain_of l r.complete p.at r.at_first q.at r.at_second first.1 second.1 x)) (λ x. inr (chain_of l r.complete q.at r.at_second p.at r.at_first second.1 first.1 x)) r.chain;
    }

pointers_of_object : (h : Classes) (rows : List ClassLayout) (g : Heap) (p q : ObjectPart) (c d : ClassId) → AreObjectsLaid h rows g → IsPartMade h g.classes p c → IsPartMade h g.classes q d → IsDynamic h c → IsDynamic h d → p.object ≡ q.object →
    ShareOwner h (places_of h rows) g p q ⊎ AreApart (address h (places_of h rows) g p) 8 (address h (places_of h rows) g q) 8
pointers_of_object h rows g p q c d laid m n first second object =
    let l = places_of h rows in
    let class = same_class h g p q c d m n object in
    let leads : LeadsTo h m.class (hops_of q.owner q.at) (Object d) = subst (λ (x : ClassId). LeadsTo h x (hops_of q.owner q.at) (Object d)) class (part_leads h g q d n) in
    let there = renamed h l g p.object q.object m.class n.class (hops_of q.owner q.at) (address h l g q) object class (part_at h l g q d n) in
    ⊎_elim (λ share. inl (shared_owner h rows g p q c d m share))
    (λ x. inr (moved_apart _ _ (object_start g p.object) (place_along_hops h l m.class (hops_of p.owner p.at)) (place_along_hops h l m.class (hops_of q.owner q.at)) (part_at h l g p c m) there x))
    ((laid.sound.each m.class (laid.placed.known p.object m.class m.made)).pointers_apart c d (hops_of p.owner p.at) (hops_of q.owner q.at) first second (part_leads h g p c m) leads)

-- those of two complete objects have none in common
pub pointers_of_others : (h : Classes) (rows : List ClassLayout) (g : Heap) (p q : ObjectPart) (c d : ClassId) → AreObjectsLaid h rows g → IsPartMade h g.classes p c → IsPartMade h g.classes q d → IsDynamic h c → IsDynamic h d →
    ((p.object ≡ q.object) × (p.owner ≡ q.owner) → ⊥) → AreApart (address h (places_of h rows) g p) 8 (address h (places_of h rows) g q) 8
pointers_of_others h rows g p q c d laid m n first second other = ⊎_elim
    (λ object. ⊎_elim (λ share. absurd (other (object, share.owner))) (λ apart. apart) (pointers_of_object h rows g p q c d laid m n first second object))
    (λ differs. objects_apart h (places_of h rows) g p.object q.object _ _ _ _ laid.placed (pointer_inside h rows g p c laid m first) (pointer_inside h rows g q d laid n second) differs)
    (number_cases p.object q.object)

-- and those of one have none in common, where neither part is in the chain of the other
pub pointers_of_one : (h : Classes) (rows : List ClassLayout) (g : Heap) (p q : ObjectPart) (c d e : ClassId) → AreObjectsLaid h rows g → IsPartMade h g.classes p c → IsPartMade h g.classes q d → IsDynamic h c → IsDynamic h d →
    p.object ≡ q.object → p.owner ≡ q.owner → owner_class h g.classes p.object p.owner ≡ Some e →
    IsInChain (places_of h rows) e p.at q.at ⊎ (IsInChain (places_of h rows) e q.at p.at ⊎ AreApart (address h (places_of h rows) g p) 8 (address h (places_of h rows) g q) 8)
pointers_of_one h rows g p q c d e laid m n first second object same owner = ⊎_elim of_chain (λ apart. inr (inr apart)) (pointers_of_object h rows g p q c d laid m n first second object)
  where
    of_chain : ShareOwner h (places_of h rows) g p q → IsInChain (places_of h rows) e p.at q.at ⊎ (IsInChain (places_of h rows) e q.at p.at ⊎ AreApart (address h (places_of h rows) g p) 8 (address h (places_of h rows) g q) 8)
    of_chain share =
        let complete : share.complete ≡ e = let f : Some share.complete ≡ Some e = sym share.owner_is ∙ owner in cc in
        ⊎_elim (λ x. inl (subst (λ (y : ClassId). IsInChain (places_of h rows) y p.at q.at) complete x)) (λ x. inr (inl (subst (λ (y : ClassId). IsInChain (places_of h rows) y q.at p.at) complete x))) share.chain

-- all of a chain lies at one address
pub chain_address : (h : Classes) (rows : List ClassLayout) (g : Heap) (p : ObjectPart) (c e : ClassId) (s : Subobject) → AreObjectsLaid h rows g → IsPartMade h g.classes p c → owner_class h g.classes p.object p.owner ≡ Some e → IsInChain (places_of h rows) e p.at s →
    address h (places_of h rows) g (part p.object p.owner s) ≡ address h (places_of h rows) g p
chain_address h rows g p c e s laid m owner chain =
    let known = known_complete h rows g p c e laid m owner in
    let valid : IsSubobject h e p.at = subst (λ (x : ClassId). IsSubobject h x p.at) (owner_same h g p c e m owner) m.inside.2 in
    let last = chain_valid h rows laid.hierarchy laid.sound e p.at s known valid chain in
    let class = class_there h e s last in
    let here = from_complete h rows g p c e m owner in
    let there = from_complete h rows g (part p.object p.owner s) class.0 e (other_made h g p c e class.0 s m owner last class.1) owner in
    let place = chain_place h rows laid.hierarchy laid.sound e p.at s known valid chain in
    omega arith
