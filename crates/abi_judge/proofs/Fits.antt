-- Tests of single things, and the rules of alignment and of lying inside.
use Rattle.std.proofs.Common.{◌≡◌, ℕ, ◌+◌, ◌*◌, ◌/◌, ◌%◌, ◌<◌, ◌≤◌, Bool, true, false, not, ◌&&◌, ◌||◌, ◌==◌, Option, Some, None, List, [], ◌∷◌, ◌++◌, refl, ap, subst, sym, ◌∙◌, arith, eq-eqb}
use Rattle.std.specs.Prelude.{if◌then◌else◌, nat_lt, nat_le}
use Rattle.std.specs.List.{list_all}
use Rattle.std.proofs.Math.Nat.{mul-mod_left, div-add-mod'}
use Rattle.std.proofs.lemmas.Bool.{leb-true, le-leb, ltb-true, lt-ltb, eqb-true}
use Rattle.foundation.proofs.Members.{Has, has_map, from_map}
use Rattle.foundation.proofs.Chosen.{all_each, each_all}
use Rattle.foundation.proofs.Truth.{is_false}
use Rattle.cxx_hierarchy.specs.declared.records.ClassId.{ClassId}
use Rattle.cxx_hierarchy.specs.declared.records.FieldType.TheVariants.{Value, Object}
use Rattle.cxx_hierarchy.specs.declared.records.ValueType.{ValueType}
use Rattle.cxx_hierarchy.specs.Classes.{width_of_member}
use Rattle.cxx_hierarchy.specs.Hierarchies.{IsHierarchy}
use Rattle.cxx_subobject.specs.declared.Subobject.{Subobject}
use Rattle.cxx_subobject.specs.declared.locations.Hop.{Hop}
use Rattle.cxx_subobject.specs.declared.locations.Hop.TheVariants.{Inherit}
use Rattle.cxx_subobject.specs.Subobjects.{whole_of, same_subobject}
use Rattle.cxx_subobject.specs.Locations.{LeadsTo}
use Rattle.cxx_subobject.proofs.TreeLemmas.{subobject_same, same_itself}
use Rattle.abi_primary.specs.Kinds.{IsDynamic, flag_of}
use Rattle.abi_sound.specs.Places.{Places, size_of_value}
use Rattle.abi_sound.specs.Locations.{place_along_hops, last_member, leaf_span, bits_of_value, Span}
use Rattle.abi_sound.specs.Sound.{Divides, IsAligned}
use Rattle.abi_sound.proofs.LeafSpans.{EndsIn, span_is, one_member}
use Rattle.abi_judge.specs.declared.things.Thing.{Thing}
use Rattle.abi_judge.specs.declared.things.PlacedLeaf.{PlacedLeaf}
use Rattle.abi_judge.specs.Rules.{KeepsAlign, KeepsInside}
use Rattle.abi_judge.specs.invariants.Ways.{End, to_leaf, to_part, Way, way, ways}
use Rattle.abi_judge.specs.invariants.Things.{Setting, align_of, leaf_thing, thing_of, things_of, is_multiple, is_leaf_fit, is_fit, bits_of_leaf, fits_in_size}
use Rattle.abi_judge.proofs.WayLemmas.{last_hop, IsLeafWay, IsPartWay, IsWayTo, IsEnd, ways_valid, ways_listed}

-- all that lies in an object of class c
abbrev pub all_things : Setting → ClassId → List Thing
all_things x c = things_of x (Some c) 0 (ways x.h c)

-- the way of the list to a number or a pointer
pub record LeafThing (x : Setting) (c : ClassId) (hops : List Hop) (type : ValueType ClassId) : Type 0 where
  pub class : ClassId
  pub member : ℕ
  pub is : IsLeafWay x.h c hops class member type
  pub has : Has (ways x.h c) (way hops (to_leaf class member type))

pub leaf_listed : (x : Setting) → IsHierarchy x.h → (c : ClassId) (hops : List Hop) (type : ValueType ClassId) → LeadsTo x.h c hops (Value type) → LeafThing x c hops type
leaf_listed x keeps c hops type leads = let r = ways_listed x.h keeps (c.0 + 1) c hops (Value type) (omega arith) leads in by_end r.end r.has r.is
  where
    by_end : (end : End) → Has (ways x.h c) (way hops end) → IsEnd (Value type) end → LeafThing x c hops type
    by_end (to_leaf d m t) has is = record {
      class = d;
      member = m;
      is = subst (λ (u : ValueType ClassId). IsLeafWay x.h c hops d m u) is (ways_valid x.h keeps (c.0 + 1) c (way hops (to_leaf d m t)) has);
      has = subst (λ (u : ValueType ClassId). Has (ways x.h c) (way hops (to_leaf d m u))) is has;
    }
    by_end (to_part e s k) has is = absurd is

-- and to a class subobject
pub record PartThing (x : Setting) (c : ClassId) (hops : List Hop) (d : ClassId) : Type 0 where
  pub complete : ClassId
  pub at : Subobject
  pub is : IsPartWay x.h c hops complete at d
  pub has : Has (ways x.h c) (way hops (to_part complete at d))

pub part_listed : (x : Setting) → IsHierarchy x.h → (c : ClassId) (hops : List Hop) (d : ClassId) → LeadsTo x.h c hops (Object d) → PartThing x c hops d
part_listed x keeps c hops d leads = let r = ways_listed x.h keeps (c.0 + 1) c hops (Object d) (omega arith) leads in by_end r.end r.has r.is
  where
    by_end : (end : End) → Has (ways x.h c) (way hops end) → IsEnd (Object d) end → PartThing x c hops d
    by_end (to_leaf e m t) has is = absurd is
    by_end (to_part e s k) has is = record {
      complete = e;
      at = s;
      is = subst (λ (u : ClassId). IsPartWay x.h c hops e s u) is (ways_valid x.h keeps (c.0 + 1) c (way hops (to_part e s k)) has);
      has = subst (λ (u : ClassId). Has (ways x.h c) (way hops (to_part e s u))) is has;
    }

-- each thing of the list lies at the end of a way
pub record IsThingOf (x : Setting) (c : ClassId) (thing : Thing) : Type 0 where
  pub way_is : Way
  pub has : Has (ways x.h c) way_is
  pub leads : IsWayTo x.h c way_is.hops way_is.end
  pub is : thing_of x (Some c) 0 way_is ≡ thing

pub thing_way : (x : Setting) → IsHierarchy x.h → (c : ClassId) (thing : Thing) → Has (all_things x c) thing → IsThingOf x c thing
thing_way x keeps c thing has =
    let r = from_map (thing_of x (Some c) 0) (ways x.h c) thing has in
    record { way_is = r.0; has = r.1; leads = ways_valid x.h keeps (c.0 + 1) c r.0 r.1; is = r.2 }

-- a test of all things holds of what lies at the end of each way
pub tested : (x : Setting) (c : ClassId) (p : Thing → Bool) (w : Way) → list_all p (all_things x c) ≡ true → Has (ways x.h c) w → p (thing_of x (Some c) 0 w) ≡ true
tested x c p w all has = all_each p (all_things x c) all (thing_of x (Some c) 0 w) (has_map (thing_of x (Some c) 0) (ways x.h c) w has)

-- and it holds of all where it does of those
pub tests : (x : Setting) → IsHierarchy x.h → (c : ClassId) (p : Thing → Bool) → ((w : Way) → IsWayTo x.h c w.hops w.end → p (thing_of x (Some c) 0 w) ≡ true) → list_all p (all_things x c) ≡ true
tests x keeps c p each = each_all p (all_things x c) (λ thing has. let r = thing_way x keeps c thing has in ap p (sym r.is) ∙ each r.way_is r.leads)

and_parts : (a b : Bool) → (a && b) ≡ true → (a ≡ true) × (b ≡ true)
and_parts true b e = (refl, e)
and_parts false b e = let k : false ≡ true = e in cc

and_both : (a b : Bool) → a ≡ true → b ≡ true → (a && b) ≡ true
and_both true b e f = f
and_both false b e f = let k : false ≡ true = e in cc

-- multiples

divides_by : (a n : ℕ) (b : Bool) → (a == 0) ≡ b → (if b then n == 0 else (n % a == 0)) ≡ true → Divides a n
divides_by a n true e f = let none = eqb-true n 0 f in record { times = 0; is = omega arith }
divides_by a n false e f =
    let rest : n % a ≡ 0 = eqb-true (n % a) 0 f in
    let whole : n / a * a + n % a ≡ n = div-add-mod' n a in
    let q : n / a * a + 0 ≡ n / a * a = omega arith in
    record { times = n / a; is = sym whole ∙ (ap (λ k. n / a * a + k) rest ∙ q) }

pub divides_from_test : (a n : ℕ) → is_multiple a n ≡ true → Divides a n
divides_from_test a n f = divides_by a n (a == 0) refl f

multiple_by : (a n : ℕ) (b : Bool) → (a == 0) ≡ b → Divides a n → (if b then n == 0 else (n % a == 0)) ≡ true
multiple_by a n true e d =
    let none : a ≡ 0 = eqb-true a 0 e in
    let zero_times : d.times * 0 ≡ 0 = omega arith in
    eq-eqb n 0 (d.is ∙ (ap (λ k. d.times * k) none ∙ zero_times))
multiple_by a n false e d = eq-eqb (n % a) 0 (ap (λ k. k % a) d.is ∙ mul-mod_left d.times a)

pub test_from_divides : (a n : ℕ) → Divides a n → is_multiple a n ≡ true
test_from_divides a n d = multiple_by a n (a == 0) refl d

leaf_aligned : (w : Option ℕ) (type : ValueType ClassId) (leaf : PlacedLeaf) → leaf.size ≡ size_of_value type → is_leaf_fit leaf w ≡ true → IsAligned w type leaf.place leaf.first
leaf_aligned None type leaf size f =
    let both = and_parts (is_multiple leaf.size leaf.place) (leaf.first == 0) f in
    (subst (λ k. Divides k leaf.place) size (divides_from_test leaf.size leaf.place both.0), eqb-true leaf.first 0 both.1)
leaf_aligned (Some n) type leaf size f =
    let both = and_parts (nat_lt leaf.first 8) (nat_le (leaf.first + n) 64) f in
    (ltb-true leaf.first 8 both.0, leb-true (leaf.first + n) 64 both.1)

leaf_fits : (w : Option ℕ) (type : ValueType ClassId) (leaf : PlacedLeaf) → leaf.size ≡ size_of_value type → IsAligned w type leaf.place leaf.first → is_leaf_fit leaf w ≡ true
leaf_fits None type leaf size is =
    and_both (is_multiple leaf.size leaf.place) (leaf.first == 0) (test_from_divides leaf.size leaf.place (subst (λ k. Divides k leaf.place) (sym size) is.0)) (eq-eqb leaf.first 0 is.1)
leaf_fits (Some n) type leaf size is =
    and_both (nat_lt leaf.first 8) (nat_le (leaf.first + n) 64) (lt-ltb leaf.first 8 is.0) (le-leb (leaf.first + n) 64 is.1)

align_whole : (l : Places) (s : Subobject) (d : ClassId) → s ≡ whole_of d → align_of l s d ≡ l.align d
align_whole l s d e = ap (λ (b : Bool). if b then l.align d else l.base_align d) (ap (λ (t : Subobject). same_subobject t (whole_of d)) e ∙ same_itself (whole_of d))

pub align_base : (l : Places) (s : Subobject) (d : ClassId) → (s ≡ whole_of d → ⊥) → align_of l s d ≡ l.base_align d
align_base l s d differ = ap (λ (b : Bool). if b then l.align d else l.base_align d) (is_false (same_subobject s (whole_of d)) (λ e. differ (subobject_same s (whole_of d) e)))

pub last_hop_is : (xs : List Hop) (x : Hop) → last_hop (xs ++ x ∷ []) ≡ Some x
last_hop_is [] x = refl
last_hop_is (a ∷ []) x = refl
last_hop_is (a ∷ b ∷ xs) x = last_hop_is (b ∷ xs) x

-- the last hop of one way is one
pub one_last : (xs ys : List Hop) (s t : Subobject) → xs ++ Inherit s ∷ [] ≡ ys ++ Inherit t ∷ [] → s ≡ t
one_last xs ys s t e =
    let both : Some (Inherit s) ≡ Some (Inherit t) = sym (last_hop_is xs (Inherit s)) ∙ (ap last_hop e ∙ last_hop_is ys (Inherit t)) in cc

part_multiple : (x : Setting) → IsHierarchy x.h → (c d : ClassId) (front : List Hop) (s : Subobject) → list_all is_fit (all_things x c) ≡ true → LeadsTo x.h c (front ++ Inherit s ∷ []) (Object d) → Divides (align_of x.l s d) (place_along_hops x.h x.l c (front ++ Inherit s ∷ []))
part_multiple x keeps c d front s all leads =
    let hops : List Hop = front ++ Inherit s ∷ [] in
    let p = part_listed x keeps c hops d leads in
    let same : s ≡ p.at = one_last front p.is.front s p.at p.is.is in
    let fit = tested x c is_fit (way hops (to_part p.complete p.at d)) all p.has in
    let at : 0 + place_along_hops x.h x.l c hops ≡ place_along_hops x.h x.l c hops = omega arith in
    let q : Divides (align_of x.l p.at d) (0 + place_along_hops x.h x.l c hops) = divides_from_test (align_of x.l p.at d) (0 + place_along_hops x.h x.l c hops) fit in
    subst (λ (t : Subobject). Divides (align_of x.l t d) (place_along_hops x.h x.l c hops)) (sym same) (subst (λ k. Divides (align_of x.l p.at d) k) at q)

-- where all things pass the test, the rule is kept
pub keeps_align : (x : Setting) → IsHierarchy x.h → (c : ClassId) → list_all is_fit (all_things x c) ≡ true → KeepsAlign x.h x.l c
keeps_align x keeps c all = record {
  aligned = λ type hops d m leads last.
      let p = leaf_listed x keeps c hops type leads in
      let one = one_member (last_member x.h (Some c) hops) p.class d p.member m p.is.last last in
      let at : 0 + place_along_hops x.h x.l c hops ≡ place_along_hops x.h x.l c hops = omega arith in
      let fit = tested x c is_fit (way hops (to_leaf p.class p.member type)) all p.has in
      let q : IsAligned (width_of_member x.h p.class p.member) type (0 + place_along_hops x.h x.l c hops) (x.l.first p.class p.member) =
      leaf_aligned (width_of_member x.h p.class p.member) type (leaf_thing x (0 + place_along_hops x.h x.l c hops) p.class p.member (size_of_value type)) refl fit in
      let r : IsAligned (width_of_member x.h p.class p.member) type (place_along_hops x.h x.l c hops) (x.l.first p.class p.member) = subst (λ k. IsAligned (width_of_member x.h p.class p.member) type k (x.l.first p.class p.member)) at q in
      subst (λ n. IsAligned (width_of_member x.h d n) type (place_along_hops x.h x.l c hops) (x.l.first d n)) one.1
      (subst (λ (e : ClassId). IsAligned (width_of_member x.h e p.member) type (place_along_hops x.h x.l c hops) (x.l.first e p.member)) one.0 r);
  base_multiple = λ d front s leads differ. subst (λ k. Divides k (place_along_hops x.h x.l c (front ++ Inherit s ∷ []))) (align_base x.l s d differ) (part_multiple x keeps c d front s all leads);
  object_multiple = λ d front leads. subst (λ k. Divides k (place_along_hops x.h x.l c (front ++ Inherit (whole_of d) ∷ []))) (align_whole x.l (whole_of d) d refl) (part_multiple x keeps c d front (whole_of d) all leads);
}

-- a class subobject lies as the rule asks, a complete object or a base
kept_part : (x : Setting) (c : ClassId) → KeepsAlign x.h x.l c → (d : ClassId) (s : Subobject) (front : List Hop) → LeadsTo x.h c (front ++ Inherit s ∷ []) (Object d) → Divides (align_of x.l s d) (place_along_hops x.h x.l c (front ++ Inherit s ∷ []))
kept_part x c rule d s front leads = by_same (same_subobject s (whole_of d)) refl
  where
    whole : s ≡ whole_of d → Divides (x.l.align d) (place_along_hops x.h x.l c (front ++ Inherit s ∷ []))
    whole same =
        subst (λ (t : Subobject). Divides (x.l.align d) (place_along_hops x.h x.l c (front ++ Inherit t ∷ []))) (sym same)
        (rule.object_multiple d front (subst (λ (t : Subobject). LeadsTo x.h c (front ++ Inherit t ∷ []) (Object d)) same leads))

    other : same_subobject s (whole_of d) ≡ false → s ≡ whole_of d → ⊥
    other e same = let k : true ≡ false = sym (ap (λ (t : Subobject). same_subobject t (whole_of d)) same ∙ same_itself (whole_of d)) ∙ e in cc

    by_same : (b : Bool) → same_subobject s (whole_of d) ≡ b → Divides (align_of x.l s d) (place_along_hops x.h x.l c (front ++ Inherit s ∷ []))
    by_same true e = subst (λ k. Divides k (place_along_hops x.h x.l c (front ++ Inherit s ∷ []))) (sym (align_whole x.l s d (subobject_same s (whole_of d) e))) (whole (subobject_same s (whole_of d) e))
    by_same false e = subst (λ k. Divides k (place_along_hops x.h x.l c (front ++ Inherit s ∷ []))) (sym (align_base x.l s d (other e))) (rule.base_multiple d front s leads (other e))

-- and all pass it where the rule is kept
pub align_kept : (x : Setting) → IsHierarchy x.h → (c : ClassId) → KeepsAlign x.h x.l c → list_all is_fit (all_things x c) ≡ true
align_kept x keeps c rule = tests x keeps c is_fit (λ w is. by_end w.hops w.end is)
  where
    by_end : (hops : List Hop) (end : End) → IsWayTo x.h c hops end → is_fit (thing_of x (Some c) 0 (way hops end)) ≡ true
    by_end hops (to_leaf d m type) is =
        let at : 0 + place_along_hops x.h x.l c hops ≡ place_along_hops x.h x.l c hops = omega arith in
        let k = rule.aligned type hops d m is.leads is.last in
        leaf_fits (width_of_member x.h d m) type (leaf_thing x (0 + place_along_hops x.h x.l c hops) d m (size_of_value type)) refl (subst (λ p. IsAligned (width_of_member x.h d m) type p (x.l.first d m)) (sym at) k)
    by_end hops (to_part e s d) is =
        let at : 0 + place_along_hops x.h x.l c hops ≡ place_along_hops x.h x.l c hops = omega arith in
        let leads : LeadsTo x.h c (is.front ++ Inherit s ∷ []) (Object d) = subst (λ (t : List Hop). LeadsTo x.h c t (Object d)) is.is is.leads in
        let there : place_along_hops x.h x.l c (is.front ++ Inherit s ∷ []) ≡ 0 + place_along_hops x.h x.l c hops = ap (place_along_hops x.h x.l c) (sym is.is) ∙ sym at in
        let k = kept_part x c rule d s is.front leads in
        test_from_divides (align_of x.l s d) (0 + place_along_hops x.h x.l c hops) (subst (λ p. Divides (align_of x.l s d) p) there k)

-- lying inside

pub bits_same : (w : Option ℕ) (type : ValueType ClassId) → bits_of_leaf (size_of_value type) w ≡ bits_of_value w type
bits_same None type = refl
bits_same (Some n) type = refl

-- the bits of a leaf are those of its thing
pub leaf_bits : (x : Setting) (c : ClassId) (hops : List Hop) (d : ClassId) (m : ℕ) (type : ValueType ClassId) → IsLeafWay x.h c hops d m type
    → ((leaf_span x.h x.l c hops).start ≡ 8 * (0 + place_along_hops x.h x.l c hops) + x.l.first d m) × ((leaf_span x.h x.l c hops).length ≡ bits_of_leaf (size_of_value type) (width_of_member x.h d m))
leaf_bits x c hops d m type is =
    let ends : EndsIn x.h c hops type = record { class = d; member = m; index = is.index; last = is.last; element = is.element } in
    let span = span_is x.h x.l c hops type ends in
    let at : 8 * place_along_hops x.h x.l c hops + x.l.first d m ≡ 8 * (0 + place_along_hops x.h x.l c hops) + x.l.first d m = omega arith in
    (ap (λ (s : Span). s.start) span ∙ at, ap (λ (s : Span). s.length) span ∙ sym (bits_same (width_of_member x.h d m) type))

or_right : (a b : Bool) → a ≡ true → (not a || b) ≡ true → b ≡ true
or_right true b e f = f
or_right false b e f = let k : false ≡ true = e in cc

or_both : (a b : Bool) → (a ≡ true → b ≡ true) → (not a || b) ≡ true
or_both true b e = e refl
or_both false b e = refl

part_inside : (x : Setting) → IsHierarchy x.h → (c d : ClassId) (hops : List Hop) → list_all (fits_in_size (x.l.size c)) (all_things x c) ≡ true → LeadsTo x.h c hops (Object d)
    → (place_along_hops x.h x.l c hops < x.l.size c) × (flag_of x.dynamic d ≡ true → place_along_hops x.h x.l c hops + 8 ≤ x.l.size c)
part_inside x keeps c d hops all leads =
    let p = part_listed x keeps c hops d leads in
    let size = x.l.size c in
    let place = 0 + place_along_hops x.h x.l c hops in
    let fit = tested x c (fits_in_size size) (way hops (to_part p.complete p.at d)) all p.has in
    let both = and_parts (nat_lt place size) (not (flag_of x.dynamic d) || nat_le (place + 8) size) fit in
    let low = ltb-true place size both.0 in
    (omega (arith, low), λ e. let high = leb-true (place + 8) size (or_right (flag_of x.dynamic d) (nat_le (place + 8) size) e both.1) in omega (arith, high))

pub keeps_inside : (x : Setting) → IsHierarchy x.h → (c : ClassId) → x.l.size c ≤ 1048576 → ((d : ClassId) → IsDynamic x.h d → flag_of x.dynamic d ≡ true) → list_all (fits_in_size (x.l.size c)) (all_things x c) ≡ true → KeepsInside x.h x.l c
keeps_inside x keeps c few tells all = record {
  bounded = few;
  leaf_inside = λ type hops leads.
      let p = leaf_listed x keeps c hops type leads in
      let fit = tested x c (fits_in_size (x.l.size c)) (way hops (to_leaf p.class p.member type)) all p.has in
      let low = leb-true (8 * (0 + place_along_hops x.h x.l c hops) + x.l.first p.class p.member + bits_of_leaf (size_of_value type) (width_of_member x.h p.class p.member)) (8 * x.l.size c) fit in
      let b = leaf_bits x c hops p.class p.member type p.is in
      let start = b.0 in
      let length = b.1 in
      omega (arith, low, start, length);
  pointer_inside = λ d hops dynamic leads. (part_inside x keeps c d hops all leads).1 (tells d dynamic);
  begins_inside = λ d hops leads. (part_inside x keeps c d hops all leads).0;
}

pub inside_kept : (x : Setting) → IsHierarchy x.h → (c : ClassId) → ((d : ClassId) → flag_of x.dynamic d ≡ true → IsDynamic x.h d) → KeepsInside x.h x.l c → list_all (fits_in_size (x.l.size c)) (all_things x c) ≡ true
inside_kept x keeps c tells rule = tests x keeps c (fits_in_size (x.l.size c)) (λ w is. by_end w.hops w.end is)
  where
    by_end : (hops : List Hop) (end : End) → IsWayTo x.h c hops end → fits_in_size (x.l.size c) (thing_of x (Some c) 0 (way hops end)) ≡ true
    by_end hops (to_leaf d m type) is =
        let low = rule.leaf_inside type hops is.leads in
        let b = leaf_bits x c hops d m type is in
        let start = b.0 in
        let length = b.1 in
        le-leb (8 * (0 + place_along_hops x.h x.l c hops) + x.l.first d m + bits_of_leaf (size_of_value type) (width_of_member x.h d m)) (8 * x.l.size c) (omega (arith, low, start, length))
    by_end hops (to_part e s d) is =
        let size = x.l.size c in
        let place = 0 + place_along_hops x.h x.l c hops in
        let low = rule.begins_inside d hops is.leads in
        and_both (nat_lt place size) (not (flag_of x.dynamic d) || nat_le (place + 8) size) (lt-ltb place size (omega (arith, low)))
        (or_both (flag_of x.dynamic d) (nat_le (place + 8) size) (λ f. let high = rule.pointer_inside d hops (tells d f) is.leads in le-leb (place + 8) size (omega (arith, high))))
