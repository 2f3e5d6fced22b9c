-- One step of the walk down goes to the part in which the number lies.
use Rattle.std.proofs.Common.{◌≡◌, ℕ, ◌+◌, ◌-◌, ◌*◌, ◌<◌, ◌≤◌, ⊎_elim, Bool, true, false, Option, Some, None, List, [], ◌∷◌, ◌++◌, refl, ap, subst, sym, ◌∙◌, arith}
use Rattle.std.specs.Prelude.{slice_get, if◌then◌else◌}
use Rattle.std.proofs.lemmas.List.{append_assoc}
use Rattle.foundation.proofs.Members.{has_at}
use Rattle.foundation.proofs.Places.{contains_at}
use Rattle.cxx_hierarchy.specs.declared.records.ClassId.{ClassId}
use Rattle.cxx_hierarchy.specs.Classes.{Classes, bases_of, members_of}
use Rattle.cxx_hierarchy.specs.Hierarchies.{IsHierarchy}
use Rattle.cxx_subobject.specs.declared.Root.TheVariants.{Whole, Shared}
use Rattle.cxx_subobject.specs.declared.Subobject.{Subobject}
use Rattle.cxx_subobject.specs.declared.locations.Hop.{Hop}
use Rattle.cxx_subobject.specs.declared.locations.Hop.TheVariants.{Inherit, Member as MemberHop}
use Rattle.cxx_subobject.specs.Subobjects.{subobject}
use Rattle.cxx_subobject.specs.Locations.{hops_of_steps, hops_of}
use Rattle.cxx_subobject.proofs.PathLemmas.{virtual_below}
use Rattle.path_plan.specs.Places.{base_part, shared_part, element}
use Rattle.path_plan.specs.declared.form.Form.TheVariants.{InFull, AsBase}
use Rattle.path_plan.specs.Plans.{virtual_order}
use Rattle.path_plan.proofs.Order.{order_virtual}
use Rattle.path_numbers.specs.Sizes.{IsSizes, Sizes, sizes_of, base_offset, member_offset, shared_offset}
use Rattle.path_numbers.specs.Nodes.{Node, node, Kid, base_kid, element_kid, shared_kid, Under, here, deeper}
use Rattle.path_numbers.proofs.Sized.{sizes_are}
use Rattle.path_numbers.proofs.Intervals.{size_of, size_some, under_lies, kid_lies, Apart, kids_apart}
use Rattle.path_places.specs.declared.kids.Kid.{Kid as KidCode}
use Rattle.path_places.specs.declared.kids.Way.TheVariants.{Base as BaseWay, Shared as SharedWay, Element as ElementWay}
use Rattle.path_places.specs.declared.locations.Spot.{Spot}
use Rattle.path_places.specs.invariants.Kids.{IsDirectBaseKid, IsMemberKid, IsSharedKid, IsKidFound}
use Rattle.path_places.specs.invariants.Walks.{full_or_base, hop_of, IsSpot, Walks}

-- a part lies in the direct part whose numbers hold its own
pub under_kid : (h : Classes) (size : Sizes) → IsSizes h size → (x y z : Node) → Kid h size x z → Under h size y x → z.number ≤ y.number → y.number < z.number + size_of size z → Under h size y z
under_kid h size is x y z kid (here _ e) low high = absurd (let a = (kid_lies h size is x z kid).low in let f : x.number ≡ y.number = ap (λ (t : Node). t.number) e in omega arith)
under_kid h size is x y z kid (deeper _ r other more) low high = ⊎_elim
    (λ (same : z ≡ r). subst (λ (t : Node). Under h size y t) (sym same) more)
    (λ (apart : Apart size z r).
    let w = under_lies h size is y r more in
    let s = size_some h size is y.form y.class in
    let a = w.low in
    let b = w.high in
    absurd (⊎_elim (λ (before : z.number + size_of size z ≤ r.number). apart_low z.number (size_of size z) r.number y.number before a high) (λ (behind : r.number + size_of size r ≤ z.number). apart_high r.number (size_of size r) z.number y.number (size_of size y) behind b s low) apart))
    (kids_apart h size is x z r kid other)
  where
    apart_low : (z s r y : ℕ) → z + s ≤ r → r ≤ y → y < z + s → ⊥
    apart_low z s r y a b c = omega arith

    apart_high : (r s z y t : ℕ) → r + s ≤ z → y + t ≤ r + s → 1 ≤ t → z ≤ y → ⊥
    apart_high r s z y t a b c d = omega arith

-- how far a part stands behind the offset of the direct part in which it lies
record IsInside (n offset size : ℕ) : Type 0 where
  pub rest : ℕ
  pub is : n ≡ offset + rest
  pub within : rest < size

inside : (h : Classes) (size : Sizes) → IsSizes h size → (x y r : Node) → Under h size y r → (n offset : ℕ) → y.number ≡ x.number + n → r.number ≡ x.number + offset → IsInside n offset (size_of size r)
inside h size is x y r more n offset y_is r_is =
    let w = under_lies h size is y r more in
    let s = size_some h size is y.form y.class in
    let a = w.low in
    let b = w.high in
    record { rest = n - offset; is = omega arith; within = omega arith }

-- where no direct part holds the number, it is the part's own
none_below : (h : Classes) → IsHierarchy h → (x y r : Node) (full : Bool) (n : ℕ) → (x.form ≡ InFull → full ≡ true) → IsKidFound h x.class full n None → Under h (sizes_of h) y r → y.number ≡ x.number + n → Kid h (sizes_of h) x r → ⊥
none_below h keeps x y r full n form none more number (base_kid i b at own same) =
    let w = inside h (sizes_of h) (sizes_are h keeps) x y r more n (base_offset h (sizes_of h) x.class i) number (ap (λ (t : Node). t.number) same) in
    none.0 i b at own w.rest w.is (subst (λ (t : Node). w.rest < size_of (sizes_of h) t) same w.within)
none_below h keeps x y r full n form none more number (element_kid m i d member at ty lt same) =
    let w = inside h (sizes_of h) (sizes_are h keeps) x y r more n (member_offset h (sizes_of h) x.class m + i * sizes_of h InFull d) number (ap (λ (t : Node). t.number) same) in
    none.1 m member at i d w.rest ty lt (let e = w.is in omega arith) (subst (λ (t : Node). w.rest < size_of (sizes_of h) t) same w.within)
none_below h keeps x y r full n form none more number (shared_kid j v is_full at same) =
    let w = inside h (sizes_of h) (sizes_are h keeps) x y r more n (shared_offset h (sizes_of h) x.class j) number (ap (λ (t : Node). t.number) same) in
    none.2 (form is_full) v j at w.rest w.is (subst (λ (t : Node). w.rest < size_of (sizes_of h) t) same w.within)

kid_none : (h : Classes) → IsHierarchy h → (x y : Node) (full : Bool) (n : ℕ) → (x.form ≡ InFull → full ≡ true) → IsKidFound h x.class full n None → Under h (sizes_of h) y x → y.number ≡ x.number + n → x ≡ y
kid_none h keeps x y full n form none (here _ e) number = e
kid_none h keeps x y full n form none (deeper _ r kid more) number = absurd (none_below h keeps x y r full n form none more number kid)

is_complete : (full : Bool) → InFull ≡ full_or_base full → full ≡ true
is_complete true e = refl
is_complete false e = absurd (cc)

-- the walk ends at the part
pub walk_ends : (h : Classes) → IsHierarchy h → (spot : Spot) (n : ℕ) (told : Option KidCode) → told ≡ None → IsKidFound h spot.class spot.is_full n told → (old new : List Hop) (hop : Hop) → hop ≡ hop_of spot → new ≡ old ++ hop ∷ [] → Walks h spot n old new
walk_ends h keeps spot n told is found old new hop hop_is new_is = record {
  leads = λ x y s under number e.
      let f : IsKidFound h x.class spot.is_full n None = subst (λ (c : ClassId). IsKidFound h c spot.is_full n None) (sym s.class) (subst (λ (t : Option KidCode). IsKidFound h spot.class spot.is_full n t) is found) in
      let same = kid_none h keeps x y spot.is_full n (λ full. is_complete spot.is_full (sym full ∙ s.form)) f under number in
      new_is ∙ (ap (λ t. old ++ t ∷ []) (hop_is ∙ ap (λ (t : Subobject). Inherit t) (sym s.is_at)) ∙ (ap (λ (t : List Hop). t ++ Inherit x.part.at ∷ []) e ∙ ap (λ (t : Node). hops_of t.part.owner t.part.at) same));
}

-- which kind of direct part was found

pub way_base : (h : Classes) (c : ClassId) (full : Bool) (n : ℕ) (told : Option KidCode) (kid : KidCode) → told ≡ Some kid → IsKidFound h c full n told → kid.way ≡ BaseWay → IsDirectBaseKid h c n kid
way_base h c full n told kid is found way = ⊎_elim (λ b. b)
    (λ r. ⊎_elim (λ m. absurd (let e : BaseWay ≡ ElementWay m.number m.element.index = sym way ∙ m.element.way in cc)) (λ s. absurd (let e : BaseWay ≡ SharedWay = sym way ∙ s.1.way in cc)) r)
    (subst (λ (t : Option KidCode). IsKidFound h c full n t) is found)

pub way_shared : (h : Classes) (c : ClassId) (full : Bool) (n : ℕ) (told : Option KidCode) (kid : KidCode) → told ≡ Some kid → IsKidFound h c full n told → kid.way ≡ SharedWay → (full ≡ true) × IsSharedKid h c n kid
way_shared h c full n told kid is found way = ⊎_elim (λ b. absurd (let e : SharedWay ≡ BaseWay = sym way ∙ b.way in cc))
    (λ r. ⊎_elim (λ m. absurd (let e : SharedWay ≡ ElementWay m.number m.element.index = sym way ∙ m.element.way in cc)) (λ s. s) r)
    (subst (λ (t : Option KidCode). IsKidFound h c full n t) is found)

pub way_element : (h : Classes) (c : ClassId) (full : Bool) (n : ℕ) (told : Option KidCode) (kid : KidCode) (m i : ℕ) → told ≡ Some kid → IsKidFound h c full n told → kid.way ≡ ElementWay m i → IsMemberKid h c n kid
way_element h c full n told kid m i is found way = ⊎_elim (λ b. absurd (let e : ElementWay m i ≡ BaseWay = sym way ∙ b.way in cc))
    (λ r. ⊎_elim (λ k. k) (λ s. absurd (let e : ElementWay m i ≡ SharedWay = sym way ∙ s.1.way in cc)) r)
    (subst (λ (t : Option KidCode). IsKidFound h c full n t) is found)

-- it is of a smaller class
pub kid_below : (h : Classes) → IsHierarchy h → (c : ClassId) (full : Bool) (n : ℕ) (told : Option KidCode) (kid : KidCode) → told ≡ Some kid → IsKidFound h c full n told → kid.class.0 < c.0
kid_below h keeps c full n told kid is found = ⊎_elim
    (λ b. let less = keeps.bases c b.base (contains_at (bases_of h c) b.index b.base b.listed) in let e : kid.class.0 ≡ b.base.class.0 = ap (λ (t : ClassId). t.0) b.class in omega arith)
    (λ r. ⊎_elim
    (λ m. keeps.objects c kid.class m.member (contains_at (members_of h c) m.number m.member m.listed) m.element.type)
    (λ s. virtual_below h keeps c kid.class (order_virtual h keeps c kid.class (has_at (virtual_order h c) s.1.holds.0 kid.class s.1.holds.1))) r)
    (subst (λ (t : Option KidCode). IsKidFound h c full n t) is found)

-- the walk goes on

-- from a direct base
pub walk_base : (h : Classes) → IsHierarchy h → (spot : Spot) (n : ℕ) (kid : KidCode) → IsDirectBaseKid h spot.class n kid → (below : Spot) → below.class ≡ kid.class → below.is_full ≡ false → below.root ≡ spot.root → below.path.items ≡ spot.path.items ++ kid.class ∷ []
    → (old new : List Hop) → Walks h below kid.rest old new → Walks h spot n old new
walk_base h keeps spot n kid found below class full root path old new walks = record {
  leads = λ x y s under number e.
      let size = sizes_of h in
      let b = found.base in
      let at : slice_get (bases_of h x.class) found.index ≡ Some b = subst (λ (c : ClassId). slice_get (bases_of h c) found.index ≡ Some b) (sym s.class) found.listed in
      let z = node AsBase b.class (base_part x.part b) (x.number + base_offset h size x.class found.index) in
      let kid_is = base_kid found.index b at found.holds.0 refl in
      let o : base_offset h size spot.class found.index ≡ base_offset h size x.class found.index = ap (λ (c : ClassId). base_offset h size c found.index) (sym s.class) in
      let n_is = found.holds.1.0 in
      let rest = found.holds.1.1 in
      let inner = under_kid h size (sizes_are h keeps) x y z kid_is under (omega arith) (omega arith) in
      let z_spot : IsSpot below z = record {
        class = sym found.class ∙ sym class;
        form = ap full_or_base (sym full);
        is_at = ap (λ (f : Bool). if f then subobject (Shared b.class) (b.class ∷ []) else subobject x.part.at.root (x.part.at.path ++ b.class ∷ [])) found.holds.0
            ∙ (ap (λ (t : Subobject). subobject t.root (t.path ++ b.class ∷ [])) s.is_at
            ∙ (ap (λ (t : ClassId). subobject spot.root (spot.path.items ++ t ∷ [])) (sym found.class)
            ∙ (ap (λ (t : List ClassId). subobject spot.root t) (sym path) ∙ ap (λ r. subobject r below.path.items) (sym root))));
      } in
      walks.leads z y z_spot inner (omega arith) e;
}

-- from a virtual base
pub walk_shared : (h : Classes) → IsHierarchy h → (spot : Spot) (n : ℕ) (kid : KidCode) → (spot.is_full ≡ true) × IsSharedKid h spot.class n kid → (below : Spot) → below.class ≡ kid.class → below.is_full ≡ false → below.root ≡ Shared kid.class → below.path.items ≡ kid.class ∷ []
    → (old new : List Hop) → Walks h below kid.rest old new → Walks h spot n old new
walk_shared h keeps spot n kid (complete, found) below class full root path old new walks = record {
  leads = λ x y s under number e.
      let size = sizes_of h in
      let j = found.holds.0 in
      let v = kid.class in
      let at : slice_get (virtual_order h x.class) j ≡ Some v = subst (λ (c : ClassId). slice_get (virtual_order h c) j ≡ Some v) (sym s.class) found.holds.1 in
      let z = node AsBase v (shared_part x.part v) (x.number + shared_offset h size x.class j) in
      let kid_is = shared_kid j v (s.form ∙ ap full_or_base complete) at refl in
      let o : shared_offset h size spot.class j ≡ shared_offset h size x.class j = ap (λ (c : ClassId). shared_offset h size c j) (sym s.class) in
      let n_is = found.holds.2.0 in
      let rest = found.holds.2.1 in
      let inner = under_kid h size (sizes_are h keeps) x y z kid_is under (omega arith) (omega arith) in
      let z_spot : IsSpot below z = record {
        class = sym class;
        form = ap full_or_base (sym full);
        is_at = ap (λ (t : List ClassId). subobject (Shared v) t) (sym path) ∙ ap (λ r. subobject r below.path.items) (sym root);
      } in
      walks.leads z y z_spot inner (omega arith) e;
}

-- from an element of a member
pub walk_element : (h : Classes) → IsHierarchy h → (spot : Spot) (n : ℕ) (kid : KidCode) (m i : ℕ) → kid.way ≡ ElementWay m i → IsMemberKid h spot.class n kid → (below : Spot) → below.class ≡ kid.class → below.is_full ≡ true → below.root ≡ Whole → below.path.items ≡ kid.class ∷ []
    → (old mid more new : List Hop) (hop : Hop) → hop ≡ hop_of spot → mid ≡ old ++ hop ∷ [] → more ≡ mid ++ MemberHop m i ∷ [] → Walks h below kid.rest more new → Walks h spot n old new
walk_element h keeps spot n kid m i way found below class full root path old mid more new hop hop_is mid_is more_is walks = record {
  leads = λ x y s under number e.
      let size = sizes_of h in
      let d = kid.class in
      let a = found.number in
      let el = found.element in
      let at : slice_get (members_of h x.class) a ≡ Some found.member = subst (λ (c : ClassId). slice_get (members_of h c) a ≡ Some found.member) (sym s.class) found.listed in
      let z = node InFull d (element x.part a el.index d) (x.number + (member_offset h size x.class a + el.index * size InFull d)) in
      let kid_is = element_kid a el.index d found.member at el.type el.within refl in
      let o : member_offset h size spot.class a ≡ member_offset h size x.class a = ap (λ (c : ClassId). member_offset h size c a) (sym s.class) in
      let n_is = el.is in
      let rest = el.rest in
      let inner = under_kid h size (sizes_are h keeps) x y z kid_is under (omega arith) (omega arith) in
      let z_spot : IsSpot below z = record {
        class = sym class;
        form = ap full_or_base (sym full);
        is_at = ap (λ (t : List ClassId). subobject Whole t) (sym path) ∙ ap (λ r. subobject r below.path.items) (sym root);
      } in
      let same : ElementWay m i ≡ ElementWay a el.index = sym way ∙ el.way in
      let member_is : m ≡ a = cc in
      let index_is : i ≡ el.index = cc in
      let hops : more ≡ hops_of_steps z.part.owner =
      more_is ∙ (ap (λ (t : List Hop). t ++ MemberHop m i ∷ []) (mid_is ∙ ap (λ (t : Hop). old ++ t ∷ []) (hop_is ∙ ap (λ (t : Subobject). Inherit t) (sym s.is_at)))
      ∙ (append_assoc old (Inherit x.part.at ∷ []) (MemberHop m i ∷ [])
      ∙ (ap (λ (t : List Hop). t ++ Inherit x.part.at ∷ MemberHop m i ∷ []) e ∙ (ap (λ k. hops_of_steps x.part.owner ++ Inherit x.part.at ∷ MemberHop k i ∷ []) member_is ∙ ap (λ k. hops_of_steps x.part.owner ++ Inherit x.part.at ∷ MemberHop a k ∷ []) index_is)))) in
      walks.leads z y z_spot inner (omega arith) hops;
}
