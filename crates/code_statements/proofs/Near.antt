-- What lies in an object of a sound layout lies near its start, and so does all that a copy visits.
use Rattle.std.proofs.Common.{◌≡◌, ℕ, ◌+◌, ◌*◌, ◌<◌, ◌≤◌, ◌^◌, Option, Some, None, List, [], ◌∷◌, length, get_or, refl, ap, subst, sym, ◌∙◌, arith}
use Rattle.std.specs.Prelude.{slice_get, nat_lt}
use Rattle.cxx_search.specs.Searches.{has_some, has_virtual_base}
use Rattle.std.proofs.lemmas.Option.{slice_get-get_or}
use Rattle.std.proofs.lemmas.Bool.Decides.{nat_tests}
use Rattle.foundation.proofs.Places.{contains_at}
use Rattle.cxx_hierarchy.specs.declared.records.ClassId.{ClassId}
use Rattle.cxx_hierarchy.specs.declared.records.Member.{Member}
use Rattle.cxx_hierarchy.specs.declared.records.FieldType.{FieldType}
use Rattle.cxx_hierarchy.specs.declared.records.FieldType.TheVariants.{Value, Object}
use Rattle.cxx_hierarchy.specs.Classes.{Class, Classes, class_at, members_in, members_of}
use Rattle.cxx_hierarchy.specs.Declarations.{elements_of}
use Rattle.cxx_hierarchy.specs.Hierarchies.{IsHierarchy}
use Rattle.cxx_subobject.specs.declared.Subobject.{Subobject}
use Rattle.cxx_subobject.specs.Subobjects.{IsSubobject, whole, whole_of, class_of}
use Rattle.cxx_subobject.specs.declared.locations.Hop.{Hop}
use Rattle.cxx_subobject.specs.declared.locations.Hop.TheVariants.{Inherit, Member as MemberHop}
use Rattle.cxx_subobject.specs.Locations.{IsElement, LeadsTo, to_subobject, to_value, to_inner}
use Rattle.cxx_subobject.proofs.PathLemmas.{class_there}
use Rattle.abi_sound.specs.declared.class_layout.ClassLayout.{ClassLayout}
use Rattle.abi_sound.specs.Places.{Places, places_of}
use Rattle.abi_sound.specs.Locations.{place_along_hops, place_behind, element_place, element_class, last_member, span_of}
use Rattle.abi_sound.specs.Sound.{IsSoundLayout}
use Rattle.abi_sound.proofs.PlaceLemmas.{element_place_is, element_class_is}
use Rattle.code_statements.specs.invariants.CopyFits.{FitsObject, FitsMember, FitsOwn}

-- a member that a loop over a class's members is at
pub member_there : (h : Classes) (b : ClassId) (class : Class) (list : List (Member ClassId)) (m : ℕ) (member : Member ClassId) → class_at h b ≡ Some class → list ≡ class.members → m < length list → member ≡ get_or list m member → slice_get (members_of h b) m ≡ Some member
member_there h b class list m member there is less at =
    ap (λ (o : Option Class). slice_get (members_in o) m) there ∙ (ap (λ (l : List (Member ClassId)). slice_get l m) (sym is) ∙ (slice_get-get_or list m member less ∙ ap (λ (x : Member ClassId). Some x) (sym at)))

-- member m of class b lies its place behind a subobject, so many bytes behind a register, and is near
pub record IsNearMember (h : Classes) (l : Places) (b : ClassId) (offset m : ℕ) (member : Member ClassId) (start : ℕ) : Type 0 where
  pub there : slice_get (members_of h b) m ≡ Some member
  pub lies : start ≡ offset + l.member b m
  pub low : start < 2 ^ 21
  pub fits : FitsMember h l b member start

module _ (h : Classes) (keeps : IsHierarchy h) (l : Places) where
  pub base_low : (d : ClassId) (offset : ℕ) (s : Subobject) → FitsObject h l d offset → IsSubobject h d s → offset + l.place d s < 2 ^ 21
  base_low d offset s fits valid =
      let k = class_there h d s valid in
      let low : offset + (l.place d s + 0) < 2 ^ 21 = fits.within (Inherit s ∷ []) (Object k.0) (to_subobject d k.0 s valid k.1) in
      omega arith

  pub object_low : (d : ClassId) (offset : ℕ) → FitsObject h l d offset → offset < 2 ^ 21
  object_low d offset fits = let low = base_low d offset (whole_of d) fits (whole [] tt) in omega arith

  -- the members of a subobject
  pub own_fits : (d b : ClassId) (offset : ℕ) (s : Subobject) → FitsObject h l d offset → IsSubobject h d s → class_of s ≡ Some b → FitsOwn h l b (offset + l.place d s)
  own_fits d b offset s fits valid class = record { members = λ m member there. member_fits m member there }
    where
      element_of : (m i : ℕ) (member : Member ClassId) (ty : FieldType ClassId) → slice_get (members_of h b) m ≡ Some member → i < elements_of member.count → member.ty ≡ ty → IsElement h b m i ty
      element_of m i member ty there less is = record { member = member; there = there; type_is = is; within = less }

      member_fits : (m : ℕ) (member : Member ClassId) → slice_get (members_of h b) m ≡ Some member → FitsMember h l b member (offset + l.place d s + l.member b m)
      member_fits m member there = record {
        values = λ i t less ty.
            let e = element_of m i member (Value t) there less ty in
            let distance = element_place_is h l (class_of s) b m i (Value t) class e in
            let low : offset + (l.place d s + (element_place h l (class_of s) m i + 0)) < 2 ^ 21 = fits.within (Inherit s ∷ MemberHop m i ∷ []) (Value t) (to_value d b s m i t valid class e) in
            omega arith;
        objects = λ i f less ty. record {
          within = λ hops type leads.
              let e = element_of m i member (Object f) there less ty in
              let distance = element_place_is h l (class_of s) b m i (Object f) class e in
              let inner : element_class h (class_of s) m ≡ Some f = element_class_is h (class_of s) b m i (Object f) class e in
              let rest = ap (λ (o : Option ClassId). place_behind h l o hops) inner in
              let low : offset + (l.place d s + (element_place h l (class_of s) m i + place_behind h l (element_class h (class_of s) m) hops)) < 2 ^ 21 = fits.within (Inherit s ∷ MemberHop m i ∷ hops) type (to_inner d b f s m i hops type valid class e leads) in
              omega arith;
        };
        below = λ f ty. keeps.objects b f member (contains_at (members_of h b) m member there) ty;
      }

  -- a member has an element
  some_element : (b : ClassId) (m : ℕ) (member : Member ClassId) → slice_get (members_of h b) m ≡ Some member → 0 < elements_of member.count
  some_element b m member there = by_count member.count refl
    where
      by_count : (o : Option ℕ) → member.count ≡ o → 0 < elements_of o
      by_count None e = omega arith
      by_count (Some n) e = let k = keeps.counts b member n (contains_at (members_of h b) m member there) e in omega (arith, k.0)

  pub member_low : (b : ClassId) (offset m : ℕ) (member : Member ClassId) → FitsOwn h l b offset → slice_get (members_of h b) m ≡ Some member → offset + l.member b m < 2 ^ 21
  member_low b offset m member fits there = by_type member.ty refl
    where
      by_type : (ty : FieldType ClassId) → member.ty ≡ ty → offset + l.member b m < 2 ^ 21
      by_type (Value t) e = let low = (fits.members m member there).values 0 t (some_element b m member there) e in omega arith
      by_type (Object d) e = let low = object_low d (offset + l.member b m + 0 * l.size d) ((fits.members m member there).objects 0 d (some_element b m member there) e) in omega arith

  -- a member at which a loop over a class's members stands
  pub near_member : {b : ClassId} {offset place : ℕ} {class : Class} {list : List (Member ClassId)} {member : Member ClassId} (m : ℕ) → FitsOwn h l b offset → class_at h b ≡ Some class → list ≡ class.members → m < length list → member ≡ get_or list m member → place ≡ l.member b m → IsNearMember h l b offset m member (offset + place)
  near_member {b} {offset} {place} {class} {list} {member} m fits found is less at lies =
      let there = member_there h b class list m member found is less at in
      let low = member_low b offset m member fits there in
      record {
        there = there;
        lies = ap (λ (n : ℕ). offset + n) lies;
        low = omega arith;
        fits = subst (λ (n : ℕ). FitsMember h l b member (offset + n)) (sym lies) (fits.members m member there);
      }

-- a value begins in no byte before its place
span_low : (h : Classes) (l : Places) (place : ℕ) (o : Option (ClassId × ℕ)) → 8 * place ≤ (span_of h l place o).start
span_low h l place None = omega arith
span_low h l place (Some member) = omega arith

-- in a sound layout
pub start_fits : (h : Classes) → IsHierarchy h → (rows : List ClassLayout) → IsSoundLayout h rows → (b : ClassId) → b.0 < length h → FitsOwn h (places_of h rows) b 0
start_fits h keeps rows sound b known = own_fits h keeps (places_of h rows) b b 0 (whole_of b) whole_fits (whole [] tt) refl
  where
    within : (hops : List Hop) (type : FieldType ClassId) → LeadsTo h b hops type → 0 + place_along_hops h (places_of h rows) b hops < 2 ^ 21
    within hops (Value t) leads =
        let inside = (sound.each b known).leaf_inside t hops leads in
        let low = span_low h (places_of h rows) (place_along_hops h (places_of h rows) b hops) (last_member h (Some b) hops) in
        let size = (sound.each b known).bounded in
        omega arith
    within hops (Object d) leads = let inside = (sound.each b known).begins_inside d hops leads in let size = (sound.each b known).bounded in omega arith

    whole_fits : FitsObject h (places_of h rows) b 0
    whole_fits = record { within = within }

-- the members of a complete object lie behind its start
pub whole_own : (h : Classes) → IsHierarchy h → (rows : List ClassLayout) (d : ClassId) (offset : ℕ) → FitsObject h (places_of h rows) d offset → FitsOwn h (places_of h rows) d offset
whole_own h keeps rows d offset fits = subst (λ (n : ℕ). FitsOwn h (places_of h rows) d n) (let e : offset + 0 ≡ offset = omega arith in e) (own_fits h keeps (places_of h rows) d d offset (whole_of d) fits (whole [] tt) refl)

-- the row of a class tells whether it has a virtual base
pub flag_of_row : (h : Classes) (rows : List ClassLayout) (c : ClassId) (row : ClassLayout) (n : ℕ) → IsSoundLayout h rows → slice_get rows c.0 ≡ Some row → n ≡ length row.virtual_bases → nat_lt 0 n ≡ has_virtual_base h c
flag_of_row h rows c row n sound there size =
    ap (nat_lt 0) size ∙ (by_list row.virtual_bases ∙ ap has_some (sound.full.each c row there).virtuals)
  where
    by_list : (list : List ClassId) → nat_lt 0 (length list) ≡ has_some list
    by_list [] = refl
    by_list (v ∷ list) = grind (arith, nat_tests)
