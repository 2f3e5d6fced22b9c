-- One step more of the loops over heads, members and elements.
use Rattle.std.proofs.Common.{◌≡◌, ◌∙◌, ℕ, zero, suc, ◌+◌, ◌*◌, ◌<◌, ◌≤◌, Some, List, [], ◌∷◌, ◌++◌, map, take, length, get_or, append-nil, append_assoc, add-one, ap, subst, sym, arith}
use Rattle.std.specs.List.{slice_get, flat_map, range_with_len}
use Rattle.std.proofs.lemmas.List.{flat_map_more, take_all}
use Rattle.foundation.proofs.Members.{Has, has_from_contains}
use Rattle.foundation.proofs.Places.{any_default}
use Rattle.cxx_hierarchy.specs.declared.records.ClassId.{ClassId}
use Rattle.cxx_hierarchy.specs.declared.records.Member.{Member}
use Rattle.cxx_hierarchy.specs.Classes.{Classes, members_of}
use Rattle.cxx_hierarchy.specs.Declarations.{elements_of}
use Rattle.cxx_hierarchy.proofs.Listed.{get_map}
use Rattle.cxx_subobject.specs.declared.Subobject.{Subobject}
use Rattle.cxx_subobject.specs.Subobjects.{class_of, whole_of}
use Rattle.abi_sound.specs.Places.{Places}
use Rattle.abi_slots.specs.Views.{View, whole_view}
use Rattle.abi_vtable.specs.declared.view.ViewPart.{ViewPart}
use Rattle.abi_vtable.specs.declared.view.ViewParts.{ViewParts}
use Rattle.abi_vtable.specs.invariants.Parts.{at_of, view_of_parts}
use Rattle.abi_vtable.proofs.Lists.{map_more, read_at}
use Rattle.text_told.specs.declared.pointers.TablePointer.{TablePointer}
use Rattle.text_told.specs.declared.pointers.MemberObjects.{MemberObjects}
use Rattle.text_told.specs.Pointers.{member_objects, moved_pointer, objects_by_member, objects_by_type, own_pointers, pointers_in, pointers_within}

range_suc : {A : Type 0} (f : ℕ → List A) (a n : ℕ) → flat_map f (range_with_len a (suc n)) ≡ flat_map f (range_with_len a n) ++ f (a + n)
range_suc f a zero = append-nil (f a) ∙ ap f (at_end a)
  where
    at_end : (a : ℕ) → a ≡ a + 0
    at_end a = omega arith
range_suc f a (suc n) =
    ap (λ xs. f a ++ xs) (range_suc f (a + 1) n)
    ∙ (sym (append_assoc (f a) (flat_map f (range_with_len (a + 1) n)) (f (a + 1 + n)))
    ∙ ap (λ k. (f a ++ flat_map f (range_with_len (a + 1) n)) ++ f k) (later a n))
  where
    later : (a n : ℕ) → a + 1 + n ≡ a + suc n
    later a n = omega arith

pub range_more : {A : Type 0} (f : ℕ → List A) (old : List A) (n : ℕ) → (old ++ flat_map f (range_with_len 0 n)) ++ f n ≡ old ++ flat_map f (range_with_len 0 (n + 1))
range_more f old n =
    let at : n ≡ 0 + n = omega arith in
    append_assoc old (flat_map f (range_with_len 0 n)) (f n)
    ∙ ap (λ xs. old ++ xs) (rw add-one (ap (λ k. flat_map f (range_with_len 0 n) ++ f k) at ∙ sym (range_suc f 0 n)))

take_more : {A : Type 0} (xs : List A) (i : ℕ) (x : A) → slice_get xs i ≡ Some x → take (suc i) xs ≡ take i xs ++ x ∷ []
take_more [] i x e = cc
take_more (y ∷ ys) zero x e = let f : y ≡ x = cc in ap (λ z. z ∷ []) f
take_more (y ∷ ys) (suc i) x e = ap (λ zs. y ∷ zs) (take_more ys i x e)

pub map_one_more : {A B : Type 0} (f : A → B) (xs : List A) (i : ℕ) (x : A) → slice_get xs i ≡ Some x → map f (take i xs) ++ f x ∷ [] ≡ map f (take (i + 1) xs)
map_one_more f xs i x e = rw add-one (sym (ap (map f) (take_more xs i x e) ∙ map_more f (take i xs) x))

-- the part of a number is where its subobject is
pub part_is : (parts slice : List ViewPart) (list : List Subobject) (n : ℕ) (part : ViewPart) (s : Subobject) → map at_of parts ≡ list → slice ≡ parts → slice_get slice n ≡ Some part → slice_get list n ≡ Some s → part.at ≡ s
part_is parts slice list n part s same is there at =
    let e : slice_get (map at_of parts) n ≡ Some part.at = get_map at_of parts n part (ap (λ (ps : List ViewPart). slice_get ps n) (sym is) ∙ there) in
    let f : Some part.at ≡ Some s = sym e ∙ (ap (λ (xs : List Subobject). slice_get xs n) same ∙ at) in cc

-- the view of a whole
pub class_is : (x : ViewParts) (c : ClassId) → x.at ≡ whole_of c → class_of x.at ≡ Some x.class → x.class ≡ c
class_is x c at class = let e : Some c ≡ Some x.class = sym (ap class_of at) ∙ class in cc

pub view_is : (x : ViewParts) (c : ClassId) → x.complete ≡ c → x.at ≡ whole_of c → x.class ≡ c → view_of_parts x ≡ whole_view c
view_is x c complete at class =
    let make : ClassId → Subobject → ClassId → View = λ d s e. record { complete = d; at_sub = s; class = e } in
    let e : make x.complete x.at x.class ≡ make c (whole_of c) c = ap (λ d. make d x.at x.class) complete ∙ (ap (λ s. make c s x.class) at ∙ ap (λ d. make c (whole_of c) d) class) in e

-- what a member that is there adds
pub member_is : (h : Classes) (b : ClassId) (m place at count : ℕ) (member : Member ClassId) → slice_get (members_of h b) m ≡ Some member → at ≡ place → count ≡ elements_of member.count →
    objects_by_type at count member.ty ≡ objects_by_member place (slice_get (members_of h b) m)
member_is h b m place at count member there same all =
    ap (λ k. objects_by_type k count member.ty) same
    ∙ (ap (λ k. objects_by_type place k member.ty) all
    ∙ sym (ap (objects_by_member place) there))

-- members of an object, and the pointers in them

-- an item of a list that is read is one of its items
pub item_has : {X : Type 0} (xs all : List X) (i : ℕ) (d : X) → xs ≡ all → i < length xs → Has all (get_or xs i d)
item_has {X} xs all i d same lt = subst (λ (ys : List X). Has ys (get_or xs i d)) same (has_from_contains xs (get_or xs i d) (i, lt, any_default xs i (get_or xs i d) d lt))

pub flat_map_step : {X A : Type 0} (f : X → List A) (old : List A) (xs : List X) (i : ℕ) (d : X) → i < length xs → (old ++ flat_map f (take i xs)) ++ f (get_or xs i d) ≡ old ++ flat_map f (take (i + 1) xs)
flat_map_step f old xs i d lt = flat_map_more f old (take i xs) (get_or xs i d) ∙ ap (λ ys. old ++ flat_map f ys) (rw add-one (sym (take_more xs i (get_or xs i d) (read_at xs i d lt))))

-- behind all members
pub all_pointers : (h : Classes) (l : Places) (c : ClassId) (n : ℕ) (list : List TablePointer) (items : List MemberObjects) (i : ℕ) → length items ≤ i → items ≡ member_objects h l c →
    ((k : ℕ) → c.0 ≤ k → list ≡ own_pointers h l c ++ flat_map (pointers_in l (pointers_within h l k)) (take i items)) → c.0 < n → list ≡ pointers_within h l n c
all_pointers h l c zero list items i le same rule lt = absurd (omega arith)
all_pointers h l c (suc k) list items i le same rule lt = rule k (omega arith) ∙ ap (λ xs. own_pointers h l c ++ flat_map (pointers_in l (pointers_within h l k)) xs) (take_all i items le ∙ same)

-- one member more
pub pointers_more : (h : Classes) (l : Places) (c : ClassId) (n : ℕ) (list new inside : List TablePointer) (size : ℕ) (items : List MemberObjects) (i : ℕ) (d x : MemberObjects) → i < length items → x ≡ get_or items i d →
    list ≡ own_pointers h l c ++ flat_map (pointers_in l (pointers_within h l n)) (take i items) → size ≡ l.size x.class → inside ≡ pointers_within h l n x.class →
    new ≡ list ++ flat_map (λ k. map (moved_pointer (x.place + k * size)) inside) (range_with_len 0 x.count) →
    new ≡ own_pointers h l c ++ flat_map (pointers_in l (pointers_within h l n)) (take (i + 1) items)
pointers_more h l c n list new inside size items i d x lt at so sizes insides adds =
    let f : MemberObjects → List TablePointer = pointers_in l (pointers_within h l n) in
    let make : ℕ → List TablePointer → List TablePointer = λ s ps. flat_map (λ k. map (moved_pointer (x.place + k * s)) ps) (range_with_len 0 x.count) in
    let same : make size inside ≡ f x = ap (λ s. make s inside) sizes ∙ ap (make (l.size x.class)) insides in
    adds
    ∙ (ap (λ ys. list ++ ys) (same ∙ ap f at)
    ∙ (ap (λ ys. ys ++ f (get_or items i d)) so
    ∙ flat_map_step f (own_pointers h l c) items i d lt))
