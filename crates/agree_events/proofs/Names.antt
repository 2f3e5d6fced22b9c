-- Each group of tables has a name of its own, and the whole of a dynamic class has a group.
use Rattle.std.proofs.Common.{◌≡◌, ℕ, zero, suc, ◌+◌, ◌<◌, inl, ⊎_elim, Bool, false, Some, List, [], ◌∷◌, ◌++◌, length, map, append_assoc, append-nil, refl, ap, subst, sym, ◌∙◌, arith}
use Rattle.std.specs.Prelude.{slice_get, if◌then◌else◌, filter}
use Rattle.std.specs.List.{flat_map}
use Rattle.std.proofs.lemmas.List.{length-append}
use Rattle.std.proofs.lemmas.Option.{slice_get_within}
use Rattle.cxx_hierarchy.specs.declared.records.ClassId.{ClassId}
use Rattle.cxx_hierarchy.specs.declared.records.Base.{Base}
use Rattle.cxx_hierarchy.specs.Classes.{Classes, bases_of}
use Rattle.cxx_hierarchy.specs.Hierarchies.{IsHierarchy}
use Rattle.cxx_subobject.specs.declared.Root.TheVariants.{Whole, Shared}
use Rattle.cxx_subobject.specs.declared.Subobject.{Subobject}
use Rattle.cxx_subobject.specs.Subobjects.{whole_of}
use Rattle.cxx_subobject.specs.VirtualBases.{virtual_bases}
use Rattle.cxx_subobject.proofs.VirtualBaseLemmas.{virtual_once}
use Rattle.foundation.proofs.Truth.{split}
use Rattle.foundation.proofs.Deciding.{decide_number}
use Rattle.foundation.proofs.Places.{get_within}
use Rattle.foundation.proofs.Members.{Has, EachOnce, EachApart, has_cases, has_left, has_right, has_map, from_map, from_flat_map, once_append, once_flat_map, once_by_place, index_of}
use Rattle.foundation.proofs.Chosen.{has_filter, once_filter}
use Rattle.abi_primary.specs.Kinds.{IsDynamic}
use Rattle.abi_slots.specs.Views.{is_dynamic}
use Rattle.abi_sound.specs.Places.{Places}
use Rattle.abi_slots.specs.declared.words.Group.{Group}
use Rattle.abi_slots.specs.declared.words.GroupName.{GroupName}
use Rattle.abi_slots.specs.Images.{whole_name}
use Rattle.abi_slots.proofs.Heads.{dynamic_test}
use Rattle.abi_slots.proofs.WordPlaces.{partner}
use Rattle.abi_vtt.specs.Vtts.{has_vtt, is_built_base, bases_with_tables, extended_by, sub_views, shared_views, views}
use Rattle.abi_tables.specs.Counts.{group_views}
use Rattle.abi_tables.specs.Tables.{AreGroups, IsNamed, group_name, group_names, names_to}
use Rattle.agree_relation.proofs.Owners.{same_class}

-- a view below another begins with its path
record Extends (x s : Subobject) : Type 0 where
  root : s.root ≡ x.root
  more : List ClassId
  path : s.path ≡ x.path ++ more

sub_extends : (h : Classes) (n : ℕ) (x : Subobject) (c : ClassId) (s : Subobject) → Has (sub_views h n x c) s → Extends x s
sub_extends h zero x c s has = absurd has
sub_extends h (suc n) x c s has = ⊎_elim
    (λ same. record { root = ap (λ (y : Subobject). y.root) (sym same); more = []; path = ap (λ (y : Subobject). y.path) (sym same) ∙ sym (append-nil x.path) })
    (λ rest.
    let r = from_flat_map (λ (base : Base ClassId). sub_views h n (extended_by x base.class) base.class) (bases_with_tables h c) s rest in
    let e = sub_extends h n (extended_by x r.0.class) r.0.class s r.2 in
    record { root = e.root; more = r.0.class ∷ e.more; path = e.path ∙ append_assoc x.path (r.0.class ∷ []) e.more }) has

-- bases of different classes
abbrev ClassesOnce : List (Base ClassId) → Type 0
ClassesOnce [] = Unit {0}
ClassesOnce (b ∷ bs) = ((d : Base ClassId) → Has bs d → b.class ≡ d.class → ⊥) × ClassesOnce bs

classes_once : (bs : List (Base ClassId)) → ((i j : ℕ) (x y : Base ClassId) → slice_get bs i ≡ Some x → slice_get bs j ≡ Some y → x.class ≡ y.class → i ≡ j) → ClassesOnce bs
classes_once [] once = tt
classes_once (b ∷ bs) once = ((λ d has same. let at = index_of bs d has in let e : zero ≡ suc at.0 = once zero (suc at.0) b d refl at.1 same in omega arith), classes_once bs (λ i j x y a b same. let e : suc i ≡ suc j = once (suc i) (suc j) x y a b same in omega arith))

classes_filter : (p : Base ClassId → Bool) (bs : List (Base ClassId)) → ClassesOnce bs → ClassesOnce (filter p bs)
classes_filter p [] once = tt
classes_filter p (b ∷ bs) once = split (p b) (λ t. ClassesOnce (if t then b ∷ filter p bs else filter p bs)) (λ e. ((λ d has. once.0 d (has_filter p bs d has).0), classes_filter p bs once.1)) (λ e. classes_filter p bs once.1)

same_front : (xs : List ClassId) (a b : ClassId) (m k : List ClassId) → (xs ++ a ∷ []) ++ m ≡ (xs ++ b ∷ []) ++ k → a ≡ b
same_front [] a b m k e = cc
same_front (x ∷ xs) a b m k e = same_front xs a b m k (let f : (xs ++ a ∷ []) ++ m ≡ (xs ++ b ∷ []) ++ k = cc in f)

bases_apart : (h : Classes) (n : ℕ) (x : Subobject) (bs : List (Base ClassId)) → ClassesOnce bs → EachApart (λ (base : Base ClassId). sub_views h n (extended_by x base.class) base.class) bs
bases_apart h n x [] once = tt
bases_apart h n x (b ∷ bs) once = (
  (λ d has. record {
    none = λ s first second.
        let e = sub_extends h n (extended_by x b.class) b.class s first in
        let f = sub_extends h n (extended_by x d.class) d.class s second in
        once.0 d has (same_front x.path b.class d.class e.more f.more (sym e.path ∙ f.path));
  }),
  bases_apart h n x bs once.1,
)

longer : (xs : List ClassId) (b : ClassId) (m : List ClassId) → xs ≡ (xs ++ b ∷ []) ++ m → ⊥
longer xs b m e = let f : length xs ≡ length ((xs ++ b ∷ []) ++ m) = ap length e in omega (arith, length-append (xs ++ b ∷ []) m, length-append xs (b ∷ []))

sub_once : (h : Classes) → IsHierarchy h → (n : ℕ) (x : Subobject) (c : ClassId) → EachOnce (sub_views h n x c)
sub_once h keeps zero x c = tt
sub_once h keeps (suc n) x c = (
  (λ has.
      let r = from_flat_map (λ (base : Base ClassId). sub_views h n (extended_by x base.class) base.class) (bases_with_tables h c) x has in
      let e = sub_extends h n (extended_by x r.0.class) r.0.class x r.2 in
      longer x.path r.0.class e.more e.path),
  once_flat_map (λ (base : Base ClassId). sub_views h n (extended_by x base.class) base.class) (bases_with_tables h c) (λ base has. sub_once h keeps n (extended_by x base.class) base.class)
      (bases_apart h n x (bases_with_tables h c) (classes_filter (is_built_base h) (bases_of h c) (classes_once (bases_of h c) (keeps.once c)))),
)

shared_apart : (h : Classes) (vs : List ClassId) → EachOnce vs → EachApart (shared_views h) vs
shared_apart h [] once = tt
shared_apart h (v ∷ vs) once = (
  (λ u has. record {
    none = λ s first second.
        let e = (sub_extends h (v.0 + 1) _ v s first).root in
        let f = (sub_extends h (u.0 + 1) _ u s second).root in
        let roots : Shared v ≡ Shared u = sym e ∙ f in
        let same : u ≡ v = cc (roots) in
        once.0 (subst (λ (z : ClassId). Has vs z) same has);
  }),
  shared_apart h vs once.1,
)

views_once : (h : Classes) → IsHierarchy h → (c : ClassId) → EachOnce (views h c)
views_once h keeps c = once_append (sub_views h (c.0 + 1) (whole_of c) c) (flat_map (shared_views h) (filter (has_vtt h) (virtual_bases h c))) (sub_once h keeps (c.0 + 1) (whole_of c) c)
    (once_flat_map (shared_views h) (filter (has_vtt h) (virtual_bases h c)) (λ v has. sub_once h keeps (v.0 + 1) _ v) (shared_apart h (filter (has_vtt h) (virtual_bases h c)) (once_filter (has_vtt h) (virtual_bases h c) (virtual_once h c))))
    (record {
      none = λ s first second.
          let r = from_flat_map (shared_views h) (filter (has_vtt h) (virtual_bases h c)) s second in
          let roots : Whole ≡ Shared r.0 = sym (sub_extends h (c.0 + 1) (whole_of c) c s first).root ∙ (sub_extends h (r.0.0 + 1) _ r.0 s r.2).root in
          cc (roots);
    })

group_views_once : (h : Classes) → IsHierarchy h → (c : ClassId) → EachOnce (group_views h c)
group_views_once h keeps c = split (has_vtt h c) (λ t. EachOnce (if t then views h c else (if is_dynamic h c then whole_of c ∷ [] else []))) (λ e. views_once h keeps c)
    (λ e. split (is_dynamic h c) (λ t. EachOnce (if t then whole_of c ∷ [] else [])) (λ f. ((λ none. none), tt)) (λ f. tt))

-- names

names_once : (h : Classes) → IsHierarchy h → (c : ClassId) → EachOnce (group_names h c)
names_once h keeps c = go (group_views h c) (group_views_once h keeps c)
  where
    go : (xs : List Subobject) → EachOnce xs → EachOnce (map (group_name c) xs)
    go [] once = tt
    go (x ∷ xs) once = ((λ has. let r = from_map (group_name c) xs (group_name c x) has in once.0 (subst (λ (y : Subobject). Has xs y) (ap (λ (name : GroupName). name.view) r.2) r.1)), go xs once.1)

below_number : (h : Classes) (n : ℕ) (name : GroupName) → Has (names_to h n) name → name.complete.0 < n
below_number h zero name has = absurd has
below_number h (suc n) name has = ⊎_elim
    (λ first. let r = below_number h n name first in omega arith)
    (λ last. let r = from_map (group_name (record { 0 = n })) (group_views h (record { 0 = n })) name last in let e : n ≡ name.complete.0 = ap (λ (x : GroupName). x.complete.0) r.2 in omega arith)
    (has_cases (names_to h n) (group_names h (record { 0 = n })) name has)

all_once : (h : Classes) → IsHierarchy h → (n : ℕ) → EachOnce (names_to h n)
all_once h keeps zero = tt
all_once h keeps (suc n) = once_append (names_to h n) (group_names h (record { 0 = n })) (all_once h keeps n) (names_once h keeps (record { 0 = n }))
    (record {
      none = λ name first last.
          let less = below_number h n name first in
          let r = from_map (group_name (record { 0 = n })) (group_views h (record { 0 = n })) name last in
          let e : n ≡ name.complete.0 = ap (λ (x : GroupName). x.complete.0) r.2 in omega arith;
    })

-- two groups of one name are one
pub one_group : (h : Classes) (l : Places) → IsHierarchy h → (groups : List Group) → AreGroups h l groups → (i j : ℕ) (a b : Group) → slice_get groups i ≡ Some a → slice_get groups j ≡ Some b → a.name ≡ b.name → i ≡ j
one_group h l keeps groups are i j a b at there same =
    let first = name_at i a at in
    let second = name_at j b there in
    once_by_place (names_to h (length h)) (all_once h keeps (length h)) i j a.name first (second ∙ ap (λ (name : GroupName). Some name) (sym same))
  where
    name_at : (k : ℕ) (g : Group) → slice_get groups k ≡ Some g → slice_get (names_to h (length h)) k ≡ Some g.name
    name_at k g e =
        let r = get_within (names_to h (length h)) k (let less = slice_get_within groups k g e in let size = are.size in omega arith) in
        r.1 ∙ ap (λ (name : GroupName). Some name) (sym (are.each k r.0 g r.1 e).is)

pub has_names : (h : Classes) (n : ℕ) (c : ClassId) (name : GroupName) → c.0 < n → Has (group_names h c) name → Has (names_to h n) name
has_names h zero c name less has = absurd (omega arith)
has_names h (suc n) c name less has = ⊎_elim
    (λ same. has_right (names_to h n) (group_names h (record { 0 = n })) name (subst (λ (d : ClassId). Has (group_names h d) name) (same_class c (record { 0 = n }) same) has))
    (λ differ. has_left (names_to h n) (group_names h (record { 0 = n })) name (has_names h n c name (omega arith) has))
    (decide_number c.0 n)

-- the group of the whole of a dynamic class without virtual bases
pub whole_group : (h : Classes) (l : Places) → IsHierarchy h → (groups : List Group) → AreGroups h l groups → (c : ClassId) → c.0 < length h → has_vtt h c ≡ false → IsDynamic h c → (i : ℕ) × (group : Group) × (slice_get groups i ≡ Some group) × (group.name ≡ whole_name c)
whole_group h l keeps groups are c known none dynamic =
    let test = dynamic_test h keeps c dynamic in
    let here : Has (group_views h c) (whole_of c) = subst (λ t. Has (if t then views h c else (if is_dynamic h c then whole_of c ∷ [] else [])) (whole_of c)) (sym none) (subst (λ t. Has (if t then whole_of c ∷ [] else []) (whole_of c)) (sym test) (inl refl)) in
    let at = index_of (names_to h (length h)) (whole_name c) (has_names h (length h) c (whole_name c) known (has_map (group_name c) (group_views h c) (whole_of c) here)) in
    let r = partner (IsNamed h l) (names_to h (length h)) groups are at.0 (whole_name c) at.1 in
    (at.0, r.0, r.1, r.2.is)
