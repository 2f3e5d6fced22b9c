-- The views of a class, one by one.
use Rattle.std.proofs.Common.{◌≡◌, ℕ, suc, ◌+◌, arith, ◌<◌, true, Some, List, map, length, get_or, ap, subst, sym, ◌∙◌}
use Rattle.std.specs.Prelude.{slice_get}
use Rattle.std.proofs.lemmas.Option.{slice_get-get_or}
use Rattle.cxx_hierarchy.specs.declared.records.ClassId.{ClassId}
use Rattle.cxx_hierarchy.specs.Classes.{Classes}
use Rattle.cxx_hierarchy.specs.Hierarchies.{IsHierarchy}
use Rattle.cxx_subobject.specs.declared.Subobject.{Subobject}
use Rattle.cxx_subobject.specs.Subobjects.{IsSubobject, class_of, same_subobject}
use Rattle.cxx_subobject.proofs.TreeLemmas.{subobject_same}
use Rattle.abi_primary.specs.Kinds.{IsDynamic}
use Rattle.abi_sound.specs.Places.{Places}
use Rattle.abi_slots.specs.declared.words.Group.{Group}
use Rattle.abi_slots.specs.declared.words.GroupName.{GroupName}
use Rattle.abi_slots.specs.Groups.{GoAlong, IsGroup}
use Rattle.abi_slots.proofs.Chains.{same_some}
use Rattle.abi_vtable.specs.declared.view.ViewParts.{ViewParts}
use Rattle.abi_vtable.specs.invariants.Kept.{IsViewOf}
use Rattle.abi_tables.specs.Counts.{group_views}
use Rattle.abi_tables.specs.Tables.{group_name, IsNamed, group_names, names_to, AreGroups}
use Rattle.abi_tables.specs.invariants.Growing.{GrowsByEach}
use Rattle.abi_tables.proofs.GroupViews.{IsDynamicPart, group_part, part_class}

-- one view
pub view_there : (h : Classes) → IsHierarchy h → (c : ClassId) (items list : List Subobject) (i : ℕ) (s : Subobject) → items ≡ list → list ≡ group_views h c → i < length items → s ≡ get_or items i s → IsDynamicPart h c s
view_there h keeps c items list i s same e lt is = group_part h keeps c s (record { index = i; there = ap (λ xs. slice_get xs i) (sym (same ∙ e)) ∙ slice_get-get_or items i s lt ∙ ap (λ a. Some a) (sym is) })

pub name_valid : (h : Classes) (c : ClassId) (s : Subobject) (name : GroupName) → name ≡ group_name c s → IsDynamicPart h c s → IsSubobject h name.complete name.view
name_valid h c s name e part = subst (λ (n : GroupName). IsSubobject h n.complete n.view) (sym e) part.valid

pub name_dynamic : (h : Classes) (c : ClassId) (s : Subobject) (name : GroupName) → name ≡ group_name c s → IsDynamicPart h c s → (d : ClassId) → class_of name.view ≡ Some d → IsDynamic h d
name_dynamic h c s name e part d of = part_class h c s d part (ap (λ (n : GroupName). class_of n.view) (sym e) ∙ of)

pub name_known : (h : Classes) (c : ClassId) (s : Subobject) (name : GroupName) → name ≡ group_name c s → c.0 < length h → name.complete.0 < length h
name_known h c s name e known = subst (λ (n : GroupName). n.complete.0 < length h) (sym e) known

pub named_group : (h : Classes) (l : Places) (c : ClassId) (s : Subobject) (name : GroupName) (group : Group) → group.name ≡ name → name ≡ group_name c s → IsGroup h l group → IsNamed h l (group_name c s) group
named_group h l c s name group is e of = record { is = is ∙ e; group = of }

pub groups_done : (h : Classes) (l : Places) (c : ClassId) (items list : List Subobject) (old new : List Group) → items ≡ list → list ≡ group_views h c → GrowsByEach (IsNamed h l) (map (group_name c) items) old new → GrowsByEach (IsNamed h l) (group_names h c) old new
groups_done h l c items list old new same e grows = subst (λ xs. GrowsByEach (IsNamed h l) (map (group_name c) xs) old new) (same ∙ e) grows

-- one class more
pub class_more : (h : Classes) (l : Places) (n : ℕ) (old new : List Group) → GoAlong (IsNamed h l) (names_to h n) old → GrowsByEach (IsNamed h l) (group_names h (record { 0 = n })) old new → GoAlong (IsNamed h l) (names_to h (n + 1)) new
class_more h l n old new along grows = let e : suc n ≡ n + 1 = omega arith in subst (λ m. GoAlong (IsNamed h l) (names_to h m) new) e (grows.along (names_to h n) along)

pub class_all : (h : Classes) (l : Places) (n : ℕ) (groups : List Group) → n ≡ length h → GoAlong (IsNamed h l) (names_to h n) groups → AreGroups h l groups
class_all h l n groups e along = subst (λ m. GoAlong (IsNamed h l) (names_to h m) groups) e along

-- a view that is kept

pub same_group_name : (a b : GroupName) → a.complete ≡ b.complete → a.view ≡ b.view → a ≡ b
same_group_name a b complete view = ap (λ (c : ClassId). group_name c a.view) complete ∙ ap (λ (s : Subobject). group_name b.complete s) view

pub is_view_of : (views : List ViewParts) (n : ℕ) (name : GroupName) (x : ViewParts) → n < length views → slice_get views n ≡ Some x → x.complete.0 ≡ name.complete.0 → same_subobject x.at name.view ≡ true → IsViewOf views n name
is_view_of views n name x within there complete at = record {
  within = within;
  complete = λ y also. let one : x ≡ y = same_some x y (sym there ∙ also) in subst (λ (v : ViewParts). v.complete ≡ name.complete) one (ap (λ (k : ℕ). record { 0 = k }) complete);
  at = λ y also. let one : x ≡ y = same_some x y (sym there ∙ also) in subst (λ (v : ViewParts). v.at ≡ name.view) one (subobject_same x.at name.view at);
}
