-- The classes of a part of a view are known.
use Rattle.std.proofs.Common.{◌≡◌, ℕ, zero, suc, ◌+◌, ◌<◌, true, false, Option, Some, List, [], ◌∷◌, All, length, get_or, refl, ap, subst, sym, ◌∙◌, arith}
use Rattle.std.specs.Prelude.{slice_get, ◌&&◌, ◌||◌, not}
use Rattle.std.proofs.lemmas.Bool.{and_parts}
use Rattle.foundation.proofs.Places.{get_read}
use Rattle.cxx_hierarchy.specs.declared.records.ClassId.{ClassId}
use Rattle.cxx_hierarchy.specs.Classes.{Classes}
use Rattle.cxx_hierarchy.specs.Hierarchies.{IsHierarchy}
use Rattle.cxx_hierarchy.specs.VirtualBases.{HasVirtualBase}
use Rattle.cxx_subobject.specs.declared.Subobject.{Subobject}
use Rattle.cxx_subobject.specs.Subobjects.{IsSubobject, Leads, whole, shared, whole_of, class_of, is_shared_root}
use Rattle.cxx_subobject.specs.Preorder.{preorder}
use Rattle.cxx_subobject.proofs.PathLemmas.{base_before, virtual_below}
use Rattle.abi_primary.specs.Kinds.{IsDynamic}
use Rattle.abi_sound.specs.Places.{Places}
use Rattle.abi_slots.specs.Views.{View, IsView, is_dynamic, is_dynamic_class}
use Rattle.abi_slots.proofs.Chains.{same_some}
use Rattle.abi_slots.proofs.Complete.{same_bool}
use Rattle.abi_slots.proofs.Heads.{dynamic_test, test_dynamic}
use Rattle.abi_vtable.specs.declared.view.ViewPart.{ViewPart}
use Rattle.abi_vtable.specs.declared.view.ViewParts.{ViewParts}
use Rattle.abi_vtable.specs.invariants.Parts.{IsViewPart, at_of, IsViewParts, view_of_parts}
use Rattle.abi_vtable.proofs.Parts.{class_known}
use Rattle.abi_vtt.specs.Vtts.{class_has_virtual, is_proper_at, ends_in_primary, needs_word}
use Rattle.abi_vtt.specs.invariants.Served.{HasNote, AreServing}
use Rattle.abi_vtt.specs.invariants.Growing.{IsKnownPart}
use Rattle.cxx_hierarchy.proofs.Listed.{get_map}
use Rattle.abi_primary.proofs.KindLemmas.{base_dynamic}

pub path_known : (h : Classes) → IsHierarchy h → (c : ClassId) (path : List ClassId) → c.0 < length h → Leads h c path → All (λ (d : ClassId). d.0 < length h) (c ∷ path)
path_known h keeps c path known leads zero d lt = known
path_known h keeps c [] known leads (suc k) d lt = absurd (omega arith)
path_known h keeps c (b ∷ path) known leads (suc k) d lt =
    let less = base_before h keeps c b false leads.0 in
    path_known h keeps b path (omega arith) leads.1 k d (omega arith)

pub subobject_known : (h : Classes) → IsHierarchy h → (c : ClassId) (s : Subobject) → c.0 < length h → IsSubobject h c s → All (λ (d : ClassId). d.0 < length h) s.path
subobject_known h keeps c _ known (whole path leads) = path_known h keeps c path known leads
subobject_known h keeps c _ known (shared v path has leads) = let less = virtual_below h keeps c v has in path_known h keeps v path (omega arith) leads

pub known_part : (h : Classes) → IsHierarchy h → (l : Places) (x : View) → IsView h x → (list : List Subobject) (part : ViewPart) → IsViewPart h l x list part → IsKnownPart h part
known_part h keeps l x view list part of = record {
  path = subobject_known h keeps x.class part.at (class_known h keeps x view (whole_of x.class) x.class (whole [] tt) refl) of.valid;
  class = of.class;
  known = class_known h keeps x view part.at part.class of.valid of.class;
  dynamic = same_bool part.is_dynamic (is_dynamic h part.class) (λ e. dynamic_test h keeps part.class (of.dynamic.0 e)) (λ e. of.dynamic.1 (test_dynamic h keeps part.class e));
}

pub part_there : (h : Classes) (l : Places) (v : ViewParts) → IsViewParts h l v → (parts : List ViewPart) (n : ℕ) (part : ViewPart) → parts ≡ v.parts → n < length parts → part ≡ get_or parts n part → slice_get v.parts n ≡ Some part
part_there h l v view parts n part same lt is = ap (λ ps. slice_get ps n) (sym same) ∙ get_read parts n part lt is

pub subobject_there : (h : Classes) (l : Places) (v : ViewParts) → IsViewParts h l v → (parts : List ViewPart) (n : ℕ) (part : ViewPart) → parts ≡ v.parts → n < length parts → part ≡ get_or parts n part → slice_get (preorder h v.class) n ≡ Some part.at
subobject_there h l v view parts n part same lt is = ap (λ xs. slice_get xs n) (sym view.parts.subobjects) ∙ get_map at_of v.parts n part (part_there h l v view parts n part same lt is)

-- what has a word is dynamic, so that a table serves it
pub word_noted : (h : Classes) → IsHierarchy h → (l : Places) (v : ViewParts) (tables : List (Option ℕ)) → IsViewParts h l v → AreServing h l (view_of_parts v) tables → (parts : List ViewPart) (n : ℕ) (part : ViewPart) → parts ≡ v.parts → n < length parts → part ≡ get_or parts n part → needs_word h l part.at ≡ true → HasNote tables n
word_noted h keeps l v tables view serving parts n part same lt is needs =
    let of = view.parts.each n part (part_there h l v view parts n part same lt is) in
    let rest = (and_parts (is_proper_at part.at.root part.at.path) (is_dynamic_class h (class_of part.at) && ((class_has_virtual h (class_of part.at) || is_shared_root part.at.root) && not (ends_in_primary l part.at.path))) needs).1 in
    let test = (and_parts (is_dynamic_class h (class_of part.at)) ((class_has_virtual h (class_of part.at) || is_shared_root part.at.root) && not (ends_in_primary l part.at.path)) rest).0 in
    serving.noted n part.at part.class (subobject_there h l v view parts n part same lt is) of.class (test_dynamic h keeps part.class (subst (λ o. is_dynamic_class h o ≡ true) of.class test))

-- the whole comes first
pub first_there : (h : Classes) (c : ClassId) → slice_get (preorder h c) 0 ≡ Some (whole_of c)
first_there h c = let e : c.0 + 1 ≡ suc c.0 = omega arith in rw e refl

pub whole_noted : (h : Classes) (l : Places) (v : ViewParts) (tables : List (Option ℕ)) → IsViewParts h l v → AreServing h l (view_of_parts v) tables → HasNote tables 0
whole_noted h l v tables view serving = serving.noted 0 (whole_of v.class) v.class (first_there h v.class) refl view.view.dynamic

pub view_dynamic : (h : Classes) (s : Subobject) (d : ClassId) → class_of s ≡ Some d → (v : ClassId) × HasVirtualBase h d v → (e : ClassId) → class_of s ≡ Some e → IsDynamic h e
view_dynamic h s d of has e also = subst (λ a. IsDynamic h a) (same_some d e (sym of ∙ also)) (base_dynamic h d has.0 has.1)
