-- The part of a view that is a final overrider's subobject, and what stands on it.
use Rattle.std.proofs.Common.{◌≡◌, ℕ, ◌+◌, ◌<◌, ◌≤◌, ⊎_elim, true, Option, Some, List, [], ◌∷◌, ◌++◌, length, get_or, refl, ap, subst, sym, ◌∙◌, arith, below_more}
use Rattle.std.specs.Prelude.{slice_get, ℤ, pos, ◌-ℤ◌, IfSome}
use Rattle.std.proofs.lemmas.Option.{slice_get_within}
use Rattle.foundation.proofs.Places.{get_pushed, get_read, get_mapped}
use Rattle.cxx_hierarchy.specs.declared.records.ClassId.{ClassId}
use Rattle.cxx_hierarchy.specs.Classes.{Classes}
use Rattle.cxx_hierarchy.specs.Hierarchies.{IsHierarchy}
use Rattle.cxx_hierarchy.specs.VirtualBases.{HasVirtualBase}
use Rattle.cxx_subobject.specs.declared.Root.TheVariants.{Shared}
use Rattle.cxx_subobject.specs.declared.Subobject.{Subobject}
use Rattle.cxx_subobject.specs.Subobjects.{IsSubobject, whole, shared, shared_base, last_of, class_of}
use Rattle.cxx_subobject.specs.Inside.{IsInside}
use Rattle.cxx_subobject.specs.Preorder.{preorder}
use Rattle.cxx_subobject.proofs.PathLemmas.{class_inside, same_id}
use Rattle.cxx_overrider.specs.declared.FunctionId.{FunctionId}
use Rattle.cxx_overrider.specs.declared.Overrider.{Overrider}
use Rattle.cxx_overrider.specs.Overriding.{IsFinalOverrider}
use Rattle.cxx_overrider.proofs.FinalLaws.{one_of_class}
use Rattle.abi_sound.specs.Places.{Places}
use Rattle.abi_slots.specs.declared.words.TableWord.TheVariants.{Vcall, Vbase}
use Rattle.abi_slots.specs.declared.words.Conversion.{Conversion}
use Rattle.abi_slots.specs.declared.words.ReturnAdjust.{ReturnAdjust}
use Rattle.abi_slots.specs.declared.words.Offset.{Offset}
use Rattle.abi_slots.specs.declared.words.Offset.TheVariants.{ToBase, ToOverrider}
use Rattle.cxx_overrider.specs.Virtuals.{same_name, own}
use Rattle.abi_slots.specs.Listing.{base_of_class, is_offset_of_name, offsets}
use Rattle.abi_slots.specs.Views.{View, IsView, seen, place}
use Rattle.abi_slots.specs.Groups.{between, named_in, return_adjust, vbase_bytes, adjust_to, adjust_by, IsOffsetWord, to_base, to_overrider}
use Rattle.abi_slots.proofs.Calls.{vcall_there}
use Rattle.abi_slots.proofs.Chains.{Setting, same_some, known}
use Rattle.abi_slots.proofs.Lists.{Item, any_item}
use Rattle.abi_slots.proofs.Names.{name_is, name_back}
use Rattle.abi_vtable.specs.declared.returns.KnownReturn.{KnownReturn}
use Rattle.abi_vtable.specs.declared.view.ViewPart.{ViewPart}
use Rattle.abi_vtable.specs.declared.view.ViewParts.{ViewParts}
use Rattle.abi_vtable.specs.invariants.Parts.{IsViewPart, at_of, AreParts, AreStarts, IsViewParts, IsSomeView}
use Rattle.abi_vtable.specs.invariants.Returns.{AreKnown}
use Rattle.abi_vtable.specs.invariants.Words.{LiesInClass, AreNotOver, HasVcall}
use Rattle.abi_vtable.proofs.Lists.{read_at}
use Rattle.abi_vtable.proofs.Parts.{listed_place}
use Rattle.cxx_overrider.specs.Functions.{overrider}

pub view_known : (h : Classes) → IsHierarchy h → (x : View) → IsView h x → x.class.0 < length h
view_known h keeps x view = class_inside h keeps x.complete x.class x.at_sub view.known view.valid view.of_class

pub some_view : (h : Classes) (l : Places) (v : ViewParts) → IsViewParts h l v → IsSomeView h v
some_view h l v view = record { places = l; view = view }

-- the part at a number of the preorder
pub part_listed : (h : Classes) (l : Places) (x : View) (parts : List ViewPart) → AreParts h l x parts → (n : ℕ) (s : Subobject) → slice_get (preorder h x.class) n ≡ Some s → (part : ViewPart) × (slice_get parts n ≡ Some part) × (part.at ≡ s)
part_listed h l x parts are n s e = get_mapped at_of parts n s (ap (λ xs. slice_get xs n) are.subobjects ∙ e)

-- no part so far

pub none_over : (h : Classes) (starts : List ℕ) (items parts : List ViewPart) (s : Subobject) (d : ClassId) (n : ℕ) → items ≡ parts → AreStarts starts parts → n ≡ get_or starts d.0 0 → AreNotOver h items s d n
none_over h starts items parts s d n same are is = record {
  each = λ k part lt there class inside.
      let low = are.each k part (ap (λ xs. slice_get xs k) (sym same) ∙ there) in
      let at : get_or starts d.0 0 ≤ k = subst (λ (c : ClassId). get_or starts c.0 0 ≤ k) class low in
      omega arith;
}

pub one_not_over : (h : Classes) (parts : List ViewPart) (s : Subobject) (d : ClassId) (i : ℕ) (part : ViewPart) → i < length parts → part ≡ get_or parts i part → (part.class ≡ d → IsInside h part.at s → ⊥) → AreNotOver h parts s d i → AreNotOver h parts s d (i + 1)
one_not_over h parts s d i part lt is none so = record {
  each = λ k q less. below_more (λ k. slice_get parts k ≡ Some q → q.class ≡ d → IsInside h q.at s → ⊥) i (λ j small. so.each j q small)
      (λ there. let same : part ≡ q = same_some part q (sym (get_read parts i part lt is) ∙ there) in subst (λ (a : ViewPart). a.class ≡ d → IsInside h a.at s → ⊥) same none) k less;
}

-- each class has such a part where it has such a subobject
pub some_over : (h : Classes) → IsHierarchy h → (l : Places) (x : View) (items parts : List ViewPart) → items ≡ parts → AreParts h l x parts → (s : Subobject) (d : ClassId) (i : ℕ) → length items ≤ i → AreNotOver h items s d i → LiesInClass h x.class s d → ⊥
some_over h keeps l x items parts same are s d i le so over =
    let at = listed_place h keeps x.class over.holder over.valid in
    let p = part_listed h l x parts are at.0 over.holder at.1 in
    let there : slice_get items at.0 ≡ Some p.0 = ap (λ xs. slice_get xs at.0) same ∙ p.1 in
    let lt = slice_get_within items at.0 p.0 there in
    let is = are.each at.0 p.0 p.1 in
    let class : p.0.class ≡ d = same_some p.0.class d (sym is.class ∙ ap class_of p.2 ∙ over.class) in
    so.each at.0 p.0 (omega arith) there class (subst (λ a. IsInside h a s) (sym p.2) over.inside)

pub final_over : (h : Classes) (c : ClassId) (s : Subobject) (f : FunctionId) (o : Overrider) → IsFinalOverrider h c s f o → LiesInClass h c s o.function.class
final_over h c s f o final = record { holder = o.at; valid = final.left.candidate.valid; class = final.left.candidate.class; inside = final.left.candidate.contains }

-- the part is the overrider's subobject
pub same_part : (h : Classes) → IsHierarchy h → (l : Places) (x : View) (list : List Subobject) (s at : Subobject) (f g : FunctionId) (part : ViewPart) → IsFinalOverrider h x.class s f (overrider at g) → IsViewPart h l x list part → part.class ≡ g.class → IsInside h part.at s → part.at ≡ at
same_part h keeps l x list s at f g part final is class inside = one_of_class h keeps x.class s part.at f (overrider at g) final is.valid (is.class ∙ ap (λ a. Some a) class) inside

pub base_word : (h : Classes) (l : Places) (x : View) (t : Subobject) (v : ClassId) (o : Offset) (d : ℤ) → o ≡ ToBase v → d ≡ between l x.complete (seen x t) (seen x (shared_base v)) → IsOffsetWord h l x t o (Vbase d v)
base_word h l x t v o d is e = subst (λ a. IsOffsetWord h l x t a (Vbase d v)) (sym is) (subst (λ a. IsOffsetWord h l x t (ToBase v) (Vbase a v)) (sym e) (to_base v))

pub call_word : (h : Classes) → IsHierarchy h → (l : Places) (x : View) (list : List Subobject) (t s at : Subobject) (path : List ClassId) (f g : FunctionId) (part : ViewPart) (o : Offset) (start end : ℕ) (d : ℤ) → o ≡ ToOverrider path f → s ≡ named_in x.class path → IsFinalOverrider h x.class s f (overrider at g) →
    IsViewPart h l x list part → part.class ≡ g.class → IsInside h part.at s → start ≡ place l x t → end ≡ place l x part.at → d ≡ pos end -ℤ pos start → IsOffsetWord h l x t o (Vcall d f)
call_word h keeps l x list t s at path f g part o start end d is named final of class inside from to e =
    let same = same_part h keeps l x list s at f g part final of class inside in
    let there : end ≡ place l x at = to ∙ ap (place l x) same in
    let value : d ≡ between l x.complete (seen x t) (seen x at) = e ∙ ap (λ n. pos n -ℤ pos start) there ∙ ap (λ n. pos (place l x at) -ℤ pos n) from in
    let word : IsOffsetWord h l x t (ToOverrider path f) (Vcall (between l x.complete (seen x t) (seen x at)) f) = to_overrider path f (overrider at g) (subst (λ a. IsFinalOverrider h x.class a f (overrider at g)) named final) in
    subst (λ a. IsOffsetWord h l x t a (Vcall d f)) (sym is) (subst (λ a. IsOffsetWord h l x t (ToOverrider path f) (Vcall a f)) (sym value) word)

-- results

pub root_virtual : (h : Classes) (c : ClassId) (s : Subobject) → IsSubobject h c s → (v : ClassId) → s.root ≡ Shared v → HasVirtualBase h c v
root_virtual h c _ (whole path l) v e = cc
root_virtual h c _ (shared w path has l) v e = let same : w ≡ v = cc in subst (λ a. HasVirtualBase h c a) same has

pub base_valid : (h : Classes) (c : ClassId) (o : Option Subobject) (s : Subobject) → o ≡ Some s → IfSome o (IsSubobject h c) → IsSubobject h c s
base_valid h c o s e valid = subst (λ a. IfSome a (IsSubobject h c)) e valid

pub converted_is : (h : Classes) (l : Places) (c : Conversion) (o : Option Subobject) (s : Subobject) (vbase : Option ℤ) (r : Option ReturnAdjust) → o ≡ base_of_class h c.from c.to → o ≡ Some s → vbase ≡ vbase_bytes h l c.from s.root → r ≡ return_adjust l c.from s vbase → r ≡ adjust_by h l (Some c)
converted_is h l c o s vbase r of_base there bytes is = is ∙ ap (return_adjust l c.from s) bytes ∙ ap (adjust_to h l c.from) (sym there ∙ of_base)

-- a conversion that is known
pub known_is : (h : Classes) (l : Places) (known : List KnownReturn) (i : ℕ) (d : KnownReturn) (c : Conversion) → AreKnown h l known → i < length known → (get_or known i d).classes.from.0 ≡ c.from.0 → (get_or known i d).classes.to.0 ≡ c.to.0 → (get_or known i d).adjust ≡ adjust_by h l (Some c)
known_is h l known i d c are lt from to =
    let one = get_or known i d in
    let make : ClassId → ClassId → Conversion = λ a b. record { from = a; to = b } in
    let same : make one.classes.from one.classes.to ≡ make c.from c.to = ap (λ a. make a one.classes.to) (same_id one.classes.from c.from from) ∙ ap (make c.from) (same_id one.classes.to c.to to) in
    are.each i one (read_at known i d lt) ∙ ap (λ a. adjust_by h l (Some a)) same

pub known_more : (h : Classes) (l : Places) (known new : List KnownReturn) (one : KnownReturn) → AreKnown h l known → new ≡ known ++ one ∷ [] → one.adjust ≡ adjust_by h l (Some one.classes) → AreKnown h l new
known_more h l known new one are e is = record {
  each = λ i a there. ⊎_elim (λ old. are.each i a old) (λ last. subst (λ (b : KnownReturn). b.adjust ≡ adjust_by h l (Some b.classes)) (sym last.1) is) (get_pushed known one i a (ap (λ xs. slice_get xs i) (sym e) ∙ there));
}

-- entries

pub other_name : (h : Classes) (c : ClassId) (s : Subobject) (f g : FunctionId) (o : Overrider) → same_name h f g ≡ true → IsFinalOverrider h c s f o → IsFinalOverrider h c s g o
other_name h c s f g o same final = record { signature = final.signature; is = sym (name_is h f g same) ∙ final.is; left = final.left; only = final.only }

-- the vcall word of a function that the class of a subobject below a virtual base declares
pub has_vcall : (h : Classes) (l : Places) (x : View) → Setting h l x → (s : Subobject) (f g : FunctionId) → IsSubobject h x.class s → class_of s ≡ Some g.class → Item (own h g.class) g → same_name h g f ≡ true → HasVcall h l f s.root
has_vcall h l x set _ f g (whole path leads) class declares same = tt
has_vcall h l x set _ f g (shared v path has leads) class declares same =
    let ends : last_of v path ≡ g.class = same_some (last_of v path) g.class class in
    let call = vcall_there h l set.keeps set.primaries v path f g (known h l x set v (shared_base v) (shared v [] has tt) refl) leads ends declares (name_back h g f same) in
    (record { of = x.class; has = has }, any_item (is_offset_of_name h f) (offsets h l true v) (ToOverrider (call.base ∷ call.path) call.function) (record { index = _; there = call.there }) call.named)
