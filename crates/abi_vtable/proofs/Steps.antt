-- One step down a chain in the search of the class that declares an entry.
use Rattle.std.proofs.Common.{◌≡◌, ℕ, ◌-◌, ◌<◌, Option, Some, None, List, length, get_or, refl, ap, subst, sym, ◌∙◌}
use Rattle.std.specs.Prelude.{slice_get, IfSome}
use Rattle.std.specs.Option.{option_and_then}
use Rattle.std.proofs.lemmas.Option.{slice_get_within}
use Rattle.std.proofs.lemmas.List.{length-map}
use Rattle.foundation.proofs.Places.{get_read}
use Rattle.cxx_hierarchy.specs.Classes.{Classes}
use Rattle.cxx_hierarchy.specs.Hierarchies.{IsHierarchy}
use Rattle.cxx_subobject.specs.declared.Subobject.{Subobject}
use Rattle.cxx_subobject.specs.Preorder.{preorder}
use Rattle.cxx_overrider.specs.declared.FunctionId.{FunctionId}
use Rattle.abi_sound.specs.Places.{Places}
use Rattle.abi_slots.specs.declared.words.EntryKey.{EntryKey}
use Rattle.abi_slots.specs.Listing.{entries}
use Rattle.abi_slots.specs.Slots.{declared_at}
use Rattle.abi_slots.specs.Views.{next, first_in}
use Rattle.abi_slots.specs.Groups.{declares_at}
use Rattle.abi_vtable.specs.declared.view.ViewPart.{ViewPart}
use Rattle.abi_vtable.specs.declared.view.ViewParts.{ViewParts}
use Rattle.abi_vtable.specs.declared.words.Declarer.{Declarer}
use Rattle.abi_vtable.specs.invariants.Parts.{NumbersSubobject, nothing, number, at_of, IsViewParts, view_of_parts}
use Rattle.abi_vtable.specs.invariants.Words.{AreAlong, IsDeclaredBy}
use Rattle.abi_vtable.proofs.Parts.{class_known}
use Rattle.abi_vtable.proofs.Declaring.{number_some, along_next, first_here, first_below, declared_some, declared_none, declared_here}
use Rattle.cxx_hierarchy.proofs.Listed.{get_map}

pub number_within : (list : List Subobject) (m : ℕ) → length list ≡ m → (o : Option ℕ) (s : Option Subobject) → NumbersSubobject list o s → IfSome o (λ i. i < m)
number_within list m size _ _ nothing = tt
number_within list m size _ _ (number n s at) = let lt = slice_get_within list n s at in subst (λ a. n < a) size lt

module _ (h : Classes) (l : Places) (v : ViewParts) where
  -- the part of a number
  part_at : (items : List ViewPart) (i : ℕ) (part : ViewPart) → items ≡ v.parts → i < length v.parts → part ≡ get_or items i part → slice_get v.parts i ≡ Some part
  part_at items i part same lt is = ap (λ xs. slice_get xs i) (sym same) ∙ get_read items i part (subst (λ (xs : List ViewPart). i < length xs) (sym same) lt) is

  pub next_within : IsViewParts h l v → (items : List ViewPart) (i : ℕ) (part : ViewPart) → items ≡ v.parts → i < length v.parts → part ≡ get_or items i part → IfSome part.next (λ j. j < length v.parts)
  next_within view items i part same lt is =
      let of = view.parts.each i part (part_at items i part same lt is) in
      let size : length (preorder h v.class) ≡ length v.parts = ap length (sym view.parts.subobjects) ∙ length-map v.parts at_of in
      number_within (preorder h v.class) (length v.parts) size part.next (next l (view_of_parts v) part.at) of.next

  -- the subobject of the number is the part's
  here_is : IsViewParts h l v → (items : List ViewPart) (i : ℕ) (part : ViewPart) → items ≡ v.parts → i < length v.parts → part ≡ get_or items i part → (at : Option ℕ) (s : Option Subobject) → at ≡ Some i → NumbersSubobject (preorder h v.class) at s → s ≡ Some part.at
  here_is view items i part same lt is at s e of =
      let u = number_some (preorder h v.class) at i s e of in
      let listed : slice_get (preorder h v.class) i ≡ Some part.at = ap (λ xs. slice_get xs i) (sym view.parts.subobjects) ∙ get_map at_of v.parts i part (part_at items i part same lt is) in
      u.1 ∙ sym u.2 ∙ listed

  module _ (keeps : IsHierarchy h) (view : IsViewParts h l v) (items : List ViewPart) (i : ℕ) (part : ViewPart) (same : items ≡ v.parts) (lt : i < length v.parts) (is : part ≡ get_or items i part) where
    pub found_here : (k : EntryKey) (n steps : ℕ) (at : Option ℕ) (s : Option Subobject) (o : Option FunctionId) (f : FunctionId) → at ≡ Some i → NumbersSubobject (preorder h v.class) at s → AreAlong h l (view_of_parts v) k n s → (steps ≡ 0 → ⊥) →
        (part.class.0 < length h → o ≡ option_and_then (declared_at h l part.class) (slice_get (entries h l part.class) n)) → o ≡ Some f → IsDeclaredBy h l (view_of_parts v) v.parts k (first_in (declares_at h l k) (next l (view_of_parts v)) steps s) (Some (record { part = i; function = f }))
    found_here k n steps at s o f e of along some told there =
        let there_part = part_at items i part same lt is in
        let kept = view.parts.each i part there_part in
        let here = here_is view items i part same lt is at s e of in
        let along_here = subst (λ a. AreAlong h l (view_of_parts v) k n a) here along in
        let declared = declared_some h l (view_of_parts v) k n part.at part.class o f along_here kept.class (told (class_known h keeps (view_of_parts v) view.view part.at part.class kept.valid kept.class)) there in
        declared_here h l (view_of_parts v) v.parts k (first_in (declares_at h l k) (next l (view_of_parts v)) steps s) part.at i part f
        (ap (first_in (declares_at h l k) (next l (view_of_parts v)) steps) here ∙ first_here (declares_at h l k) (next l (view_of_parts v)) steps part.at some declared.declares) there_part refl declared

    pub found_below : (k : EntryKey) (n steps : ℕ) (at : Option ℕ) (s : Option Subobject) (o : Option FunctionId) (r : Option Declarer) → at ≡ Some i → NumbersSubobject (preorder h v.class) at s → AreAlong h l (view_of_parts v) k n s → (steps ≡ 0 → ⊥) →
        (part.class.0 < length h → o ≡ option_and_then (declared_at h l part.class) (slice_get (entries h l part.class) n)) → o ≡ None →
        ((k : EntryKey) (s : Option Subobject) → NumbersSubobject (preorder h v.class) part.next s → AreAlong h l (view_of_parts v) k n s → IsDeclaredBy h l (view_of_parts v) v.parts k (first_in (declares_at h l k) (next l (view_of_parts v)) (steps - 1) s) r) →
        IsDeclaredBy h l (view_of_parts v) v.parts k (first_in (declares_at h l k) (next l (view_of_parts v)) steps s) r
    found_below k n steps at s o r e of along some told none rest =
        let kept = view.parts.each i part (part_at items i part same lt is) in
        let here = here_is view items i part same lt is at s e of in
        let along_here = subst (λ a. AreAlong h l (view_of_parts v) k n a) here along in
        let not_here = declared_none h l (view_of_parts v) k n part.at part.class o along_here kept.class (told (class_known h keeps (view_of_parts v) view.view part.at part.class kept.valid kept.class)) none in
        subst (λ a. IsDeclaredBy h l (view_of_parts v) v.parts k a r) (sym (ap (first_in (declares_at h l k) (next l (view_of_parts v)) steps) here ∙ first_below (declares_at h l k) (next l (view_of_parts v)) steps part.at some not_here))
        (rest k (next l (view_of_parts v) part.at) kept.next (along_next h l (view_of_parts v) k n part.at along_here))
