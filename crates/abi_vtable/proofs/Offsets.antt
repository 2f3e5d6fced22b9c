-- The offsets of a table: each has a word in the view.
use Rattle.std.proofs.Common.{◌≡◌, ℕ, ◌⊎◌, inl, inr, ⊎_elim, Bool, true, false, Some, List, [], ◌∷◌, ◌++◌, refl, ap, subst, sym, ◌∙◌, arith}
use Rattle.std.specs.Prelude.{if◌then◌else◌, nat_eq}
use Rattle.std.proofs.lemmas.Bool.{eq-eqb, eqb-true}
use Rattle.cxx_hierarchy.specs.declared.records.ClassId.{ClassId}
use Rattle.cxx_hierarchy.specs.Classes.{Classes}
use Rattle.cxx_hierarchy.specs.VirtualBases.{HasVirtualBase}
use Rattle.cxx_subobject.specs.declared.Root.{Root}
use Rattle.cxx_subobject.specs.declared.Root.TheVariants.{Whole, Shared}
use Rattle.cxx_subobject.specs.declared.Subobject.{Subobject}
use Rattle.cxx_subobject.specs.Subobjects.{IsSubobject, Leads, whole, shared, subobject, last_of, class_of, class_of_path}
use Rattle.cxx_subobject.proofs.PathLemmas.{virtual_below, part_virtual}
use Rattle.cxx_overrider.specs.declared.FunctionId.{FunctionId}
use Rattle.cxx_overrider.specs.Overriding.{IsVirtualIn}
use Rattle.abi_sound.specs.Places.{Places}
use Rattle.abi_slots.specs.declared.words.Offset.{Offset}
use Rattle.cxx_overrider.specs.Virtuals.{own}
use Rattle.abi_slots.specs.Listing.{offsets}
use Rattle.abi_slots.specs.Views.{View, seen}
use Rattle.abi_slots.specs.Groups.{named_in, is_shared_base}
use Rattle.abi_slots.proofs.Calls.{each_listable}
use Rattle.abi_slots.proofs.Chains.{Setting, same_some, known}
use Rattle.abi_slots.proofs.Listings.{IsListable, a_base, a_call}
use Rattle.abi_slots.proofs.Lists.{Item}
use Rattle.abi_slots.proofs.Owns.{own_virtual}
use Rattle.abi_vtable.specs.invariants.Words.{NamesVirtual}

-- a virtual base itself
pub shared_is_base : (h : Classes) (c d : ClassId) (s : Subobject) → IsSubobject h c s → is_shared_base s ≡ true → class_of s ≡ Some d → HasVirtualBase h c d
shared_is_base h c d _ (whole path leads) e of_s = cc
shared_is_base h c d _ (shared v [] has leads) e of_s = subst (λ a. HasVirtualBase h c a) (same_some v d of_s) has
shared_is_base h c d _ (shared v (b ∷ path) has leads) e of_s = cc

no_more : (r : Root) (p q : List ClassId) (d : ClassId) → class_of_path p ≡ Some d → is_shared_base (subobject r (p ++ q)) ≡ true → q ≡ []
no_more r [] q d e shared_one = cc
no_more r (a ∷ p) [] d e shared_one = refl
no_more Whole (a ∷ p) (b ∷ q) d e shared_one = cc
no_more (Shared v) (a ∷ []) (b ∷ q) d e shared_one = cc
no_more (Shared v) (a ∷ c ∷ p) (b ∷ q) d e shared_one = cc

module _ (h : Classes) (l : Places) (x : View) (set : Setting h l x) where
  -- a subobject of the view that is a virtual base of the complete object is the view, or a virtual base of it
  self_shared : (t : Subobject) (c : ClassId) → IsSubobject h x.class t → class_of t ≡ Some c → is_shared_base (seen x t) ≡ true → (c ≡ x.class) ⊎ HasVirtualBase h x.class c
  self_shared _ c (whole path leads) e is =
      let none : path ≡ [] = no_more x.at_sub.root x.at_sub.path path x.class set.view.of_class is in
      let same : last_of x.class path ≡ c = same_some (last_of x.class path) c e in
      inl (sym same ∙ ap (last_of x.class) none)
  self_shared _ c (shared v [] has leads) e is = inr (subst (λ a. HasVirtualBase h x.class a) (same_some v c e) has)
  self_shared _ c (shared v (b ∷ path) has leads) e is = cc

  named_base : (u : ClassId) (path : List ClassId) (g : FunctionId) → HasVirtualBase h x.class u → Leads h u path → last_of u path ≡ g.class → Item (own h g.class) g → IsVirtualIn h x.class (named_in x.class (u ∷ path)) g
  named_base u path g has leads ends declares =
      let less = virtual_below h set.keeps x.class u has in
      let apart : nat_eq u.0 x.class.0 ≡ false = Rattle.foundation.proofs.Truth.is_false (nat_eq u.0 x.class.0) (λ e. let same = eqb-true u.0 x.class.0 e in omega arith) in
      let at : IsVirtualIn h x.class (subobject (Shared u) (u ∷ path)) g = record { valid = shared u path has leads; class = ap (λ a. Some a) ends; is_virtual = own_virtual h set.keeps g.class g declares } in
      subst (λ b. IsVirtualIn h x.class (subobject (if b then Whole else Shared u) (u ∷ path)) g) (sym apart) at

  named_whole : (u : ClassId) (path : List ClassId) (g : FunctionId) → u ≡ x.class → Leads h u path → last_of u path ≡ g.class → Item (own h g.class) g → IsVirtualIn h x.class (named_in x.class (u ∷ path)) g
  named_whole u path g same leads ends declares =
      let one : nat_eq u.0 x.class.0 ≡ true = eq-eqb u.0 x.class.0 (ap (λ (a : ClassId). a.0) same) in
      let valid : IsSubobject h x.class (subobject Whole (u ∷ path)) = subst (λ a. IsSubobject h x.class (subobject Whole (a ∷ path))) (sym same) (whole path (subst (λ a. Leads h a path) same leads)) in
      let at : IsVirtualIn h x.class (subobject Whole (u ∷ path)) g = record { valid = valid; class = ap (λ a. Some a) ends; is_virtual = own_virtual h set.keeps g.class g declares } in
      subst (λ b. IsVirtualIn h x.class (subobject (if b then Whole else Shared u) (u ∷ path)) g) (sym one) at

  listed_named : (t : Subobject) (c : ClassId) → IsSubobject h x.class t → class_of t ≡ Some c → (b : Bool) → b ≡ is_shared_base (seen x t) → (y : Offset) → IsListable h b c y → NamesVirtual h x.class y
  listed_named t c valid e b is _ (a_base v has) = tt
  listed_named t c valid e b is _ (a_call u path g call) = ⊎_elim
      (λ itself. ⊎_elim
      (λ view. named_whole u path g (itself.1 ∙ view) call.leads call.ends call.declares)
      (λ has. named_base u path g (subst (λ a. HasVirtualBase h x.class a) (sym itself.1) has) call.leads call.ends call.declares)
      (self_shared t c valid e (sym is ∙ itself.0)))
      (λ has. named_base u path g (part_virtual h x.class c u t valid e has) call.leads call.ends call.declares)
      call.base

  pub offset_named : (t : Subobject) (c : ClassId) → IsSubobject h x.class t → class_of t ≡ Some c → (i : ℕ) (y : Offset) → Rattle.std.specs.Prelude.slice_get (offsets h l (is_shared_base (seen x t)) c) i ≡ Some y → NamesVirtual h x.class y
  offset_named t c valid e i y at = listed_named t c valid e (is_shared_base (seen x t)) refl y (each_listable h l set.keeps set.primaries (is_shared_base (seen x t)) c (known h l x set c t valid e) y (record { index = i; there = at }))
