-- A result that is moved points to the subobject of the class that the found function returns.
use Rattle.std.proofs.Common.{◌≡◌, ℕ, zero, suc, ◌+◌, ◌-◌, ◌*◌, ◌<◌, ◌^◌, ⊎_elim, Option, Some, None, List, [], ◌∷◌, length, refl, ap, subst, sym, ◌∙◌, arith, pos, ◌+ℤ◌}
use Rattle.std.specs.Prelude.{◌-ℤ◌}
use Rattle.std.proofs.lemmas.Int.{ints}
use Rattle.cxx_hierarchy.specs.declared.records.ClassId.{ClassId}
use Rattle.cxx_hierarchy.specs.declared.records.ReturnType.{ReturnType}
use Rattle.cxx_hierarchy.specs.declared.records.ReturnType.TheVariants.{Void, Value}
use Rattle.cxx_hierarchy.specs.declared.records.ValueType.TheVariants.{Number, Pointer}
use Rattle.cxx_hierarchy.specs.declared.records.Function.{Function}
use Rattle.cxx_hierarchy.specs.Classes.{Classes, functions_of}
use Rattle.cxx_hierarchy.specs.Hierarchies.{IsHierarchy}
use Rattle.cxx_hierarchy.specs.VirtualBases.{HasVirtualBase}
use Rattle.cxx_subobject.specs.declared.Root.TheVariants.{Whole, Shared}
use Rattle.cxx_subobject.specs.declared.Subobject.{Subobject}
use Rattle.cxx_subobject.specs.Subobjects.{IsSubobject, whole, shared, subobject, class_of, join, shared_base, whole_of}
use Rattle.cxx_subobject.proofs.PathLemmas.{smaller}
use Rattle.cxx_subobject.proofs.InsideLemmas.{join_valid}
use Rattle.cxx_overrider.specs.declared.FunctionId.{FunctionId}
use Rattle.cxx_overrider.specs.Functions.{declaration_of, return_at, return_of, pointee}
use Rattle.cxx_overrider.specs.Faults.{HasNoFault}
use Rattle.abi_sound.specs.declared.class_layout.ClassLayout.{ClassLayout}
use Rattle.abi_sound.specs.Places.{Places, places_of}
use Rattle.abi_sound.specs.Sound.{IsSoundLayout}
use Rattle.abi_sound.proofs.Depth.{below}
use Rattle.abi_sound.proofs.PlaceLemmas.{joined}
use Rattle.abi_slots.specs.Groups.{adjust_by, return_for, offset_bytes}
use Rattle.abi_slots.specs.Groups as groups
use Rattle.abi_slots.specs.Images.{return_vbase, return_constant}
use Rattle.abi_slots.specs.Listing.{between_classes, vbase_number}
use Rattle.abi_slots.specs.Slots.{word_number}
use Rattle.abi_slots.specs.Views.{View}
use Rattle.abi_slots.specs.Seen.{PlacedTables}
use Rattle.abi_slots.proofs.Bases.{contains_item}
use Rattle.byte_memory.specs.Store.{Store}
use Rattle.byte_code.specs.declared.code.ImageBytes.{ImageBytes}
use Rattle.byte_code.specs.Numbers.{word_of}
use Rattle.abi_dyncast.proofs.Distances.{moved_between}
use Rattle.byte_machine.specs.Running.{moved}
use Rattle.byte_machine.specs.Calls.{moved_by_word}
use Rattle.byte_machine.specs.Plans.{word_offset}
use Rattle.agree_dispatch.specs.Standing.{IsViewAt, address_in_object}
use Rattle.agree_dispatch.specs.Results.{Returns, IsMoved}
use Rattle.agree_dispatch.proofs.Numbers.{moved_up, small_word, number_word, offset_word}
use Rattle.agree_dispatch.proofs.Bounds.{vbase_small}
use Rattle.agree_dispatch.proofs.Reading.{to_vbase}
use Rattle.agree_dispatch.proofs.Entering.{word_moves}
use Rattle.agree_dispatch.proofs.ResultClasses.{PointeesFit, same, derived}
use Rattle.agree_dispatch.proofs.Adjusting.{adjust_at, adjust_only, adjust_none}
use Rattle.agree_dispatch.proofs.Returning.{runs_fit}

constant_vbase : (n : ℕ) → return_vbase (groups.return_constant n) ≡ pos 0
constant_vbase zero = refl
constant_vbase (suc n) = refl

constant_is : (n : ℕ) → return_constant (groups.return_constant n) ≡ pos n
constant_is zero = refl
constant_is (suc n) = refl

module _ (h : Classes) (rows : List ClassLayout) (keeps : IsHierarchy h) (fine : HasNoFault h) (sound : IsSoundLayout h rows) where
  abbrev l : Places
  l = places_of h rows

  -- of a class itself the whole is the one subobject of its class
  own_whole : (e : ClassId) (i : Subobject) → IsSubobject h e i → class_of i ≡ Some e → i ≡ whole_of e
  own_whole e i there class = ⊎_elim (λ w. w) (λ lt. absurd (omega arith)) (smaller h keeps e e i there class)

  -- the adjustment, by where the subobject of the class that the found function returns lies
  adjust_fits : (e b : ClassId) (i : Subobject) → PointeesFit h (Some e) (Some b) → IsSubobject h e i → class_of i ≡ Some b → adjust_by h (places_of h rows) (between_classes (Some e) (Some b)) ≡ adjust_at h (places_of h rows) e i.root ((places_of h rows).place e i)
  adjust_fits e _ i (same _) there class =
      adjust_none h rows keeps e ∙ sym (ap (λ (s : Subobject). adjust_at h l e s.root (l.place e s)) (own_whole e i there class))
  adjust_fits e b i (derived _ _ q differ only) there class =
      adjust_only h rows keeps e b q differ only ∙ sym (ap (λ (s : Subobject). adjust_at h l e s.root (l.place e s)) (only.only i there class))

  pub adjusts : (g f : FunctionId) (e : ClassId) (i : Subobject) → Returns h g f e i → return_for h (places_of h rows) g f ≡ adjust_at h (places_of h rows) e i.root ((places_of h rows).place e i)
  adjusts g f e i r =
      let fit = subst (λ o. PointeesFit h (Some e) o) r.found (subst (λ o. PointeesFit h o (pointee (return_of h f))) r.own (runs_fit h rows keeps fine sound g f r.runs)) in
      ap (λ o. adjust_by h l (between_classes o (pointee (return_of h f)))) r.own ∙ (ap (λ o. adjust_by h l (between_classes (Some e) o)) r.found ∙ adjust_fits e r.class i fit r.valid r.of_class)

  -- the class to which a function points is one of the hierarchy
  pointee_known : (g : FunctionId) (e : ClassId) → pointee (return_of h g) ≡ Some e → e.0 < length h
  pointee_known g e is = by_function (declaration_of h g) refl is
    where
      by_type : (f : Function ClassId) (t : ReturnType ClassId) → declaration_of h g ≡ Some f → f.ret ≡ t → pointee (Some t) ≡ Some e → e.0 < length h
      by_type f Void at ret k = absurd (cc)
      by_type f (Value (Number s)) at ret k = absurd (cc)
      by_type f (Value (Pointer d)) at ret k =
          let same_one : d ≡ e = cc in
          keeps.returns g.class e f (contains_item (functions_of h g.class) f (record { index = g.index; there = at })) (ret ∙ ap (λ a. Value (Pointer a)) same_one)

      by_function : (o : Option (Function ClassId)) → declaration_of h g ≡ o → pointee (return_at o) ≡ Some e → e.0 < length h
      by_function None at k = absurd (cc)
      by_function (Some f) at k = by_type f f.ret at refl k

  place_low : (e : ClassId) (i : Subobject) → e.0 < length h → IsSubobject h e i → (places_of h rows).place e i < 2 ^ 63
  place_low e i known there = let a = below h rows sound e i known there in let b = (sound.each e known).bounded in omega arith

  -- the path lies in no virtual base
  pub plain_words : (g f : FunctionId) (e : ClassId) (i : Subobject) → Returns h g f e i → i.root ≡ Whole →
      (word_of (return_vbase (return_for h (places_of h rows) g f)) ≡ 0) × (word_of (return_constant (return_for h (places_of h rows) g f)) ≡ (places_of h rows).place e i)
  plain_words g f e i r root =
      let n = l.place e i in
      let is : return_for h l g f ≡ groups.return_constant n = adjusts g f e i r ∙ ap (λ a. adjust_at h l e a n) root in
      let low = place_low e i (pointee_known g e r.own) r.valid in
      (ap (λ a. word_of (return_vbase a)) is ∙ ap word_of (constant_vbase n), ap (λ a. word_of (return_constant a)) is ∙ (ap word_of (constant_is n) ∙ small_word n (omega arith)))

  base_of_root : (e v : ClassId) (i : Subobject) → IsSubobject h e i → i.root ≡ Shared v → HasVirtualBase h e v
  base_of_root e v _ (whole path leads) root = absurd (cc)
  base_of_root e v _ (shared u path has leads) root = let one : u ≡ v = cc in subst (λ c. HasVirtualBase h e c) one has

  -- the path lies in a virtual base
  record SharedWords (g f : FunctionId) (e v : ClassId) (i : Subobject) : Type 0 where
    vbase : word_of (return_vbase (return_for h (places_of h rows) g f)) ≡ word_offset (word_number (vbase_number h (places_of h rows) e v))
    some : 0 < word_of (return_vbase (return_for h (places_of h rows) g f))
    constant : return_constant (return_for h (places_of h rows) g f) ≡ pos ((places_of h rows).place e i) -ℤ pos ((places_of h rows).place e (shared_base v))

  shared_words : (g f : FunctionId) (e v : ClassId) (i : Subobject) → Returns h g f e i → i.root ≡ Shared v → SharedWords g f e v i
  shared_words g f e v i r root =
      let k = vbase_number h l e v in
      let is = adjusts g f e i r ∙ ap (λ a. adjust_at h l e a (l.place e i)) root in
      let small = vbase_small h rows keeps sound e v (pointee_known g e r.own) (base_of_root e v i r.valid root) in
      let word : word_of (return_vbase (return_for h l g f)) ≡ 18446744073709551616 - 8 * (k + 3) = ap (λ a. word_of (return_vbase a)) is ∙ offset_word k (omega arith) in
      record {
        vbase = word ∙ sym (number_word k (omega arith));
        some = omega (arith, word);
        constant = ap return_constant is;
      }

  pub shared_result : (g f : FunctionId) (e v : ClassId) (i : Subobject) → Returns h g f e i → i.root ≡ Shared v →
      (word_of (return_vbase (return_for h (places_of h rows) g f)) ≡ word_offset (word_number (vbase_number h (places_of h rows) e v))) × (0 < word_of (return_vbase (return_for h (places_of h rows) g f)))
  shared_result g f e v i r root = let s = shared_words g f e v i r root in (s.vbase, s.some)

  pub moved_plain : (image : ImageBytes) (memory : Store) (d : ClassId) (at : ℕ) (p : Subobject) (g f : FunctionId) (e : ClassId) (i : Subobject) → d.0 < length h → at + (places_of h rows).size d < 2 ^ 63 → IsSubobject h d p → class_of p ≡ Some e → Returns h g f e i → i.root ≡ Whole →
      IsMoved image memory (at + (places_of h rows).place d p) (word_of (return_vbase (return_for h (places_of h rows) g f))) (word_of (return_constant (return_for h (places_of h rows) g f))) (address_in_object (places_of h rows) d at p i)
  moved_plain image memory d at p g f e i known fits there class r root =
      let w = plain_words g f e i r root in
      let sum : l.place d (join p i) ≡ l.place d p + l.place e i = joined h rows d e p i there class r.valid root in
      let low = below h rows sound d (join p i) known (join_valid h d e p i there class r.valid) in
      let at_end : at + l.place d p + l.place e i ≡ address_in_object l d at p i = omega (arith, sum) in
      record {
        base = at + l.place d p;
        by_word = ap (moved_by_word image memory (at + l.place d p)) w.0;
        by_constant = ap (moved (at + l.place d p)) w.1 ∙ (moved_up (at + l.place d p) (l.place e i) (omega (arith, sum)) ∙ at_end);
      }

  -- from a virtual base to what lies in it, it is as far in each object
  same_way : (d e v : ClassId) (i : Subobject) → IsSubobject h e i → i.root ≡ Shared v → pos ((places_of h rows).place d (shared_base v)) +ℤ (pos ((places_of h rows).place e i) -ℤ pos ((places_of h rows).place e (shared_base v))) ≡ pos ((places_of h rows).place d i)
  same_way d e v _ (whole path leads) root = absurd (cc)
  same_way d e v _ (shared u path has leads) root =
      let one : u ≡ v = cc in
      subst (λ c. pos (l.place d (shared_base c)) +ℤ (pos (l.place e (subobject (Shared u) (u ∷ path))) -ℤ pos (l.place e (shared_base c))) ≡ pos (l.place d (subobject (Shared u) (u ∷ path)))) one (omega (arith, ints))

  -- a subobject in a virtual base is the same in each subobject that has it
  joined_shared : (e v : ClassId) (s i : Subobject) → IsSubobject h e i → i.root ≡ Shared v → join s i ≡ i
  joined_shared e v s _ (whole path leads) root = absurd (cc)
  joined_shared e v s _ (shared u path has leads) root = refl

  pub moved_shared : (image : ImageBytes) (memory : Store) (d : ClassId) (at : ℕ) (y : Subobject) (x : View) (placed : PlacedTables) (s : Subobject) (g f : FunctionId) (e v : ClassId) (i : Subobject) → IsViewAt h rows image memory d at y x placed → IsSubobject h x.class s → class_of s ≡ Some e → Returns h g f e i → i.root ≡ Shared v →
      IsMoved image memory (address_in_object (places_of h rows) d at y s) (word_of (return_vbase (return_for h (places_of h rows) g f))) (word_of (return_constant (return_for h (places_of h rows) g f))) (address_in_object (places_of h rows) d at y (join s i))
  moved_shared image memory d at y x placed s g f e v i stands there class r root =
      let w = shared_words g f e v i r root in
      let m = to_vbase h rows image memory d at y x placed stands s e v there class (base_of_root e v i r.valid root) in
      let some = w.some in
      let word = w.vbase in
      let first = word_moves image memory (address_in_object l d at y s) (word_offset (word_number (vbase_number h l e v))) m.by (at + l.place d (shared_base v)) (omega (arith, word)) m.there m.leads in
      let inner : join y (join s i) ≡ i = ap (join y) (joined_shared e v s i r.valid root) ∙ joined_shared e v y i r.valid root in
      let valid = join_valid h d x.class y (join s i) stands.valid stands.of_class (join_valid h x.class e s i there class r.valid) in
      let low = below h rows sound d i stands.known (subst (λ a. IsSubobject h d a) inner valid) in
      let base = below h rows sound d (shared_base v) stands.known (shared v [] (base_of_root d v i (subst (λ a. IsSubobject h d a) inner valid) root) tt) in
      let fits = stands.fits in
      record {
        base = at + l.place d (shared_base v);
        by_word = ap (moved_by_word image memory (address_in_object l d at y s)) w.vbase ∙ first;
        by_constant = ap (λ n. moved (at + l.place d (shared_base v)) (word_of n)) w.constant ∙ (moved_between at (l.place d (shared_base v)) (l.place d i) (pos (l.place e i) -ℤ pos (l.place e (shared_base v))) (same_way d e v i r.valid root) (omega arith) (omega arith)
            ∙ ap (λ (a : Subobject). at + l.place d a) (sym inner));
      }

-- a function whose result is no pointer
pub no_words : (h : Classes) (rows : List ClassLayout) (g f : FunctionId) → pointee (return_of h f) ≡ None → return_for h (places_of h rows) g f ≡ None
no_words h rows g f none = ap (λ o. adjust_by h (places_of h rows) (between_classes (pointee (return_of h g)) o)) none ∙ by_own (pointee (return_of h g))
  where
    by_own : (o : Option ClassId) → adjust_by h (places_of h rows) (between_classes o None) ≡ None
    by_own None = refl
    by_own (Some e) = refl
