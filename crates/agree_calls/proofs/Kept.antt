-- What a call leaves to do for its return: by the function that runs and the one that was found.
use Rattle.std.proofs.Common.{◌≡◌, ℕ, Bool, true, false, Option, Some, None, List, [], ◌∷◌, refl, ap, sym, subst, ◌∙◌, arith, nat_eq, find, length, if◌then◌else◌}
use Rattle.agree_dispatch.proofs.Adjusting.{between_other, between_same}
use Rattle.agree_dispatch.proofs.Moving.{no_words}
use Rattle.agree_dispatch.proofs.ResultClasses.{PointeesFit, base_is_only, derived, no_class, same}
use Rattle.agree_dispatch.proofs.Returning.{runs_fit}
use Rattle.agree_dispatch.specs.Results.{RunsFor}
use Rattle.code_ops.specs.Arguments.{block_in, checked_taken, free}
use Rattle.code_statements.specs.Rights.{object_taken, result_class, result_taken, unused}
use Rattle.code_statements.specs.Statements.{class_number}
use Rattle.abi_slots.specs.Groups.{adjust_by, adjust_to, return_adjust, return_for, vbase_bytes}
use Rattle.abi_slots.specs.Images.{return_constant, return_vbase}
use Rattle.abi_slots.specs.Listing.{between_classes}
use Rattle.abi_slots.specs.declared.words.ReturnAdjust.{ReturnAdjust}
use Rattle.agree_relation.specs.Frames.{call_kept, constant_added, found_class, object_kept, vbase_added}
use Rattle.agree_relation.specs.Worlds.{IsProgramWorld, World, world_classes, places_in}
use Rattle.byte_code.specs.Numbers.{word_of}
use Rattle.byte_machine.specs.Calls.{kept_for, nothing_used}
use Rattle.byte_machine.specs.Frames.{Kept, nothing_kept}
use Rattle.cxx_hierarchy.specs.Classes.{Classes, functions_of}
use Rattle.cxx_hierarchy.specs.declared.records.ClassId.{ClassId}
use Rattle.cxx_hierarchy.specs.declared.records.ReturnType.{ReturnType}
use Rattle.cxx_hierarchy.specs.declared.records.ReturnType.TheVariants.{Value as ValueReturn, Void}
use Rattle.cxx_hierarchy.specs.declared.records.ValueType.TheVariants.{Number as NumberType, Pointer as PointerType}
use Rattle.cxx_overrider.specs.Covariance.{IsOnlyBase}
use Rattle.cxx_overrider.specs.Functions.{return_at, return_of, pointee}
use Rattle.cxx_overrider.specs.declared.FunctionId.{FunctionId}
use Rattle.cxx_program.specs.declared.operand.Conversion.{Conversion}
use Rattle.cxx_program.specs.declared.operand.Conversion.TheVariants.{Base as ToBase, Same as ToSame}
use Rattle.cxx_program.specs.declared.operand.Variable.{Variable}
use Rattle.cxx_program.specs.declared.program.TypedBody.{TypedBody}
use Rattle.cxx_search.specs.Searches.{destructor_of}
use Rattle.cxx_subobject.specs.Preorder.{preorder}
use Rattle.cxx_subobject.specs.Subobjects.{class_of, is_class, is_of_class}
use Rattle.cxx_subobject.specs.declared.Subobject.{Subobject}
use Rattle.foundation.proofs.Truth.{is_false, same_test}
use Rattle.path_model.specs.Effects.{base_conversion, conversion_to_class, result_conversion}
use Rattle.path_model.specs.Rules.{differ}
use Rattle.std.proofs.lemmas.Bool.{eq-eqb, eqb-true}
use Rattle.std.proofs.lemmas.Option.{slice_get_past}
use Rattle.cxx_subobject.proofs.PathLemmas.{same_id}

same_find : (p q : Subobject → Bool) → ((i : Subobject) → p i ≡ q i) → (is : List Subobject) → find p is ≡ find q is
same_find p q same_test [] = refl
same_find p q same_test (i ∷ is) = by_test (p i) (same_test i) (same_find p q same_test is)
  where
    by_test : (x : Bool) → x ≡ q i → find p is ≡ find q is → (if x then Some i else find p is) ≡ (if q i then Some i else find q is)
    by_test true e rest = rw (← e) refl
    by_test false e rest = rw (← e) rest

-- the conversion of a result is that of the classes to which the results point
abbrev by_classes : Classes → Option ClassId → Option ClassId → Conversion
by_classes h None to = ToSame
by_classes h (Some c) None = ToSame
by_classes h (Some c) (Some d) = conversion_to_class h c d

result_classes : (h : Classes) (a b : Option (ReturnType ClassId)) → result_conversion h a b ≡ by_classes h (pointee a) (pointee b)
result_classes h None b = refl
result_classes h (Some Void) b = refl
result_classes h (Some (ValueReturn (NumberType t))) b = refl
result_classes h (Some (ValueReturn (PointerType c))) None = refl
result_classes h (Some (ValueReturn (PointerType c))) (Some Void) = refl
result_classes h (Some (ValueReturn (PointerType c))) (Some (ValueReturn (NumberType t))) = refl
result_classes h (Some (ValueReturn (PointerType c))) (Some (ValueReturn (PointerType d))) = refl

-- what is kept of the class, and added to the result, says the same as the words of a thunk
record AreSame (w : World) (own found : Option ClassId) (conversion : Conversion) : Type 0 where
  class : found_class own conversion ≡ found
  vbase : vbase_added w own conversion ≡ word_of (return_vbase (adjust_by (world_classes w) (places_in w) (between_classes own found)))
  constant : constant_added w own conversion ≡ word_of (return_constant (adjust_by (world_classes w) (places_in w) (between_classes own found)))

module _ (w : World) (world : IsProgramWorld w) where
  to_one : (c : ClassId) → conversion_to_class (world_classes w) c c ≡ ToSame
  to_one c = ap (λ x. if x then ToSame else base_conversion (find (is_of_class c) (preorder (world_classes w) c))) (eq-eqb c.0 c.0 refl)

  to_base_class : (x y : ClassId) (i : Subobject) → (x ≡ y → ⊥) → IsOnlyBase (world_classes w) x y i → conversion_to_class (world_classes w) x y ≡ ToBase i
  to_base_class x y i differ only =
      let apart : nat_eq x.0 y.0 ≡ false = is_false (nat_eq x.0 y.0) (λ e. differ (same_id x y (eqb-true x.0 y.0 e))) in
      ap (λ t. if t then ToSame else base_conversion (find (is_of_class y) (preorder (world_classes w) x))) apart
      ∙ ap base_conversion (same_find (is_of_class y) (λ s. is_class y (class_of s)) (λ s. refl) (preorder (world_classes w) x) ∙ base_is_only (world_classes w) world.hierarchy x y i only)

  same_by : (own found : Option ClassId) → PointeesFit (world_classes w) own found → AreSame w own found (by_classes (world_classes w) own found)
  same_by _ _ no_class = record { class = refl; vbase = refl; constant = refl }
  same_by _ _ (same c) = subst (λ (k : Conversion). AreSame w (Some c) (Some c) k) (sym (to_one c)) (record {
    class = refl;
    vbase = ap (λ a. word_of (return_vbase (adjust_by (world_classes w) (places_in w) a))) (sym (between_same c));
    constant = ap (λ a. word_of (return_constant (adjust_by (world_classes w) (places_in w) a))) (sym (between_same c));
  })
  same_by _ _ (derived x y i differ only) = subst (λ (k : Conversion). AreSame w (Some x) (Some y) k) (sym (to_base_class x y i differ only)) (record {
    class = only.class;
    vbase = ap (λ a. word_of (return_vbase a)) (sym adjusted);
    constant = ap (λ a. word_of (return_constant a)) (sym adjusted);
  })
    where
      adjusted : adjust_by (world_classes w) (places_in w) (between_classes (Some x) (Some y)) ≡ return_adjust (places_in w) x i (vbase_bytes (world_classes w) (places_in w) x i.root)
      adjusted = ap (adjust_by (world_classes w) (places_in w)) (between_other x y differ) ∙ ap (adjust_to (world_classes w) (places_in w) x) (base_is_only (world_classes w) world.hierarchy x y i only)

  -- n runs where f was found
  module _ (n f : FunctionId) (runs : RunsFor (world_classes w) n f) where
    abbrev own : Option ClassId
    own = pointee (return_of (world_classes w) n)

    abbrev found : Option ClassId
    found = pointee (return_of (world_classes w) f)

    abbrev pub conversion_of : Conversion
    conversion_of = result_conversion (world_classes w) (return_of (world_classes w) n) (return_of (world_classes w) f)

    abbrev pub vbase_word : ℕ
    vbase_word = word_of (return_vbase (return_for (world_classes w) (places_in w) n f))

    abbrev pub add_word : ℕ
    add_word = word_of (return_constant (return_for (world_classes w) (places_in w) n f))

    are_same : AreSame w (pointee (return_of (world_classes w) n)) (pointee (return_of (world_classes w) f)) (result_conversion (world_classes w) (return_of (world_classes w) n) (return_of (world_classes w) f))
    are_same = subst (λ (k : Conversion). AreSame w own found k) (sym (result_classes (world_classes w) (return_of (world_classes w) n) (return_of (world_classes w) f)))
        (same_by own found (runs_fit (world_classes w) w.setup.rows world.hierarchy world.faultless world.sound n f runs))

    pub found_is : found_class (pointee (return_of (world_classes w) n)) conversion_of ≡ pointee (return_of (world_classes w) f)
    found_is = are_same.class

    number_is : result_class w.setup f ≡ class_number (found_class (pointee (return_of (world_classes w) n)) conversion_of)
    number_is = by_class (pointee (return_of (world_classes w) f)) refl ∙ ap class_number (sym found_is)
      where
        by_class : (o : Option ClassId) → found ≡ o → result_class w.setup f ≡ class_number found
        by_class None e = rw e refl
        by_class (Some c) e = rw e refl

    -- a result that no variable takes
    pub unused_kept : (body : TypedBody) → kept_for (unused w.setup f) vbase_word add_word ≡ call_kept w body (pointee (return_of (world_classes w) n)) conversion_of None
    unused_kept body =
        ap (λ (k : Option ℕ). record { to = None; class = k; vbase = vbase_word; add = add_word; finish = [] }) number_is
        ∙ ap (λ (k : ℕ). record { to = None; class = class_number (found_class own conversion_of); vbase = k; add = add_word; finish = [] }) (sym are_same.vbase)
        ∙ ap (λ (k : ℕ). record { to = None; class = class_number (found_class own conversion_of); vbase = vbase_added w own conversion_of; add = k; finish = [] }) (sym are_same.constant)

    -- one that is converted and given to a variable
    pub taken_kept : (body : TypedBody) (v : Variable) (c : Conversion) → kept_for (result_taken (block_in w.setup body) v (pointee (return_of (world_classes w) f)) (result_class w.setup f) c) vbase_word add_word
        ≡ call_kept w body (pointee (return_of (world_classes w) n)) conversion_of (Some (record { variable = v; conversion = c }))
    taken_kept body v c =
        ap (λ (k : Option ℕ). with_all k vbase_word add_word found) number_is
        ∙ ap (λ (k : ℕ). with_all (class_number (found_class own conversion_of)) k add_word found) (sym are_same.vbase)
        ∙ ap (λ (k : ℕ). with_all (class_number (found_class own conversion_of)) (vbase_added w own conversion_of) k found) (sym are_same.constant)
        ∙ ap (λ (k : Option ClassId). with_all (class_number (found_class own conversion_of)) (vbase_added w own conversion_of) (constant_added w own conversion_of) k) (sym found_is)
      where
        with_all : Option ℕ → ℕ → ℕ → Option ClassId → Kept
        with_all k vbase add class = record { to = Some (free (block_in w.setup body) 2); class = k; vbase = vbase; add = add; finish = checked_taken (block_in w.setup body) v class c (free (block_in w.setup body) 3) (free (block_in w.setup body) 2) }

  -- without dispatch the function that was found runs, and nothing is added
  pub nothing_added : (f : FunctionId) → return_for (world_classes w) (places_in w) f f ≡ None
  nothing_added f = by_class (pointee (return_of (world_classes w) f))
    where
      by_class : (o : Option ClassId) → adjust_by (world_classes w) (places_in w) (between_classes o o) ≡ None
      by_class None = refl
      by_class (Some c) = ap (adjust_by (world_classes w) (places_in w)) (between_same c)

  -- what a `new` leaves to do
  pub object_taken_kept : (body : TypedBody) (v : Variable) (d : ClassId) (c : Conversion) → kept_for (object_taken (block_in w.setup body) v d c) 0 0 ≡ object_kept w body d (Some (record { variable = v; conversion = c }))
  object_taken_kept body v d c = refl

  -- a deleting destructor has no result
  pub deleted_kept : (n : FunctionId) (c : ClassId) → kept_for nothing_used (word_of (return_vbase (return_for (world_classes w) (places_in w) n (destructor_of (world_classes w) c)))) (word_of (return_constant (return_for (world_classes w) (places_in w) n (destructor_of (world_classes w) c)))) ≡ nothing_kept
  deleted_kept n c =
      let none : pointee (return_of (world_classes w) (destructor_of (world_classes w) c)) ≡ None = ap (λ o. pointee (return_at o)) (slice_get_past (functions_of (world_classes w) c) (length (functions_of (world_classes w) c)) (omega arith)) in
      ap (λ (a : Option ReturnAdjust). kept_for nothing_used (word_of (return_vbase a)) (word_of (return_constant a))) (no_words (world_classes w) w.setup.rows n (destructor_of (world_classes w) c) none)
