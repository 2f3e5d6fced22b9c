-- Each entry of a table that runs code runs that of a routine, which has a number.
use Rattle.std.proofs.Common.{◌≡◌, ℕ, ◌<◌, ⊎_elim, Bool, true, false, Option, Some, None, List, [], ◌∷◌, length, map, refl, sym, ap, subst, ◌∙◌}
use Rattle.std.specs.Prelude.{slice_get, nat_eq}
use Rattle.std.proofs.lemmas.Bool.{eqb-true}
use Rattle.cxx_hierarchy.specs.declared.records.ClassId.{ClassId}
use Rattle.cxx_hierarchy.specs.declared.records.Function.{Function}
use Rattle.cxx_hierarchy.specs.declared.records.Param.{Param}
use Rattle.cxx_hierarchy.specs.Classes.{Class, class_at, functions_of}
use Rattle.cxx_overrider.specs.declared.FunctionId.{FunctionId}
use Rattle.cxx_overrider.specs.Functions.{Signature, named, destructor, signature_of, signature_in, signature_at, declaration_of, is_pure}
use Rattle.cxx_search.specs.Searches.{destructor_of}
use Rattle.cxx_program.specs.Typed.{IsTypedProgram}
use Rattle.path_plan.specs.declared.form.Form.TheVariants.{InFull}
use Rattle.path_model.proofs.TypedBodies.{function_found}
use Rattle.abi_slots.specs.declared.code_numbers.BlockKind.{BlockKind}
use Rattle.abi_slots.specs.declared.code_numbers.CodeRow.{CodeRow}
use Rattle.abi_slots.specs.declared.words.CodeKind.{CodeKind}
use Rattle.abi_slots.specs.declared.words.CodeKind.TheVariants.{Plain, Complete, Deleting}
use Rattle.abi_slots.specs.CodeRows.{code_of, block_kind}
use Rattle.abi_slots.specs.Listing.{kinds_in}
use Rattle.abi_slots.proofs.Lists.{Item, item_none, item_split}
use Rattle.code_ops.specs.Routines.{IsRoutine, function_of_routine, routine_kind}
use Rattle.code_ops.specs.Setups.{Setup, Routine, FunctionCode, PlanCode}
use Rattle.code_ops.specs.declared.routines.Course.TheVariants.{Destroys, Deletes}
use Rattle.abi_world.specs.Made.{HaveCodeNumbers}
use Rattle.path_model.specs.States.{is_body}

module _ (x : Setup) (codes : List CodeRow) (typed : IsTypedProgram x.h x.program) (numbered : HaveCodeNumbers x codes) where
  -- a function that is declared, and not pure
  record IsDeclared (f : FunctionId) (signature : Signature) : Type 0 where
    class : Class
    there : class_at x.h f.class ≡ Some class
    is : signature_at (slice_get class.functions f.index) (nat_eq f.index (length class.functions)) ≡ Some signature

  declared_in : (f : FunctionId) (signature : Signature) (o : Option Class) → class_at x.h f.class ≡ o → signature_in o f.index ≡ Some signature → IsDeclared f signature
  declared_in f signature None there e = absurd (cc)
  declared_in f signature (Some class) there e = record { class = class; there = there; is = e }

  functions_there : (c : ClassId) (class : Class) → class_at x.h c ≡ Some class → functions_of x.h c ≡ class.functions
  functions_there c class there = rw there refl

  has_code : (f : FunctionId) (kind : CodeKind) (r : Routine) → IsRoutine x r → function_of_routine x r ≡ Some f → routine_kind r ≡ block_kind kind → (code : ℕ) × (code_of codes f (block_kind kind) ≡ Some code)
  has_code f kind r routine of is = subst (λ (k : BlockKind). (code : ℕ) × (code_of codes f k ≡ Some code)) is (numbered r f routine of)

  -- a plain function that is not pure has a body
  plain_code : (f : FunctionId) (o : Option (Function ClassId)) → declaration_of x.h f ≡ o → (o ≡ None → ⊥) → is_pure x.h f ≡ false → (code : ℕ) × (code_of codes f (block_kind Plain) ≡ Some code)
  plain_code f None e some pure = absurd (some refl)
  plain_code f (Some declared) e some pure =
      let not_pure : declared.is_pure ≡ false = let r : is_pure x.h f ≡ declared.is_pure = rw e refl in sym r ∙ pure in
      let found = function_found x.h x.program typed f (declared, e, not_pure) in
      has_code f Plain (FunctionCode f) (ap is_body found.1) refl refl

  by_slot : (f : FunctionId) (signature : Signature) (class : Class) (kind : CodeKind) (o : Option (Function ClassId)) (is_last : Bool) → class_at x.h f.class ≡ Some class → slice_get class.functions f.index ≡ o → nat_eq f.index (length class.functions) ≡ is_last
      → signature_at o is_last ≡ Some signature → Item (kinds_in (Some signature)) kind → is_pure x.h f ≡ false → f.class.0 < length x.h → (code : ℕ) × (code_of codes f (block_kind kind) ≡ Some code)
  by_slot f signature class kind (Some declared) is_last there slot last e i pure known =
      let here : declaration_of x.h f ≡ Some declared = ap (λ (fs : List (Function ClassId)). slice_get fs f.index) (functions_there f.class class there) ∙ slot in
      let mine : Signature = named declared.name (map (λ (p : Param ClassId). p.ty) declared.params) in
      let same : mine ≡ signature = cc (e) in
      let one : Item (kinds_in (Some mine)) kind = subst (λ (s : Signature). Item (kinds_in (Some s)) kind) (sym same) i in
      ⊎_elim (λ is. subst (λ (k : CodeKind). (code : ℕ) × (code_of codes f (block_kind k) ≡ Some code)) is (plain_code f (Some declared) here (λ none. cc (none)) pure)) (λ none. absurd (item_none kind none)) (item_split Plain [] kind one)
  by_slot f signature class kind None false there slot last e i pure known = absurd (let r : None ≡ Some signature = e in cc (r))
  by_slot f signature class kind None true there slot last e i pure known =
      let same : destructor ≡ signature = cc (e) in
      let one : Item (kinds_in (Some destructor)) kind = subst (λ (s : Signature). Item (kinds_in (Some s)) kind) (sym same) i in
      let size : length (functions_of x.h f.class) ≡ length class.functions = ap length (functions_there f.class class there) in
      let index : f.index ≡ length (functions_of x.h f.class) = eqb-true f.index (length class.functions) last ∙ sym size in
      let its : destructor_of x.h f.class ≡ f = λ k. record { class = f.class; index = sym index k } in
      ⊎_elim
      (λ is. subst (λ (k : CodeKind). (code : ℕ) × (code_of codes f (block_kind k) ≡ Some code)) is (has_code f Complete (PlanCode Destroys InFull f.class) (known, tt) (ap (λ (g : FunctionId). Some g) its) refl))
      (λ rest. ⊎_elim
      (λ is. subst (λ (k : CodeKind). (code : ℕ) × (code_of codes f (block_kind k) ≡ Some code)) is (has_code f Deleting (PlanCode Deletes InFull f.class) (known, refl) (ap (λ (g : FunctionId). Some g) its) refl))
      (λ none. absurd (item_none kind none)) (item_split Deleting [] kind rest))
      (item_split Complete (Deleting ∷ []) kind one)

  pub code_there : (f : FunctionId) (signature : Signature) (kind : CodeKind) → signature_of x.h f ≡ Some signature → Item (kinds_in (Some signature)) kind → is_pure x.h f ≡ false → f.class.0 < length x.h → (code : ℕ) × (code_of codes f (block_kind kind) ≡ Some code)
  code_there f signature kind e i pure known =
      let d = declared_in f signature (class_at x.h f.class) refl e in
      by_slot f signature d.class kind (slice_get d.class.functions f.index) (nat_eq f.index (length d.class.functions)) d.there refl refl d.is i pure known
