-- Tests of names, keys and offsets say what they test.
use Rattle.std.proofs.Common.{◌≡◌, ℕ, true, List, refl, ap, subst, sym, ◌∙◌}
use Rattle.std.specs.Prelude.{nat_eq}
use Rattle.std.proofs.lemmas.Bool.{eqb-true, eq-eqb, and_parts, and_from}
use Rattle.cxx_hierarchy.specs.declared.records.ClassId.{ClassId}
use Rattle.cxx_hierarchy.specs.Classes.{Classes}
use Rattle.cxx_subobject.proofs.PathLemmas.{same_id}
use Rattle.cxx_overrider.specs.declared.FunctionId.{FunctionId}
use Rattle.cxx_overrider.specs.Functions.{signature_of, same_function}
use Rattle.abi_slots.specs.declared.words.CodeKind.{CodeKind}
use Rattle.abi_slots.specs.declared.words.CodeKind.TheVariants.{Plain, Complete, Deleting}
use Rattle.abi_slots.specs.declared.words.EntryKey.{EntryKey}
use Rattle.abi_slots.specs.declared.words.Offset.{Offset}
use Rattle.abi_slots.specs.declared.words.Offset.TheVariants.{ToBase, ToOverrider}
use Rattle.cxx_overrider.specs.Virtuals.{same_signatures, same_name}
use Rattle.cxx_search.proofs.Names.{signature_name, name_signature}
use Rattle.abi_slots.specs.Listing.{same_kind, same_entry_key, is_base, is_offset_of_name}

-- functions of one name have one signature
pub name_is : (h : Classes) (f g : FunctionId) → same_name h f g ≡ true → signature_of h f ≡ signature_of h g
name_is h f g e = let s = name_signature h f g e in s.1 ∙ sym s.2

pub name_through : (h : Classes) (f g k : FunctionId) → same_name h f g ≡ true → same_name h g k ≡ true → same_name h f k ≡ true
name_through h f g k a b = subst (λ s. same_signatures s (signature_of h k) ≡ true) (sym (name_is h f g a)) b

pub name_back : (h : Classes) (f g : FunctionId) → same_name h f g ≡ true → same_name h g f ≡ true
name_back h f g e = let s = name_signature h f g e in signature_name h g f s.0 s.2 s.1

pub kind_is : (j k : CodeKind) → same_kind j k ≡ true → j ≡ k
kind_is Plain Plain e = refl
kind_is Plain Complete e = cc
kind_is Plain Deleting e = cc
kind_is Complete Plain e = cc
kind_is Complete Complete e = refl
kind_is Complete Deleting e = cc
kind_is Deleting Plain e = cc
kind_is Deleting Complete e = cc
kind_is Deleting Deleting e = refl

pub kind_itself : (k : CodeKind) → same_kind k k ≡ true
kind_itself Plain = refl
kind_itself Complete = refl
kind_itself Deleting = refl

pub function_is : (f g : FunctionId) → same_function f g ≡ true → f ≡ g
function_is f g e =
    let both = and_parts (nat_eq f.class.0 g.class.0) (nat_eq f.index g.index) e in
    let make : ClassId → ℕ → FunctionId = λ c i. record { class = c; index = i } in
    let one : make f.class f.index ≡ make g.class g.index = ap (λ c. make c f.index) (same_id f.class g.class (eqb-true f.class.0 g.class.0 both.0)) ∙ ap (make g.class) (eqb-true f.index g.index both.1) in
    one

pub function_itself : (f : FunctionId) → same_function f f ≡ true
function_itself f = and_from (nat_eq f.class.0 f.class.0) (nat_eq f.index f.index) (eq-eqb f.class.0 f.class.0 refl) (eq-eqb f.index f.index refl)

pub key_is : (a b : EntryKey) → same_entry_key a b ≡ true → a ≡ b
key_is a b e =
    let both = and_parts (same_function a.function b.function) (same_kind a.kind b.kind) e in
    let make : FunctionId → CodeKind → EntryKey = λ f k. record { function = f; kind = k } in
    let one : make a.function a.kind ≡ make b.function b.kind = ap (λ f. make f a.kind) (function_is a.function b.function both.0) ∙ ap (make b.function) (kind_is a.kind b.kind both.1) in
    one

pub key_itself : (a : EntryKey) → same_entry_key a a ≡ true
key_itself a = and_from (same_function a.function a.function) (same_kind a.kind a.kind) (function_itself a.function) (kind_itself a.kind)

pub base_is : (v : ClassId) (x : Offset) → is_base v x ≡ true → x ≡ ToBase v
base_is v (ToBase u) e = ap (λ a. ToBase a) (sym (same_id v u (eqb-true v.0 u.0 e)))
base_is v (ToOverrider path g) e = cc

-- an offset of a name
pub named_is : (h : Classes) (f : FunctionId) (x : Offset) → is_offset_of_name h f x ≡ true → (path : List ClassId) × (g : FunctionId) × (x ≡ ToOverrider path g) × (same_name h f g ≡ true)
named_is h f (ToBase u) e = cc
named_is h f (ToOverrider path g) e = (path, g, refl, e)
