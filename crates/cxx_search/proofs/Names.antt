-- The test of names is true exactly where two functions have one signature.
use Rattle.std.proofs.Common.{◌≡◌, true, Option, Some, None, List, [], ◌∷◌, refl, ap, subst, sym, ◌∙◌}
use Rattle.std.specs.Prelude.{nat_eq}
use Rattle.std.specs.Str.{bytes_eq}
use Rattle.std.proofs.lemmas.Bool.{eqb-true, eq-eqb, and_parts, and_from}
use Rattle.cxx_hierarchy.specs.declared.records.ClassId.{ClassId}
use Rattle.cxx_hierarchy.specs.declared.records.Scalar.{Scalar}
use Rattle.cxx_hierarchy.specs.declared.records.Scalar.TheVariants.{Bool as TheBool, Char, SChar, UChar, Short, UShort, Int, UInt, Long, ULong, LongLong, ULongLong}
use Rattle.cxx_hierarchy.specs.declared.records.ValueType.{ValueType}
use Rattle.cxx_hierarchy.specs.declared.records.ValueType.TheVariants.{Number, Pointer}
use Rattle.cxx_hierarchy.specs.Classes.{Classes}
use Rattle.cxx_hierarchy.proofs.Places.{same_bytes}
use Rattle.cxx_hierarchy.proofs.Listed.{same_itself}
use Rattle.cxx_subobject.proofs.PathLemmas.{same_id}
use Rattle.cxx_overrider.specs.declared.FunctionId.{FunctionId}
use Rattle.cxx_overrider.specs.Functions.{Signature, named, destructor, signature_of}
use Rattle.cxx_overrider.specs.Virtuals.{scalar_number, same_type, same_types, same_signature, same_signatures, same_name}
use Rattle.cxx_overrider.proofs.KeyLemmas.{same_scalar}

scalar_is : (s t : Scalar) → nat_eq (scalar_number s) (scalar_number t) ≡ true → s ≡ t
scalar_is s t e = same_scalar s t (eqb-true (scalar_number s) (scalar_number t) e)

type_is : (s t : ValueType ClassId) → same_type s t ≡ true → s ≡ t
type_is (Number s) (Number t) e = ap (λ x. Number x) (scalar_is s t e)
type_is (Number s) (Pointer d) e = cc
type_is (Pointer c) (Number t) e = cc
type_is (Pointer c) (Pointer d) e = ap (λ x. Pointer x) (same_id c d (eqb-true c.0 d.0 e))

type_itself : (s : ValueType ClassId) → same_type s s ≡ true
type_itself (Number s) = eq-eqb (scalar_number s) (scalar_number s) refl
type_itself (Pointer c) = eq-eqb c.0 c.0 refl

types_are : (ss ts : List (ValueType ClassId)) → same_types ss ts ≡ true → ss ≡ ts
types_are [] [] e = refl
types_are [] (t ∷ ts) e = cc
types_are (s ∷ ss) [] e = cc
types_are (s ∷ ss) (t ∷ ts) e =
    let both = and_parts (same_type s t) (same_types ss ts) e in
    ap (λ x. x ∷ ss) (type_is s t both.0) ∙ ap (λ xs. t ∷ xs) (types_are ss ts both.1)

types_itself : (ss : List (ValueType ClassId)) → same_types ss ss ≡ true
types_itself [] = refl
types_itself (s ∷ ss) = and_from (same_type s s) (same_types ss ss) (type_itself s) (types_itself ss)

signature_is : (s t : Signature) → same_signature s t ≡ true → s ≡ t
signature_is (named n ts) (named m us) e =
    let both = and_parts (bytes_eq n m) (same_types ts us) e in
    ap (λ x. named x ts) (same_bytes n m both.0) ∙ ap (λ x. named m x) (types_are ts us both.1)
signature_is (named n ts) destructor e = cc
signature_is destructor (named m us) e = cc
signature_is destructor destructor e = refl

signature_itself : (s : Signature) → same_signature s s ≡ true
signature_itself (named n ts) = and_from (bytes_eq n n) (same_types ts ts) (same_itself n) (types_itself ts)
signature_itself destructor = refl

-- the signature that two functions have
abbrev pub ShareSignature : Classes → FunctionId → FunctionId → Type 0
ShareSignature h f g = (s : Signature) × (signature_of h f ≡ Some s) × (signature_of h g ≡ Some s)

shared : (a b : Option Signature) → same_signatures a b ≡ true → (s : Signature) × (a ≡ Some s) × (b ≡ Some s)
shared None b e = cc
shared (Some s) None e = cc
shared (Some s) (Some t) e = (s, refl, ap (λ x. Some x) (sym (signature_is s t e)))

pub name_signature : (h : Classes) (f g : FunctionId) → same_name h f g ≡ true → ShareSignature h f g
name_signature h f g e = shared (signature_of h f) (signature_of h g) e

pub signature_name : (h : Classes) (f g : FunctionId) (s : Signature) → signature_of h f ≡ Some s → signature_of h g ≡ Some s → same_name h f g ≡ true
signature_name h f g s e k = subst (λ a. same_signatures a (signature_of h g) ≡ true) (sym e) (subst (λ a. same_signatures (Some s) a ≡ true) (sym k) (signature_itself s))
