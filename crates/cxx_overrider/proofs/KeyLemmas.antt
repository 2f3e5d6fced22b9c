-- Signatures and their bytes.
use Rattle.std.proofs.Common.{◌≡◌, ℕ, ◌+◌, ⊎_elim, Some, None, List, [], ◌∷◌, ◌++◌, length, refl, ap, sym, ◌∙◌, arith, length-append}
use Rattle.std.specs.Prelude.{nat_eq, if◌then◌else◌}
use Rattle.std.specs.List.{slice_get}
use Rattle.cxx_hierarchy.specs.declared.names.NameTable.{NameTable}
use Rattle.cxx_hierarchy.specs.declared.records.ClassId.{ClassId}
use Rattle.cxx_hierarchy.specs.declared.records.Scalar.{Scalar}
use Rattle.cxx_hierarchy.specs.declared.records.Scalar.TheVariants.{Bool as TheBool, Char, SChar, UChar, Short, UShort, Int, UInt, Long, ULong, LongLong, ULongLong}
use Rattle.cxx_hierarchy.specs.declared.records.ValueType.{ValueType}
use Rattle.cxx_hierarchy.specs.declared.records.ValueType.TheVariants.{Number, Pointer}
use Rattle.cxx_hierarchy.specs.Classes.{Classes}
use Rattle.cxx_subobject.proofs.PathLemmas.{same_id}
use Rattle.cxx_overrider.specs.declared.FunctionId.{FunctionId}
use Rattle.cxx_overrider.specs.Functions.{Signature, named, destructor, signature_of}
use Rattle.cxx_overrider.specs.Virtuals.{scalar_number}
use Rattle.cxx_overrider.specs.invariants.Keys.{first_code, second_code, type_codes, signature_key, AreKeyed}
use Rattle.cxx_overrider.specs.invariants.Numbers.{AreFirst, IsFirstOf}
use Rattle.cxx_hierarchy.specs.NameTables.{Text, Numbers, number_in}
use Rattle.cxx_hierarchy.proofs.Listed.{place_listed}
use Rattle.cxx_hierarchy.proofs.Builds.{place_missing}
use Rattle.foundation.proofs.Places.{get_front, get_last, get_pushed, get_within, contains_at}
use Rattle.std.proofs.lemmas.Option.{slice_get_within}
use Rattle.cxx_overrider.proofs.Numbering.{some_value}

-- from the bytes back to the signature
scalar_of : ℕ → Scalar
scalar_of n =
    if nat_eq n 0 then TheBool else (if nat_eq n 1 then Char else (if nat_eq n 2 then SChar else (if nat_eq n 3 then UChar else (if nat_eq n 4 then Short else (if nat_eq n 5 then UShort else
    (if nat_eq n 6 then Int else (if nat_eq n 7 then UInt else (if nat_eq n 8 then Long else (if nat_eq n 9 then ULong else (if nat_eq n 10 then LongLong else ULongLong))))))))))

scalar_back : (s : Scalar) → scalar_of (scalar_number s) ≡ s
unfolding scalar_of
scalar_back TheBool = refl
scalar_back Char = refl
scalar_back SChar = refl
scalar_back UChar = refl
scalar_back Short = refl
scalar_back UShort = refl
scalar_back Int = refl
scalar_back UInt = refl
scalar_back Long = refl
scalar_back ULong = refl
scalar_back LongLong = refl
scalar_back ULongLong = refl

pub same_scalar : (s t : Scalar) → scalar_number s ≡ scalar_number t → s ≡ t
same_scalar s t e = sym (scalar_back s) ∙ ap scalar_of e ∙ scalar_back t

same_type : (t u : ValueType ClassId) → first_code t ≡ first_code u → second_code t ≡ second_code u → t ≡ u
same_type (Number s) (Number r) a b = ap (λ x. Number x) (same_scalar s r b)
same_type (Number s) (Pointer c) a b = absurd (omega arith)
same_type (Pointer c) (Number s) a b = absurd (omega arith)
same_type (Pointer c) (Pointer d) a b = ap (λ x. Pointer x) (same_id c d (omega arith))

same_types : (ts us : List (ValueType ClassId)) (n m : List ℕ) → length ts ≡ length us → type_codes ts ++ n ≡ type_codes us ++ m → (ts ≡ us) × (n ≡ m)
same_types [] [] n m l e = (refl, e)
same_types [] (u ∷ us) n m l e = absurd (omega arith)
same_types (t ∷ ts) [] n m l e = absurd (omega arith)
same_types (t ∷ ts) (u ∷ us) n m l e =
    let first : first_code t ≡ first_code u = cc in
    let second : second_code t ≡ second_code u = cc in
    let rest : type_codes ts ++ n ≡ type_codes us ++ m = cc in
    let r = same_types ts us n m (omega arith) rest in
    let head = same_type t u first second in
    (ap (λ x. x ∷ ts) head ∙ ap (λ x. u ∷ x) r.0, r.1)

pub same_signature : (s t : Signature) → signature_key s ≡ signature_key t → s ≡ t
same_signature (named n ts) (named m us) e =
    let size : length ts + 1 ≡ length us + 1 = cc in
    let rest : type_codes ts ++ n ≡ type_codes us ++ m = cc in
    let r = same_types ts us n m (omega arith) rest in
    ap (λ x. named x ts) r.1 ∙ ap (λ x. named m x) r.0
same_signature (named n ts) destructor e = cc
same_signature destructor (named m us) e = cc
same_signature destructor destructor e = refl

-- a table of the first functions
pub keyed_none : (h : Classes) (table : NameTable) → Numbers table [] → AreKeyed h table []
keyed_none h table is = record { keys = []; numbers = is; size = refl; each = λ i f s e k. cc }

pub found_first : (h : Classes) (table : NameTable) (firsts : List FunctionId) (f : FunctionId) (s : Signature) (key : Text) (place : ℕ) → AreFirst h firsts → AreKeyed h table firsts → signature_of h f ≡ Some s → key ≡ signature_key s → Some place ≡ number_in table key → IsFirstOf h firsts f place
found_first h table firsts f s key place are keyed is at e =
    let listed : slice_get keyed.keys place ≡ Some key = place_listed keyed.keys key place (sym (e ∙ keyed.numbers.places key)) in
    let small = slice_get_within keyed.keys place key listed in
    let size = keyed.size in
    let g = get_within firsts place (omega arith) in
    let t = some_value (signature_of h g.0) (are.known place g.0 g.1) in
    let there = keyed.each place g.0 t.0 g.1 t.1 in
    let same_key : signature_key t.0 ≡ signature_key s = let k : key ≡ signature_key t.0 = cc in sym k ∙ at in
    record { first = g.0; at_n = g.1; same = t.1 ∙ ap (λ x. Some x) (same_signature t.0 s same_key) ∙ sym is }

pub missing_first : (h : Classes) (table : NameTable) (firsts : List FunctionId) (f : FunctionId) (s : Signature) (key : Text) → AreKeyed h table firsts → signature_of h f ≡ Some s → key ≡ signature_key s → None ≡ number_in table key → (i : ℕ) (g : FunctionId) → slice_get firsts i ≡ Some g → signature_of h g ≡ signature_of h f → ⊥
missing_first h table firsts f s key keyed is at e i g ge same =
    let listed = keyed.each i g s ge (same ∙ is) in
    let key_listed : slice_get keyed.keys i ≡ Some key = listed ∙ ap (λ x. Some x) (sym at) in
    place_missing keyed.keys key (sym (e ∙ keyed.numbers.places key)) (contains_at keyed.keys i key key_listed)

pub keyed_pushed : (h : Classes) (old new : NameTable) (firsts : List FunctionId) (f : FunctionId) (s : Signature) (key : Text) (place : ℕ) → AreKeyed h old firsts → signature_of h f ≡ Some s → key ≡ signature_key s → place ≡ length firsts → ((names : List Text) → Numbers old names → place ≡ length names → Numbers new (names ++ key ∷ [])) → AreKeyed h new (firsts ++ f ∷ [])
keyed_pushed h old new firsts f s key place keyed is at last noted =
    let size = keyed.size in
    record {
      keys = keyed.keys ++ key ∷ [];
      numbers = noted keyed.keys keyed.numbers (omega arith);
      size = let a : length (keyed.keys ++ key ∷ []) ≡ length keyed.keys + 1 = length-append keyed.keys (key ∷ []) in let b : length (firsts ++ f ∷ []) ≡ length firsts + 1 = length-append firsts (f ∷ []) in omega arith;
      each = λ i g t e k. ⊎_elim
          (λ a. get_front keyed.keys (key ∷ []) i (signature_key t) (keyed.each i g t a k))
          (λ b.
          let here : i ≡ length keyed.keys = b.0 ∙ sym size in
          let same : t ≡ s = let x = ap (signature_of h) b.1 in cc in
          let value : key ≡ signature_key t = at ∙ ap signature_key (sym same) in
          ap (slice_get (keyed.keys ++ key ∷ [])) here ∙ get_last keyed.keys key ∙ ap (λ x. Some x) value)
          (get_pushed firsts f i g e);
    }
