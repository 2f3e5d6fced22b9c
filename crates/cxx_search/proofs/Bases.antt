-- The test for a virtual base, and the destructor of a class.
use Rattle.std.proofs.Common.{◌≡◌, ◌<◌, inl, true, Option, Some, List, [], ◌∷◌, length, refl, subst, sym, arith}
use Rattle.std.specs.Prelude.{nat_eq, slice_get}
use Rattle.std.proofs.lemmas.Bool.{eq-eqb}
use Rattle.std.proofs.lemmas.Option.{slice_get_past}
use Rattle.cxx_hierarchy.specs.declared.records.ClassId.{ClassId}
use Rattle.cxx_hierarchy.specs.Classes.{Class, Classes, class_at, functions_in as all_functions}
use Rattle.cxx_hierarchy.specs.Hierarchies.{IsHierarchy}
use Rattle.cxx_subobject.specs.VirtualBases.{virtual_bases}
use Rattle.cxx_subobject.specs.VirtualFlags.{HasVirtualBases}
use Rattle.cxx_subobject.proofs.VirtualBaseLemmas.{has_virtual, virtual_has}
use Rattle.cxx_overrider.specs.Functions.{destructor, signature_at, signature_in, signature_of}
use Rattle.foundation.proofs.Places.{get_within}
use Rattle.foundation.proofs.Members.{Has}
use Rattle.cxx_search.specs.Searches.{destructor_of, has_some, has_virtual_base}

some_first : {X : Type 0} (xs : List X) → has_some xs ≡ true → (x : X) × Has xs x
some_first [] e = cc
some_first (x ∷ xs) e = (x, inl refl)

has_first : {X : Type 0} (xs : List X) (x : X) → Has xs x → has_some xs ≡ true
has_first [] x has = absurd has
has_first (y ∷ xs) x has = refl

pub found_virtual : (h : Classes) (c : ClassId) → has_virtual_base h c ≡ true → HasVirtualBases h c
found_virtual h c e = let r = some_first (virtual_bases h c) e in record { base = r.0; has = virtual_has h c r.0 r.1 }

pub virtual_found : (h : Classes) → IsHierarchy h → (c : ClassId) → HasVirtualBases h c → has_virtual_base h c ≡ true
virtual_found h keeps c k = has_first (virtual_bases h c) k.base (has_virtual h keeps c k.base k.has)

last_signature : (class : Class) → signature_at (slice_get class.functions (length class.functions)) (nat_eq (length class.functions) (length class.functions)) ≡ Some destructor
last_signature class = rw (slice_get_past class.functions (length class.functions) (omega arith), eq-eqb (length class.functions) (length class.functions) refl) refl

pub destructor_signature : (h : Classes) (c : ClassId) → c.0 < length h → signature_of h (destructor_of h c) ≡ Some destructor
destructor_signature h c lt =
    let r = get_within h c.0 lt in
    let is : class_at h c ≡ Some r.0 = r.1 in
    subst (λ (o : Option Class). signature_in o (length (all_functions o)) ≡ Some destructor) (sym is) (last_signature r.0)
