-- The declarations of a name, gathered from one subobject after the other.
use Rattle.std.proofs.Common.{◌≡◌, ℕ, ◌+◌, ◌<◌, ◌≤◌, ⊎_elim, List, [], ◌∷◌, ◌++◌, length, sym, subst, arith, refl}
use Rattle.std.specs.Prelude.{Some, Contains, slice_get, get_or}
use Rattle.std.proofs.lemmas.List.Elements.{Contains-append_left, Contains-push, Contains-push_cases}
use Rattle.std.proofs.lemmas.Option.{slice_get_within, slice_get_read}
use Rattle.cxx_hierarchy.specs.declared.records.ClassId.{ClassId}
use Rattle.cxx_hierarchy.specs.Classes.{Classes}
use Rattle.cxx_hierarchy.specs.Hierarchies.{IsHierarchy}
use Rattle.cxx_subobject.specs.declared.Subobject.{Subobject}
use Rattle.cxx_subobject.specs.Subobjects.{IsSubobject}
use Rattle.cxx_subobject.specs.Preorder.{ListsSubobjects}
use Rattle.cxx_lookup.specs.declared.Found.{Found}
use Rattle.cxx_lookup.specs.Lookup.{place_of_found, IsDeclared}
use Rattle.cxx_lookup.specs.invariants.Searches.{IsDeclaredAt, AreDeclarations}
use Rattle.cxx_lookup.proofs.Listing.{at_place, before_or_here}
use Rattle.cxx_lookup.proofs.Named.{one_declaration}

-- the list has the declarations in the first i parts, and nothing else
pub record AreGathered (h : Classes) (c : ClassId) (name : List ℕ) (parts : List Subobject) (i : ℕ) (list : List Found) : Type 0 where
  pub declared : (found : Found) → Contains list found → IsDeclared h c name found
  pub listed : (k : ℕ) (s : Subobject) (found : Found) → k < i → slice_get parts k ≡ Some s → IsDeclaredAt h s name found → Contains list found

pub none_yet : (h : Classes) (c : ClassId) (name : List ℕ) (parts : List Subobject) (list : List Found) → list ≡ [] → AreGathered h c name parts 0 list
none_yet h c name parts list empty = subst (λ (xs : List Found). AreGathered h c name parts 0 xs) (sym empty) (record {
  declared = λ found (k, within, e). absurd (omega arith);
  listed = λ k s found lt at here. absurd (omega arith);
})

pub none_more : (h : Classes) (c : ClassId) (name : List ℕ) (parts : List Subobject) (i : ℕ) (list : List Found) (s : Subobject) → i < length parts → s ≡ get_or parts i s →
    ((found : Found) → IsDeclaredAt h s name found → ⊥) → AreGathered h c name parts i list → AreGathered h c name parts (i + 1) list
none_more h c name parts i list s within is none far =
    let at : slice_get parts i ≡ Some s = slice_get_read parts (length parts) i s refl within is in
    record {
      declared = far.declared;
      listed = λ k t found lt there here. ⊎_elim
          (λ l. far.listed k t found l there here)
          (λ same. absurd (none found (subst (λ (z : Subobject). IsDeclaredAt h z name found) same here)))
          (before_or_here parts i k s t lt at there);
    }

pub one_more : (h : Classes) → IsHierarchy h → (c : ClassId) (name : List ℕ) (parts : List Subobject) (i : ℕ) (list : List Found) (s : Subobject) (found : Found) → i < length parts → s ≡ get_or parts i s →
    IsSubobject h c s → IsDeclaredAt h s name found → AreGathered h c name parts i list → AreGathered h c name parts (i + 1) (list ++ found ∷ [])
one_more h keeps c name parts i list s found within is valid here far =
    let at : slice_get parts i ≡ Some s = slice_get_read parts (length parts) i s refl within is in
    let declared : IsDeclared h c name found = record { valid = subst (IsSubobject h c) (sym here.place) valid; named = here.named } in
    record {
      declared = λ other has. ⊎_elim (λ before. far.declared other before) (λ same. subst (IsDeclared h c name) same declared) (Contains-push_cases list found other has);
      listed = λ k t other lt there at_other. ⊎_elim
          (λ l. Contains-append_left list (found ∷ []) other (far.listed k t other l there at_other))
          (λ same. subst (Contains (list ++ found ∷ [])) (one_declaration h keeps s name found other here (subst (λ (z : Subobject). IsDeclaredAt h z name other) same at_other)) (Contains-push list found))
          (before_or_here parts i k s t lt at there);
    }

pub all_gathered : (h : Classes) (c : ClassId) (name : List ℕ) (parts : List Subobject) (i : ℕ) (list : List Found) → ListsSubobjects h c parts → length parts ≤ i → AreGathered h c name parts i list → AreDeclarations h c name list
all_gathered h c name parts i list lists all far = record {
  declared = far.declared;
  listed = λ found d.
      let has = lists.listed (place_of_found found) d.valid in
      let at = at_place parts (place_of_found found) has in
      let within = slice_get_within parts has.0 (place_of_found found) at in
      far.listed has.0 (place_of_found found) found (omega arith) at (record { place = refl; named = d.named });
}
