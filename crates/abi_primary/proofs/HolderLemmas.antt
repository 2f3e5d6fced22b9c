-- What the first element that passes a test says of a list, and what that says of a holder.
use Rattle.std.proofs.Common.{◌≡◌, ℕ, zero, suc, ◌<◌, Bool, true, false, cond, Option, Some, None, List, [], ◌∷◌, length, get_or, refl, ap, subst, sym, ◌∙◌, arith}
use Rattle.std.specs.List.{Contains, find}
use Rattle.cxx_hierarchy.specs.declared.records.ClassId.{ClassId}
use Rattle.cxx_hierarchy.specs.Classes.{Classes}
use Rattle.cxx_subobject.specs.declared.Subobject.{Subobject}
use Rattle.cxx_subobject.specs.Subobjects.{subobject}
use Rattle.cxx_subobject.specs.Preorder.{preorder, ListsSubobjects}
use Rattle.abi_primary.specs.declared.Primary.{Primary}
use Rattle.abi_primary.specs.PrimaryBase.{has_primary}
use Rattle.abi_primary.specs.Holder.{holder_of, IsHeld}
use Rattle.abi_primary.proofs.PrimaryLemmas.{found, not_found}
use Rattle.std.specs.Prelude.{position, ◌++◌}
use Rattle.std.proofs.lemmas.List.{append-nil}
use Rattle.foundation.proofs.Places.{contains_later}
use Rattle.foundation.proofs.Truth.{split}

-- x is an element that passes
record Passes {X : Type 0} (p : X → Bool) (xs : List X) (x : X) : Type 0 where
  has : Contains xs x
  passes : p x ≡ true

passes_when_found : {X : Type 0} (p : X → Bool) (xs : List X) (x : X) → find p xs ≡ Some x → Passes p xs x
passes_when_found p [] x e = cc
passes_when_found {X} p (y ∷ xs) x e = split (p y) (λ b. cond b (Some y) (find p xs) ≡ Some x → Passes p (y ∷ xs) x)
    (λ t same. let is : y ≡ x = cc in subst (Passes p (y ∷ xs)) is (record { has = (0, omega arith, refl); passes = t }))
    (λ f rest. let later = passes_when_found p xs x rest in record { has = contains_later y xs x later.has; passes = later.passes }) e

fails_at : {X : Type 0} (p : X → Bool) (xs : List X) → find p xs ≡ None → (k : ℕ) (d : X) → k < length xs → p (get_or xs k d) ≡ false
fails_at p [] e k d lt = absurd (omega arith)
fails_at {X} p (y ∷ xs) e zero d lt = split (p y) (λ b. cond b (Some y) (find p xs) ≡ None → b ≡ false) (λ t some. cc) (λ f rest. refl) e
fails_at {X} p (y ∷ xs) e (suc k) d lt = split (p y) (λ b. cond b (Some y) (find p xs) ≡ None → p (get_or xs k d) ≡ false) (λ t some. cc) (λ f rest. fails_at p xs rest k d (omega arith)) e

fails_when_none : {X : Type 0} (p : X → Bool) (xs : List X) (x : X) → find p xs ≡ None → Contains xs x → p x ≡ false
fails_when_none p xs x e (k, lt, same) = ap p (sym same) ∙ fails_at p xs e k x lt

held_by : (h : Classes) (primaries : List Primary) (c v : ClassId) (holder : Option Subobject) → ListsSubobjects h c (preorder h c) → holder_of h primaries c v ≡ holder → IsHeld h primaries c v holder
held_by h primaries c v None lists e = λ s valid. fails_when_none (has_primary primaries v) (preorder h c) s e (lists.listed s valid)
held_by h primaries c v (Some s) lists e = let it = passes_when_found (has_primary primaries v) (preorder h c) s e in (lists.valid s it.has, it.passes)

-- by its number in the list
pub holder_at : (h : Classes) (primaries : List Primary) (c v : ClassId) (list : List Subobject) (n : ℕ) (s t : Subobject) → list ≡ preorder h c → position (has_primary primaries v) list ≡ Some n → s ≡ get_or list n s → t ≡ subobject s.root (s.path ++ []) → holder_of h primaries c v ≡ Some t
holder_at h primaries c v list n s t same at is copy =
    let here = found (has_primary primaries v) list n s at is in
    let alike : t ≡ s = copy ∙ ap (subobject s.root) (append-nil s.path) in
    subst (λ xs. find (has_primary primaries v) xs ≡ Some t) same (here ∙ ap (λ (x : Subobject). Some x) (sym alike))

pub no_holder : (h : Classes) (primaries : List Primary) (c v : ClassId) (list : List Subobject) → list ≡ preorder h c → position (has_primary primaries v) list ≡ None → holder_of h primaries c v ≡ None
no_holder h primaries c v list same at = subst (λ xs. find (has_primary primaries v) xs ≡ None) same (not_found (has_primary primaries v) list at)

pub held : (h : Classes) (primaries : List Primary) (c v : ClassId) (list : List Subobject) (holder : Option Subobject) → list ≡ preorder h c → ListsSubobjects h c list → holder_of h primaries c v ≡ holder → IsHeld h primaries c v holder
held h primaries c v list holder same lists e = held_by h primaries c v holder (subst (ListsSubobjects h c) same lists) e
