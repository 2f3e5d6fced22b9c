-- The sources of a cast, and the hint that is made of them.
use Rattle.std.proofs.Common.{◌≡◌, ℕ, ◌≤◌, Bool, Option, List, filter, length, take, ap, subst, ◌∙◌, ℤ}
use Rattle.std.specs.Prelude.{Contains}
use Rattle.std.specs.List.{list_any}
use Rattle.foundation.proofs.Members.{has_from_contains}
use Rattle.foundation.proofs.Chosen.{has_filter}
use Rattle.cxx_hierarchy.specs.declared.records.ClassId.{ClassId}
use Rattle.cxx_hierarchy.specs.Classes.{Classes}
use Rattle.cxx_subobject.specs.declared.Subobject.{Subobject}
use Rattle.cxx_subobject.specs.Subobjects.{IsSubobject, whole_of, is_of_class}
use Rattle.cxx_subobject.specs.Preorder.{preorder}
use Rattle.cxx_subobject.proofs.TreeLemmas.{has_preorder}
use Rattle.cxx_search.specs.Searches.{is_public_in, the_only}
use Rattle.path_model.specs.Uses.{is_shared}
use Rattle.abi_sound.specs.Places.{Places}
use Rattle.code_statements.specs.Hints.{sources, plain_place, hint_by, hint_of}

-- how many of the first i items pass a test
pub record IsCounted {X : Type 0} (p : X → Bool) (xs : List X) (i count : ℕ) : Type 0 where
  pub is : count ≡ length (filter p (take i xs))
  pub few : count ≤ i

-- the sources are subobjects of the target's class
pub source_valid : (h : Classes) (from to : ClassId) (list : List Subobject) → list ≡ sources h from to → (s : Subobject) → Contains list s → IsSubobject h to s
source_valid h from to list is s has = has_preorder h to s (has_filter (is_of_class from) (preorder h to) s (has_from_contains (sources h from to) s (subst (λ xs. Contains xs s) is has))).0

-- the hint by what was found of them
pub hint_made : (h : Classes) (l : Places) (from to : ClassId) (list : List Subobject) (public : ℕ) (place : Option ℕ) (shared : Bool) (hint : ℤ) → list ≡ sources h from to
    → public ≡ length (filter (is_public_in h (whole_of to)) list) → place ≡ plain_place (l.place to) (the_only list) → shared ≡ list_any is_shared list → hint ≡ hint_by public place shared → hint ≡ hint_of h l from to
hint_made h l from to list public place shared hint is count where_it any made =
    made
    ∙ (ap (λ (n : ℕ). hint_by n place shared) count
    ∙ (ap (λ (o : Option ℕ). hint_by (length (filter (is_public_in h (whole_of to)) list)) o shared) where_it
    ∙ (ap (hint_by (length (filter (is_public_in h (whole_of to)) list)) (plain_place (l.place to) (the_only list))) any
    ∙ ap (λ xs. hint_by (length (filter (is_public_in h (whole_of to)) xs)) (plain_place (l.place to) (the_only xs)) (list_any is_shared xs)) is)))
