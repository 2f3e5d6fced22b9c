-- The hint of a lowered cast is true: where it is a place, a public base that lies in no virtual base lies there.
use Rattle.std.proofs.Common.{◌≡◌, ℕ, ℤ, pos, negsuc, Bool, false, Option, Some, None, List, [], ◌∷◌, length, filter, refl, subst, sym, inl}
use Rattle.std.specs.Prelude.{nat_eq, nat_le, not, ◌&&◌, if◌then◌else◌}
use Rattle.std.specs.List.{list_any}
use Rattle.foundation.proofs.Truth.{split}
use Rattle.foundation.proofs.Members.{Has}
use Rattle.foundation.proofs.Chosen.{has_filter}
use Rattle.cxx_hierarchy.specs.declared.records.ClassId.{ClassId}
use Rattle.cxx_hierarchy.specs.Classes.{Classes}
use Rattle.cxx_subobject.specs.declared.Root.{Root}
use Rattle.cxx_subobject.specs.declared.Root.TheVariants.{Whole, Shared}
use Rattle.cxx_subobject.specs.declared.Subobject.{Subobject}
use Rattle.cxx_subobject.specs.Subobjects.{class_of, whole_of, is_shared_root, is_of_class}
use Rattle.cxx_subobject.specs.Preorder.{preorder}
use Rattle.cxx_subobject.proofs.TreeLemmas.{has_preorder}
use Rattle.cxx_search.specs.Searches.{is_public_in, the_only}
use Rattle.cxx_search.proofs.Casts.{of_class}
use Rattle.cxx_search.proofs.Walks.{public_walk}
use Rattle.path_model.specs.Uses.{is_shared}
use Rattle.abi_sound.specs.Places.{Places}
use Rattle.abi_dyncast.specs.declared.parts.TypedPart.{TypedPart}
use Rattle.abi_dyncast.specs.Graph.{Graph}
use Rattle.abi_dyncast.specs.Casts.{IsTrueHint}
use Rattle.code_statements.specs.Hints.{sources, plain_place, not_public, several, no_hint, hint_by, hint_of}
use Rattle.agree_dispatch.specs.CastStanding.{IsPlainBase}

-- a base at the place of a hint
record IsHintedBase (h : Classes) (l : Places) (from to : ClassId) (n : ℕ) : Type 0 where
  base : Subobject
  plain : IsPlainBase h to from base
  place : l.place to base ≡ n

whole_root : (root : Root) → is_shared_root root ≡ false → root ≡ Whole
whole_root Whole is = refl
whole_root (Shared v) is = cc

-- without a place the hint is none
no_place : (public : ℕ) (shared : Bool) (n : ℕ) → hint_by public None shared ≡ pos n → ⊥
no_place public shared n = split (nat_eq public 0) (λ t. (if t then not_public else (if nat_le 2 public && not shared then several else no_hint)) ≡ pos n → ⊥)
    (λ _ e. cc)
    (λ _. split (nat_le 2 public && not shared) (λ t. (if t then several else no_hint) ≡ pos n → ⊥) (λ _ e. cc) (λ _ e. cc))

-- nor without a public base
no_public : (place : Option ℕ) (shared : Bool) (n : ℕ) → hint_by 0 place shared ≡ pos n → ⊥
no_public place shared n e = cc

-- the only source, where it is a public base and lies in no virtual base
only_base : (h : Classes) (l : Places) (from to : ClassId) (n : ℕ) (s : Subobject) (shared : Bool) → Has (sources h from to) s
    → hint_by (length (filter (is_public_in h (whole_of to)) (s ∷ []))) (plain_place (l.place to) (Some s)) shared ≡ pos n → IsHintedBase h l from to n
only_base h l from to n s shared has =
    split (is_public_in h (whole_of to) s) (λ t. is_public_in h (whole_of to) s ≡ t → hint_by (length (if t then s ∷ [] else [])) (plain_place (l.place to) (Some s)) shared ≡ pos n → IsHintedBase h l from to n)
    (λ _ public.
    split (is_shared s) (λ t. is_shared s ≡ t → hint_by 1 (if t then None else Some (l.place to s)) shared ≡ pos n → IsHintedBase h l from to n)
    (λ _ _ e. absurd (no_place 1 shared n e))
    (λ _ plain e.
    let there = has_filter (is_of_class from) (preorder h to) s has in
    record {
      base = s;
      plain = record { valid = has_preorder h to s there.0; class = of_class from (class_of s) there.1; plain = whole_root s.root plain; walk = public_walk h (whole_of to) s public };
      place = let same : pos (l.place to s) ≡ pos n = e in cc;
    }) refl)
    (λ _ _ e. absurd (no_public (plain_place (l.place to) (Some s)) shared n e)) refl

hinted_base : (h : Classes) (l : Places) (from to : ClassId) (n : ℕ) (list : List Subobject) → sources h from to ≡ list
    → hint_by (length (filter (is_public_in h (whole_of to)) list)) (plain_place (l.place to) (the_only list)) (list_any is_shared list) ≡ pos n → IsHintedBase h l from to n
hinted_base h l from to n [] is e = absurd (no_place 0 false n e)
hinted_base h l from to n (s ∷ []) is e = only_base h l from to n s (list_any is_shared (s ∷ [])) (subst (λ list. Has list s) (sym is) (inl refl)) e
hinted_base h l from to n (s ∷ t ∷ rest) is e = absurd (no_place (length (filter (is_public_in h (whole_of to)) (s ∷ t ∷ rest))) (list_any is_shared (s ∷ t ∷ rest)) n e)

-- so the hint is true where the place of each such base is
pub hint_is_true : (g : Graph) (view : TypedPart) (h : Classes) (l : Places) (from to : ClassId)
    → ((b : Subobject) → IsPlainBase h to from b → IsTrueHint g view from.0 to.0 (pos (l.place to b))) → IsTrueHint g view from.0 to.0 (hint_of h l from to)
hint_is_true g view h l from to each = by_hint (hint_of h l from to) refl
  where
    by_hint : (z : ℤ) → hint_of h l from to ≡ z → IsTrueHint g view from.0 to.0 z
    by_hint (pos n) e =
        let found = hinted_base h l from to n (sources h from to) refl e in
        subst (λ m. IsTrueHint g view from.0 to.0 (pos m)) found.place (each found.base found.plain)
    by_hint (negsuc n) e = tt
