-- The numbers of the pages that are kept.
use Rattle.std.proofs.Common.{◌≡◌, ℕ, zero, suc, Some, List, [], ◌∷◌, map, refl, sym, ◌∙◌, arith, Bool, true, false}
use Rattle.std.specs.Prelude.{nat_eq, nat_lt, is_some, count_by}
use Rattle.std.specs.List.{slice_get, find, list_any}
use Rattle.std.proofs.lemmas.Bool.Decides.{nat_tests}
use Rattle.byte_memory.specs.declared.memory.Region.{Region}
use Rattle.byte_memory.specs.declared.page.Page.{Page}
use Rattle.byte_memory.specs.Pages.{meets, numbered, ArePageNumbers}
use Rattle.byte_memory.proofs.Lists.{counted_one, counted_none, count_by-cons}
use Rattle.byte_memory.proofs.Tables.{AreOrdered}

abbrev pub numbers_of : List Page → List ℕ
numbers_of pages = map (λ page. page.number) pages

numbers_at : (pages : List Page) (k x : ℕ) → slice_get (numbers_of pages) k ≡ Some x → (page : Page) × (slice_get pages k ≡ Some page) × (page.number ≡ x)
numbers_at [] k x e = cc
numbers_at (p ∷ pages) zero x e = let same : p.number ≡ x = cc in (p, refl, same)
numbers_at (p ∷ pages) (suc k) x e = numbers_at pages k x e

any-found : (pages : List Page) (number : ℕ) → list_any (nat_eq number) (numbers_of pages) ≡ is_some (find (numbered number) pages)
any-found [] number = refl
any-found (p ∷ pages) number = by_test (nat_eq p.number number) refl (any-found pages number)
  where
    by_test : (z : Bool) → nat_eq p.number number ≡ z → list_any (nat_eq number) (numbers_of pages) ≡ is_some (find (numbered number) pages) → list_any (nat_eq number) (numbers_of (p ∷ pages)) ≡ is_some (find (numbered number) (p ∷ pages))
    by_test true t rest = let t' : nat_eq number p.number ≡ true = grind (arith, nat_tests) in rw (t, t') refl
    by_test false t rest = let t' : nat_eq number p.number ≡ false = grind (arith, nat_tests) in rw (t, t') rest

any-counted : (p : Region → Bool) (rs : List Region) → list_any p rs ≡ nat_lt 0 (count_by p rs)
any-counted p [] = refl
any-counted p (r ∷ rs) = by_test (p r) refl (any-counted p rs)
  where
    by_test : (z : Bool) → p r ≡ z → list_any p rs ≡ nat_lt 0 (count_by p rs) → list_any p (r ∷ rs) ≡ nat_lt 0 (count_by p (r ∷ rs))
    by_test true t rest =
        let more : nat_lt 0 (count_by p (r ∷ rs)) ≡ true = grind (arith, nat_tests, counted_one p r t, count_by-cons p r rs) in
        rw (more, t) refl
    by_test false t rest =
        let same : count_by p (r ∷ rs) ≡ count_by p rs = omega (arith, counted_none p r t, count_by-cons p r rs) in
        rw (same, t) rest

-- the pages that are kept are those that meet an open region
pub ArePages-kept : (rs : List Region) (pages : List Page) → AreOrdered pages → ((number : ℕ) → is_some (find (numbered number) pages) ≡ nat_lt 0 (count_by (meets number) rs)) → ArePageNumbers rs (numbers_of pages)
ArePages-kept rs pages up kept = record {
  ascending = λ i j x y less first second.
      let p = numbers_at pages i x first in
      let q = numbers_at pages j y second in
      omega (arith, up i j p.0 q.0 less p.1 q.1, p.2, q.2);
  met = λ number. any-found pages number ∙ (kept number ∙ sym (any-counted (meets number) rs));
}
