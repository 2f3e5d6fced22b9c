-- The declaration that no other one hides, by one walk over a list.
use Rattle.std.proofs.Common.{◌≡◌, ℕ, ◌+◌, ◌<◌, ⊎_elim, Bool, true, false, List, length, sym, ap, subst, ◌∙◌, refl, arith}
use Rattle.std.specs.Prelude.{Option, Some, None, MatchOption, slice_get, get_or, is_some}
use Rattle.std.proofs.lemmas.Option.{slice_get_within, slice_get_read, get_or_from_slice_get}
use Rattle.foundation.proofs.Places.{contains_at}
use Rattle.cxx_hierarchy.specs.declared.records.ClassId.{ClassId}
use Rattle.cxx_hierarchy.specs.Classes.{Classes}
use Rattle.cxx_hierarchy.specs.Hierarchies.{IsHierarchy}
use Rattle.cxx_subobject.specs.declared.Subobject.{Subobject}
use Rattle.cxx_subobject.specs.Subobjects.{IsSubobject}
use Rattle.cxx_subobject.specs.Inside.{IsInside}
use Rattle.cxx_lookup.specs.declared.Found.{Found}
use Rattle.cxx_lookup.specs.Lookup.{place_of_found, IsDeclared, Remains, IsFound, TwoRemain}
use Rattle.cxx_lookup.specs.invariants.Searches.{AreDeclarations, IsPlaceIn, found_at, IsHidden, GoesOver, AreHidden, IsHighest}
use Rattle.cxx_lookup.proofs.Listing.{at_place, before_or_here}
use Rattle.cxx_lookup.proofs.Named.{one_declaration}

-- containment is an order
pub record IsOrder (h : Classes) : Type 0 where
  pub itself : (c : ClassId) (s : Subobject) → IsSubobject h c s → IsInside h s s
  pub through : (s t u : Subobject) → IsInside h s t → IsInside h t u → IsInside h s u
  pub back : (s t : Subobject) → IsInside h s t → IsInside h t s → s ≡ t

-- what the walk tells of the first n
abbrev pub Tells : Classes → Option Found → List Found → ℕ → Option ℕ → Type 0
Tells h hider list n best = MatchOption best (AreHidden h hider list n) (IsHighest h hider list n)

-- the best one so far, if there is one
pub record IsBest (h : Classes) (hider : Option Found) (list : List Found) (n : ℕ) (best : Option ℕ) : Type 0 where
  pub place : IsPlaceIn list best
  pub tells : Tells h hider list n best

pub none_yet : (h : Classes) (hider : Option Found) (list : List Found) → IsBest h hider list 0 None
none_yet h hider list = record { place = tt; tells = record { each = λ k found lt at. absurd (omega arith) } }

-- the best one stays so where the next one that is free and goes over it stands at its place
still_highest : (h : Classes) (hider : Option Found) (list : List Found) (i : ℕ) (x : Found) (b : ℕ) → slice_get list i ≡ Some x → (best : IsHighest h hider list i b) →
    ((IsHidden h hider x → ⊥) → IsInside h (place_of_found x) (place_of_found best.found) → place_of_found x ≡ place_of_found best.found) → IsHighest h hider list (i + 1) b
still_highest h hider list i x b at best next = record {
  found = best.found;
  there = best.there;
  outside = best.outside;
  top = λ j other lt there. ⊎_elim
      (λ l. best.top j other l there)
      (λ same. subst (λ (f : Found). (IsHidden h hider f → ⊥) → IsInside h (place_of_found f) (place_of_found best.found) → place_of_found f ≡ place_of_found best.found) (sym same) next)
      (before_or_here list i j x other lt at there);
}

pub skipped : (h : Classes) (hider : Option Found) (list : List Found) (i : ℕ) (x : Found) (best : Option ℕ) → i < length list → x ≡ get_or list i x → IsHidden h hider x → IsBest h hider list i best → IsBest h hider list (i + 1) best
skipped h hider list i x None within is hidden far =
    let at : slice_get list i ≡ Some x = slice_get_read list (length list) i x refl within is in
    record {
      place = tt;
      tells = record { each = λ k found lt there. ⊎_elim (λ l. far.tells.each k found l there) (λ same. subst (IsHidden h hider) (sym same) hidden) (before_or_here list i k x found lt at there) };
    }
skipped h hider list i x (Some b) within is hidden far = record {
  place = far.place;
  tells = still_highest h hider list i x b (slice_get_read list (length list) i x refl within is) far.tells (λ free inside. absurd (free hidden));
}

pub taken : (h : Classes) → IsOrder h → (hider : Option Found) (list : List Found) (i : ℕ) (x : Found) (best : Option ℕ) → i < length list → x ≡ get_or list i x → (IsHidden h hider x → ⊥) → GoesOver h x (found_at list best) →
    IsBest h hider list i best → IsBest h hider list (i + 1) (Some i)
taken h order hider list i x None within is free over far =
    let at : slice_get list i ≡ Some x = slice_get_read list (length list) i x refl within is in
    record {
      place = within;
      tells = record {
        found = x;
        there = at;
        outside = free;
        top = λ j other lt there out inside. ⊎_elim (λ l. absurd (out (far.tells.each j other l there))) (λ same. ap place_of_found same) (before_or_here list i j x other lt at there);
      };
    }
taken h order hider list i x (Some b) within is free over far =
    let at : slice_get list i ≡ Some x = slice_get_read list (length list) i x refl within is in
    let best : IsHighest h hider list i b = far.tells in
    let above : IsInside h (place_of_found x) (place_of_found best.found) = subst (GoesOver h x) best.there over in
    record {
      place = within;
      tells = record {
        found = x;
        there = at;
        outside = free;
        top = λ j other lt there out inside. ⊎_elim
            (λ l. let same : place_of_found other ≡ place_of_found best.found = best.top j other l there out (order.through (place_of_found other) (place_of_found x) (place_of_found best.found) inside above) in
            let back : IsInside h (place_of_found best.found) (place_of_found x) = subst (λ (s : Subobject). IsInside h s (place_of_found x)) same inside in
            same ∙ order.back (place_of_found best.found) (place_of_found x) back above)
            (λ same. ap place_of_found same)
            (before_or_here list i j x other lt at there);
      };
    }

pub kept : (h : Classes) (hider : Option Found) (list : List Found) (i : ℕ) (x : Found) (best : Option ℕ) → i < length list → x ≡ get_or list i x → (GoesOver h x (found_at list best) → ⊥) → IsBest h hider list i best → IsBest h hider list (i + 1) best
kept h hider list i x None within is below far = absurd (below tt)
kept h hider list i x (Some b) within is below far =
    let best : IsHighest h hider list i b = far.tells in
    record {
      place = far.place;
      tells = still_highest h hider list i x b (slice_get_read list (length list) i x refl within is) best (λ free inside. absurd (below (subst (GoesOver h x) (sym best.there) inside)));
    }

-- one that nothing hides but what is hidden by a hider remains, where the hider hides none that hide it
remains : (h : Classes) → IsHierarchy h → (c : ClassId) (name : List ℕ) (list : List Found) (hider : Option Found) (k : ℕ) → AreDeclarations h c name list → (a : IsHighest h hider list (length list) k) →
    ((t : Found) → IsInside h (place_of_found t) (place_of_found a.found) → IsHidden h hider t → ⊥) → Remains h c name a.found
remains h keeps c name list hider k are a free =
    let here : IsDeclared h c name a.found = are.declared a.found (contains_at list k a.found a.there) in
    record {
      declared = here;
      unhidden = λ t d inside.
          let has = are.listed t d in
          let at = at_place list t has in
          let same : place_of_found t ≡ place_of_found a.found = a.top has.0 t (slice_get_within list has.0 t at) at (free t inside) inside in
          one_declaration h keeps (place_of_found a.found) name t a.found (record { place = same; named = d.named }) (record { place = refl; named = here.named });
    }

pub one_found : (h : Classes) → IsHierarchy h → (c : ClassId) (name : List ℕ) (list : List Found) (k : ℕ) → AreDeclarations h c name list → (a : IsHighest h None list (length list) k) → AreHidden h (Some a.found) list (length list) → IsFound h c name a.found
one_found h keeps c name list k are a hidden =
    let first = remains h keeps c name list None k are a (λ t inside x. x) in
    record {
      remains = first;
      only = λ t r.
          let has = are.listed t r.declared in
          let at = at_place list t has in
          sym (r.unhidden a.found first.declared (hidden.each has.0 t (slice_get_within list has.0 t at) at));
    }

pub two_found : (h : Classes) → IsHierarchy h → IsOrder h → (c : ClassId) (name : List ℕ) (list : List Found) (k m : ℕ) → AreDeclarations h c name list → (a : IsHighest h None list (length list) k) → IsHighest h (Some a.found) list (length list) m → TwoRemain h c name
two_found h keeps order c name list k m are a b =
    let first = remains h keeps c name list None k are a (λ t inside x. x) in
    record {
      one = a.found;
      other = b.found;
      one_remains = first;
      other_remains = remains h keeps c name list (Some a.found) m are b (λ t inside hidden. b.outside (order.through (place_of_found a.found) (place_of_found t) (place_of_found b.found) hidden inside));
      differ = λ e. b.outside (subst (λ (f : Found). IsInside h (place_of_found a.found) (place_of_found f)) e (order.itself c (place_of_found a.found) first.declared.valid));
    }

-- what the two walks tell together
pub found_once : (h : Classes) → IsHierarchy h → (c : ClassId) (name : List ℕ) (list : List Found) (k : ℕ) (x : Found) (o : Option ℕ) (test : Bool) → AreDeclarations h c name list → IsHighest h None list (length list) k → x ≡ get_or list k x →
    Tells h (slice_get list k) list (length list) o → test ≡ is_some o → test ≡ false → IsFound h c name x
found_once h keeps c name list k x None test are a is told e t =
    subst (IsFound h c name) (sym (is ∙ get_or_from_slice_get list k a.found x a.there))
    (one_found h keeps c name list k are a (subst (λ (hider : Option Found). AreHidden h hider list (length list)) a.there told))
found_once h keeps c name list k x (Some m) test are a is told e t = absurd (cc)

pub found_twice : (h : Classes) → IsHierarchy h → IsOrder h → (c : ClassId) (name : List ℕ) (list : List Found) (k : ℕ) (o : Option ℕ) (test : Bool) → AreDeclarations h c name list → IsHighest h None list (length list) k →
    Tells h (slice_get list k) list (length list) o → test ≡ is_some o → test ≡ true → TwoRemain h c name
found_twice h keeps order c name list k None test are a told e t = absurd (cc)
found_twice h keeps order c name list k (Some m) test are a told e t =
    two_found h keeps order c name list k m are a (subst (λ (hider : Option Found). IsHighest h hider list (length list) m) a.there told)
