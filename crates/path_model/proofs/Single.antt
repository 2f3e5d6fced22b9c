-- The rank of one use, by what its test says.
use Rattle.std.proofs.Common.{arith, ◌≡◌, ◌≤◌, Bool, true, false, [], ◌∷◌, refl}
use Rattle.cxx_hierarchy.specs.Classes.{Classes}
use Rattle.foundation.proofs.Truth.{split}
use Rattle.path_plan.specs.Places.{ObjectPart}
use Rattle.std.specs.Prelude.{if◌then◌else◌}
use Rattle.cxx_overrider.specs.declared.FunctionId.{FunctionId}
use Rattle.path_model.specs.Values.{Value, Objects}
use Rattle.path_model.specs.Uses.{Guards, Passes, Views, uses_of_view, Takes, takes}
use Rattle.path_model.specs.Rules.{names, is_unready, is_outside, is_pure_in_view}
use Rattle.path_model.proofs.Ranks.{first_place, rank}

pub none_rank : (h : Classes) (s : Objects) → rank h s [] ≡ 12
unfolding rank first_place
none_rank h s = refl

pub guard_rank : (h : Classes) (s : Objects) (v : Value) (b : Bool) → names (is_unready s) v ≡ b → rank h s (Guards v ∷ []) ≡ (if b then 2 else 12)
unfolding rank first_place
guard_rank h s v true e = rw e refl
guard_rank h s v false e = rw e refl

pub pass_rank : (h : Classes) (s : Objects) (p : ObjectPart) (b : Bool) → is_unready s p ≡ b → rank h s (Passes p ∷ []) ≡ (if b then 2 else 12)
unfolding rank first_place
pass_rank h s p true e = rw e refl
pass_rank h s p false e = rw e refl

pub view_rank : (h : Classes) (s : Objects) (v : Value) (b : Bool) → names (is_outside h s) v ≡ b → rank h s (Views v ∷ []) ≡ (if b then 3 else 12)
unfolding rank first_place
view_rank h s v true e = rw e refl
view_rank h s v false e = rw e refl

pub take_rank : (h : Classes) (s : Objects) (v : Value) (f : FunctionId) (b : Bool) → names (is_pure_in_view h s f) v ≡ b → rank h s (Takes v f ∷ []) ≡ (if b then 5 else 12)
unfolding rank first_place
take_rank h s v f true e = rw e refl
take_rank h s v f false e = rw e refl

pub guard_late : (h : Classes) (s : Objects) (v : Value) → 2 ≤ rank h s (Guards v ∷ [])
guard_late h s v = split (names (is_unready s) v) (λ b. 2 ≤ rank h s (Guards v ∷ [])) (λ e. let r = guard_rank h s v true e in omega (arith, r)) (λ e. let r = guard_rank h s v false e in omega (arith, r))

pub pass_late : (h : Classes) (s : Objects) (p : ObjectPart) → 2 ≤ rank h s (Passes p ∷ [])
pass_late h s p = split (is_unready s p) (λ b. 2 ≤ rank h s (Passes p ∷ [])) (λ e. let r = pass_rank h s p true e in omega (arith, r)) (λ e. let r = pass_rank h s p false e in omega (arith, r))

pub view_late : (h : Classes) (s : Objects) (b : Bool) (v : Value) → 3 ≤ rank h s (uses_of_view b v)
view_late h s true v = split (names (is_outside h s) v) (λ b. 3 ≤ rank h s (Views v ∷ [])) (λ e. let r = view_rank h s v true e in omega (arith, r)) (λ e. let r = view_rank h s v false e in omega (arith, r))
view_late h s false v = let r = none_rank h s in omega (arith, r)

pub take_late : (h : Classes) (s : Objects) (needed : Bool) (v : Value) (f : FunctionId) → 5 ≤ rank h s (takes needed v f)
take_late h s true v f = split (names (is_pure_in_view h s f) v) (λ x. 5 ≤ rank h s (Takes v f ∷ []))
    (λ e. let r = take_rank h s v f true e in omega (arith, r))
    (λ e. let r = take_rank h s v f false e in omega (arith, r))
take_late h s false v f = let n = none_rank h s in omega (arith, n)

-- where the view is no matter
pub views_none : (h : Classes) (s : Objects) (b : Bool) (v : Value) → names (is_outside h s) v ≡ false → rank h s (uses_of_view b v) ≡ 12
views_none h s true v e = view_rank h s v false e
views_none h s false v e = none_rank h s
