-- In a hierarchy that no condition refuses the returns of overriding functions fit.
use Rattle.std.proofs.Common.{◌≡◌, inl, inr, ⊎_elim, Option, Some, None, refl, subst}
use Rattle.cxx_hierarchy.specs.declared.records.ClassId.{ClassId}
use Rattle.cxx_hierarchy.specs.declared.records.Function.{Function}
use Rattle.cxx_hierarchy.specs.declared.records.ValueType.TheVariants.{Number, Pointer}
use Rattle.cxx_hierarchy.specs.declared.records.ReturnType.{ReturnType}
use Rattle.cxx_hierarchy.specs.declared.records.ReturnType.TheVariants.{Void, Value}
use Rattle.cxx_hierarchy.specs.Classes.{Classes}
use Rattle.cxx_hierarchy.specs.Hierarchies.{IsHierarchy}
use Rattle.cxx_overrider.specs.declared.FunctionId.{FunctionId}
use Rattle.cxx_overrider.specs.Functions.{declaration_of, return_at, return_of}
use Rattle.cxx_overrider.specs.Overriding.{HasPart}
use Rattle.cxx_overrider.specs.Covariance.{Overrides, IsCovariant, PointsToDerived, FitsReturn, HasOverridden, IsMismatch, IsIncompleteReturn, IsAmbiguousReturn, HasMismatch, HasIncompleteReturn, HasAmbiguousReturn}
use Rattle.cxx_overrider.specs.Faults.{spot, function_part, HasNoFault, mismatch, incomplete, ambiguous}
use Rattle.std.proofs.lemmas.Bool.{cases_lt}
use Rattle.foundation.proofs.Deciding.{Decided}
use Rattle.cxx_subobject.proofs.DecidingLemmas.{decide_class, decide_subobject}
use Rattle.cxx_overrider.proofs.Deciding.{decide_return, decide_part}

declared_at : (o : Option (Function ClassId)) (t : ReturnType ClassId) → return_at o ≡ Some t → (f : Function ClassId) × (o ≡ Some f)
declared_at None t e = cc
declared_at (Some f) t e = (f, refl)

-- two classes of which the returns are covariant, or none
pub record HasCovariant (h : Classes) (t u : ReturnType ClassId) : Type 0 where
  pub x : ClassId
  pub y : ClassId
  pub covariant : IsCovariant h t u x y

pub decide_covariant : (h : Classes) → IsHierarchy h → (t u : ReturnType ClassId) → Decided (HasCovariant h t u)
decide_covariant h keeps Void u = inr (λ k. let e = k.covariant.derived in cc)
decide_covariant h keeps (Value (Number s)) u = inr (λ k. let e = k.covariant.derived in cc)
decide_covariant h keeps (Value (Pointer x)) Void = inr (λ k. let e = k.covariant.base in cc)
decide_covariant h keeps (Value (Pointer x)) (Value (Number s)) = inr (λ k. let e = k.covariant.base in cc)
decide_covariant h keeps (Value (Pointer x)) (Value (Pointer y)) = ⊎_elim
    (λ same. inr (λ k. let a = k.covariant.derived in let b = k.covariant.base in let f : k.x ≡ k.y = cc in k.covariant.differ f))
    (λ apart. ⊎_elim
    (λ part. inl (record { x = x; y = y; covariant = record { derived = refl; base = refl; differ = apart; is_base = part } }))
    (λ none. inr (λ k.
    let a = k.covariant.derived in
    let b = k.covariant.base in
    let one : k.x ≡ x = cc in
    let other : k.y ≡ y = cc in
    none (subst (λ (z : ClassId). HasPart h x z) other (subst (λ (z : ClassId). HasPart h z k.y) one k.covariant.is_base))))
    (decide_part h keeps x y))
    (decide_class x y)

module _ (h : Classes) (keeps : IsHierarchy h) (fine : HasNoFault h) (f g : FunctionId) (k : Overrides h f g) (t u : ReturnType ClassId) (returns : return_of h f ≡ Some t) (returned : return_of h g ≡ Some u) where
  declared : (function : Function ClassId) × (declaration_of h f ≡ Some function)
  declared = declared_at (declaration_of h f) t returns

  refusing : (P : ReturnType ClassId → ReturnType ClassId → Type 0) → P t u → HasOverridden h f P
  refusing P is = record { overridden = g; overrides = k; t = t; u = u; returns = returns; returned = returned; is = is }

  no_mismatch : HasMismatch h f → ⊥
  no_mismatch m = fine.none (spot f.class function_part f.index 0) _ (mismatch f.class f.index declared.0 declared.1 m)

  no_incomplete : HasIncompleteReturn h f → ⊥
  no_incomplete m = fine.none (spot f.class function_part f.index 1) _ (incomplete f.class f.index declared.0 declared.1 m)

  no_ambiguous : HasAmbiguousReturn h f → ⊥
  no_ambiguous m = fine.none (spot f.class function_part f.index 2) _ (ambiguous f.class f.index declared.0 declared.1 m)

  points : HasCovariant h t u → PointsToDerived h f.class t u
  points m =
      let part = m.covariant.is_base in
      record {
        x = m.x;
        y = m.y;
        covariant = m.covariant;
        complete = ⊎_elim (λ late. absurd (no_incomplete (refusing (IsIncompleteReturn h f.class) (record { x = m.x; y = m.y; covariant = m.covariant; late = late })))) (λ early. early) (cases_lt f.class.0 m.x.0);
        base = part.part;
        only = record {
          valid = part.valid;
          class = part.class;
          only = λ s valid class. ⊎_elim (λ e. e)
              (λ apart. absurd (no_ambiguous (refusing (IsAmbiguousReturn h) (record {
                x = m.x;
                y = m.y;
                covariant = m.covariant;
                ambiguous = record { one = s; other = part.part; one_valid = valid; other_valid = part.valid; one_class = class; other_class = part.class; differ = apart };
              }))))
              (decide_subobject s part.part);
        };
      }

  pub fits : FitsReturn h f.class t u
  fits = ⊎_elim (λ e. inl e)
      (λ differ. inr (⊎_elim points
      (λ unrelated. absurd (no_mismatch (refusing (IsMismatch h) (record { differ = differ; unrelated = λ x y is. unrelated (record { x = x; y = y; covariant = is }) }))))
      (decide_covariant h keeps t u)))
      (decide_return t u)
