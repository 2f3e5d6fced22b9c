-- What a clear cast has: its pointer has begun, and a cast to a base has the base.
use Rattle.std.proofs.Common.{◌≡◌, inl, inr, refl, subst, None}
use Rattle.foundation.proofs.Members.{Has}
use Rattle.cxx_hierarchy.specs.declared.records.ClassId.{ClassId}
use Rattle.cxx_hierarchy.specs.Classes.{Classes}
use Rattle.cxx_subobject.specs.declared.Subobject.{Subobject}
use Rattle.cxx_subobject.specs.Subobjects.{IsSubobject}
use Rattle.cxx_program.specs.declared.statement.TypedCast.{TypedCast}
use Rattle.cxx_program.specs.declared.statement.TypedCast.TheVariants.{Same, Up, Down, Dynamic}
use Rattle.cxx_program.specs.Typed.{Casts, cast_same, cast_up, cast_down, cast_dynamic}
use Rattle.path_model.specs.Values.{Value, Objects}
use Rattle.path_model.specs.Uses.{Guards, cast_uses}
use Rattle.path_model.specs.Rules.{refused}
use Rattle.path_values.specs.Conversions.{CanReach}
use Rattle.path_effects.specs.invariants.Begun.{IsBegun}
use Rattle.path_effects.proofs.Conversions.{reaches}
use Rattle.path_effects.proofs.Meaning.{guard_begun}
use Rattle.path_effects.proofs.Targets.{IsTo}

cast_guards : (cast : TypedCast) (v : Value) → Has (cast_uses cast v) (Guards v)
cast_guards Same v = inr (inl refl)
cast_guards (Up i) v = inr (inl refl)
cast_guards (Down target i) v = inr (inl refl)
cast_guards (Dynamic target) v = inr (inl refl)

pub cast_begun : (h : Classes) (s : Objects) (cast : TypedCast) (v : Value) → refused h s (cast_uses cast v) ≡ None → IsBegun s v
cast_begun h s cast v clear = guard_begun h s (cast_uses cast v) clear v (cast_guards cast v)

base_of : (h : Classes) (c d : ClassId) (cast : TypedCast) → Casts h c cast d → (i : Subobject) → cast ≡ Up i → IsSubobject h c i
base_of h _ _ _ (cast_same c) i same = absurd (cc)
base_of h _ _ _ (cast_up c d j b) i same = let e : j ≡ i = cc in subst (λ (x : Subobject). IsSubobject h c x) e b.valid
base_of h _ _ _ (cast_down c d j b root known) i same = absurd (cc)
base_of h _ _ _ (cast_dynamic c d poly known) i same = absurd (cc)

pub cast_reaches : (h : Classes) (s : Objects) (c d : ClassId) (cast : TypedCast) → Casts h c cast d → (i : Subobject) → cast ≡ Up i → (v : Value) → refused h s (cast_uses cast v) ≡ None → IsTo v c → CanReach h s v i
cast_reaches h s c d cast casts i same v clear to = reaches h s (cast_uses cast v) clear v (cast_guards cast v) c i to (base_of h c d cast casts i same)
