-- The conditions of the class-meaning pass: a spot has one stop.
use Rattle.std.proofs.Common.{◌≡◌, ℕ, zero, suc, ◌<◌, Option, Some, None, refl, sym, ◌∙◌, ap, arith}
use Rattle.std.specs.Prelude.{slice_get}
use Rattle.cxx_hierarchy.specs.declared.records.ClassId.{ClassId}
use Rattle.cxx_hierarchy.specs.declared.records.Function.{Function}
use Rattle.cxx_hierarchy.specs.declared.records.Member.{Member}
use Rattle.cxx_hierarchy.specs.declared.stop.Stop.{Stop}
use Rattle.cxx_hierarchy.specs.declared.stop.Stop.TheVariants.{Refused, Limit}
use Rattle.cxx_hierarchy.specs.declared.stop.Rule.{Rule}
use Rattle.cxx_hierarchy.specs.declared.stop.Rule.TheVariants.{ReturnMismatch, IncompleteClass, AmbiguousCovariant, TwoFinalOverriders, Abstract}
use Rattle.cxx_hierarchy.specs.declared.stop.LimitNo.TheVariants.{L5}
use Rattle.cxx_hierarchy.specs.Classes.{Class, Classes, class_at, members_of, functions_of}
use Rattle.cxx_overrider.specs.Faults.{Spot, size_part, Fault as MeaningFault, too_large, mismatch, incomplete, ambiguous, two_overriders, abstract_member}

abbrev rule_at : ℕ → Rule
rule_at zero = ReturnMismatch
rule_at (suc zero) = IncompleteClass
rule_at (suc (suc n)) = AmbiguousCovariant

abbrev function_stop : ℕ → Option (Function ClassId) → Option Stop
function_stop test None = None
function_stop test (Some f) = Some (Refused (rule_at test) f.at)

abbrev class_stop : Option Class → Option Stop
class_stop None = None
class_stop (Some class) = Some (Refused TwoFinalOverriders class.at)

abbrev member_stop : Option (Member ClassId) → Option Stop
member_stop None = None
member_stop (Some m) = Some (Refused Abstract m.at)

abbrev part_stop : Classes → ClassId → ℕ → ℕ → ℕ → Option Stop
part_stop h c zero item test = Some (Limit L5)
part_stop h c (suc zero) item test = function_stop test (slice_get (functions_of h c) item)
part_stop h c (suc (suc zero)) item test = class_stop (class_at h c)
part_stop h c (suc (suc (suc part))) item test = member_stop (slice_get (members_of h c) item)

-- the stop that a spot can have
abbrev stop_at : Classes → Spot → Option Stop
stop_at h at = part_stop h at.class at.part at.item at.test

stop_is : (h : Classes) (at : Spot) (stop : Stop) → MeaningFault h at stop → stop_at h at ≡ Some stop
stop_is h _ _ (too_large c known many) = refl
stop_is h _ _ (mismatch c i f there has) = ap (function_stop 0) there
stop_is h _ _ (incomplete c i f there has) = ap (function_stop 1) there
stop_is h _ _ (ambiguous c i f there has) = ap (function_stop 2) there
stop_is h _ _ (two_overriders c class there has) = ap class_stop there
stop_is h _ _ (abstract_member c d i m there is has) = ap member_stop there

some_one : (d e : Stop) → ◌≡◌ {A = Option Stop} (Some d) (Some e) → d ≡ e
some_one d e same = cc

pub one_stop : (h : Classes) (a b : Spot) (d e : Stop) → MeaningFault h a d → MeaningFault h b e → a ≡ b → d ≡ e
one_stop h a b d e one other same = some_one d e (sym (stop_is h a d one) ∙ (ap (stop_at h) same ∙ stop_is h b e other))

-- the sizes are asked behind
pub part_below : (h : Classes) (at : Spot) (stop : Stop) → MeaningFault h at stop → at.part < size_part
part_below h _ _ (too_large c known many) = omega arith
part_below h _ _ (mismatch c i f there has) = omega arith
part_below h _ _ (incomplete c i f there has) = omega arith
part_below h _ _ (ambiguous c i f there has) = omega arith
part_below h _ _ (two_overriders c class there has) = omega arith
part_below h _ _ (abstract_member c d i m there is has) = omega arith
