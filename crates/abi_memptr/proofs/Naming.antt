-- What stands at the first place of a name is a member or a function of its class.
use Rattle.std.proofs.Common.{◌≡◌, ℕ, ◌<◌, Option, Some, None, List, [], ◌∷◌, refl, ap, sym, ◌∙◌}
use Rattle.std.specs.Prelude.{length, slice_get, position, get_or, Bool}
use Rattle.std.specs.Str.{bytes_eq}
use Rattle.std.proofs.lemmas.Option.{slice_get-get_or}
use Rattle.std.proofs.lemmas.List.Quantifiers.{position-Some}
use Rattle.cxx_hierarchy.specs.declared.records.ClassId.{ClassId}
use Rattle.cxx_hierarchy.specs.declared.records.Member.{Member as MemberRecord}
use Rattle.cxx_hierarchy.specs.declared.records.Function.{Function as FunctionRecord}
use Rattle.cxx_hierarchy.specs.Classes.{Class, Classes, class_at, members_in, functions_in, width_in}
use Rattle.cxx_subobject.specs.Subobjects.{whole, whole_of}
use Rattle.cxx_overrider.specs.Virtuals.{function_at}
use Rattle.abi_memptr.specs.Pointers.{IsDataIn, IsFunctionIn}

-- what stands at the first place that passes a test
there_at : {X : Type 0} (p : X → Bool) (xs : List X) (m : ℕ) → position p xs ≡ Some m → (x : X) × (slice_get xs m ≡ Some x)
there_at p [] m found = absurd (cc)
there_at p (y ∷ ys) m found = (get_or (y ∷ ys) m y, slice_get-get_or (y ∷ ys) m y (position-Some p (y ∷ ys) m y found).0)

pub field_value : (h : Classes) (k : ClassId) (name : List ℕ) (class : Class) (members : List (MemberRecord ClassId)) (m : ℕ) → k.0 < length h → class_at h k ≡ Some class → members ≡ class.members → Some m ≡ position (λ (member : MemberRecord ClassId). bytes_eq member.name name) members → width_in (slice_get members m) ≡ None → IsDataIn h k k m (whole_of k)
field_value h k name class members m known is same found unit =
    let t = there_at (λ (member : MemberRecord ClassId). bytes_eq member.name name) members m (sym found) in
    record {
      known = known;
      member = t.0;
      there = ap (λ (o : Option Class). slice_get (members_in o) m) is ∙ (ap (λ xs. slice_get xs m) (sym same) ∙ t.1);
      unit = sym (ap width_in t.1) ∙ unit;
      valid = whole [] tt;
      class = refl;
    }

pub function_value : (h : Classes) (k : ClassId) (name : List ℕ) (class : Class) (functions : List (FunctionRecord ClassId)) (i : ℕ) → k.0 < length h → class_at h k ≡ Some class → functions ≡ class.functions → Some i ≡ position (λ (function : FunctionRecord ClassId). bytes_eq function.name name) functions → IsFunctionIn h k (function_at k i) (whole_of k)
function_value h k name class functions i known is same found =
    let t = there_at (λ (function : FunctionRecord ClassId). bytes_eq function.name name) functions i (sym found) in
    record {
      known = known;
      function = t.0;
      there = ap (λ (o : Option Class). slice_get (functions_in o) i) is ∙ (ap (λ xs. slice_get xs i) (sym same) ∙ t.1);
      valid = whole [] tt;
      class = refl;
    }
