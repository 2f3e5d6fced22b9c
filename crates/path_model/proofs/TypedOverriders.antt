-- The function that runs in place of a virtual one has its parameters, is not pure, and has a return that fits.
use Rattle.std.proofs.Common.{◌≡◌, ℕ, Bool, true, false, inl, inr, Option, Some, None, List, length, refl, ap, subst, sym, ◌∙◌}
use Rattle.std.specs.Prelude.{slice_get, find, nat_eq, if◌then◌else◌, ◌≢◌}
use Rattle.std.proofs.lemmas.Bool.{eqb-true, eq-eqb}
use Rattle.foundation.proofs.Truth.{split, not_both}
use Rattle.foundation.proofs.Chosen.{find_passes}
use Rattle.cxx_hierarchy.specs.declared.records.ClassId.{ClassId}
use Rattle.cxx_hierarchy.specs.declared.records.Function.{Function}
use Rattle.cxx_hierarchy.specs.declared.records.ValueType.{ValueType}
use Rattle.cxx_hierarchy.specs.declared.records.ValueType.TheVariants.{Number as NumberType, Pointer as PointerType}
use Rattle.cxx_hierarchy.specs.declared.records.ReturnType.{ReturnType}
use Rattle.cxx_hierarchy.specs.declared.records.ReturnType.TheVariants.{Value as ValueReturn}
use Rattle.cxx_hierarchy.specs.Classes.{Class, Classes, class_at, functions_in}
use Rattle.cxx_hierarchy.specs.Hierarchies.{IsHierarchy}
use Rattle.cxx_subobject.specs.declared.Subobject.{Subobject}
use Rattle.cxx_subobject.specs.Subobjects.{IsSubobject, class_of, whole_of, is_class, is_of_class}
use Rattle.cxx_subobject.specs.Inside.{IsInside}
use Rattle.cxx_subobject.specs.Preorder.{preorder}
use Rattle.cxx_subobject.proofs.PathLemmas.{same_id}
use Rattle.cxx_subobject.proofs.InsideLemmas.{join_class}
use Rattle.cxx_subobject.proofs.TreeLemmas.{preorder_has, has_preorder}
use Rattle.cxx_overrider.specs.declared.FunctionId.{FunctionId}
use Rattle.cxx_overrider.specs.declared.Overrider.{Overrider}
use Rattle.cxx_overrider.specs.Functions.{Signature, named, destructor, declaration_of, signature_at, signature_in, signature_of, is_pure, is_pure_at, return_at}
use Rattle.cxx_overrider.specs.Overriding.{HasPart, IsVirtual}
use Rattle.cxx_overrider.specs.Covariance.{Overrides, FitsReturn, IsOnlyBase}
use Rattle.cxx_overrider.specs.Faults.{HasNoFault}
use Rattle.cxx_overrider.proofs.Numbering.{same_function}
use Rattle.cxx_overrider.proofs.ReturnLaws.{fits}
use Rattle.cxx_search.specs.Searches.{final_in}
use Rattle.cxx_search.proofs.Finding.{finds_some}
use Rattle.cxx_search.proofs.Finals.{found_final}
use Rattle.cxx_search.proofs.Casts.{of_class}
use Rattle.cxx_program.specs.declared.operand.Conversion.TheVariants.{Same as ToSame}
use Rattle.cxx_program.specs.Typed.{Types, Converts, to_same, to_base, parameter_types}
use Rattle.path_model.specs.Effects.{base_conversion, conversion_to_class, result_conversion}

-- signatures and declarations

named_signature : (o : Option Class) (i : ℕ) (d : Function ClassId) → slice_get (functions_in o) i ≡ Some d → signature_in o i ≡ Some (named d.name (parameter_types d))
named_signature None i d e = let f : None ≡ Some d = e in absurd (cc)
named_signature (Some class) i d e = ap (λ x. signature_at x (nat_eq i (length class.functions))) e

pub record IsNamed (o : Option Class) (i : ℕ) (ts : Types) : Type 0 where
  pub declared : Function ClassId
  pub there : slice_get (functions_in o) i ≡ Some declared
  pub types : ts ≡ parameter_types declared

named_by : (class : Class) (i : ℕ) (n : List ℕ) (ts : Types) (o : Option (Function ClassId)) (last : Bool) → slice_get class.functions i ≡ o → signature_at o last ≡ Some (named n ts) → IsNamed (Some class) i ts
named_by class i n ts (Some d) last e s = record { declared = d; there = e; types = let f : Some (named d.name (parameter_types d)) ≡ Some (named n ts) = s in cc }
named_by class i n ts None true e s = let f : Some destructor ≡ Some (named n ts) = s in absurd (cc)
named_by class i n ts None false e s = let f : None ≡ Some (named n ts) = s in absurd (cc)

signature_named : (o : Option Class) (i : ℕ) (n : List ℕ) (ts : Types) → signature_in o i ≡ Some (named n ts) → IsNamed o i ts
signature_named None i n ts s = let f : None ≡ Some (named n ts) = s in absurd (cc)
signature_named (Some class) i n ts s = named_by class i n ts (slice_get class.functions i) (nat_eq i (length class.functions)) refl s

-- conversions of results

same_conversion : (h : Classes) (t : ValueType ClassId) → Converts h t (result_conversion h (Some (ValueReturn t)) (Some (ValueReturn t))) t
same_conversion h (NumberType t) = to_same (NumberType t)
same_conversion h (PointerType c) = split (nat_eq c.0 c.0) (λ b. nat_eq c.0 c.0 ≡ b → Converts h (PointerType c) (if b then ToSame else base_conversion (find (is_of_class c) (preorder h c))) (PointerType c))
    (λ _ _. to_same (PointerType c)) (λ e _. absurd (not_both (eq-eqb c.0 c.0 refl) e)) refl

base_found : (h : Classes) → IsHierarchy h → (x y : ClassId) (s : Subobject) → IsOnlyBase h x y s → nat_eq x.0 y.0 ≡ false → Converts h (PointerType x) (base_conversion (find (is_of_class y) (preorder h x))) (PointerType y)
base_found h keeps x y s only differ =
    let test : is_of_class y s ≡ true = ap (is_class y) only.class ∙ eq-eqb y.0 y.0 refl in
    let found = finds_some (is_of_class y) (preorder h x) s (preorder_has h x keeps s only.valid) test in
    let i = found.0 in
    let passed = find_passes (is_of_class y) (preorder h x) i found.1 in
    let class : class_of i ≡ Some y = of_class y (class_of i) passed.1 in
    let proper : i ≡ whole_of x → ⊥ = λ e. let f : Some x ≡ Some y = sym (ap class_of e) ∙ class in let same : x ≡ y = cc in not_both (eq-eqb x.0 y.0 (ap (λ (c : ClassId). c.0) same)) differ in
    subst (λ (o : Option Subobject). Converts h (PointerType x) (base_conversion o) (PointerType y)) (sym found.1)
    (to_base x y i (record { valid = has_preorder h x i passed.0; class = class; proper = proper }))

derived_conversion : (h : Classes) → IsHierarchy h → (x y : ClassId) (s : Subobject) → IsOnlyBase h x y s → Converts h (PointerType x) (conversion_to_class h x y) (PointerType y)
derived_conversion h keeps x y s only = split (nat_eq x.0 y.0) (λ b. Converts h (PointerType x) (if b then ToSame else base_conversion (find (is_of_class y) (preorder h x))) (PointerType y))
    (λ e. subst (λ (c : ClassId). Converts h (PointerType x) ToSame (PointerType c)) (same_id x y (eqb-true x.0 y.0 e)) (to_same (PointerType x)))
    (λ e. base_found h keeps x y s only e)

-- the return t of the function that runs becomes the return u of the one that was found
pub record ReturnsFor (h : Classes) (t u : ReturnType ClassId) : Type 0 where
  pub result : (v : ValueType ClassId) → t ≡ ValueReturn v → (w : ValueType ClassId) × (u ≡ ValueReturn w) × Converts h v (result_conversion h (Some t) (Some u)) w
  pub back : (w : ValueType ClassId) → u ≡ ValueReturn w → (v : ValueType ClassId) × (t ≡ ValueReturn v)

same_returns : (h : Classes) (t : ReturnType ClassId) → ReturnsFor h t t
same_returns h t = record {
  result = λ v e. (v, e, subst (λ (r : ReturnType ClassId). Converts h v (result_conversion h (Some r) (Some r)) v) (sym e) (same_conversion h v));
  back = λ w e. (w, e);
}

derived_returns : (h : Classes) → IsHierarchy h → (x y : ClassId) (s : Subobject) → IsOnlyBase h x y s → ReturnsFor h (ValueReturn (PointerType x)) (ValueReturn (PointerType y))
derived_returns h keeps x y s only = record {
  result = λ v e. (PointerType y, refl, let same : PointerType x ≡ v = cc in subst (λ (t : ValueType ClassId). Converts h t (conversion_to_class h x y) (PointerType y)) same (derived_conversion h keeps x y s only));
  back = λ w e. (PointerType x, refl);
}

returns_by : (h : Classes) → IsHierarchy h → (c : ClassId) (t u : ReturnType ClassId) → FitsReturn h c t u → ReturnsFor h t u
returns_by h keeps c t u (inl e) = subst (λ (r : ReturnType ClassId). ReturnsFor h t r) e (same_returns h t)
returns_by h keeps c t u (inr p) = subst (λ (r : ReturnType ClassId). ReturnsFor h r u) (sym p.covariant.derived) (subst (λ (r : ReturnType ClassId). ReturnsFor h (ValueReturn (PointerType p.x)) r) (sym p.covariant.base) (derived_returns h keeps p.x p.y p.base p.only))

-- what runs in a call of f, which d declares
pub record RunsFor (h : Classes) (f : FunctionId) (d : Function ClassId) (g : FunctionId) : Type 0 where
  pub declared : Function ClassId
  pub there : declaration_of h g ≡ Some declared
  pub defined : declared.is_pure ≡ false
  pub parameters : parameter_types declared ≡ parameter_types d
  pub returns : ReturnsFor h declared.ret d.ret

-- a function that is not pure runs itself
pub runs_itself : (h : Classes) (f : FunctionId) (d : Function ClassId) → declaration_of h f ≡ Some d → d.is_pure ≡ false → RunsFor h f d f
runs_itself h f d there defined = record { declared = d; there = there; defined = defined; parameters = refl; returns = same_returns h d.ret }

-- the return of a final overrider
overrider_returns : (h : Classes) → IsHierarchy h → HasNoFault h → (f g : FunctionId) (d e : Function ClassId) (s : Signature) → declaration_of h f ≡ Some d → declaration_of h g ≡ Some e → signature_of h f ≡ Some s → signature_of h g ≡ Some s
    → HasPart h g.class f.class → IsVirtual h f → ReturnsFor h e.ret d.ret
overrider_returns h keeps fine f g d e s df dg sf sg base is = split (nat_eq g.class.0 f.class.0) (λ b. nat_eq g.class.0 f.class.0 ≡ b → ReturnsFor h e.ret d.ret)
    (λ same _.
    let one : g ≡ f = same_function h keeps g f s (same_id g.class f.class (eqb-true g.class.0 f.class.0 same)) sg sf in
    let declared : e ≡ d = let k : Some e ≡ Some d = sym dg ∙ (ap (declaration_of h) one ∙ df) in cc in
    subst (λ (x : Function ClassId). ReturnsFor h e.ret x.ret) declared (same_returns h e.ret))
    (λ differ _.
    let proper : f.class ≢ g.class = λ k. not_both (eq-eqb g.class.0 f.class.0 (ap (λ (c : ClassId). c.0) (sym k))) differ in
    let over : Overrides h g f = record { signature = s; of_f = sg; of_g = sf; base = base; proper = proper; is_virtual = is } in
    returns_by h keeps g.class e.ret d.ret (fits h keeps fine g f over e.ret d.ret (ap return_at dg) (ap return_at df)))
    refl

-- the final overrider in a view, where it is not pure
pub record RunsIn (h : Classes) (c : ClassId) (f : FunctionId) (d : Function ClassId) (o : Overrider) : Type 0 where
  pub runs : RunsFor h f d o.function
  pub valid : IsSubobject h c o.at
  pub class : class_of o.at ≡ Some o.function.class

part_of_inside : (h : Classes) (s t : Subobject) (c d : ClassId) → IsInside h s t → class_of s ≡ Some c → class_of t ≡ Some d → HasPart h c d
part_of_inside h s t c d a of_s of_t =
    let same : a.class ≡ c = let f : Some a.class ≡ Some c = sym a.of_class ∙ of_s in cc in
    record { part = a.part; valid = subst (λ (x : ClassId). IsSubobject h x a.part) same a.valid; class = sym (join_class h a.class s a.part a.of_class a.valid) ∙ (ap class_of (sym a.joined) ∙ of_t) }

pub final_runs : (h : Classes) → IsHierarchy h → HasNoFault h → (c : ClassId) (x y : Subobject) (f : FunctionId) (d : Function ClassId) → IsSubobject h c x → class_of y ≡ Some f.class → declaration_of h f ≡ Some d → IsVirtual h f
    → (o : Overrider) → final_in h x y f ≡ Some o → is_pure h o.function ≡ false → RunsIn h c f d o
final_runs h keeps fine c x y f d there class df is o e pure =
    let fin = found_final h keeps c x there y f o e in
    let cand = fin.candidate.candidate in
    let g = o.function in
    let sf = named_signature (class_at h f.class) f.index d df in
    let one : fin.signature ≡ named d.name (parameter_types d) = let k : Some fin.signature ≡ Some (named d.name (parameter_types d)) = sym fin.is ∙ sf in cc in
    let sg : signature_of h g ≡ Some (named d.name (parameter_types d)) = cand.same ∙ ap (λ (s : Signature). Some s) one in
    let n = signature_named (class_at h g.class) g.index d.name (parameter_types d) sg in
    record {
      runs = record {
        declared = n.declared;
        there = n.there;
        defined = sym (ap is_pure_at n.there) ∙ pure;
        parameters = sym n.types;
        returns = overrider_returns h keeps fine f g d n.declared (named d.name (parameter_types d)) df n.there sf sg (part_of_inside h o.at y g.class f.class cand.contains cand.class class) is;
      };
      valid = cand.valid;
      class = cand.class;
    }
