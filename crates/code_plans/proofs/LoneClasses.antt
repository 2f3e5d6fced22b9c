-- Classes of which no base has a virtual pointer of its own.
use Rattle.std.proofs.Common.{◌≡◌, ℕ, zero, suc, ◌+◌, ◌<◌, inr, ⊎_elim, Bool, true, false, Some, List, [], ◌∷◌, ◌++◌, length, get_or, map, refl, ap, subst, sym, ◌∙◌, arith}
use Rattle.std.specs.Prelude.{slice_get, filter, not, ◌&&◌, ◌||◌, if◌then◌else◌}
use Rattle.std.specs.List.{Contains, flat_map, list_all}
use Rattle.std.proofs.lemmas.List.{append-nil}
use Rattle.std.proofs.lemmas.List.Elements.{filter-append}
use Rattle.foundation.proofs.Places.{get_pushed}
use Rattle.foundation.proofs.Members.{Has, has_from_contains}
use Rattle.foundation.proofs.Chosen.{has_filter, filter_none}
use Rattle.cxx_hierarchy.specs.declared.records.ClassId.{ClassId}
use Rattle.cxx_hierarchy.specs.declared.records.Base.{Base}
use Rattle.cxx_hierarchy.specs.Classes.{Classes, bases_of}
use Rattle.cxx_hierarchy.specs.Hierarchies.{IsHierarchy}
use Rattle.cxx_hierarchy.specs.VirtualBases.{IsDirectBase, HasVirtualBase, direct, further}
use Rattle.cxx_subobject.specs.declared.Root.TheVariants.{Whole}
use Rattle.cxx_subobject.specs.declared.Subobject.{Subobject}
use Rattle.cxx_subobject.specs.Subobjects.{IsSubobject, Leads, whole, shared, whole_of, subobject, last_of, base_subobject, same_subobject}
use Rattle.cxx_subobject.specs.Preorder.{tree, firsts, preorder}
use Rattle.cxx_subobject.proofs.PathLemmas.{base_before}
use Rattle.cxx_subobject.proofs.TreeLemmas.{has_preorder, same_itself}
use Rattle.path_plan.specs.declared.form.Form.{Form}
use Rattle.byte_code.specs.declared.op.Setting.{Setting}
use Rattle.abi_primary.specs.declared.Primary.{Primary}
use Rattle.abi_primary.specs.Kinds.{TellDynamic}
use Rattle.abi_primary.proofs.KindLemmas.{base_dynamic}
use Rattle.abi_sound.specs.Places.{Places}
use Rattle.abi_primary.specs.PrimaryBase.{is_direct_primary}
use Rattle.abi_slots.specs.Views.{is_dynamic}
use Rattle.abi_slots.proofs.Dynamics.{dynamic_whole}
use Rattle.abi_slots.proofs.Heads.{dynamic_test, test_dynamic}
use Rattle.abi_vtt.specs.Vtts.{ends_in_primary}
use Rattle.code_ops.specs.Setups.{Setup, places}
use Rattle.code_blocks.specs.Blocks.{is_set_apart, setting_by}
use Rattle.code_plans.specs.ClassTables.{IsLone, TellLone}
use Rattle.code_plans.specs.Settings.{settings_of}
use Rattle.code_plans.specs.declared.walks.Walk.{Walk}
use Rattle.code_plans.specs.invariants.Joins.{joins}
use Rattle.code_plans.specs.invariants.Walks.{IsAtPart, IsPast}

-- what the flags of the direct bases of a class say

record AllJoin (h : Classes) (l : Places) (c : ClassId) : Type 0 where
  each : (b : ClassId) (way : Bool) → IsDirectBase h c way b → (way ≡ false) × (is_dynamic h b ≡ true → (is_direct_primary (l.primary c) b ≡ true) × IsLone h l b)

none_virtual : (h : Classes) (l : Places) → IsHierarchy h → (c v : ClassId) → HasVirtualBase h c v → AllJoin h l c → ⊥
none_virtual h l keeps _ _ (direct c v edge) all = let way : true ≡ false = (all.each v true edge).0 in cc
none_virtual h l keeps _ _ (further c b v way edge has) all = ((all.each b way edge).1 (dynamic_test h keeps b (base_dynamic h b v has))).1.none_virtual v has

all_primary : (h : Classes) (l : Places) → IsHierarchy h → (c : ClassId) → AllJoin h l c → (b : ClassId) (path : List ClassId) → Leads h c (b ∷ path) → is_dynamic h (last_of b path) ≡ true → ends_in_primary l (c ∷ b ∷ path) ≡ true
all_primary h l keeps c all b [] leads dynamic = ((all.each b false leads.0).1 dynamic).0
all_primary h l keeps c all b (d ∷ path) leads dynamic =
    let inner = dynamic_whole h b (last_of d path) (subobject Whole (b ∷ d ∷ path)) (whole (d ∷ path) leads.1) refl (test_dynamic h keeps (last_of d path) dynamic) in
    ((all.each b false leads.0).1 (dynamic_test h keeps b inner)).1.all_primary d path leads.1 dynamic

-- the test of one base

test_parts : (v d p q : Bool) → (not v && (not d || (p && q))) ≡ true → (v ≡ false) × (d ≡ true → (p ≡ true) × (q ≡ true))
test_parts true d p q e = absurd (cc)
test_parts false false p q e = (refl, λ f. absurd (let g : false ≡ true = f in cc))
test_parts false true true true e = (refl, λ f. (refl, refl))
test_parts false true true false e = absurd (cc)
test_parts false true false q e = absurd (cc)

flag_set : (flags : List Bool) (n : ℕ) → get_or flags n false ≡ true → slice_get flags n ≡ Some true
flag_set [] n e = absurd (cc)
flag_set (b ∷ flags) zero e = ap (λ (o : Bool). Some o) e
flag_set (b ∷ flags) (suc n) e = flag_set flags n e

pub lone_at : (h : Classes) (l : Places) (flags : List Bool) (c : ClassId) (flag : Bool) → TellLone h l flags → flag ≡ get_or flags c.0 false → flag ≡ true → IsLone h l c
lone_at h l flags c flag tell is set = tell.each c.0 (flag_set flags c.0 (sym is ∙ set))

flag_dynamic : (h : Classes) → IsHierarchy h → (dynamic : List Bool) (b : ClassId) → TellDynamic h dynamic → b.0 < length h → is_dynamic h b ≡ true → get_or dynamic b.0 false ≡ true
flag_dynamic h keeps dynamic b tell known is = (tell.each b known).1 (test_dynamic h keeps b is)

all_pass : (p : Base ClassId → Bool) (xs : List (Base ClassId)) → list_all p xs ≡ true → (x : Base ClassId) → Has xs x → p x ≡ true
all_pass p [] e x has = absurd has
all_pass p (y ∷ xs) e x has = ⊎_elim (λ same. ap p (sym same) ∙ (both (p y) (list_all p xs) e).0) (λ more. all_pass p xs (both (p y) (list_all p xs) e).1 x more) has
  where
    both : (a b : Bool) → (a && b) ≡ true → (a ≡ true) × (b ≡ true)
    both true true f = (refl, refl)
    both true false f = absurd (cc)
    both false b f = absurd (cc)

pub lone_by : (h : Classes) (l : Places) → IsHierarchy h → (c : ClassId) (primary : Primary) (dynamic lone : List Bool) (bases : List (Base ClassId)) → c.0 < length h → bases ≡ bases_of h c → primary ≡ l.primary c → TellDynamic h dynamic → TellLone h l lone →
    list_all (λ (base : Base ClassId). joins primary dynamic lone base) bases ≡ true → IsLone h l c
lone_by h l keeps c primary dynamic lone bases known listed at tell_dynamic tell_lone e =
    record { none_virtual = λ v has. none_virtual h l keeps c v has all; all_primary = all_primary h l keeps c all }
  where
    by_base : (base : Base ClassId) → Contains (bases_of h c) base → base.class.0 < length h → (base.is_virtual ≡ false) × (is_dynamic h base.class ≡ true → (is_direct_primary (l.primary c) base.class ≡ true) × IsLone h l base.class)
    by_base base has low =
        let passes = all_pass (λ (o : Base ClassId). joins primary dynamic lone o) bases e base (subst (λ (xs : List (Base ClassId)). Has xs base) (sym listed) (has_from_contains (bases_of h c) base has)) in
        let parts = test_parts base.is_virtual (get_or dynamic base.class.0 false) (is_direct_primary primary base.class) (get_or lone base.class.0 false) passes in (
          parts.0,
          λ dyn.
              let both = parts.1 (flag_dynamic h keeps dynamic base.class tell_dynamic low dyn) in
              (ap (λ (p : Primary). is_direct_primary p base.class) (sym at) ∙ both.0, tell_lone.each base.class.0 (flag_set lone base.class.0 both.1)),
        )

    all : AllJoin h l c
    all = record {
      each = λ b way edge.
          let less = base_before h keeps c b way edge in
          let class = edge.class in
          let low : edge.base.class.0 < length h = (let same : edge.base.class.0 ≡ b.0 = ap (λ (d : ClassId). d.0) class in omega arith) in
          let r = by_base edge.base edge.listed low in
          (sym edge.way ∙ r.0, subst (λ (d : ClassId). is_dynamic h d ≡ true → (is_direct_primary (l.primary c) d ≡ true) × IsLone h l d) class r.1);
    }

-- flags, one class after the other

pub none_lone : (h : Classes) (l : Places) (flags : List Bool) → flags ≡ [] → TellLone h l flags
none_lone h l flags e = record { each = λ n there. absurd (let nothing : List Bool = [] in let at : slice_get nothing n ≡ Some true = subst (λ (xs : List Bool). slice_get xs n ≡ Some true) e there in cc) }

pub one_more_lone : (h : Classes) (l : Places) (n : ℕ) (flags new : List Bool) (flag : Bool) → length flags ≡ n → new ≡ flags ++ flag ∷ [] → (flag ≡ true → IsLone h l (record { 0 = n })) → TellLone h l flags → TellLone h l new
one_more_lone h l n flags new flag size is own tell = record {
  each = λ k there. ⊎_elim (λ before. tell.each k before) (λ last. subst (λ (i : ℕ). IsLone h l (record { 0 = i })) (sym (last.0 ∙ size)) (own (sym last.1)))
      (get_pushed flags flag k true (subst (λ (xs : List Bool). slice_get xs k ≡ Some true) is there));
}

-- the subobjects of such a class

abbrev others : Classes → ClassId → List Subobject
others h c = filter (λ (t : Subobject). not (same_subobject (whole_of c) t)) (firsts (flat_map (λ (base : Base ClassId). tree h c.0 base.class (base_subobject (whole_of c) base)) (bases_of h c)))

-- the whole is listed first
pub whole_first : (h : Classes) (c : ClassId) → preorder h c ≡ whole_of c ∷ others h c
whole_first h c = ap (λ (n : ℕ). firsts (tree h n c (whole_of c))) (let next : c.0 + 1 ≡ suc c.0 = omega arith in next)

by_tests : (d e : Bool) → (d ≡ true → e ≡ true) → (if d then not e else false) ≡ false
by_tests false e f = refl
by_tests true e f = ap not (f refl)

not_apart : (x : Setup) (c : ClassId) → IsLone x.h (places x) c → (s : Subobject) → IsSubobject x.h c s → not (same_subobject (whole_of c) s) ≡ true → is_set_apart x s ≡ false
not_apart x c lone _ (whole [] leads) other = absurd (let same : same_subobject (whole_of c) (whole_of c) ≡ true = same_itself (whole_of c) in cc)
not_apart x c lone _ (whole (b ∷ path) leads) other = by_tests (is_dynamic x.h (last_of b path)) (ends_in_primary (places x) (c ∷ b ∷ path)) (λ dynamic. lone.all_primary b path leads dynamic)
not_apart x c lone _ (shared v path has leads) other = absurd (lone.none_virtual v has)

pub lone_apart : (x : Setup) (c : ClassId) → IsLone x.h (places x) c → filter (is_set_apart x) (preorder x.h c) ≡ filter (is_set_apart x) (whole_of c ∷ [])
lone_apart x c lone =
    let p = is_set_apart x in
    let none = filter_none p (others x.h c) (λ s has.
    not_apart x c lone s (has_preorder x.h c s (subst (λ (xs : List Subobject). Has xs s) (sym (whole_first x.h c)) (inr has)))
    (has_filter (λ (t : Subobject). not (same_subobject (whole_of c) t)) (firsts (flat_map (λ (base : Base ClassId). tree x.h c.0 base.class (base_subobject (whole_of c) base)) (bases_of x.h c))) s has).1) in
    ap (filter p) (whole_first x.h c) ∙ filter-append p (whole_of c ∷ []) (others x.h c) ∙ ap (λ (xs : List Subobject). filter p (whole_of c ∷ []) ++ xs) none ∙ append-nil (filter p (whole_of c ∷ []))

-- the walk at the whole, and the settings behind it

pub whole_at : (h : Classes) (l : Places) (c : ClassId) (path : List ClassId) (walk : Walk) → path ≡ c ∷ [] → IsPast h l c [] walk → IsAtPart h l c (subobject Whole path) walk
whole_at h l c path walk is past = record {
  passed = [];
  rest = others h c;
  is = whole_first h c ∙ ap (λ (p : List ClassId). subobject Whole p ∷ others h c) (sym is);
  past = past;
}

pub whole_valid : (h : Classes) (c : ClassId) (path : List ClassId) → path ≡ c ∷ [] → IsSubobject h c (subobject Whole path)
whole_valid h c path is = subst (λ (p : List ClassId). IsSubobject h c (subobject Whole p)) (sym is) (whole [] tt)

pub lone_settings : (x : Setup) (form : Form) (c : ClassId) (path : List ClassId) (old new : List Setting) → IsLone x.h (places x) c → path ≡ c ∷ [] → old ≡ [] → new ≡ old ++ settings_of x form c (subobject Whole path ∷ []) → new ≡ settings_of x form c (preorder x.h c)
lone_settings x form c path old new lone is none put =
    put
    ∙ ap (λ (l : List Setting). l ++ settings_of x form c (subobject Whole path ∷ [])) none
    ∙ ap (λ (p : List ClassId). settings_of x form c (subobject Whole p ∷ [])) is
    ∙ ap (map (λ (i : Subobject). setting_by x form c i i.root)) (sym (lone_apart x c lone))
