-- What the look-ups find is what the definitions say, and a number that no class has declares nothing.
use Rattle.std.proofs.Common.{◌≡◌, ℕ, suc, ◌+◌, ◌≤◌, Bool, true, false, Option, Some, None, List, [], ◌∷◌, sym, ap, ◌∙◌, refl, arith, length}
use Rattle.std.specs.Prelude.{nat_eq, filter, position, cond, slice_get, ◌||◌}
use Rattle.std.specs.List.{filter_map, flat_map, list_any}
use Rattle.std.specs.Str.{bytes_eq}
use Rattle.std.proofs.lemmas.Option.{slice_get_past}
use Rattle.cxx_hierarchy.specs.declared.records.ClassId.{ClassId}
use Rattle.cxx_hierarchy.specs.declared.records.Base.{Base}
use Rattle.cxx_hierarchy.specs.declared.records.Member.{Member as MemberRecord}
use Rattle.cxx_hierarchy.specs.declared.records.Function.{Function as FunctionRecord}
use Rattle.cxx_hierarchy.specs.Classes.{Class, Classes, class_at, class_names, bases_in, members_in, functions_in, IsClassNamed}
use Rattle.cxx_hierarchy.specs.Hierarchies.{IsHierarchy}
use Rattle.cxx_hierarchy.specs.NameTables.{Text, place_in}
use Rattle.cxx_subobject.specs.declared.Subobject.{Subobject}
use Rattle.cxx_subobject.specs.Subobjects.{whole_of, base_subobject, class_of, is_of_class}
use Rattle.cxx_subobject.specs.Preorder.{preorder, tree, firsts}
use Rattle.cxx_lookup.specs.declared.Found.{Found}
use Rattle.cxx_lookup.specs.declared.Found.TheVariants.{Member as AMember, Function as AFunction}
use Rattle.cxx_lookup.specs.declared.LookupFault.TheVariants.{NoSuchMember}
use Rattle.cxx_lookup.specs.declared.BaseFault.TheVariants.{NotBase as NoBase}
use Rattle.cxx_lookup.specs.Lookup.{IsFound as IsNameFound, TwoRemain, IsLookupFault}
use Rattle.cxx_lookup.specs.UniqueBase.{IsUniqueBase, HasTwoBases, IsBaseFault}
use Rattle.cxx_lookup.specs.Findings.{finds_none, finds_one, finds_more, found_among, declared_as, declaration_at, the_only_found}
use Rattle.cxx_overrider.specs.declared.FunctionId.{FunctionId}
use Rattle.cxx_overrider.specs.Virtuals.{is_virtual, function_ids_in as declared_by}
use Rattle.cxx_search.specs.Searches.{is_abstract, has_pure_in, is_pure_overrider, final_in}
use Rattle.cxx_hierarchy.proofs.Builds.{place_missing}
use Rattle.cxx_hierarchy.proofs.Listed.{place_listed, mapped}
use Rattle.foundation.proofs.Places.{contains_at}
use Rattle.cxx_subobject.proofs.PathLemmas.{same_id}
use Rattle.cxx_lookup.proofs.NameFindings.{name_only}
use Rattle.cxx_lookup.proofs.BaseFindings.{base_only}
use Rattle.cxx_expression.specs.declared.look_up.Looked.TheVariants.{Missing, Ambiguous, Member, Function}
use Rattle.cxx_expression.specs.declared.look_up.Based.TheVariants.{NotBase, TwoBases, Base as ABase}
use Rattle.cxx_hierarchy.specs.Declarations.{has_virtual, declares_virtual}
use Rattle.cxx_expression.specs.Lookups.{as_looked, as_based, looked_up, base_up, member_record, function_record, is_polymorphic, class_numbered, find_class}

pub member_is : (h : Classes) → IsHierarchy h → (c : ClassId) (name : Text) (s : Subobject) (n : ℕ) → IsNameFound h c name (AMember s n) → looked_up h c name ≡ Member s n
unfolding looked_up
member_is h keeps c name s n is = ap as_looked (sym (name_only h keeps c name (finds_one (AMember s n)) is))

pub function_is : (h : Classes) → IsHierarchy h → (c : ClassId) (name : Text) (s : Subobject) (n : ℕ) → IsNameFound h c name (AFunction s n) → looked_up h c name ≡ Function s n
unfolding looked_up
function_is h keeps c name s n is = ap as_looked (sym (name_only h keeps c name (finds_one (AFunction s n)) is))

pub ambiguous_is : (h : Classes) → IsHierarchy h → (c : ClassId) (name : Text) → TwoRemain h c name → looked_up h c name ≡ Ambiguous
unfolding looked_up
ambiguous_is h keeps c name is = ap as_looked (sym (name_only h keeps c name finds_more is))

pub missing_is : (h : Classes) → IsHierarchy h → (c : ClassId) (name : Text) → IsLookupFault h c name NoSuchMember → looked_up h c name ≡ Missing
unfolding looked_up
missing_is h keeps c name is = ap as_looked (sym (name_only h keeps c name finds_none is))

pub base_is : (h : Classes) → IsHierarchy h → (c d : ClassId) (s : Subobject) → IsUniqueBase h c d s → base_up h c d ≡ ABase s
unfolding base_up
base_is h keeps c d s is = ap as_based (sym (base_only h keeps c d (finds_one s) is))

pub two_bases_is : (h : Classes) → IsHierarchy h → (c d : ClassId) → HasTwoBases h c d → base_up h c d ≡ TwoBases
unfolding base_up
two_bases_is h keeps c d is = ap as_based (sym (base_only h keeps c d finds_more is))

pub not_base_is : (h : Classes) → IsHierarchy h → (c d : ClassId) → IsBaseFault h c d NoBase → base_up h c d ≡ NotBase
unfolding base_up
not_base_is h keeps c d is = ap as_based (sym (base_only h keeps c d finds_none is))

-- a number that no class has
pub nothing_at : (h : Classes) (c : ClassId) → length h ≤ c.0 → class_at h c ≡ None
nothing_at h c beyond = slice_get_past h c.0 beyond

pub lone : (h : Classes) (c : ClassId) → class_at h c ≡ None → preorder h c ≡ whole_of c ∷ []
lone h c none =
    let next : c.0 + 1 ≡ suc c.0 = omega arith in
    ap (λ (n : ℕ). firsts (tree h n c (whole_of c))) next
    ∙ ap (λ (o : Option Class). firsts (whole_of c ∷ flat_map (λ (base : Base ClassId). tree h c.0 base.class (base_subobject (whole_of c) base)) (bases_in o))) none

-- a number that no class has declares nothing, has itself alone as a base, and has no virtual function
nothing_listed : {X Y : Type 0} (f : X → Option Y) (x : X) → f x ≡ None → filter_map f (x ∷ []) ≡ []
nothing_listed f x e = rw e refl

pub missing_beyond : (h : Classes) (c : ClassId) (name : Text) → class_at h c ≡ None → looked_up h c name ≡ Missing
unfolding looked_up
missing_beyond h c name none =
    let empty : declaration_at h name (whole_of c) ≡ None =
    ap (λ (o : Option Class). declared_as (whole_of c) (position (λ (m : MemberRecord ClassId). bytes_eq m.name name) (members_in o)) (position (λ (f : FunctionRecord ClassId). bytes_eq f.name name) (functions_in o))) none in
    ap (λ (list : List Subobject). as_looked (found_among h (filter_map (declaration_at h name) list))) (lone h c none)
    ∙ ap (λ (list : List Found). as_looked (found_among h list)) (nothing_listed (declaration_at h name) (whole_of c) empty)

pub itself_beyond : (h : Classes) (c d : ClassId) → class_at h c ≡ None → nat_eq d.0 c.0 ≡ true → base_up h c d ≡ ABase (whole_of c)
unfolding base_up
itself_beyond h c d none same =
    ap (λ (list : List Subobject). as_based (the_only_found (filter (is_of_class d) list))) (lone h c none)
    ∙ ap (λ (b : Bool). as_based (the_only_found (cond b (whole_of c ∷ []) []))) same

pub other_beyond : (h : Classes) (c d : ClassId) → class_at h c ≡ None → nat_eq d.0 c.0 ≡ false → base_up h c d ≡ NotBase
unfolding base_up
other_beyond h c d none differ =
    ap (λ (list : List Subobject). as_based (the_only_found (filter (is_of_class d) list))) (lone h c none)
    ∙ ap (λ (b : Bool). as_based (the_only_found (cond b (whole_of c ∷ []) []))) differ

pub plain_beyond : (h : Classes) (c : ClassId) → class_at h c ≡ None → is_polymorphic h c ≡ false
unfolding is_polymorphic
plain_beyond h c none =
    ap (list_any (λ s. declares_virtual h (class_of s))) (lone h c none)
    ∙ ap (λ (o : Option Class). has_virtual o || false) none

pub no_member_beyond : (h : Classes) (c : ClassId) (n : ℕ) → class_at h c ≡ None → member_record h c n ≡ None
unfolding member_record
no_member_beyond h c n none = ap (λ (o : Option Class). slice_get (members_in o) n) none

pub no_function_beyond : (h : Classes) (c : ClassId) (n : ℕ) → class_at h c ≡ None → function_record h c n ≡ None
unfolding function_record
no_function_beyond h c n none = ap (λ (o : Option Class). slice_get (functions_in o) n) none

pub concrete_beyond : (h : Classes) (c : ClassId) → class_at h c ≡ None → is_abstract h c ≡ false
concrete_beyond h c none =
    ap (list_any (λ s. has_pure_in h c s (class_of s))) (lone h c none)
    ∙ ap (λ (o : Option Class). list_any (λ (f : FunctionId). is_pure_overrider h (final_in h (whole_of c) (whole_of c) f)) (filter (is_virtual h) (declared_by c o)) || false) none

-- a class of a name is one
one_class_named : (h : Classes) → IsHierarchy h → (name : Text) (c d : ClassId) → slice_get (class_names h) c.0 ≡ Some name → slice_get (class_names h) d.0 ≡ Some name → c ≡ d
one_class_named h keeps name c d at_c at_d =
    let x = mapped (λ (class : Class). class.name) h c.0 name at_c in
    let y = mapped (λ (class : Class). class.name) h d.0 name at_d in
    same_id c d (keeps.names c d x.item y.item x.listed y.listed (sym x.same ∙ y.same))

-- the class that the table has for a name is the first of the name
pub class_is : (h : Classes) → IsHierarchy h → (name : Text) (found : Option ClassId) → IsClassNamed h name found → found ≡ find_class h name
unfolding find_class
class_is h keeps name found is = first (place_in (class_names h) name) found is refl
  where
    first : (o : Option ℕ) (found : Option ClassId) → IsClassNamed h name found → place_in (class_names h) name ≡ o → found ≡ class_numbered o
    first None None is e = refl
    first None (Some c) is e = absurd (place_missing (class_names h) name e (contains_at (class_names h) c.0 name is))
    first (Some n) None is e = absurd (is (contains_at (class_names h) n name (place_listed (class_names h) name n e)))
    first (Some n) (Some c) is e = ap Some (one_class_named h keeps name c (record { 0 = n }) is (place_listed (class_names h) name n e))

-- the search of the subobjects says whether the class has virtual functions
pub polymorphic_by : (h : Classes) (c : ClassId) (parts : List Subobject) (flag : Bool) → parts ≡ preorder h c → flag ≡ list_any (λ s. declares_virtual h (class_of s)) parts → is_polymorphic h c ≡ flag
unfolding is_polymorphic
polymorphic_by h c parts flag is any = ap (list_any (λ s. declares_virtual h (class_of s))) (sym is) ∙ sym any
