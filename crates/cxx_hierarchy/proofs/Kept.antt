-- Records without a fault make a hierarchy.
use Rattle.std.proofs.Common.{◌≡◌, ℕ, ◌<◌, ◌≤◌, Bool, true, false, not, if◌then◌else◌, List, length, map, refl, sym, ◌∙◌, ap, subst, arith}
use Rattle.std.specs.Prelude.{Option, Some, None, slice_get, Contains}
use Rattle.std.proofs.lemmas.List.{length-map}
use Rattle.cxx_hierarchy.specs.declared.records.ClassId.{ClassId}
use Rattle.cxx_hierarchy.specs.declared.records.Base.{Base}
use Rattle.cxx_hierarchy.specs.declared.records.Member.{Member}
use Rattle.cxx_hierarchy.specs.declared.records.Function.{Function}
use Rattle.cxx_hierarchy.specs.declared.records.Param.{Param}
use Rattle.cxx_hierarchy.specs.declared.records.PartAt.{PartAt}
use Rattle.cxx_hierarchy.specs.declared.records.PartKind.TheVariants.{Member as MemberPart, Function as FunctionPart}
use Rattle.cxx_hierarchy.specs.Classes.{Class, class_at, bases_of, members_of, functions_of, bases_in, members_in, functions_in}
use Rattle.cxx_hierarchy.specs.NameTables.{Text}
use Rattle.cxx_hierarchy.specs.Declarations.{is_implicit}
use Rattle.cxx_hierarchy.specs.Orders.{is_member, is_function, is_constructor, is_destructor, parts_of_kind, NamesEach}
use Rattle.cxx_hierarchy.specs.ClassPass.{Record, names_of}
use Rattle.cxx_hierarchy.specs.Resolved.{class_of_name, resolved, resolved_class, resolved_field, resolved_base, resolved_member, resolved_param, resolved_function}
use Rattle.cxx_hierarchy.specs.Hierarchies.{HasOrder, IsBitField, IsHierarchy}
use Rattle.cxx_hierarchy.proofs.Faults.{none_left, none_right, not_faulty}
use Rattle.cxx_hierarchy.proofs.Listed.{mapped, placed}
use Rattle.cxx_hierarchy.proofs.Accepted.{IsAccepted, few_records, few_bases, new_names, base_below, one_base, part_named, function_named, member_part, function_part, few_members, few_functions, member_clean, function_clean, object_below, pointer_below, return_below, param_below, few_params, good_count, HasWidth, good_width, apart, one_part, one_constructor, one_destructor}

-- a class of the hierarchy with its record
record HasRecord (records : List Record) (c : ClassId) (x : Class) : Type 0 where
  rec : Record
  listed : slice_get records c.0 ≡ Some rec
  same : x ≡ resolved_class (class_of_name (names_of records)) rec

recorded : (records : List Record) (c : ClassId) (x : Class) → class_at (resolved records) c ≡ Some x → HasRecord records c x
recorded records c x h =
    let m = mapped (resolved_class (class_of_name (names_of records))) records c.0 x h in
    record { rec = m.item; listed = m.listed; same = m.same }

-- a base of a class, with the class and its record
record HasBase (records : List Record) (c : ClassId) (place : ℕ) (b : Base ClassId) : Type 0 where
  rec : Record
  listed : slice_get records c.0 ≡ Some rec
  base : Base Text
  at : slice_get rec.bases place ≡ Some base
  same : b ≡ resolved_base (class_of_name (names_of records)) base

-- a member of a class at its place, with the class and its record
record HasMember (records : List Record) (c : ClassId) (place : ℕ) (m : Member ClassId) : Type 0 where
  rec : Record
  listed : slice_get records c.0 ≡ Some rec
  member : Member Text
  at : slice_get rec.members place ≡ Some member
  same : m ≡ resolved_member (class_of_name (names_of records)) member

member_at : (records : List Record) (c : ClassId) (place : ℕ) (m : Member ClassId) → slice_get (members_of (resolved records) c) place ≡ Some m → HasMember records c place m
member_at records c place m h = by_class (class_at (resolved records) c) refl
  where
    by_class : (o : Option Class) → class_at (resolved records) c ≡ o → HasMember records c place m
    by_class None e = absurd (let q : slice_get (members_in None) place ≡ Some m = ap (λ (o : Option Class). slice_get (members_in o) place) (sym e) ∙ h in cc)
    by_class (Some x) e =
        let r = recorded records c x e in
        let q : slice_get (map (resolved_member (class_of_name (names_of records))) r.rec.members) place ≡ Some m =
        ap (λ (y : Class). slice_get y.members place) (sym r.same) ∙ ap (λ (o : Option Class). slice_get (members_in o) place) (sym e) ∙ h in
        let n = mapped (resolved_member (class_of_name (names_of records))) r.rec.members place m q in
        record { rec = r.rec; listed = r.listed; member = n.item; at = n.listed; same = n.same }

class_names : (records : List Record) → IsAccepted records → (c d : ClassId) (x y : Class) → class_at (resolved records) c ≡ Some x → class_at (resolved records) d ≡ Some y → x.name ≡ y.name → c.0 ≡ d.0
class_names records accepted c d x y at_x at_y same =
    let r = recorded records c x at_x in
    let q = recorded records d y at_y in
    let e : r.rec.name ≡ q.rec.name = ap (λ (z : Class). z.name) (sym r.same) ∙ same ∙ ap (λ (z : Class). z.name) q.same in
    apart c.0 d.0 (new_names records accepted c.0 d.0 r.rec q.rec r.listed q.listed e) (new_names records accepted d.0 c.0 q.rec r.rec q.listed r.listed (sym e))

base_at : (records : List Record) (c : ClassId) (place : ℕ) (b : Base ClassId) → slice_get (bases_of (resolved records) c) place ≡ Some b → HasBase records c place b
base_at records c place b h = by_class (class_at (resolved records) c) refl
  where
    by_class : (o : Option Class) → class_at (resolved records) c ≡ o → HasBase records c place b
    by_class None e = absurd (let q : slice_get (bases_in None) place ≡ Some b = ap (λ (o : Option Class). slice_get (bases_in o) place) (sym e) ∙ h in cc)
    by_class (Some x) e =
        let r = recorded records c x e in
        let q : slice_get (map (resolved_base (class_of_name (names_of records))) r.rec.bases) place ≡ Some b =
        ap (λ (y : Class). slice_get y.bases place) (sym r.same) ∙ ap (λ (o : Option Class). slice_get (bases_in o) place) (sym e) ∙ h in
        let n = mapped (resolved_base (class_of_name (names_of records))) r.rec.bases place b q in
        record { rec = r.rec; listed = r.listed; base = n.item; at = n.listed; same = n.same }

base_classes : (records : List Record) → IsAccepted records → (c : ClassId) (i j : ℕ) (x y : Base ClassId) →
    slice_get (bases_of (resolved records) c) i ≡ Some x → slice_get (bases_of (resolved records) c) j ≡ Some y → x.class ≡ y.class → i ≡ j
base_classes records accepted c i j x y at_x at_y same =
    let r = base_at records c i x at_x in
    let q = base_at records c j y at_y in
    let one : q.rec ≡ r.rec = cc in
    let q_at : slice_get r.rec.bases j ≡ Some q.base = ap (λ (z : Record). slice_get z.bases j) (sym one) ∙ q.at in
    one_base records accepted c.0 r.rec r.listed i j r.base q.base r.at q_at (ap (λ (z : Base ClassId). z.class) (sym r.same) ∙ same ∙ ap (λ (z : Base ClassId). z.class) q.same)

-- a function of a class at its place, with the class and its record
record HasFunction (records : List Record) (c : ClassId) (place : ℕ) (f : Function ClassId) : Type 0 where
  rec : Record
  listed : slice_get records c.0 ≡ Some rec
  function : Function Text
  at : slice_get rec.functions place ≡ Some function
  same : f ≡ resolved_function (class_of_name (names_of records)) function

function_at : (records : List Record) (c : ClassId) (place : ℕ) (f : Function ClassId) → slice_get (functions_of (resolved records) c) place ≡ Some f → HasFunction records c place f
function_at records c place f h = by_class (class_at (resolved records) c) refl
  where
    by_class : (o : Option Class) → class_at (resolved records) c ≡ o → HasFunction records c place f
    by_class None e = absurd (let q : slice_get (functions_in None) place ≡ Some f = ap (λ (o : Option Class). slice_get (functions_in o) place) (sym e) ∙ h in cc)
    by_class (Some x) e =
        let r = recorded records c x e in
        let q : slice_get (map (resolved_function (class_of_name (names_of records))) r.rec.functions) place ≡ Some f =
        ap (λ (y : Class). slice_get y.functions place) (sym r.same) ∙ ap (λ (o : Option Class). slice_get (functions_in o) place) (sym e) ∙ h in
        let n = mapped (resolved_function (class_of_name (names_of records))) r.rec.functions place f q in
        record { rec = r.rec; listed = r.listed; function = n.item; at = n.listed; same = n.same }

member_names : (records : List Record) → IsAccepted records → (c : ClassId) (i j : ℕ) (x y : Member ClassId) →
    slice_get (members_of (resolved records) c) i ≡ Some x → slice_get (members_of (resolved records) c) j ≡ Some y → x.name ≡ y.name → i ≡ j
member_names records accepted c i j x y at_x at_y same =
    let r = member_at records c i x at_x in
    let q' = member_at records c j y at_y in
    let one : q'.rec ≡ r.rec = cc in
    let q_at : slice_get r.rec.members j ≡ Some q'.member = ap (λ (z : Record). slice_get z.members j) (sym one) ∙ q'.at in
    let e : r.member.name ≡ q'.member.name = ap (λ (z : Member ClassId). z.name) (sym r.same) ∙ same ∙ ap (λ (z : Member ClassId). z.name) q'.same in
    let p = member_part r.rec (accepted.in_order c.0 r.rec r.listed) i r.member r.at in
    let q = member_part r.rec (accepted.in_order c.0 r.rec r.listed) j q'.member q_at in
    let part = one_part records accepted c.0 r.rec r.listed MemberPart MemberPart i j p q r.member.name q'.member.name (part_named r.rec p.part i r.member p.kind p.number r.at) (part_named r.rec q.part j q'.member q.kind q.number q_at) e in
    sym p.number ∙ ap (λ (z : PartAt). z.number) part ∙ q.number

function_names : (records : List Record) → IsAccepted records → (c : ClassId) (i j : ℕ) (x y : Function ClassId) →
    slice_get (functions_of (resolved records) c) i ≡ Some x → slice_get (functions_of (resolved records) c) j ≡ Some y → x.name ≡ y.name → i ≡ j
function_names records accepted c i j x y at_x at_y same =
    let r = function_at records c i x at_x in
    let q' = function_at records c j y at_y in
    let one : q'.rec ≡ r.rec = cc in
    let q_at : slice_get r.rec.functions j ≡ Some q'.function = ap (λ (z : Record). slice_get z.functions j) (sym one) ∙ q'.at in
    let e : r.function.name ≡ q'.function.name = ap (λ (z : Function ClassId). z.name) (sym r.same) ∙ same ∙ ap (λ (z : Function ClassId). z.name) q'.same in
    let p = function_part r.rec (accepted.in_order c.0 r.rec r.listed) i r.function r.at in
    let q = function_part r.rec (accepted.in_order c.0 r.rec r.listed) j q'.function q_at in
    let part = one_part records accepted c.0 r.rec r.listed FunctionPart FunctionPart i j p q r.function.name q'.function.name (function_named r.rec p.part i r.function p.kind p.number r.at) (function_named r.rec q.part j q'.function q.kind q.number q_at) e in
    sym p.number ∙ ap (λ (z : PartAt). z.number) part ∙ q.number

kinds_apart : FunctionPart ≡ MemberPart → ⊥
kinds_apart e = let clash : is_function FunctionPart ≡ is_function MemberPart = ap is_function e in absurd (cc)

mixed_names : (records : List Record) → IsAccepted records → (c : ClassId) (i j : ℕ) (x : Member ClassId) (y : Function ClassId) →
    slice_get (members_of (resolved records) c) i ≡ Some x → slice_get (functions_of (resolved records) c) j ≡ Some y → x.name ≡ y.name → ⊥
mixed_names records accepted c i j x y at_x at_y same =
    let r = member_at records c i x at_x in
    let q' = function_at records c j y at_y in
    let one : q'.rec ≡ r.rec = cc in
    let q_at : slice_get r.rec.functions j ≡ Some q'.function = ap (λ (z : Record). slice_get z.functions j) (sym one) ∙ q'.at in
    let e : r.member.name ≡ q'.function.name = ap (λ (z : Member ClassId). z.name) (sym r.same) ∙ same ∙ ap (λ (z : Function ClassId). z.name) q'.same in
    let p = member_part r.rec (accepted.in_order c.0 r.rec r.listed) i r.member r.at in
    let q = function_part r.rec (accepted.in_order c.0 r.rec r.listed) j q'.function q_at in
    let part = one_part records accepted c.0 r.rec r.listed MemberPart FunctionPart i j p q r.member.name q'.function.name (part_named r.rec p.part i r.member p.kind p.number r.at) (function_named r.rec q.part j q'.function q.kind q.number q_at) e in
    kinds_apart (sym q.kind ∙ ap (λ (z : PartAt). z.kind) (sym part) ∙ p.kind)

few_bases_of : (records : List Record) → IsAccepted records → (c : ClassId) (o : Option Class) → class_at (resolved records) c ≡ o → length (bases_in o) ≤ 64
few_bases_of records accepted c None e = omega arith
few_bases_of records accepted c (Some x) e =
    let r = recorded records c x e in
    let size : length (map (resolved_base (class_of_name (names_of records))) r.rec.bases) ≡ length r.rec.bases = length-map r.rec.bases (resolved_base (class_of_name (names_of records))) in
    let few : length r.rec.bases ≤ 64 = few_bases records accepted c.0 r.rec r.listed in
    subst (λ (y : Class). length y.bases ≤ 64) (sym r.same) (omega arith)

few_members_of : (records : List Record) → IsAccepted records → (c : ClassId) (o : Option Class) → class_at (resolved records) c ≡ o → length (members_in o) ≤ 1024
few_members_of records accepted c None e = omega arith
few_members_of records accepted c (Some x) e =
    let r = recorded records c x e in
    let size : length (map (resolved_member (class_of_name (names_of records))) r.rec.members) ≡ length r.rec.members = length-map r.rec.members (resolved_member (class_of_name (names_of records))) in
    let few : length r.rec.members ≤ 1024 = few_members records accepted c.0 r.rec r.listed in
    subst (λ (y : Class). length y.members ≤ 1024) (sym r.same) (omega arith)

few_functions_of : (records : List Record) → IsAccepted records → (c : ClassId) (o : Option Class) → class_at (resolved records) c ≡ o → length (functions_in o) ≤ 1024
few_functions_of records accepted c None e = omega arith
few_functions_of records accepted c (Some x) e =
    let r = recorded records c x e in
    let size : length (map (resolved_function (class_of_name (names_of records))) r.rec.functions) ≡ length r.rec.functions = length-map r.rec.functions (resolved_function (class_of_name (names_of records))) in
    let few : length r.rec.functions ≤ 1024 = few_functions records accepted c.0 r.rec r.listed in
    subst (λ (y : Class). length y.functions ≤ 1024) (sym r.same) (omega arith)

abbrev one_if : Bool → ℕ
one_if b = if b then 1 else 0

-- the order of the parts of a class is that of its record
order_of : (records : List Record) → IsAccepted records → (c : ClassId) (x : Class) → class_at (resolved records) c ≡ Some x → HasOrder x
order_of records accepted c x e =
    let r = recorded records c x e in
    let ok = accepted.in_order c.0 r.rec r.listed in
    let by = class_of_name (names_of records) in
    subst HasOrder (sym r.same) (record {
      members = subst (NamesEach is_member r.rec.order) (sym (length-map r.rec.members (resolved_member by))) ok.members;
      functions = subst (NamesEach is_function r.rec.order) (sym (length-map r.rec.functions (resolved_function by))) ok.functions;
      constructors = one_constructor records accepted c.0 r.rec r.listed ∙ ap one_if ok.constructors;
      destructors = one_destructor records accepted c.0 r.rec r.listed ∙ (ap one_if ok.destructors ∙ turned (is_implicit r.rec.destructor));
    })
  where
    turned : (b : Bool) → (let n : ℕ = if b then 0 else 1 in one_if (not b) ≡ n)
    turned true = refl
    turned false = refl

-- a member with a width is a bit-field
bit_field : (records : List Record) (c : ClassId) (m : Member ClassId) (n : ℕ) (member : Member Text) → m ≡ resolved_member (class_of_name (names_of records)) member → HasWidth member.ty member.count n → IsBitField m n
bit_field records c m n member same has = record {
  type = has.type;
  is = ap (λ (z : Member ClassId). z.ty) same ∙ ap (resolved_field (class_of_name (names_of records))) has.is;
  single = ap (λ (z : Member ClassId). z.count) same ∙ has.single;
  low = has.low;
  high = has.high;
}

pub is_hierarchy : (records : List Record) → IsAccepted records → IsHierarchy (resolved records)
is_hierarchy records accepted =
    let size : length (resolved records) ≡ length records = length-map records (resolved_class (class_of_name (names_of records))) in
    record {
      few = let l : length records ≤ 1024 = few_records records accepted in omega arith;
      names = class_names records accepted;
      bases = λ c b h.
          let p = placed _ b h in
          let r = base_at records c p.place b p.listed in
          subst (λ (z : Base ClassId). z.class.0 < c.0) (sym r.same) (base_below records accepted c.0 r.rec r.listed p.place r.base r.at);
      objects = λ c d m h e.
          let p = placed _ m h in
          let r = member_at records c p.place m p.listed in
          let n = member_clean records accepted c.0 r.rec r.listed p.place r.member r.at in
          object_below records c.0 n.0 r.member.ty d (none_left _ _ (none_left _ _ n.1)) (ap (λ (z : Member ClassId). z.ty) (sym r.same) ∙ e);
      pointers = λ c d m h e.
          let p = placed _ m h in
          let r = member_at records c p.place m p.listed in
          let n = member_clean records accepted c.0 r.rec r.listed p.place r.member r.at in
          let l : d.0 < length records = pointer_below records c.0 n.0 r.member.ty d (none_left _ _ (none_left _ _ n.1)) (ap (λ (z : Member ClassId). z.ty) (sym r.same) ∙ e) in
          omega arith;
      returns = λ c d f h e.
          let p = placed _ f h in
          let r = function_at records c p.place f p.listed in
          let n = function_clean records accepted c.0 r.rec r.listed p.place r.function r.at in
          let l : d.0 < length records = return_below records n.0 r.function.ret d (none_left _ _ n.1) (ap (λ (z : Function ClassId). z.ret) (sym r.same) ∙ e) in
          omega arith;
      params = λ c d f q h there e.
          let p = placed _ f h in
          let r = function_at records c p.place f p.listed in
          let n = function_clean records accepted c.0 r.rec r.listed p.place r.function r.at in
          let inside = placed _ q there in
          let m = mapped (resolved_param (class_of_name (names_of records))) r.function.params inside.place q (ap (λ (z : Function ClassId). slice_get z.params inside.place) (sym r.same) ∙ inside.listed) in
          let l : d.0 < length records = param_below records r.function.params (none_right _ _ n.1) inside.place m.item d m.listed (ap (λ (z : Param ClassId). z.ty) (sym m.same) ∙ e) in
          omega arith;
      once = base_classes records accepted;
      few_functions = λ c. few_functions_of records accepted c (class_at (resolved records) c) refl;
      functions = function_names records accepted;
      member_and_function = λ c m f has_m has_f e.
          let p = placed _ m has_m in
          let q = placed _ f has_f in
          mixed_names records accepted c p.place q.place m f p.listed q.listed e;
      widths = λ c m k h e.
          let p = placed _ m h in
          let r = member_at records c p.place m p.listed in
          let n = member_clean records accepted c.0 r.rec r.listed p.place r.member r.at in
          bit_field records c m k r.member r.same (good_width r.member.ty r.member.count r.member.width k (not_faulty _ _ (none_right _ _ n.1)) (ap (λ (z : Member ClassId). z.width) (sym r.same) ∙ e));
      counts = λ c m k h e.
          let p = placed _ m h in
          let r = member_at records c p.place m p.listed in
          let n = member_clean records accepted c.0 r.rec r.listed p.place r.member r.at in
          good_count r.member.count k (not_faulty _ _ (none_right _ _ (none_left _ _ n.1))) (ap (λ (z : Member ClassId). z.count) (sym r.same) ∙ e);
      few_params = λ c f h.
          let p = placed _ f h in
          let r = function_at records c p.place f p.listed in
          let n = function_clean records accepted c.0 r.rec r.listed p.place r.function r.at in
          let few : length r.function.params ≤ 16 = few_params records r.function.params (none_right _ _ n.1) in
          let size : length (map (resolved_param (class_of_name (names_of records))) r.function.params) ≡ length r.function.params = length-map r.function.params (resolved_param (class_of_name (names_of records))) in
          subst (λ (z : Function ClassId). length z.params ≤ 16) (sym r.same) (omega arith);
      few_bases = λ c. few_bases_of records accepted c (class_at (resolved records) c) refl;
      few_members = λ c. few_members_of records accepted c (class_at (resolved records) c) refl;
      members = member_names records accepted;
      orders = order_of records accepted;
    }
