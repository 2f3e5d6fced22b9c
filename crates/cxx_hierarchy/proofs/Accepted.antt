-- Records in which the class pass finds nothing.
use Rattle.std.proofs.Common.{◌≡◌, ℕ, suc, ◌<◌, ◌≤◌, Bool, true, false, nat_lt, nat_le, nat_eq, List, [], ◌∷◌, length, take, map, refl, sym, ◌∙◌, ap, subst, arith, get_or, inl, inr, ◌⊎◌, if◌then◌else◌}
use Rattle.std.proofs.Math.Seq.{take-length}
use Rattle.std.proofs.lemmas.Bool.{cases_lt}
use Rattle.std.proofs.lemmas.Map.Keys.{any_passes_from_place}
use Rattle.std.proofs.lemmas.Map.Steps.{le-length_from_below}
use lib.Dec.{eqb}
use Rattle.std.specs.Prelude.{Option, Some, None, is_some, slice_get, unwrap_or, Contains, not, ◌||◌}
use Rattle.std.specs.List.{list_any}
use Rattle.std.specs.Option.{option_map}
use Rattle.std.specs.Str.{bytes_eq}
use Rattle.std.proofs.lemmas.Option.{slice_get-get_or, slice_get_within}
use Rattle.std.proofs.lemmas.List.{length-take-le, length-map}
use Rattle.std.proofs.lemmas.Bool.Decides.{nat_tests}
use Rattle.foundation.proofs.Truth.{not_both, or_parts}
use Rattle.foundation.proofs.Places.{get_within}
use Rattle.cxx_hierarchy.specs.declared.records.ClassId.{ClassId}
use Rattle.cxx_hierarchy.specs.declared.records.Base.{Base}
use Rattle.cxx_hierarchy.specs.declared.records.Member.{Member}
use Rattle.cxx_hierarchy.specs.declared.records.Function.{Function}
use Rattle.cxx_hierarchy.specs.declared.records.Param.{Param}
use Rattle.cxx_hierarchy.specs.declared.records.PartAt.{PartAt}
use Rattle.cxx_hierarchy.specs.declared.records.PartKind.{PartKind}
use Rattle.cxx_hierarchy.specs.declared.records.PartKind.TheVariants.{Member as MemberPart, Function as FunctionPart, Constructor, Destructor}
use Rattle.cxx_hierarchy.specs.declared.records.Scalar.{Scalar}
use Rattle.cxx_hierarchy.specs.declared.records.ValueType.{ValueType}
use Rattle.cxx_hierarchy.specs.declared.records.ValueType.TheVariants.{Number, Pointer}
use Rattle.cxx_hierarchy.specs.declared.records.ReturnType.{ReturnType}
use Rattle.cxx_hierarchy.specs.declared.records.ReturnType.TheVariants.{Void, Value as ValueReturn}
use Rattle.cxx_hierarchy.specs.declared.records.FieldType.{FieldType}
use Rattle.cxx_hierarchy.specs.declared.records.FieldType.TheVariants.{Value, Object}
use Rattle.cxx_hierarchy.specs.NameTables.{Text, place_in, is_in}
use Rattle.cxx_hierarchy.specs.Scalars.{most_bits}
use Rattle.cxx_hierarchy.specs.ClassPass.{Record, known_faults, complete_faults, value_faults, field_faults, return_faults, param_faults, base_faults, is_bad_count, most_width, is_bad_width, member_faults, function_faults, part_faults, content_faults, class_faults, faults_of, in_turn, is_repeat, is_named, part_name, name_at, names_of, names_taken, is_second, IsInOrder}
use Rattle.cxx_hierarchy.specs.Orders.{is_member, is_function, is_constructor, is_destructor, parts_of_kind, has_kind}
use Rattle.cxx_hierarchy.specs.Resolved.{class_of_name, resolved_value, resolved_field, resolved_return}
use Rattle.cxx_hierarchy.proofs.Places.{take_map}
use Rattle.cxx_hierarchy.proofs.Orders.{numbered, passes_once}
use Rattle.cxx_hierarchy.proofs.Faults.{none_left, none_right, none_at, not_faulty}
use Rattle.cxx_hierarchy.proofs.Listed.{get_map, get_take, is_in_at, place_below, place_listed, given_name, same_itself}

-- records in which the pass finds nothing
pub record IsAccepted (records : List Record) : Type 0 where
  pub none : faults_of records ≡ []
  pub in_order : (i : ℕ) (r : Record) → slice_get records i ≡ Some r → IsInOrder r

-- what the pass says of one class
record IsClean (records : List Record) (i : ℕ) (r : Record) : Type 0 where
  new : is_in (names_of (take i records)) r.name ≡ false
  few : nat_le 1024 (length (take i records)) ≡ false
  bases : in_turn (base_faults (names_of records) (names_of (take i records))) [] r.bases ≡ []
  parts : in_turn (part_faults (names_of records) (names_of (take i records)) r) [] r.order ≡ []

clean : (records : List Record) → IsAccepted records → (i : ℕ) (r : Record) → slice_get records i ≡ Some r → IsClean records i r
clean records accepted i r at =
    let all = none_at (class_faults (names_of records)) records i r accepted.none at in
    let three = none_left _ _ all in
    let two = none_left _ _ three in
    record {
      new = not_faulty _ _ (none_left _ _ two);
      few = not_faulty _ _ (none_right _ _ two);
      bases = none_right _ _ three;
      parts = none_right _ _ all;
    }

shown : (b : Bool) → not b ≡ false → b ≡ true
shown true h = refl
shown false h = absurd (cc)

same_number : (m n : ℕ) → nat_eq m n ≡ true → m ≡ n
same_number m n h = grind (arith, nat_tests)

pub part_named : (r : Record) (part : PartAt) (j : ℕ) (m : Member Text) → part.kind ≡ MemberPart → part.number ≡ j → slice_get r.members j ≡ Some m → part_name r part ≡ Some m.name
part_named r part j m kind number at =
    ap (λ (k : PartKind). name_at r k part.number) kind ∙ ap (name_at r MemberPart) number ∙ ap (option_map (λ (x : Member Text). x.name)) at

pub function_named : (r : Record) (part : PartAt) (j : ℕ) (f : Function Text) → part.kind ≡ FunctionPart → part.number ≡ j → slice_get r.functions j ≡ Some f → part_name r part ≡ Some f.name
function_named r part j f kind number at =
    ap (λ (k : PartKind). name_at r k part.number) kind ∙ ap (name_at r FunctionPart) number ∙ ap (option_map (λ (x : Function Text). x.name)) at

-- a list that has no item at place n has at most n items
up_to : {X : Type 0} (xs : List X) (n : ℕ) → ((x : X) → slice_get xs n ≡ Some x → ⊥) → length xs ≤ n
up_to xs n none = by (cases_lt n (length xs))
  where
    by : (n < length xs) ⊎ (length xs ≤ n) → length xs ≤ n
    by (inr h) = h
    by (inl h) = let r = get_within xs n h in absurd (none r.0 r.1)

no_less : (n : ℕ) → nat_le n n ≡ false → ⊥
no_less n h = absurd (grind (arith, nat_tests))

-- the first fault of an item past the most that are allowed
too_many : {X : Type 0} (xs : List X) (n : ℕ) (x : X) → slice_get xs n ≡ Some x → nat_le n (length (take n xs)) ≡ false → ⊥
too_many xs n x at less =
    let within : n < length xs = slice_get_within xs n x at in
    let long : length (take n xs) ≡ n = length-take-le n xs (omega arith) in
    let other : nat_le n n ≡ false = subst (λ (m : ℕ). nat_le n m ≡ false) long less in
    no_less n other

pub few_records : (records : List Record) → IsAccepted records → length records ≤ 1024
few_records records accepted = up_to records 1024 (λ r at. too_many records 1024 r at (clean records accepted 1024 r at).few)

pub few_bases : (records : List Record) → IsAccepted records → (i : ℕ) (r : Record) → slice_get records i ≡ Some r → length r.bases ≤ 64
few_bases records accepted i r at = up_to r.bases 64 (λ b at_b.
    let faults = none_at (base_faults (names_of records) (names_of (take i records))) r.bases 64 b (clean records accepted i r at).bases at_b in
    too_many r.bases 64 b at_b (not_faulty _ _ (none_left _ _ (none_left _ _ faults))))

pub few_parts : (records : List Record) → IsAccepted records → (i : ℕ) (r : Record) → slice_get records i ≡ Some r → length r.order ≤ 1024
few_parts records accepted i r at = up_to r.order 1024 (λ p at_p.
    let faults = none_at (part_faults (names_of records) (names_of (take i records)) r) r.order 1024 p (clean records accepted i r at).parts at_p in
    too_many r.order 1024 p at_p (not_faulty _ _ (none_left _ _ (none_left _ _ faults))))

-- two classes of one name are one
pub new_names : (records : List Record) → IsAccepted records → (i j : ℕ) (x y : Record) → slice_get records i ≡ Some x → slice_get records j ≡ Some y → x.name ≡ y.name → i < j → ⊥
new_names records accepted i j x y at_x at_y same less =
    let there : is_in (names_of (take j records)) y.name ≡ true =
    is_in_at (names_of (take j records)) i x.name y.name (get_map (λ (r : Record). r.name) (take j records) i x (get_take records i j x less at_x)) same in
    let gone : is_in (names_of (take j records)) y.name ≡ false = (clean records accepted j y at_y).new in
    cc

-- what is named before class i has a smaller number
smaller : (records : List Record) (i : ℕ) (name : Text) → is_in (names_of (take i records)) name ≡ true → (class_of_name (names_of records) name).0 < i
smaller records i name h =
    place_below (names_of records) name i (subst (λ (names : List Text). is_in names name ≡ true) (take_map (λ (r : Record). r.name) i records) h)

complete_below : (records : List Record) (i at : ℕ) (name : Text) → complete_faults (names_of records) (names_of (take i records)) at name ≡ [] → (class_of_name (names_of records) name).0 < i
complete_below records i at name none = smaller records i name (shown _ (not_faulty _ _ (none_right _ _ none)))

known_below : (records : List Record) (at : ℕ) (name : Text) → known_faults (names_of records) at name ≡ [] → (class_of_name (names_of records) name).0 < length records
known_below records at name none =
    let e : is_in (names_of records) name ≡ true = shown _ (not_faulty _ _ none) in
    smaller records (length records) name (subst (λ (rs : List Record). is_in (names_of rs) name ≡ true) (sym (take-length records)) e)

pub base_below : (records : List Record) → IsAccepted records → (i : ℕ) (r : Record) → slice_get records i ≡ Some r → (k : ℕ) (b : Base Text) → slice_get r.bases k ≡ Some b →
    (class_of_name (names_of records) b.class).0 < i
base_below records accepted i r at k b at_b =
    let faults = none_at (base_faults (names_of records) (names_of (take i records))) r.bases k b (clean records accepted i r at).bases at_b in
    complete_below records i b.at b.class (none_right _ _ (none_left _ _ faults))

-- the part of a member or of a function, by its number
pub record HasPart (r : Record) (k : PartKind) (j : ℕ) : Type 0 where
  pub place : ℕ
  pub part : PartAt
  pub listed : slice_get r.order place ≡ Some part
  pub kind : part.kind ≡ k
  pub number : part.number ≡ j

member_kind : (kind : PartKind) → is_member kind ≡ true → kind ≡ MemberPart
member_kind MemberPart h = refl
member_kind FunctionPart h = absurd (cc)
member_kind Constructor h = absurd (cc)
member_kind Destructor h = absurd (cc)

pub member_part : (r : Record) → IsInOrder r → (j : ℕ) (m : Member Text) → slice_get r.members j ≡ Some m → HasPart r MemberPart j
member_part r in_order j m at =
    let one = numbered is_member r.order (length r.members) in_order.members j (slice_get_within r.members j m at) in
    record { place = one.place; part = one.part; listed = one.listed; kind = member_kind one.part.kind one.passes; number = one.number }

function_kind : (kind : PartKind) → is_function kind ≡ true → kind ≡ FunctionPart
function_kind FunctionPart h = refl
function_kind MemberPart h = absurd (cc)
function_kind Constructor h = absurd (cc)
function_kind Destructor h = absurd (cc)

pub function_part : (r : Record) → IsInOrder r → (j : ℕ) (f : Function Text) → slice_get r.functions j ≡ Some f → HasPart r FunctionPart j
function_part r in_order j f at =
    let one = numbered is_function r.order (length r.functions) in_order.functions j (slice_get_within r.functions j f at) in
    record { place = one.place; part = one.part; listed = one.listed; kind = function_kind one.part.kind one.passes; number = one.number }

-- no more numbers have a part than there are parts
few_numbered : (r : Record) (kind : PartKind) (n : ℕ) → length r.order ≤ 1024 → ((q : ℕ) → q < n → HasPart r kind q) → n ≤ 1024
few_numbered r kind n parts each =
    let size : length (map (λ (p : PartAt). p.number) r.order) ≡ length r.order = length-map r.order (λ (p : PartAt). p.number) in
    let few : n ≤ length (map (λ (p : PartAt). p.number) r.order) = le-length_from_below (map (λ (p : PartAt). p.number) r.order) n (λ q below.
    let p = each q below in
    any_passes_from_place (eqb q) (map (λ (p : PartAt). p.number) r.order) p.place p.part.number (get_map (λ (p : PartAt). p.number) r.order p.place p.part p.listed)
    (let e : p.part.number ≡ q = p.number in grind (arith, nat_tests))) in
    omega arith

pub few_members : (records : List Record) → IsAccepted records → (i : ℕ) (r : Record) → slice_get records i ≡ Some r → length r.members ≤ 1024
few_members records accepted i r at = few_numbered r MemberPart (length r.members) (few_parts records accepted i r at) (λ q below.
    let m = get_within r.members q below in member_part r (accepted.in_order i r at) q m.0 m.1)

pub few_functions : (records : List Record) → IsAccepted records → (i : ℕ) (r : Record) → slice_get records i ≡ Some r → length r.functions ≤ 1024
few_functions records accepted i r at = few_numbered r FunctionPart (length r.functions) (few_parts records accepted i r at) (λ q below.
    let f = get_within r.functions q below in function_part r (accepted.in_order i r at) q f.0 f.1)

-- what a member or a function says is in order
content_clean : (records : List Record) → IsAccepted records → (i : ℕ) (r : Record) → slice_get records i ≡ Some r → (kind : PartKind) (j : ℕ) → HasPart r kind j →
    (at : ℕ) × (content_faults (names_of records) (names_of (take i records)) r at kind j ≡ [])
content_clean records accepted i r at kind j p =
    let none = none_right _ _ (none_at (part_faults (names_of records) (names_of (take i records)) r) r.order p.place p.part (clean records accepted i r at).parts p.listed) in
    let content = λ (k : PartKind). λ (number : ℕ). content_faults (names_of records) (names_of (take i records)) r (unwrap_or p.part.ty_at 0) k number in
    (unwrap_or p.part.ty_at 0, ap (λ (k : PartKind). content k j) (sym p.kind) ∙ ap (content p.part.kind) (sym p.number) ∙ none)

pub member_clean : (records : List Record) → IsAccepted records → (i : ℕ) (r : Record) → slice_get records i ≡ Some r → (j : ℕ) (m : Member Text) → slice_get r.members j ≡ Some m →
    (at : ℕ) × (member_faults (names_of records) (names_of (take i records)) at (Some m) ≡ [])
member_clean records accepted i r at j m at_m =
    let c = content_clean records accepted i r at MemberPart j (member_part r (accepted.in_order i r at) j m at_m) in
    (c.0, ap (member_faults (names_of records) (names_of (take i records)) c.0) (sym at_m) ∙ c.1)

pub function_clean : (records : List Record) → IsAccepted records → (i : ℕ) (r : Record) → slice_get records i ≡ Some r → (j : ℕ) (f : Function Text) → slice_get r.functions j ≡ Some f →
    (at : ℕ) × (function_faults (names_of records) at (Some f) ≡ [])
function_clean records accepted i r at j f at_f =
    let c = content_clean records accepted i r at FunctionPart j (function_part r (accepted.in_order i r at) j f at_f) in
    (c.0, ap (function_faults (names_of records) c.0) (sym at_f) ∙ c.1)

pub object_below : (records : List Record) (i at : ℕ) (ty : FieldType Text) (d : ClassId) → field_faults (names_of records) (names_of (take i records)) at ty ≡ [] →
    resolved_field (class_of_name (names_of records)) ty ≡ Object d → d.0 < i
object_below records i at (Value ty) d none e = absurd (cc)
object_below records i at (Object name) d none e =
    let same : class_of_name (names_of records) name ≡ d = cc in
    subst (λ (c : ClassId). c.0 < i) same (complete_below records i at name none)

pub pointer_below : (records : List Record) (i at : ℕ) (ty : FieldType Text) (d : ClassId) → field_faults (names_of records) (names_of (take i records)) at ty ≡ [] →
    resolved_field (class_of_name (names_of records)) ty ≡ Value (Pointer d) → d.0 < length records
pointer_below records i at (Value (Number n)) d none e = absurd (cc)
pointer_below records i at (Object name) d none e = absurd (cc)
pointer_below records i at (Value (Pointer name)) d none e =
    let same : class_of_name (names_of records) name ≡ d = cc in
    subst (λ (c : ClassId). c.0 < length records) same (known_below records at name none)

value_below : (records : List Record) (at : ℕ) (ty : ValueType Text) (d : ClassId) → value_faults (names_of records) at ty ≡ [] →
    resolved_value (class_of_name (names_of records)) ty ≡ Pointer d → d.0 < length records
value_below records at (Number n) d none e = absurd (cc)
value_below records at (Pointer name) d none e =
    let same : class_of_name (names_of records) name ≡ d = cc in
    subst (λ (c : ClassId). c.0 < length records) same (known_below records at name none)

pub return_below : (records : List Record) (at : ℕ) (ty : ReturnType Text) (d : ClassId) → return_faults (names_of records) at ty ≡ [] →
    resolved_return (class_of_name (names_of records)) ty ≡ ValueReturn (Pointer d) → d.0 < length records
return_below records at Void d none e = absurd (cc)
return_below records at (ValueReturn ty) d none e = value_below records at ty d none (let same : resolved_value (class_of_name (names_of records)) ty ≡ Pointer d = cc in same)

pub few_params : (records : List Record) (params : List (Param Text)) → in_turn (param_faults (names_of records)) [] params ≡ [] → length params ≤ 16
few_params records params none = up_to params 16 (λ p at_p.
    let faults = none_at (param_faults (names_of records)) params 16 p none at_p in
    too_many params 16 p at_p (not_faulty _ _ (none_left _ _ (none_left _ _ faults))))

pub param_below : (records : List Record) (params : List (Param Text)) → in_turn (param_faults (names_of records)) [] params ≡ [] → (j : ℕ) (p : Param Text) (d : ClassId) → slice_get params j ≡ Some p →
    resolved_value (class_of_name (names_of records)) p.ty ≡ Pointer d → d.0 < length records
param_below records params none j p d at e =
    let faults = none_at (param_faults (names_of records)) params j p none at in
    value_below records p.ty_at p.ty d (none_right _ _ (none_left _ _ faults)) e

-- the count of an array
pub good_count : (count : Option ℕ) (n : ℕ) → is_bad_count count ≡ false → count ≡ Some n → (1 ≤ n) × (n ≤ 4096)
good_count None n good e = absurd (cc)
good_count (Some m) n good e =
    let same : m ≡ n = cc in
    let here : (nat_eq n 0 || nat_lt 4096 n) ≡ false = subst (λ (k : ℕ). (nat_eq k 0 || nat_lt 4096 k) ≡ false) same good in
    (grind (arith, nat_tests), grind (arith, nat_tests))

-- a bit-field and its width
pub record HasWidth (ty : FieldType Text) (count : Option ℕ) (n : ℕ) : Type 0 where
  pub type : Scalar
  pub is : ty ≡ Value (Number type)
  pub single : count ≡ None
  pub low : 1 ≤ n
  pub high : n ≤ most_bits type

-- a width that is no bad one is that of a number, and of no array
pub good_width : (ty : FieldType Text) (count width : Option ℕ) (n : ℕ) → is_bad_width (most_width count ty) width ≡ false → width ≡ Some n → HasWidth ty count n
good_width ty count None n good e = absurd (cc)
good_width ty count (Some m) n good e = by ty count (subst (λ (k : ℕ). (nat_eq k 0 || nat_lt (most_width count ty) k) ≡ false) (let same : m ≡ n = cc in same) good)
  where
    none_wide : (nat_eq n 0 || nat_lt 0 n) ≡ false → ⊥
    none_wide bad = absurd (grind (arith, nat_tests))

    by : (ty : FieldType Text) (count : Option ℕ) → (nat_eq n 0 || nat_lt (most_width count ty) n) ≡ false → HasWidth ty count n
    by (Value (Number type)) None h =
        let parts = or_parts (nat_eq n 0) (nat_lt (most_bits type) n) h in
        let some : nat_eq n 0 ≡ false = parts.0 in
        let few : nat_lt (most_bits type) n ≡ false = parts.1 in
        record { type = type; is = refl; single = refl; low = grind (arith, nat_tests); high = grind (arith, nat_tests) }
    by ty (Some k) h = absurd (none_wide h)
    by (Value (Pointer name)) None h = absurd (none_wide h)
    by (Object name) None h = absurd (none_wide h)

-- two parts of one name are one
named_before : (records : List Record) → IsAccepted records → (i : ℕ) (r : Record) → slice_get records i ≡ Some r →
    (p q : PartAt) (j k : ℕ) (x y : Text) → slice_get r.order j ≡ Some p → slice_get r.order k ≡ Some q → part_name r p ≡ Some x → part_name r q ≡ Some y → x ≡ y → j < k → ⊥
named_before records accepted i r at p q j k x y at_p at_q name_x name_y same less =
    let none : is_repeat r (take k r.order) q ≡ false = not_faulty _ _ (none_right _ _ (none_left _ _ (none_at (part_faults (names_of records) (names_of (take i records)) r) r.order k q (clean records accepted i r at).parts at_q))) in
    let fresh : is_named (names_taken r (take k r.order)) (part_name r q) ≡ false = (or_parts _ _ none).0 in
    let given = given_name (part_name r) (take k r.order) j p x (get_take r.order j k p less at_p) name_x in
    let there : is_in (names_taken r (take k r.order)) y ≡ true = is_in_at (names_taken r (take k r.order)) (suc given.place) x y given.listed same in
    let gone : is_in (names_taken r (take k r.order)) y ≡ false = ap (is_named (names_taken r (take k r.order))) (sym name_y) ∙ fresh in
    not_both there gone

pub apart : (i j : ℕ) → (i < j → ⊥) → (j < i → ⊥) → i ≡ j
apart i j p q = by (cases_lt i j)
  where
    by : (i < j) ⊎ (j ≤ i) → i ≡ j
    by (inl h) = absurd (p h)
    by (inr h) = from (cases_lt j i) h
      where
        from : (j < i) ⊎ (i ≤ j) → j ≤ i → i ≡ j
        from (inl g) h = absurd (q g)
        from (inr g) h = omega arith

pub one_part : (records : List Record) → IsAccepted records → (i : ℕ) (r : Record) → slice_get records i ≡ Some r →
    (kind other : PartKind) (j k : ℕ) (p : HasPart r kind j) (q : HasPart r other k) (x y : Text) → part_name r p.part ≡ Some x → part_name r q.part ≡ Some y → x ≡ y → p.part ≡ q.part
one_part records accepted i r at kind other j k p q x y name_x name_y same =
    let place : p.place ≡ q.place =
    apart p.place q.place (named_before records accepted i r at p.part q.part p.place q.place x y p.listed q.listed name_x name_y same)
    (named_before records accepted i r at q.part p.part q.place p.place y x q.listed p.listed name_y name_x (sym same)) in
    let one : Some p.part ≡ Some q.part = sym p.listed ∙ ap (slice_get r.order) place ∙ q.listed in
    let part : p.part ≡ q.part = cc in
    part

-- a class has one constructor at most, and one destructor
no_second : (records : List Record) → IsAccepted records → (i : ℕ) (r : Record) → slice_get records i ≡ Some r → (k : ℕ) (p : PartAt) → slice_get r.order k ≡ Some p → is_second (take k r.order) p.kind ≡ false
no_second records accepted i r at k p at_p =
    (or_parts _ _ (not_faulty _ _ (none_right _ _ (none_left _ _ (none_at (part_faults (names_of records) (names_of (take i records)) r) r.order k p (clean records accepted i r at).parts at_p))))).1

constructor_kind : (kind : PartKind) → is_constructor kind ≡ true → kind ≡ Constructor
constructor_kind Constructor h = refl
constructor_kind MemberPart h = absurd (cc)
constructor_kind FunctionPart h = absurd (cc)
constructor_kind Destructor h = absurd (cc)

destructor_kind : (kind : PartKind) → is_destructor kind ≡ true → kind ≡ Destructor
destructor_kind Destructor h = refl
destructor_kind MemberPart h = absurd (cc)
destructor_kind FunctionPart h = absurd (cc)
destructor_kind Constructor h = absurd (cc)

pub one_constructor : (records : List Record) → IsAccepted records → (i : ℕ) (r : Record) → slice_get records i ≡ Some r → length (parts_of_kind is_constructor r.order) ≡ (if has_kind is_constructor r.order then 1 else 0)
one_constructor records accepted i r at = passes_once (λ (p : PartAt). is_constructor p.kind) r.order
    (λ k p at_p passes. subst (λ (q : PartKind). is_second (take k r.order) q ≡ false) (constructor_kind p.kind passes) (no_second records accepted i r at k p at_p))

pub one_destructor : (records : List Record) → IsAccepted records → (i : ℕ) (r : Record) → slice_get records i ≡ Some r → length (parts_of_kind is_destructor r.order) ≡ (if has_kind is_destructor r.order then 1 else 0)
one_destructor records accepted i r at = passes_once (λ (p : PartAt). is_destructor p.kind) r.order
    (λ k p at_p passes. subst (λ (q : PartKind). is_second (take k r.order) q ≡ false) (destructor_kind p.kind passes) (no_second records accepted i r at k p at_p))

-- two bases of one class are one
base_name : (records : List Record) → IsAccepted records → (i : ℕ) (r : Record) → slice_get records i ≡ Some r → (k : ℕ) (b : Base Text) → slice_get r.bases k ≡ Some b → is_in (names_of records) b.class ≡ true
base_name records accepted i r at k b at_b =
    let faults = none_at (base_faults (names_of records) (names_of (take i records))) r.bases k b (clean records accepted i r at).bases at_b in
    shown _ (not_faulty _ _ (none_left _ _ (none_right _ _ (none_left _ _ faults))))

base_before : (records : List Record) → IsAccepted records → (i : ℕ) (r : Record) → slice_get records i ≡ Some r →
    (j k : ℕ) (x y : Base Text) → slice_get r.bases j ≡ Some x → slice_get r.bases k ≡ Some y → y.class ≡ x.class → j < k → ⊥
base_before records accepted i r at j k x y at_x at_y same less =
    let faults = none_at (base_faults (names_of records) (names_of (take i records))) r.bases k y (clean records accepted i r at).bases at_y in
    let fresh : list_any (λ (b : Base Text). bytes_eq y.class b.class) (take k r.bases) ≡ false = not_faulty _ _ (none_right _ _ faults) in
    let there : list_any (λ (b : Base Text). bytes_eq y.class b.class) (take k r.bases) ≡ true = any_passes_from_place (λ (b : Base Text). bytes_eq y.class b.class) (take k r.bases) j x (get_take r.bases j k x less at_x) (subst (λ (n : Text). bytes_eq y.class n ≡ true) same (same_itself y.class)) in
    not_both there fresh

-- a name among the names stands at its number
stands_at : (names : List Text) (name : Text) → is_in names name ≡ true → slice_get names (class_of_name names name).0 ≡ Some name
stands_at names name there = at (place_in names name) refl
  where
    at : (o : Option ℕ) → place_in names name ≡ o → slice_get names (class_of_name names name).0 ≡ Some name
    at None e = let none : is_in names name ≡ false = ap is_some e in absurd (not_both there none)
    at (Some n) e =
        let same : (class_of_name names name).0 ≡ n = ap (λ (o : Option ℕ). unwrap_or o 0) e in
        ap (slice_get names) same ∙ place_listed names name n e

pub one_base : (records : List Record) → IsAccepted records → (i : ℕ) (r : Record) → slice_get records i ≡ Some r →
    (j k : ℕ) (x y : Base Text) → slice_get r.bases j ≡ Some x → slice_get r.bases k ≡ Some y → class_of_name (names_of records) x.class ≡ class_of_name (names_of records) y.class → j ≡ k
one_base records accepted i r at j k x y at_x at_y same =
    let one : Some x.class ≡ Some y.class = sym (stands_at _ x.class (base_name records accepted i r at j x at_x)) ∙ ap (λ (c : ClassId). slice_get (names_of records) c.0) same ∙ stands_at _ y.class (base_name records accepted i r at k y at_y) in
    let name : x.class ≡ y.class = cc in
    apart j k (base_before records accepted i r at j k x y at_x at_y (sym name)) (base_before records accepted i r at k j y x at_y at_x name)
