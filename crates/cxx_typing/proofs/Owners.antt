-- The bodies of a source are those that its classes declare, each once.
use Rattle.std.proofs.Common.{◌≡◌, ◌≢◌, ⊎_elim, ℕ, zero, suc, ◌+◌, false, Option, Some, None, unwrap_or, List, [], ◌∷◌, ◌++◌, map, refl, sym, ◌∙◌, ap, subst, arith, All, slice_get}
use mathlib.Core.List.{map-map}
use Rattle.std.proofs.lemmas.List.{map-append}
use Rattle.foundation.proofs.Members.{Has, EachOnce, contains_from_has, has_left, has_right, has_cases, has_map, from_map, map_same, once_append}
use Rattle.cxx_hierarchy.specs.declared.records.ClassId.{ClassId}
use Rattle.cxx_hierarchy.specs.declared.records.Function.{Function}
use Rattle.cxx_hierarchy.specs.Classes.{Class, Classes, class_at, class_names, functions_in, class_by_number}
use Rattle.cxx_hierarchy.specs.ClassPass.{Record, names_of}
use Rattle.cxx_hierarchy.specs.NameTables.{place_in}
use Rattle.cxx_hierarchy.specs.Declarations.{is_implicit}
use Rattle.cxx_hierarchy.specs.Hierarchies.{IsHierarchy}
use Rattle.cxx_hierarchy.specs.Resolved.{class_of_name, resolved_function, resolved_class, resolved}
use Rattle.cxx_hierarchy.proofs.Listed.{mapped, get_map, is_in_at, place_listed}
use Rattle.cxx_overrider.specs.declared.FunctionId.{FunctionId}
use Rattle.cxx_syntax.specs.declared.source_text.Body.{Body}
use Rattle.cxx_syntax.specs.declared.source_text.BodyOwner.{BodyOwner}
use Rattle.cxx_syntax.specs.declared.source_text.BodyOwner.TheVariants as own
use Rattle.cxx_syntax.specs.Owners.{owner_in, owners_of, InitsFit, IsIn, AreBodiesOf, no_class, one_class}
use Rattle.cxx_program.specs.declared.program.Owner.{Owner}
use Rattle.cxx_program.specs.declared.program.Owner.TheVariants as owner
use Rattle.cxx_program.specs.Typed.{HasBody}
use Rattle.cxx_expression.specs.Lookups.{class_numbered, find_class}
use Rattle.cxx_resolve.specs.Programs.{class_of_body, owner_of}
use Rattle.cxx_search.proofs.Once.{once_map}
use Rattle.cxx_typing.proofs.Bodies.{typed_owner}
use Rattle.cxx_typing.proofs.OwnParts.{IsOrdered, record_ordered, IsOwn, has_own, own_has, owners_once}

-- a class of its name

-- the class of a number, with its record
record IsRecord (records : List Record) (n : ℕ) (r : Record) : Type 0 where
  at : slice_get records n ≡ Some r
  class : class_at (resolved records) (class_by_number n) ≡ Some (resolved_class (class_of_name (names_of records)) r)
  order : IsOrdered r

record_of : (records : List Record) → IsHierarchy (resolved records) → (n : ℕ) (r : Record) → slice_get records n ≡ Some r → IsRecord records n r
record_of records keeps n r at =
    let by = class_of_name (names_of records) in
    let class = get_map (resolved_class by) records n r at in
    record { at = at; class = class; order = record_ordered by r (keeps.orders (class_by_number n) (resolved_class by r) class) }

named : (h : Classes) → IsHierarchy h → (n : ℕ) (class : Class) → class_at h (class_by_number n) ≡ Some class → (o : Option ℕ) → place_in (class_names h) class.name ≡ o → unwrap_or (class_numbered o) (class_by_number 0) ≡ class_by_number n
named h keeps n class at None place =
    let there = is_in_at (class_names h) n class.name class.name (get_map (λ (x : Class). x.name) h n class at) refl in
    absurd (cc)
named h keeps n class at (Some m) place =
    let r = mapped (λ (x : Class). x.name) h m class.name (place_listed (class_names h) class.name m place) in
    ap class_by_number (keeps.names (class_by_number m) (class_by_number n) r.item class r.listed at (sym r.same))

found_class : (h : Classes) → IsHierarchy h → (n : ℕ) (class : Class) → class_at h (class_by_number n) ≡ Some class → class_of_body h class.name ≡ class_by_number n
unfolding find_class
found_class h keeps n class at = named h keeps n class at (place_in (class_names h) class.name) refl

-- the owners of the bodies of records from number n on
abbrev typed_owners : ℕ → List Record → List Owner
typed_owners n [] = []
typed_owners n (r ∷ rs) = map (owner_of (class_by_number n)) (owners_of r) ++ typed_owners (n + 1) rs

in_class : (r : Record) (bs : List Body) → All (IsIn r) bs → (b : Body) → Has bs b → IsIn r b
in_class r bs all b has = let c = contains_from_has bs b has in subst (IsIn r) c.2 (all c.0 b c.1)

owners_listed : (h : Classes) (rs : List Record) (bs : List Body) → AreBodiesOf rs bs → (n : ℕ) → ((i : ℕ) (r : Record) → slice_get rs i ≡ Some r → class_of_body h r.name ≡ class_by_number (n + i)) → map (typed_owner h) bs ≡ typed_owners n rs
owners_listed h _ _ no_class n each = refl
owners_listed h _ _ (one_class {r = r} {rs = rs} bs more all same rest) n each =
    let here : class_of_body h r.name ≡ class_by_number n = each 0 r refl ∙ ap class_by_number (let e : n + 0 ≡ n = omega arith in e) in
    let one : map (typed_owner h) bs ≡ map (λ (b : Body). owner_of (class_by_number n) b.owner) bs = map_same (typed_owner h) (λ (b : Body). owner_of (class_by_number n) b.owner) bs
    (λ b has. ap (λ (c : ClassId). owner_of c b.owner) (ap (class_of_body h) (in_class r bs all b has).class ∙ here)) in
    let later = owners_listed h rs more rest (n + 1) (λ i x at. each (suc i) x at ∙ ap class_by_number (let e : n + suc i ≡ n + 1 + i = omega arith in e)) in
    map-append (typed_owner h) bs more
    ∙ ap (λ (os : List Owner). os ++ map (typed_owner h) more) (one ∙ sym (map-map (owner_of (class_by_number n)) owner_in bs) ∙ ap (map (owner_of (class_by_number n))) same)
    ∙ ap (λ (os : List Owner). map (owner_of (class_by_number n)) (owners_of r) ++ os) later

-- which owners they are

-- an owner among the typed owners of records from number n on
record IsTypedOwner (n : ℕ) (rs : List Record) (o : Owner) : Type 0 where
  place : ℕ
  rec : Record
  at : slice_get rs place ≡ Some rec
  own : BodyOwner
  has : Has (owners_of rec) own
  same : owner_of (class_by_number (n + place)) own ≡ o

typed_from : (n : ℕ) (rs : List Record) (o : Owner) → Has (typed_owners n rs) o → IsTypedOwner n rs o
typed_from n [] o has = absurd has
typed_from n (r ∷ rs) o has = ⊎_elim
    (λ a.
    let x = from_map (owner_of (class_by_number n)) (owners_of r) o a in
    record { place = 0; rec = r; at = refl; own = x.0; has = x.1; same = ap (λ (m : ℕ). owner_of (class_by_number m) x.0) (let e : n + 0 ≡ n = omega arith in e) ∙ x.2 })
    (λ b.
    let x = typed_from (n + 1) rs o b in
    record { place = suc x.place; rec = x.rec; at = x.at; own = x.own; has = x.has; same = ap (λ (m : ℕ). owner_of (class_by_number m) x.own) (let e : n + suc x.place ≡ n + 1 + x.place = omega arith in e) ∙ x.same })
    (has_cases (map (owner_of (class_by_number n)) (owners_of r)) (typed_owners (n + 1) rs) o has)

typed_has : (n : ℕ) (rs : List Record) (i : ℕ) (r : Record) → slice_get rs i ≡ Some r → (x : BodyOwner) → Has (owners_of r) x → Has (typed_owners n rs) (owner_of (class_by_number (n + i)) x)
typed_has n [] i r at x has = absurd (cc)
typed_has n (q ∷ rs) zero r at x has =
    let same : r ≡ q = let e : q ≡ r = cc in sym e in
    has_left (map (owner_of (class_by_number n)) (owners_of q)) (typed_owners (n + 1) rs) (owner_of (class_by_number (n + 0)) x)
    (subst (λ (m : ℕ). Has (map (owner_of (class_by_number n)) (owners_of q)) (owner_of (class_by_number m) x)) (let e : n ≡ n + 0 = omega arith in e)
    (has_map (owner_of (class_by_number n)) (owners_of q) x (subst (λ (u : Record). Has (owners_of u) x) same has)))
typed_has n (q ∷ rs) (suc i) r at x has =
    has_right (map (owner_of (class_by_number n)) (owners_of q)) (typed_owners (n + 1) rs) (owner_of (class_by_number (n + suc i)) x)
    (subst (λ (m : ℕ). Has (typed_owners (n + 1) rs) (owner_of (class_by_number m) x)) (let e : n + 1 + i ≡ n + suc i = omega arith in e) (typed_has (n + 1) rs i r at x has))

-- an owner says its class and its part
number_of : Owner → ℕ
number_of owner.Main = 0
number_of (owner.Function f) = f.class.0
number_of (owner.Constructor c) = c.0
number_of (owner.Destructor c) = c.0

numbered : (c : ClassId) (x : BodyOwner) → number_of (owner_of c x) ≡ c.0
unfolding number_of
numbered c (own.Function n) = refl
numbered c own.Constructor = refl
numbered c own.Destructor = refl

part_of : Owner → BodyOwner
part_of owner.Main = own.Constructor
part_of (owner.Function f) = own.Function f.index
part_of (owner.Constructor c) = own.Constructor
part_of (owner.Destructor c) = own.Destructor

parted : (c : ClassId) (x : BodyOwner) → part_of (owner_of c x) ≡ x
unfolding part_of
parted c (own.Function n) = refl
parted c own.Constructor = refl
parted c own.Destructor = refl

typed_once : (n : ℕ) (rs : List Record) → ((i : ℕ) (r : Record) → slice_get rs i ≡ Some r → IsOrdered r) → EachOnce (typed_owners n rs)
typed_once n [] each = tt
typed_once n (r ∷ rs) each =
    once_append (map (owner_of (class_by_number n)) (owners_of r)) (typed_owners (n + 1) rs)
    (once_map (owner_of (class_by_number n)) (owners_of r) (λ x y a b same. sym (parted (class_by_number n) x) ∙ ap part_of same ∙ parted (class_by_number n) y) (owners_once r (each 0 r refl)))
    (typed_once (n + 1) rs (λ i x at. each (suc i) x at))
    (record {
      none = λ o a b.
          let x = from_map (owner_of (class_by_number n)) (owners_of r) o a in
          let y = typed_from (n + 1) rs o b in
          let same : n ≡ n + 1 + y.place = sym (numbered (class_by_number n) x.0) ∙ ap number_of (x.2 ∙ sym y.same) ∙ numbered (class_by_number (n + 1 + y.place)) y.own in
          omega arith;
    })

-- what the classes declare

has_body : (records : List Record) (n : ℕ) (r : Record) → IsRecord records n r → (x : BodyOwner) → IsOwn r x → HasBody (resolved records) (owner_of (class_by_number n) x)
has_body records n r is (own.Function k) f =
    let by = class_of_name (names_of records) in
    (resolved_function by f.function, ap (λ (o : Option Class). slice_get (functions_in o) k) is.class ∙ get_map (resolved_function by) r.functions k f.function f.there, f.pure)
has_body records n r is own.Constructor has = (resolved_class (class_of_name (names_of records)) r, is.class, has)
has_body records n r is own.Destructor has = (resolved_class (class_of_name (names_of records)) r, is.class, has)

-- a body that the classes declare is that of a part of a record
record IsOfRecord (records : List Record) (o : Owner) : Type 0 where
  number : ℕ
  rec : Record
  at : slice_get records number ≡ Some rec
  own : BodyOwner
  is : IsOwn rec own
  same : owner_of (class_by_number number) own ≡ o

function_of_record : (records : List Record) (f : FunctionId) (d : Function ClassId) → d.is_pure ≡ false → (o : Option Class) → class_at (resolved records) f.class ≡ o → slice_get (functions_in o) f.index ≡ Some d → IsOfRecord records (owner.Function f)
function_of_record records f d pure None at is = absurd (cc)
function_of_record records f d pure (Some class) at is =
    let by = class_of_name (names_of records) in
    let r = mapped (resolved_class by) records f.class.0 class at in
    let there : slice_get (map (resolved_function by) r.item.functions) f.index ≡ Some d = ap (λ (x : Class). slice_get x.functions f.index) (sym r.same) ∙ is in
    let g = mapped (resolved_function by) r.item.functions f.index d there in
    record {
      number = f.class.0;
      rec = r.item;
      at = r.listed;
      own = own.Function f.index;
      is = record { function = g.item; there = g.listed; pure = ap (λ (x : Function ClassId). x.is_pure) (sym g.same) ∙ pure };
      same = refl;
    }

body_of_record : (records : List Record) (o : Owner) → o ≢ owner.Main → HasBody (resolved records) o → IsOfRecord records o
body_of_record records owner.Main apart has = absurd (apart refl)
body_of_record records (owner.Function f) apart has = function_of_record records f has.0 has.2 (class_at (resolved records) f.class) refl has.1
body_of_record records (owner.Constructor c) apart has =
    let r = mapped (resolved_class (class_of_name (names_of records))) records c.0 has.0 has.1 in
    record { number = c.0; rec = r.item; at = r.listed; own = own.Constructor; is = ap (λ (x : Class). x.has_constructor) (sym r.same) ∙ has.2; same = refl }
body_of_record records (owner.Destructor c) apart has =
    let r = mapped (resolved_class (class_of_name (names_of records))) records c.0 has.0 has.1 in
    record { number = c.0; rec = r.item; at = r.listed; own = own.Destructor; is = ap (λ (x : Class). is_implicit x.destructor) (sym r.same) ∙ has.2; same = refl }

-- the owners of typed bodies: each body that the classes declare once, and no other
pub record AreOwners (h : Classes) (owners : List Owner) : Type 0 where
  pub has : (o : Owner) → Has owners o → HasBody h o
  pub once : EachOnce owners
  pub all : (o : Owner) → o ≢ owner.Main → HasBody h o → Has owners o

records_own : (records : List Record) → IsHierarchy (resolved records) → AreOwners (resolved records) (typed_owners 0 records)
records_own records keeps = record {
  has = λ o has.
      let x = typed_from 0 records o has in
      let number : 0 + x.place ≡ x.place = omega arith in
      let r = record_of records keeps x.place x.rec x.at in
      subst (HasBody (resolved records)) (ap (λ (m : ℕ). owner_of (class_by_number m) x.own) (sym number) ∙ x.same) (has_body records x.place x.rec r x.own (has_own x.rec r.order x.own x.has));
  once = typed_once 0 records (λ i r at. (record_of records keeps i r at).order);
  all = λ o apart has.
      let x = body_of_record records o apart has in
      let number : 0 + x.number ≡ x.number = omega arith in
      let r = record_of records keeps x.number x.rec x.at in
      subst (Has (typed_owners 0 records)) (ap (λ (m : ℕ). owner_of (class_by_number m) x.own) number ∙ x.same) (typed_has 0 records x.number x.rec x.at x.own (own_has x.rec r.order x.own x.is));
}

pub owners_of_bodies : (records : List Record) (bodies : List Body) → IsHierarchy (resolved records) → AreBodiesOf records bodies → AreOwners (resolved records) (map (typed_owner (resolved records)) bodies)
owners_of_bodies records bodies keeps are =
    let h = resolved records in
    let listed = owners_listed h records bodies are 0
    (λ i r at. let x = record_of records keeps i r at in found_class h keeps i (resolved_class (class_of_name (names_of records)) r) x.class ∙ ap class_by_number (let e : i ≡ 0 + i = omega arith in e)) in
    subst (AreOwners h) (sym listed) (records_own records keeps)

-- only constructors have initializers
pub inits_fit : (records : List Record) (bodies : List Body) → AreBodiesOf records bodies → (b : Body) → Has bodies b → InitsFit b.owner b.inits
inits_fit _ _ no_class b has = absurd has
inits_fit _ _ (one_class {r = r} {rs = rs} bs more all same rest) b has = ⊎_elim
    (λ a. (in_class r bs all b a).inits)
    (λ c. inits_fit rs more rest b c)
    (has_cases bs more b has)
