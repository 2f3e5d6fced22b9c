-- What `build` and `find` need of the table of names.
use Rattle.std.proofs.Common.{◌≡◌, ℕ, zero, suc, ◌+◌, ◌<◌, ◌≤◌, true, false, cond, List, [], ◌∷◌, length, map, refl, sym, ◌∙◌, ap, subst, arith}
use mathlib.Core.Path.{fun_ext}
use Rattle.std.specs.Prelude.{Option, Some, None, is_some, slice_get, unwrap_or, Contains, All}
use Rattle.std.specs.List.{position_from}
use Rattle.std.specs.Str.{bytes_eq}
use Rattle.std.proofs.lemmas.Option.{slice_get_within, get_or_from_slice_get}
use Rattle.std.proofs.lemmas.List.{length-map}
use Rattle.cxx_hierarchy.specs.declared.records.ClassId.{ClassId}
use Rattle.cxx_hierarchy.specs.declared.names.NameTable.{NameTable}
use Rattle.cxx_hierarchy.specs.Classes.{Classes, class_names}
use Rattle.cxx_hierarchy.specs.NameTables.{Text, place_in, is_in, Numbers}
use Rattle.cxx_hierarchy.specs.ClassPass.{Record, names_of, faults_of, IsInOrder}
use Rattle.cxx_hierarchy.specs.Resolved.{ByName, class_of_name, class_in, resolved, resolved_class, NumbersAreSmall}
use Rattle.cxx_hierarchy.specs.Hierarchies.{IsHierarchy}
use Rattle.cxx_hierarchy.proofs.Listed.{placed, is_in_at, place_listed}
use Rattle.cxx_hierarchy.proofs.Accepted.{IsAccepted, few_records}
use Rattle.cxx_hierarchy.proofs.Kept.{is_hierarchy}

pub place_missing : (names : List Text) (name : Text) → place_in names name ≡ None → Contains names name → ⊥
place_missing names name h there =
    let p = placed names name there in
    let yes' : is_in names name ≡ true = is_in_at names p.place name name p.listed refl in
    let no' : is_in names name ≡ false = ap is_some h in
    let clash : true ≡ false = sym yes' ∙ no' in
    absurd (cc)

pub accepted : (records : List Record) → faults_of records ≡ [] → All IsInOrder records → IsAccepted records
accepted records none orders = record {
  none = none;
  in_order = λ i r at. subst IsInOrder (get_or_from_slice_get records i r r at) (orders i r (slice_get_within records i r at));
}

pub small_numbers : (table : NameTable) (records : List Record) → Numbers table (names_of records) → IsAccepted records → NumbersAreSmall table
small_numbers table records numbers ok = record {
  below = λ name number h.
      let within : number < length (names_of records) = slice_get_within (names_of records) number name (place_listed (names_of records) name number (sym (numbers.places name) ∙ h)) in
      let size : length (names_of records) ≡ length records = length-map records (λ (r : Record). r.name) in
      let few : length records ≤ 1024 = few_records records ok in
      omega arith;
}

pub same_references : (table : NameTable) (records : List Record) → Numbers table (names_of records) → map (resolved_class (class_in table)) records ≡ resolved records
same_references table records numbers =
    let one : (name : Text) → class_in table name ≡ class_of_name (names_of records) name = λ name. ap (λ (o : Option ℕ). let c : ClassId = record { 0 = unwrap_or o 0 } in c) (numbers.places name) in
    ap (λ (by : ByName). map (resolved_class by) records) (fun_ext one)

names_kept_by : (by : ByName) (records : List Record) → class_names (map (resolved_class by) records) ≡ names_of records
names_kept_by by [] = refl
names_kept_by by (r ∷ rs) = ap (λ (names : List Text). r.name ∷ names) (names_kept_by by rs)

pub built : (table : NameTable) (records : List Record) (classes : Classes) → Numbers table (names_of records) → IsAccepted records → classes ≡ resolved records →
    IsHierarchy classes × Numbers table (class_names classes)
built table records classes numbers ok same = (
  subst IsHierarchy (sym same) (is_hierarchy records ok),
  subst (Numbers table) (sym (ap class_names same ∙ names_kept_by (class_of_name (names_of records)) records)) numbers,
)
