-- Records without a fault make a hierarchy, and the table has its names.
use Rattle.std.proofs.Common.{◌≡◌, sym, ap, ◌∙◌, List, [], map, length, subst, false, true}
use Rattle.std.specs.Prelude.{All}
use Rattle.cxx_hierarchy.specs.Classes.{Classes, class_names}
use Rattle.cxx_hierarchy.specs.ClassPass.{Record, names_of, faults_of, IsInOrder}
use Rattle.cxx_hierarchy.specs.declared.names.NameTable.{NameTable}
use Rattle.cxx_hierarchy.specs.NameTables.{Numbers}
use Rattle.cxx_hierarchy.specs.Resolved.{resolved, resolved_class, class_in}
use Rattle.cxx_hierarchy.specs.Hierarchies.{IsHierarchy}
use Rattle.cxx_hierarchy.specs.invariants.VirtualRows.{AreRows}
use Rattle.cxx_hierarchy.proofs.Builds.{accepted, small_numbers, same_references, built}
use Rattle.cxx_hierarchy.proofs.hierarchy.build.Goals as goal

pub resolve_classes-requires : goal.resolve_classes-requires
resolve_classes-requires c =
    let same = c.as_slice-definitions.ensures in
    small_numbers c.in_ok-names.names c.args.records.now
    (subst (λ (rs : List Record). Numbers c.in_ok-names.names (names_of rs)) same c.in_ok-names.ensures)
    (accepted c.args.records.now (ap faults_of (sym same) ∙ c.in_ok-check_classes.ensures) c.requires)

-- the classes that were resolved are those of the records, and keep what a hierarchy keeps
same_classes : (table : NameTable) (given records : List Record) (classes : Classes) → given ≡ records → Numbers table (names_of given) → classes ≡ map (resolved_class (class_in table)) given → classes ≡ resolved records
same_classes table given records classes same numbers e = e ∙ same_references table given numbers ∙ ap resolved same

keep : (table : NameTable) (given records : List Record) (classes : Classes) → given ≡ records → Numbers table (names_of given) → classes ≡ map (resolved_class (class_in table)) given → faults_of given ≡ [] → All IsInOrder records →
    IsHierarchy classes × Numbers table (class_names classes)
keep table given records classes same numbers e none orders = built table records classes
    (subst (λ (rs : List Record). Numbers table (names_of rs)) same numbers)
    (accepted records (ap faults_of (sym same) ∙ none) orders)
    (same_classes table given records classes same numbers e)

pub virtual_rows-requires : goal.virtual_rows-requires
virtual_rows-requires c = subst IsHierarchy (sym c.deref.ensures.value) (keep c.in_ok-names.names _ _ c.in_ok-classes.classes.items c.as_slice-definitions.ensures c.in_ok-names.ensures c.in_ok-classes.ensures c.in_ok-check_classes.ensures c.requires).0

pub virtual_rows-requires-2 : goal.virtual_rows-requires-2
virtual_rows-requires-2 c = subst IsHierarchy (sym c.deref-2.ensures.value) (keep c.in_ok-names.names _ _ c.in_ok-classes.classes.items c.as_slice-definitions.ensures c.in_ok-names.ensures c.in_ok-classes.ensures c.in_ok-check_classes.ensures c.requires).0

pub invariant_of-result : goal.invariant_of-result
invariant_of-result c =
    let kept = keep c.in_ok-names.names _ _ c.in_ok-classes.classes.items c.as_slice-definitions.ensures c.in_ok-names.ensures c.in_ok-classes.ensures c.in_ok-check_classes.ensures c.requires in
    let every = c.in_ok-virtual_bases.ensures in
    let open_ones = c.in_ok-public_virtual_bases.ensures in (
      kept.0,
      kept.1,
      record {
        every_rows = subst (λ (h : Classes). AreRows h false c.in_ok-virtual_bases.virtual_bases.items) c.deref.ensures.value every.1;
        every_size = every.0 ∙ ap length c.deref.ensures.value;
        public_rows = subst (λ (h : Classes). AreRows h true c.in_ok-public_virtual_bases.public_virtual_bases.items) c.deref-2.ensures.value open_ones.1;
        public_size = open_ones.0 ∙ ap length c.deref-2.ensures.value;
      },
    )

pub returns-clause-ok : goal.returns-clause-ok
returns-clause-ok c = (
  ap faults_of (sym c.as_slice-definitions.ensures) ∙ c.in_ok-check_classes.ensures,
  same_classes c.in_ok-names.names _ _ c.in_ok-classes.classes.items c.as_slice-definitions.ensures c.in_ok-names.ensures c.in_ok-classes.ensures,
)
