-- One object and one subobject more is copied, and all of them.
use Rattle.std.proofs.Common.{◌≡◌, ℕ, zero, suc, ◌+◌, ◌*◌, ◌<◌, ◌≤◌, Option, Some, append_assoc, List, [], ◌++◌, map, length, take, get_or, ap, sym, ◌∙◌, arith}
use Rattle.std.specs.List.{flat_map}
use Rattle.cxx_hierarchy.specs.declared.records.ClassId.{ClassId}
use Rattle.cxx_hierarchy.specs.declared.records.Member.{Member}
use Rattle.cxx_hierarchy.specs.declared.records.FieldType.{FieldType}
use Rattle.cxx_hierarchy.specs.declared.records.FieldType.TheVariants.{Value}
use Rattle.cxx_hierarchy.specs.declared.records.ValueType.{ValueType}
use Rattle.cxx_hierarchy.specs.Declarations.{elements_of}
use Rattle.cxx_hierarchy.specs.Hierarchies.{IsHierarchy}
use Rattle.cxx_subobject.specs.declared.Subobject.{Subobject}
use Rattle.cxx_subobject.specs.Subobjects.{IsSubobject, class_of}
use Rattle.cxx_subobject.specs.Preorder.{preorder}
use Rattle.cxx_subobject.proofs.PathLemmas.{class_low}
use Rattle.byte_code.specs.declared.op.Op.{Op}
use Rattle.path_plan.specs.Plans.{upto}
use Rattle.abi_sound.specs.Locations.{size_of_type}
use Rattle.code_ops.specs.declared.widths.LeafWidth.{LeafWidth}
use Rattle.code_ops.specs.Leaves.{copy_op}
use Rattle.code_ops.specs.Setups.{Setup, places}
use Rattle.code_statements.specs.declared.distances.Sides.{Sides}
use Rattle.std.proofs.lemmas.List.{map-append, take_all}
use Rattle.cxx_program.specs.declared.operand.TypedOperand.{TypedOperand}
use Rattle.byte_code.specs.declared.op.Finish.{Finish}
use Rattle.byte_code.specs.declared.op.Op.TheVariants.{Does}
use Rattle.code_ops.specs.Operands.{operand_register, base_ops, ops_of}
use Rattle.code_ops.specs.Arguments.{Block, free}
use Rattle.code_statements.specs.CopyOps.{copy_ops, subobject_copies, own_copies, object_copies, typed_copies}
use Rattle.code_statements.specs.invariants.Pushes.{CopiesOwn, CopiesBases, CopiesMember, CopiesWholeObject}
use Rattle.code_statements.proofs.Pushed.{items_flat}

-- the leaves of an object of class d, as the definition counts classes
pub object_copied : (x : Setup) (sides : Sides) (d : ClassId) (at : ℕ) (mid new : List Op) → CopiesWholeObject x sides d at mid new → (n : ℕ) → d.0 < n → new ≡ mid ++ object_copies x sides n d at
object_copied x sides d at mid new more zero low = absurd (omega arith)
object_copied x sides d at mid new more (suc n) low = more.adds n (omega arith)

-- the elements of a member that are numbers or pointers
pub values_whole : (x : Setup) (sides : Sides) (b : ClassId) (leaf : LeafWidth) (type : ValueType ClassId) (member : Member ClassId) (start : ℕ) (old new : List Op) → member.ty ≡ Value type → new ≡ old ++ map (λ i. copy_op leaf sides.to sides.from (start + i * size_of_type (places x) member.ty)) (upto (elements_of member.count))
    → CopiesMember x sides b leaf member start old new
values_whole x sides b leaf type member start old new is added = record {
  adds = λ n low.
      let at : ℕ → ℕ = λ i. start + i * size_of_type (places x) member.ty in
      added ∙ ap (λ (u : FieldType ClassId). old ++ typed_copies (object_copies x sides n) sides leaf at (upto (elements_of member.count)) u) (sym is);
}

pub bases_next : (x : Setup) → IsHierarchy x.h → (sides : Sides) (d b : ClassId) (offset start : ℕ) (list : List Subobject) (j : ℕ) (s : Subobject) (old mid new : List Op) → j < length list → s ≡ get_or list j s → IsSubobject x.h d s → class_of s ≡ Some b → start ≡ offset + (places x).place d s
    → CopiesBases x sides d offset (take j list) old mid → CopiesOwn x sides b start mid new → CopiesBases x sides d offset (take (j + 1) list) old new
bases_next x keeps sides d b offset start list j s old mid new less at valid class is before more = record {
  adds = λ n low.
      let lower = class_low x.h keeps d b s valid class in
      let give = λ (t : Subobject). own_copies x (object_copies x sides n) sides (class_of t) (offset + (places x).place d t) in
      let last : new ≡ mid ++ give s =
      more.adds n (omega arith)
      ∙ ap (λ (k : ℕ). mid ++ own_copies x (object_copies x sides n) sides (Some b) k) is
      ∙ ap (λ o. mid ++ own_copies x (object_copies x sides n) sides o (offset + (places x).place d s)) (sym class) in
      items_flat give list j s old mid new less at (before.adds n low) last;
}

-- a subobject of class d of two parts of class c: the ways to it in both, and its own members
pub subobject_copied : (b : Block) (to from : ℕ) (c d : ClassId) (s : Subobject) (first second : ℕ) (none one two list : List Finish) (old mid new : List Op) → first ≡ free b 2 → second ≡ free b 3 → none ≡ [] → one ≡ none ++ base_ops b.x c s first to → two ≡ one ++ base_ops b.x c s second from → list ≡ two
    → mid ≡ old ++ ops_of list → class_of s ≡ Some d → d.0 ≤ c.0 → CopiesOwn b.x (record { to = first; from = second }) d 0 mid new → new ≡ old ++ subobject_copies b to from c s
subobject_copied b to from c d s first second none one two list old mid new is_first is_second empty ways_to ways_from listed done class low added =
    let x = b.x in
    let give = λ (f g : ℕ). ops_of (base_ops x c s f to) ++ (ops_of (base_ops x c s g from) ++ own_copies x (object_copies x (record { to = f; from = g }) c.0) (record { to = f; from = g }) (class_of s) 0) in
    let ways : list ≡ base_ops x c s first to ++ base_ops x c s second from = listed ∙ (ways_from ∙ ap (λ (l : List Finish). l ++ base_ops x c s second from) (ways_to ∙ ap (λ (l : List Finish). l ++ base_ops x c s first to) empty)) in
    let split : ops_of (base_ops x c s first to ++ base_ops x c s second from) ≡ ops_of (base_ops x c s first to) ++ ops_of (base_ops x c s second from) = map-append Does (base_ops x c s first to) (base_ops x c s second from) in
    let own = own_copies x (object_copies x (record { to = first; from = second }) c.0) (record { to = first; from = second }) (class_of s) 0 in
    let last : new ≡ mid ++ own = added.adds c.0 low ∙ ap (λ (o : Option ClassId). mid ++ own_copies x (object_copies x (record { to = first; from = second }) c.0) (record { to = first; from = second }) o 0) (sym class) in
    let whole : new ≡ old ++ give first second =
    last ∙ (ap (λ (l : List Op). l ++ own) (done ∙ ap (λ (l : List Op). old ++ l) (ap ops_of ways ∙ split)) ∙ (append_assoc old (ops_of (base_ops x c s first to) ++ ops_of (base_ops x c s second from)) own
    ∙ ap (λ (l : List Op). old ++ l) (append_assoc (ops_of (base_ops x c s first to)) (ops_of (base_ops x c s second from)) own))) in
    whole ∙ (ap (λ (f : ℕ). old ++ give f second) is_first ∙ ap (λ (g : ℕ). old ++ give (free b 2) g) is_second)

-- all subobjects of the two parts that operands point to
pub all_copied : (b : Block) (to from : TypedOperand) (c : ClassId) (first second read again : ℕ) (bases list : List Subobject) (j : ℕ) (old new : List Op) → read ≡ free b 0 → again ≡ free b 1 → first ≡ operand_register read to → second ≡ operand_register again from → list ≡ bases → bases ≡ preorder b.x.h c → length list ≤ j
    → new ≡ old ++ flat_map (subobject_copies b first second c) (take j list) → new ≡ old ++ copy_ops b to from c
all_copied b to from c first second read again bases list j old new is_read is_again is_first is_second listed is past e =
    e ∙ (ap (λ (l : List Subobject). old ++ flat_map (subobject_copies b first second c) l) (take_all j list past ∙ (listed ∙ is))
    ∙ (ap (λ (r : ℕ). old ++ flat_map (subobject_copies b r second c) (preorder b.x.h c)) (is_first ∙ ap (λ (r : ℕ). operand_register r to) is_read)
    ∙ ap (λ (r : ℕ). old ++ flat_map (subobject_copies b (operand_register (free b 0) to) r c) (preorder b.x.h c)) (is_second ∙ ap (λ (r : ℕ). operand_register r from) is_again)))
