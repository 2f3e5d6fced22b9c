-- The ops of copies.
use Rattle.std.proofs.Common.{◌≡◌, ℕ, zero, suc, ◌+◌, true, Option, Some, None, List, length}
use Rattle.std.specs.List.{slice_get}
use Rattle.cxx_hierarchy.specs.declared.records.ClassId.{ClassId}
use Rattle.cxx_hierarchy.specs.declared.records.Member.{Member}
use Rattle.cxx_hierarchy.specs.declared.records.FieldType.{FieldType}
use Rattle.cxx_hierarchy.specs.declared.records.FieldType.TheVariants.{Value as ValueField, Object}
use Rattle.cxx_hierarchy.specs.Classes.{members_of}
use Rattle.cxx_hierarchy.specs.Declarations.{elements_of}
use Rattle.cxx_subobject.specs.declared.Subobject.{Subobject}
use Rattle.cxx_subobject.specs.Subobjects.{class_of}
use Rattle.cxx_subobject.specs.Preorder.{preorder}
use Rattle.cxx_program.specs.declared.operand.TypedOperand.{TypedOperand}
use Rattle.cxx_program.specs.declared.statement.TypedKind.{TypedKind}
use Rattle.path_plan.specs.Plans.{upto}
use Rattle.abi_sound.specs.Locations.{element_place}
use Rattle.byte_code.specs.declared.op.Op.{Op}
use Rattle.code_statements.specs.declared.distances.Sides.{Sides}
use Rattle.code_ops.specs.declared.widths.LeafWidth.{LeafWidth}
use Rattle.code_ops.specs.declared.widths.LeafWidth.TheVariants.{Bytes as InBytes, Bits as InBits}
use Rattle.code_ops.specs.Leaves.{leaf_width, copy_op}
use Rattle.code_ops.specs.Setups.{Setup, Routine, places}
use Rattle.code_ops.specs.Operands.{operand_register, base_ops}
use Rattle.code_ops.specs.Arguments.{Block, free}
use Rattle.code_statements.specs.CopyOps.{typed_copies, member_copies, own_copies, object_copies, copy_sides, subobject_copies, copy_ops}
use Rattle.code_laws.specs.Kinds.{is_copy_of}
use Rattle.code_laws.proofs.Every.{May, AllMay, no_op, map_may, flat_may, both_may, done_may}

copy_may : (r : Routine) (k : TypedKind) → is_copy_of k ≡ true → (leaf : LeafWidth) (to from offset : ℕ) → May r k (copy_op leaf to from offset)
copy_may r k is (InBytes width) to from offset = is
copy_may r k is (InBits first width) to from offset = is

typed_may : (r : Routine) (k : TypedKind) → is_copy_of k ≡ true → (inside : ClassId → ℕ → List Op) → ((d : ClassId) (n : ℕ) → AllMay r k (inside d n)) →
    (sides : Sides) (leaf : LeafWidth) (at : ℕ → ℕ) (list : List ℕ) (type : FieldType ClassId) → AllMay r k (typed_copies inside sides leaf at list type)
typed_may r k is inside each sides leaf at list (ValueField type) = map_may r k (λ i. copy_op leaf sides.to sides.from (at i)) list (λ i. copy_may r k is leaf sides.to sides.from (at i))
typed_may r k is inside each sides leaf at list (Object d) = flat_may r k (λ i. inside d (at i)) list (λ i. each d (at i))

member_may : (r : Routine) (k : TypedKind) → is_copy_of k ≡ true → (inside : ClassId → ℕ → List Op) → ((d : ClassId) (n : ℕ) → AllMay r k (inside d n)) →
    (sides : Sides) (leaf : LeafWidth) (at : ℕ → ℕ) (member : Option (Member ClassId)) → AllMay r k (member_copies inside sides leaf at member)
member_may r k is inside each sides leaf at None = no_op
member_may r k is inside each sides leaf at (Some member) = typed_may r k is inside each sides leaf at (upto (elements_of member.count)) member.ty

own_may : (r : Routine) (k : TypedKind) → is_copy_of k ≡ true → (x : Setup) (inside : ClassId → ℕ → List Op) → ((d : ClassId) (n : ℕ) → AllMay r k (inside d n)) →
    (sides : Sides) (class : Option ClassId) (offset : ℕ) → AllMay r k (own_copies x inside sides class offset)
own_may r k is x inside each sides None offset = no_op
own_may r k is x inside each sides (Some d) offset =
    flat_may r k (λ m. member_copies inside sides (leaf_width x d m) (λ i. offset + element_place x.h (places x) (Some d) m i) (slice_get (members_of x.h d) m)) (upto (length (members_of x.h d)))
    (λ m. member_may r k is inside each sides (leaf_width x d m) (λ i. offset + element_place x.h (places x) (Some d) m i) (slice_get (members_of x.h d) m))

object_may : (r : Routine) (k : TypedKind) → is_copy_of k ≡ true → (x : Setup) (sides : Sides) (n : ℕ) (c : ClassId) (offset : ℕ) → AllMay r k (object_copies x sides n c offset)
object_may r k is x sides zero c offset = no_op
object_may r k is x sides (suc n) c offset =
    flat_may r k (λ s. own_copies x (object_copies x sides n) sides (class_of s) (offset + (places x).place c s)) (preorder x.h c)
    (λ s. own_may r k is x (object_copies x sides n) (object_may r k is x sides n) sides (class_of s) (offset + (places x).place c s))

subobject_may : (r : Routine) (k : TypedKind) → is_copy_of k ≡ true → (b : Block) (to from : ℕ) (c : ClassId) (s : Subobject) → AllMay r k (subobject_copies b to from c s)
subobject_may r k is b to from c s =
    both_may (done_may r k (base_ops b.x c s (free b 2) to))
    (both_may (done_may r k (base_ops b.x c s (free b 3) from))
    (own_may r k is b.x (object_copies b.x (copy_sides b) c.0) (object_may r k is b.x (copy_sides b) c.0) (copy_sides b) (class_of s) 0))

pub copies_may : (r : Routine) (k : TypedKind) → is_copy_of k ≡ true → (b : Block) (to from : TypedOperand) (c : ClassId) → AllMay r k (copy_ops b to from c)
copies_may r k is b to from c =
    flat_may r k (subobject_copies b (operand_register (free b 0) to) (operand_register (free b 1) from) c) (preorder b.x.h c)
    (λ s. subobject_may r k is b (operand_register (free b 0) to) (operand_register (free b 1) from) c s)
