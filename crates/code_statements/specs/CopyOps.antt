-- What a copy does: leaf by leaf, from the same subobject of one part to that of the other.
use Rattle.std.specs.Prelude.{ℕ, zero, suc, ◌+◌, Option, Some, None, List, [], ◌++◌, length, slice_get, map}
use Rattle.std.specs.List.{flat_map}
use Rattle.cxx_hierarchy.specs.declared.records.ClassId.{ClassId}
use Rattle.cxx_hierarchy.specs.declared.records.Member.{Member}
use Rattle.cxx_hierarchy.specs.declared.records.FieldType.{FieldType}
use Rattle.cxx_hierarchy.specs.declared.records.FieldType.TheVariants.{Value as ValueField, Object}
use Rattle.cxx_hierarchy.specs.Classes.{members_of}
use Rattle.cxx_hierarchy.specs.Declarations.{elements_of}
use Rattle.cxx_subobject.specs.declared.Subobject.{Subobject}
use Rattle.cxx_subobject.specs.Subobjects.{class_of}
use Rattle.cxx_subobject.specs.Preorder.{preorder}
use Rattle.cxx_program.specs.declared.operand.TypedOperand.{TypedOperand}
use Rattle.path_plan.specs.Plans.{upto}
use Rattle.abi_sound.specs.Locations.{element_place}
use Rattle.byte_code.specs.declared.op.Op.{Op}
use Rattle.code_statements.specs.declared.distances.Sides.{Sides}
use Rattle.code_ops.specs.Setups.{Setup, places}
use Rattle.code_ops.specs.declared.widths.LeafWidth.{LeafWidth}
use Rattle.code_ops.specs.Leaves.{leaf_width, copy_op}
use Rattle.code_ops.specs.Operands.{operand_register, base_ops, ops_of}
use Rattle.code_ops.specs.Arguments.{Block, free}

-- the leaves of a member: a value is copied itself, by how it stands, an object by what is inside it
abbrev pub typed_copies : (inside : ClassId → ℕ → List Op) → Sides → LeafWidth → (at : ℕ → ℕ) → List ℕ → FieldType ClassId → List Op
typed_copies inside sides leaf at indices (ValueField type) = map (λ i. copy_op leaf sides.to sides.from (at i)) indices
typed_copies inside sides leaf at indices (Object d) = flat_map (λ i. inside d (at i)) indices

-- the same, of a member that is there
abbrev pub member_copies : (inside : ClassId → ℕ → List Op) → Sides → LeafWidth → (at : ℕ → ℕ) → Option (Member ClassId) → List Op
member_copies inside sides leaf at None = []
member_copies inside sides leaf at (Some member) = typed_copies inside sides leaf at (upto (elements_of member.count)) member.ty

-- the leaves of the members that the class of a subobject declares; it lies so many bytes behind the registers
abbrev pub own_copies : Setup → (inside : ClassId → ℕ → List Op) → Sides → Option ClassId → (offset : ℕ) → List Op
own_copies x inside sides None offset = []
own_copies x inside sides (Some d) offset =
    flat_map (λ m. member_copies inside sides (leaf_width x d m) (λ i. offset + element_place x.h (places x) (Some d) m i) (slice_get (members_of x.h d) m)) (upto (length (members_of x.h d)))

-- the leaves of a complete object of class c, all at constant distances, for classes of numbers below n
abbrev pub object_copies : Setup → Sides → (n : ℕ) → ClassId → (offset : ℕ) → List Op
object_copies x sides zero c offset = []
object_copies x sides (suc n) c offset = flat_map (λ s. own_copies x (object_copies x sides n) sides (class_of s) (offset + (places x).place c s)) (preorder x.h c)

-- where the two parts' same subobject is found
abbrev pub copy_sides : Block → Sides
copy_sides b = record { to = free b 2; from = free b 3 }

-- a subobject of class c: its address in both parts, and the leaves of its own members; its bases are subobjects of their own
abbrev pub subobject_copies : Block → (to from : ℕ) → ClassId → Subobject → List Op
subobject_copies b to from c s =
    ops_of (base_ops b.x c s (free b 2) to) ++ (ops_of (base_ops b.x c s (free b 3) from) ++ own_copies b.x (object_copies b.x (copy_sides b) c.0) (copy_sides b) (class_of s) 0)

-- all subobjects of class c, each virtual base once
abbrev pub copy_ops : Block → (to from : TypedOperand) → ClassId → List Op
copy_ops b to from c = flat_map (subobject_copies b (operand_register (free b 0) to) (operand_register (free b 1) from) c) (preorder b.x.h c)
