-- What a copy tests: both pointers, and the class members that it covers.
use Rattle.std.specs.Prelude.{ℕ, zero, suc, ◌+◌, Option, Some, None, List, [], ◌∷◌, ◌++◌, length, slice_get}
use Rattle.std.specs.List.{flat_map}
use Rattle.cxx_hierarchy.specs.declared.records.ClassId.{ClassId}
use Rattle.cxx_hierarchy.specs.declared.records.Member.{Member}
use Rattle.cxx_hierarchy.specs.declared.records.FieldType.{FieldType}
use Rattle.cxx_hierarchy.specs.declared.records.FieldType.TheVariants.{Value as ValueField, Object}
use Rattle.cxx_hierarchy.specs.Classes.{members_of}
use Rattle.cxx_hierarchy.specs.Declarations.{elements_of}
use Rattle.cxx_search.specs.Searches.{has_virtual_base}
use Rattle.cxx_program.specs.declared.operand.TypedOperand.{TypedOperand}
use Rattle.path_plan.specs.Plans.{upto}
use Rattle.abi_sound.specs.Locations.{element_place}
use Rattle.code_ops.specs.Setups.{Setup, places}
use Rattle.byte_code.specs.declared.op.Op.{Op}
use Rattle.code_ops.specs.Operands.{operand_ops, operand_register}
use Rattle.code_ops.specs.declared.uses.Used.{Used}
use Rattle.code_ops.specs.declared.uses.Used.TheVariants.{Guards}
use Rattle.code_ops.specs.Uses.{arrow_used, views_if}
use Rattle.code_ops.specs.Arguments.{Block, free}

-- each element of a member that is an object, so many bytes behind a register, and the class members inside it
abbrev pub element_used : (inside : ClassId → ℕ → List Used) → (r : ℕ) (at : ℕ → ℕ) → List ℕ → FieldType ClassId → List Used
element_used inside r at indices (ValueField type) = []
element_used inside r at indices (Object d) = flat_map (λ i. Guards r (at i) d.0 ∷ inside d (at i)) indices

-- the same, of a member that is there
abbrev pub member_used : (inside : ClassId → ℕ → List Used) → (r : ℕ) (at : ℕ → ℕ) → Option (Member ClassId) → List Used
member_used inside r at None = []
member_used inside r at (Some member) = element_used inside r at (upto (elements_of member.count)) member.ty

-- the class members that class c declares itself, and in these likewise, in an object so many bytes behind a register; what lies in
-- proper bases of a ready part is complete, and needs no test. For classes of numbers below n
abbrev pub covered_used : Setup → (r n : ℕ) → ClassId → (offset : ℕ) → List Used
covered_used x r zero c offset = []
covered_used x r (suc n) c offset =
    flat_map (λ m. member_used (covered_used x r n) r (λ i. offset + element_place x.h (places x) (Some c) m i) (slice_get (members_of x.h c) m)) (upto (length (members_of x.h c)))

-- what is read before the tests
abbrev pub copy_front : Block → (to from : TypedOperand) → List Op
copy_front b to from = operand_ops (free b 0) to ++ operand_ops (free b 1) from

-- the tests of a copy between two parts of class c
abbrev pub copy_used : Block → (to from : TypedOperand) → ClassId → List Used
copy_used b to from c =
    arrow_used b.scope (free b 0) to c ++ (arrow_used b.scope (free b 1) from c
    ++ (views_if (has_virtual_base b.x.h c) (operand_register (free b 0) to) 0 c ++ (views_if (has_virtual_base b.x.h c) (operand_register (free b 1) from) 0 c
    ++ (covered_used b.x (operand_register (free b 0) to) (c.0 + 1) c 0 ++ covered_used b.x (operand_register (free b 1) from) (c.0 + 1) c 0))))
