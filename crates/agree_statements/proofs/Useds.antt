-- What a statement uses is tested in the registers that have its values.
use Rattle.std.proofs.Common.{◌≡◌, ℕ, Bool, true, false, Option, Some, List, [], ◌∷◌, inl, inr, pos, refl, ap, sym, subst, arith}
use Rattle.std.specs.Prelude.{ℤ}
use Rattle.foundation.proofs.Members.{Has}
use Rattle.cxx_hierarchy.specs.declared.records.ClassId.{ClassId}
use Rattle.cxx_hierarchy.specs.declared.records.Scalar.{Scalar}
use Rattle.cxx_hierarchy.specs.declared.records.ValueType.{ValueType}
use Rattle.cxx_hierarchy.specs.declared.records.ValueType.TheVariants.{Number as NumberType, Pointer as PointerType}
use Rattle.cxx_hierarchy.specs.Classes.{Classes}
use Rattle.cxx_subobject.specs.declared.Subobject.{Subobject}
use Rattle.cxx_subobject.specs.Subobjects.{IsSubobject, whole, shared}
use Rattle.abi_primary.specs.Kinds.{IsDynamic}
use Rattle.cxx_subobject.specs.Locations.{ObjectPart}
use Rattle.cxx_program.specs.declared.operand.TypedOperand.{TypedOperand}
use Rattle.cxx_program.specs.declared.operand.TypedOperand.TheVariants.{Variable as VariableOperand, This, Number as NumberOperand}
use Rattle.cxx_program.specs.declared.operand.Conversion.{Conversion}
use Rattle.cxx_program.specs.declared.operand.Argument.{Argument}
use Rattle.cxx_program.specs.declared.statement.Arithmetic.{Arithmetic as Operator}
use Rattle.cxx_program.specs.Typed.{Scope, HasType, of_variable, of_this, of_number, Converts, to_number, to_same, to_base, IsArgument, a_value, a_null, IsKept, whole as kept_whole, in_bits}
use Rattle.path_rules.specs.declared.Undefined.{Undefined}
use Rattle.path_rules.specs.declared.Undefined.TheVariants.{NullUse, Dangling, NotReady, OutsideView, Unset as UnsetUse, Overflow}
use Rattle.path_rules.specs.Rules.{undefined_no}
use Rattle.path_model.specs.Values.{Value, Unset, Number, Null, Pointer, Objects, Sight, value_of_operand}
use Rattle.path_model.specs.Uses.{StatementUse, Reads, Follows, Guards, Passes, Views, Overflows, uses_of_view, convert, arrow, argument_uses, is_shared}
use Rattle.path_model.specs.Rules.{breaks, is_unready, names, is_broken}
use Rattle.path_model.specs.TypedStates.{IsPartMade, IsValue}
use Rattle.path_model.proofs.TypedValues.{IsTypedSight, operand_typed}
use Rattle.abi_primary.proofs.KindLemmas.{base_dynamic}
use Rattle.byte_machine.specs.Running.{Running, Stop, register, moved}
use Rattle.code_ops.specs.Arguments.{Block, argument_used}
use Rattle.code_ops.specs.Operands.{operand_class, operand_register, pointed, pointed_in}
use Rattle.code_ops.specs.Setups.{width_of}
use Rattle.code_ops.specs.Uses.{checks_of, reads, reads_by, views_if, convert_used, arrow_used}
use Rattle.code_ops.specs.declared.uses.Used.{Used}
use Rattle.code_ops.specs.declared.uses.Used.TheVariants.{ReadsNumber, ReadsPointer, Follows as FollowsWord, Guards as GuardsWord, Views as ViewsWord, Overflows as OverflowsWords}
use Rattle.code_statements.specs.Rights.{arith_kind}
use Rattle.agree_parts.specs.Addresses.{address}
use Rattle.agree_relation.specs.Worlds.{World, IsProgramWorld, world_classes, places_in, fixed}
use Rattle.agree_relation.specs.Words.{register_word}
use Rattle.agree_relation.specs.Columns.{ColumnsStand}
use Rattle.agree_statements.specs.Tests.{NoneBefore, Decide, IsTested, Along, nothing, tested, unasked}
use Rattle.agree_statements.proofs.Numbers.{IsWide}
use Rattle.agree_statements.proofs.Tests.{along_append, unbroken}
use Rattle.agree_statements.proofs.Checks.{heap, TellsView, decides_null, decides_open, decides_set, decides_ready, decides_guard, decides_view, decides_fits}

-- of each part that is open, ready and dynamic the notes tell the view
pub record TellsViews (w : World) (s : Objects) (b : Running) : Type 0 where
  pub of : (p : ObjectPart) (c : ClassId) → IsPartMade (world_classes w) s.classes p c → s.is_closed p.object ≡ false → is_unready s p ≡ false → IsDynamic (world_classes w) c → TellsView w s b p c

-- a class with a virtual base is dynamic
pub shared_dynamic : (h : Classes) (c : ClassId) (i : Subobject) → IsSubobject h c i → is_shared i ≡ true → IsDynamic h c
shared_dynamic h c _ (whole path leads) e = absurd (let f : false ≡ true = e in cc)
shared_dynamic h c _ (shared v path has leads) e = base_dynamic h c v has

-- the class of a pointer operand
pub operand_class_is : (e : Scope) (x : TypedOperand) (c : ClassId) → HasType e x (PointerType c) → operand_class e x ≡ Some c
operand_class_is e (VariableOperand x) c (of_variable _ t there) = ap pointed_in there
operand_class_is e This c (of_this _ there) = there
operand_class_is e (NumberOperand z) c typed = elim typed [ ]

-- the class of an operand, where it is a pointer
pub class_of_type : (e : Scope) (x : TypedOperand) (t : ValueType ClassId) → HasType e x t → operand_class e x ≡ pointed t
class_of_type e (VariableOperand x) t (of_variable _ _ there) = ap pointed_in there
class_of_type e This t (of_this _ there) = there
class_of_type e (NumberOperand z) t (of_number _ _ range) = refl

-- a number is no pointer
number_open : (w : World) (s : Objects) (v : Value) (t : Scalar) → IsValue (world_classes w) s.classes v (NumberType t) → names (λ p. s.is_closed p.object) v ≡ false
number_open w s Unset t typed = refl
number_open w s (Number z) t typed = refl
number_open w s Null t typed = refl
number_open w s (Pointer p) t typed = absurd typed

module _ (w : World) (see : Sight) (b : Running) (P : Running → Stop → Type 0) (world : IsProgramWorld w) (columns : ColumnsStand w see.objects b.memory b.objects b.heap b.notes) (all : List StatementUse) where
  -- each value in the register that has it
  abbrev pub Holds : ℕ → Value → Type 0
  Holds r v = register b r ≡ register_word w (heap w see.objects b P world columns) v

  abbrev pub Tested : StatementUse → Used → Type 0
  Tested u d = IsTested (fixed w) b P (world_classes w) see.objects all u d

  abbrev pub Goes : List StatementUse → List Used → Type 0
  Goes us ds = Along (fixed w) b P (world_classes w) see.objects all us ds

  pub number_read : (r : ℕ) (v : Value) (t : Scalar) → IsValue (world_classes w) see.objects.classes v (NumberType t) → Holds r v → Tested (Reads v) (ReadsNumber r)
  number_read r v t typed e = record { each = by_rule }
    where
      by_rule : (rule : Undefined) → NoneBefore (world_classes w) see.objects all rule → Decide (fixed w) b P (undefined_no rule) (checks_of rule (ReadsNumber r)) (breaks (world_classes w) see.objects rule (Reads v))
      by_rule Dangling before = number_open w see.objects v t typed
      by_rule UnsetUse before = decides_set w see.objects b P world columns r v e
      by_rule rule before = refl

  pub pointer_read : (r : ℕ) (v : Value) (c : ClassId) → IsValue (world_classes w) see.objects.classes v (PointerType c) → Holds r v → Tested (Reads v) (ReadsPointer r)
  pointer_read r v c typed e = record { each = by_rule }
    where
      by_rule : (rule : Undefined) → NoneBefore (world_classes w) see.objects all rule → Decide (fixed w) b P (undefined_no rule) (checks_of rule (ReadsPointer r)) (breaks (world_classes w) see.objects rule (Reads v))
      by_rule Dangling before = decides_open w see.objects b P world columns r v c typed e
      by_rule UnsetUse before = decides_set w see.objects b P world columns r v e
      by_rule rule before = refl

  pub followed : (r : ℕ) (v : Value) (c : ClassId) → IsValue (world_classes w) see.objects.classes v (PointerType c) → Holds r v → Tested (Follows v) (FollowsWord r)
  followed r v c typed e = record { each = by_rule }
    where
      by_rule : (rule : Undefined) → NoneBefore (world_classes w) see.objects all rule → Decide (fixed w) b P (undefined_no rule) (checks_of rule (FollowsWord r)) (breaks (world_classes w) see.objects rule (Follows v))
      by_rule NullUse before = decides_null w see.objects b P world columns r v c typed e
      by_rule rule before = refl

  pub guarded : (r : ℕ) (v : Value) (c : ClassId) → IsValue (world_classes w) see.objects.classes v (PointerType c) → Holds r v → Tested (Guards v) (GuardsWord r 0 c.0)
  guarded r v c typed e = record { each = by_rule }
    where
      by_rule : (rule : Undefined) → NoneBefore (world_classes w) see.objects all rule → Decide (fixed w) b P (undefined_no rule) (checks_of rule (GuardsWord r 0 c.0)) (breaks (world_classes w) see.objects rule (Guards v))
      by_rule NotReady before = decides_guard w see.objects b P world columns r v c typed e
      by_rule rule before = refl

  -- a class member that lies so far behind the address of a register
  pub passed : (r offset at : ℕ) (p : ObjectPart) (c : ClassId) → IsPartMade (world_classes w) see.objects.classes p c → register b r ≡ Some at → (at ≡ 0 → ⊥) → moved at offset ≡ address (world_classes w) (places_in w) (heap w see.objects b P world columns) p → Tested (Passes p) (GuardsWord r offset c.0)
  passed r offset at p c made e some there = record { each = by_rule }
    where
      by_rule : (rule : Undefined) → NoneBefore (world_classes w) see.objects all rule → Decide (fixed w) b P (undefined_no rule) (checks_of rule (GuardsWord r offset c.0)) (breaks (world_classes w) see.objects rule (Passes p))
      by_rule NotReady before = decides_ready w see.objects b P world columns r offset at p c made e some there
      by_rule rule before = refl

  -- a pointer that leads to no closed object, where the tests of such pointers passed
  abbrev pub IsOpenThen : Value → Type 0
  IsOpenThen v = is_broken (world_classes w) see.objects all Dangling ≡ false → names (λ p. see.objects.is_closed p.object) v ≡ false

  pub open_read : (v : Value) → Has all (Reads v) → IsOpenThen v
  open_read v has none = unbroken (fixed w) b P (world_classes w) see.objects all (Reads v) Dangling none has

  -- the view of a pointer that is guarded
  pub viewed : (r : ℕ) (v : Value) (c : ClassId) → TellsViews w see.objects b → IsOpenThen v → Has all (Guards v) → IsDynamic (world_classes w) c → IsValue (world_classes w) see.objects.classes v (PointerType c) → Holds r v → Tested (Views v) (ViewsWord r 0 c.0)
  viewed r v c tells open_then guards dynamic typed e = record { each = by_rule }
    where
      seen : is_broken (world_classes w) see.objects all NotReady ≡ false → is_broken (world_classes w) see.objects all Dangling ≡ false → (p : ObjectPart) → v ≡ Pointer p → TellsView w see.objects b p c
      seen none fine p is =
          let made = subst (λ (x : Value). IsValue (world_classes w) see.objects.classes x (PointerType c)) is typed in
          let ready = unbroken (fixed w) b P (world_classes w) see.objects all (Guards v) NotReady none guards in
          tells.of p c made (subst (λ (x : Value). names (λ q. see.objects.is_closed q.object) x ≡ false) is (open_then fine)) (subst (λ (x : Value). names (is_unready see.objects) x ≡ false) is ready) dynamic

      by_rule : (rule : Undefined) → NoneBefore (world_classes w) see.objects all rule → Decide (fixed w) b P (undefined_no rule) (checks_of rule (ViewsWord r 0 c.0)) (breaks (world_classes w) see.objects rule (Views v))
      by_rule OutsideView before = decides_view w see.objects b P world columns r v c typed e (seen (before NotReady (omega arith)) (before Dangling (omega arith)))
      by_rule rule before = refl

  pub calculated : (op : Operator) (t a b' : Scalar) (left right : ℕ) (x y : Value) → IsWide t → IsValue (world_classes w) see.objects.classes x (NumberType a) → IsValue (world_classes w) see.objects.classes y (NumberType b') → Holds left x → Holds right y →
      Tested (Overflows op t x y) (OverflowsWords (arith_kind op) (width_of t) left right)
  calculated op t a b' left right x y wide typed typed' e e' = record { each = by_rule }
    where
      by_rule : (rule : Undefined) → NoneBefore (world_classes w) see.objects all rule → Decide (fixed w) b P (undefined_no rule) (checks_of rule (OverflowsWords (arith_kind op) (width_of t) left right)) (breaks (world_classes w) see.objects rule (Overflows op t x y))
      by_rule Overflow before = decides_fits w see.objects b P world columns op t a b' left right x y wide typed typed' e e'
      by_rule rule before = refl

  -- operands

  number_fine : (z : ℤ) (rule : Undefined) → breaks (world_classes w) see.objects rule (Reads (Number z)) ≡ false
  number_fine z rule = by_rule rule
    where
      by_rule : (rule : Undefined) → breaks (world_classes w) see.objects rule (Reads (Number z)) ≡ false
      by_rule NullUse = refl
      by_rule rule = refl

  read_by : (v : Value) (t : ValueType ClassId) (r : ℕ) → IsValue (world_classes w) see.objects.classes v t → Holds r v → Goes (Reads v ∷ []) (reads_by (pointed t) r)
  read_by v (NumberType t) r typed e = tested (Reads v) (ReadsNumber r) (number_read r v t typed e) nothing
  read_by v (PointerType c) r typed e = tested (Reads v) (ReadsPointer r) (pointer_read r v c typed e) nothing

  pub along_reads : (e : Scope) (r : ℕ) (x : TypedOperand) (t : ValueType ClassId) → IsTypedSight (world_classes w) e see → HasType e x t → Holds (operand_register r x) (value_of_operand see x) → Goes (Reads (value_of_operand see x) ∷ []) (reads e r x)
  along_reads e r (VariableOperand x) t typed (of_variable _ _ there) holds =
      subst (λ (c : Option ClassId). Goes (Reads (value_of_operand see (VariableOperand x)) ∷ []) (reads_by c (operand_register r (VariableOperand x)))) (sym (ap pointed_in there))
      (read_by (value_of_operand see (VariableOperand x)) t (operand_register r (VariableOperand x)) (operand_typed (world_classes w) e see typed (VariableOperand x) t (of_variable x t there)) holds)
  along_reads e r This t typed (of_this c there) holds =
      subst (λ (o : Option ClassId). Goes (Reads (value_of_operand see This) ∷ []) (reads_by o 0)) (sym there)
      (read_by (value_of_operand see This) (PointerType c) 0 (operand_typed (world_classes w) e see typed This (PointerType c) (of_this c there)) holds)
  along_reads e r (NumberOperand z) t typed (of_number _ u range) holds = unasked (Reads (Number z)) (number_fine z) nothing

  pub along_views : (needed : Bool) (r : ℕ) (v : Value) (c : ClassId) → TellsViews w see.objects b → IsOpenThen v → Has all (Guards v) → (needed ≡ true → IsDynamic (world_classes w) c) → IsValue (world_classes w) see.objects.classes v (PointerType c) → Holds r v → Goes (uses_of_view needed v) (views_if needed r 0 c)
  along_views true r v c tells open_then guards dynamic typed e = tested (Views v) (ViewsWord r 0 c.0) (viewed r v c tells open_then guards (dynamic refl) typed e) nothing
  along_views false r v c tells open_then guards dynamic typed e = nothing

  -- what is asked of a conversion is asked among all
  abbrev pub Within : List StatementUse → Type 0
  Within us = (u : StatementUse) → Has us u → Has all u

  pub along_convert : (r : ℕ) (v : Value) (s t : ValueType ClassId) (c : Conversion) → TellsViews w see.objects b → IsOpenThen v → Within (convert v c) → Converts (world_classes w) s c t → IsValue (world_classes w) see.objects.classes v s → Holds r v → Goes (convert v c) (convert_used (pointed s) c r)
  along_convert r v _ _ _ tells open_then within (to_number s t) typed e = nothing
  along_convert r v _ _ _ tells open_then within (to_same t) typed e = nothing
  along_convert r v _ _ _ tells open_then within (to_base c d i proper) typed e =
      tested (Guards v) (GuardsWord r 0 c.0) (guarded r v c typed e) (along_views (is_shared i) r v c tells open_then (within (Guards v) (inl refl)) (shared_dynamic (world_classes w) c i proper.valid) typed e)

  pub along_arrow : (e : Scope) (r : ℕ) (x : TypedOperand) (c : ClassId) → IsTypedSight (world_classes w) e see → HasType e x (PointerType c) → Holds (operand_register r x) (value_of_operand see x) → Goes (arrow (value_of_operand see x)) (arrow_used e r x c)
  along_arrow e r x c typed has holds =
      let value_typed = operand_typed (world_classes w) e see typed x (PointerType c) has in
      along_append (fixed w) b P (world_classes w) see.objects all (Reads (value_of_operand see x) ∷ []) (Follows (value_of_operand see x) ∷ Guards (value_of_operand see x) ∷ []) (reads e r x) (FollowsWord (operand_register r x) ∷ GuardsWord (operand_register r x) 0 c.0 ∷ [])
      (along_reads e r x (PointerType c) typed has holds)
      (tested (Follows (value_of_operand see x)) (FollowsWord (operand_register r x)) (followed (operand_register r x) (value_of_operand see x) c value_typed holds)
      (tested (Guards (value_of_operand see x)) (GuardsWord (operand_register r x) 0 c.0) (guarded (operand_register r x) (value_of_operand see x) c value_typed holds) nothing))

  pub along_argument : (block : Block) (r : ℕ) (a : Argument) (t : ValueType ClassId) → IsTypedSight (world_classes w) block.scope see → TellsViews w see.objects b → Within (argument_uses see a) → IsArgument (world_classes w) block.scope a t → Holds (operand_register r a.operand) (value_of_operand see a.operand) →
      Goes (argument_uses see a) (argument_used block a r)
  along_argument block r _ _ typed tells within (a_value a s t has to) holds =
      along_append (fixed w) b P (world_classes w) see.objects all (Reads (value_of_operand see a.operand) ∷ []) (convert (value_of_operand see a.operand) a.conversion) (reads block.scope r a.operand) (convert_used (operand_class block.scope a.operand) a.conversion (operand_register r a.operand))
      (along_reads block.scope r a.operand s typed has holds)
      (subst (λ (c : Option ClassId). Goes (convert (value_of_operand see a.operand) a.conversion) (convert_used c a.conversion (operand_register r a.operand))) (sym (class_of_type block.scope a.operand s has))
      (along_convert (operand_register r a.operand) (value_of_operand see a.operand) s t a.conversion tells (open_read (value_of_operand see a.operand) (within (Reads (value_of_operand see a.operand)) (inl refl))) (λ u there. within u (inr there)) to (operand_typed (world_classes w) block.scope see typed a.operand s has) holds))
  along_argument block r _ _ typed tells within (a_null d) holds = unasked (Reads (Number (pos 0))) (number_fine (pos 0)) nothing

  -- and of one that a leaf of some width keeps
  pub along_kept : (block : Block) (r : ℕ) (width : Option ℕ) (a : Argument) (t : ValueType ClassId) → IsTypedSight (world_classes w) block.scope see → TellsViews w see.objects b → Within (argument_uses see a) → IsKept (world_classes w) block.scope width a t → Holds (operand_register r a.operand) (value_of_operand see a.operand) →
      Goes (argument_uses see a) (argument_used block a r)
  along_kept block r _ _ _ typed tells within (kept_whole a t is) holds = along_argument block r a t typed tells within is holds
  along_kept block r _ _ _ typed tells within (in_bits a n u t has is) holds =
      along_append (fixed w) b P (world_classes w) see.objects all (Reads (value_of_operand see a.operand) ∷ []) (convert (value_of_operand see a.operand) a.conversion) (reads block.scope r a.operand) (convert_used (operand_class block.scope a.operand) a.conversion (operand_register r a.operand))
      (along_reads block.scope r a.operand (NumberType u) typed has holds)
      (subst (λ (c : Conversion). Goes (convert (value_of_operand see a.operand) c) (convert_used (operand_class block.scope a.operand) c (operand_register r a.operand))) (sym is) nothing)
