-- The block of a copy does its statement: the tests refuse as the rules do, and then each leaf has the old value of the other part's.
use Rattle.std.proofs.Common.{◌≡◌, ℕ, ◌+◌, Bool, true, false, Option, None, List, [], ◌∷◌, ◌++◌, length, inl, inr, refl, ap, sym, ◌∙◌, subst, arith}
use Rattle.foundation.proofs.Members.{Has, has_left, has_right}
use Rattle.cxx_hierarchy.specs.declared.records.ClassId.{ClassId}
use Rattle.cxx_hierarchy.specs.declared.records.ValueType.TheVariants.{Pointer as PointerType}
use Rattle.cxx_hierarchy.specs.Classes.{Classes}
use Rattle.cxx_hierarchy.specs.Hierarchies.{IsHierarchy}
use Rattle.std.proofs.lemmas.Option.{slice_get_within}
use Rattle.code_ops.specs.declared.uses.Used.{Used}
use Rattle.agree_statements.specs.Tests.{Along}
use Rattle.cxx_subobject.specs.declared.Subobject.{Subobject}
use Rattle.cxx_subobject.specs.Subobjects.{IsSubobject, whole, shared}
use Rattle.cxx_subobject.specs.Preorder.{preorder}
use Rattle.cxx_subobject.specs.Locations.{ObjectPart}
use Rattle.cxx_subobject.proofs.TreeLemmas.{has_preorder}
use Rattle.cxx_search.specs.Searches.{has_virtual_base}
use Rattle.cxx_search.proofs.Bases.{found_virtual, virtual_found}
use Rattle.cxx_program.specs.declared.operand.TypedOperand.{TypedOperand}
use Rattle.cxx_program.specs.declared.statement.TypedKind.TheVariants.{Copy}
use Rattle.cxx_program.specs.declared.statement.TypedStatement.{TypedStatement}
use Rattle.cxx_program.specs.Typed.{Scope, HasType, IsTyped, copies}
use Rattle.path_rules.specs.declared.Undefined.{Undefined}
use Rattle.path_rules.specs.declared.Undefined.TheVariants.{Dangling, NotReady, OutsideView}
use Rattle.path_model.specs.Values.{Value, Pointer, Leaf, Sight, value_of_operand}
use Rattle.path_model.specs.Uses.{StatementUse, Reads, Guards, Views, arrow, uses_of_view, is_shared}
use Rattle.path_model.specs.Rules.{is_broken, is_unready, is_outside, names, uses_of, refused as refused_by}
use Rattle.path_model.specs.Order.{asked_covered}
use Rattle.path_model.specs.States.{sight, wanted_result}
use Rattle.path_model.specs.Effects.{copied, copied_at}
use Rattle.path_model.specs.Runs.{move_by}
use Rattle.path_model.specs.TypedStates.{IsPartMade, IsValue}
use Rattle.path_model.specs.Typed.{IsStatementAt as IsGiven}
use Rattle.path_model.proofs.Statements.{statement_answers}
use Rattle.path_model.proofs.TypedValues.{operand_typed}
use Rattle.path_model.proofs.TypedUses.{followed}
use Rattle.abi_primary.specs.Kinds.{IsDynamic}
use Rattle.abi_primary.proofs.KindLemmas.{base_dynamic}
use Rattle.byte_machine.specs.Frames.{register_of}
use Rattle.byte_code.specs.declared.op.Op.TheVariants.{Jump}
use Rattle.byte_machine.specs.Leads.{OpsLead, LeadsBlock}
use Rattle.byte_machine.proofs.Leads.{leads_end}
use Rattle.byte_machine.proofs.ControlLeads.{leads_jump}
use Rattle.code_blocks.specs.Blocks.{statement_ops}
use Rattle.code_ops.specs.Arguments.{free}
use Rattle.code_ops.specs.Operands.{operand_ops, operand_register}
use Rattle.code_ops.specs.Uses.{arrow_used, views_if}
use Rattle.code_statements.specs.CopyTests.{copy_used, covered_used}
use Rattle.code_statements.specs.CopyOps.{copy_ops, copy_sides}
use Rattle.agree_relation.specs.Worlds.{world_classes, fixed}
use Rattle.agree_relation.specs.Words.{register_word}
use Rattle.agree_relation.specs.Columns.{ColumnsStand}
use Rattle.agree_relation.specs.Frames.{HasVariables}
use Rattle.agree_relation.specs.Agrees.{Agrees}
use Rattle.agree_statements.specs.Registers.{at_registers, body_on}
use Rattle.agree_statements.proofs.Registers.{leads_grouped, variables_kept, variables_on}
use Rattle.agree_statements.proofs.Operands.{HasOperand, leads_operand, operand_kept, operand_apart}
use Rattle.agree_statements.proofs.Tests.{leads_checks, along_append, unbroken}
use Rattle.agree_statements.proofs.Useds.{along_arrow, along_views, open_read}
use Rattle.agree_statements.proofs.Givens.{value_of}
use Rattle.agree_statements.proofs.Scenes.{Scene, top, here, scope, block, sees, variables, kind_typed, is_free, free_apart}
use Rattle.agree_statements.proofs.Finish.{Reaches, to_next, refused, finished}
use Rattle.agree_statements.proofs.Taken.{silent}
use Rattle.agree_statements.proofs.After.{state_on}
use Rattle.agree_statements.proofs.Moves.{move_in, move_fine, move_refused}
use Rattle.agree_statements.proofs.Rights.{tells, free_in}
use Rattle.agree_copies.proofs.CopiedValues.{copied_by}
use Rattle.agree_copies.proofs.CopiedLeaves.{subobject_three}
use Rattle.agree_copies.proofs.CoverTests.{along_covered}
use Rattle.agree_copies.proofs.LeafRuns.{memory_with}
use Rattle.agree_copies.proofs.SubobjectRuns.{IsUsable, WroteTwo, AreApart, leads_subobjects}
use Rattle.agree_copies.proofs.Pairs.{three_length, leaves_paired}

-- the types of the two pointers
record IsCopied (e : Scope) (to from : TypedOperand) (c : ClassId) : Type 0 where
  to_typed : HasType e to (PointerType c)
  from_typed : HasType e from (PointerType c)

copied_typed : (h : Classes) (e : Scope) (to from : TypedOperand) (c : ClassId) → IsTyped h e (Copy to from c) → IsCopied e to from c
copied_typed h e _ _ _ (copies to from c first second) = record { to_typed = first; from_typed = second }

-- a class with a virtual base is dynamic
virtual_dynamic : (h : Classes) (c : ClassId) → has_virtual_base h c ≡ true → IsDynamic h c
virtual_dynamic h c e = let k = found_virtual h c e in base_dynamic h c k.base k.has

shared_virtual : (h : Classes) → IsHierarchy h → (c : ClassId) (i : Subobject) → IsSubobject h c i → is_shared i ≡ true → has_virtual_base h c ≡ true
shared_virtual h keeps c _ (whole path leads) e = absurd (let f : false ≡ true = e in cc)
shared_virtual h keeps c _ (shared v path has leads) e = virtual_found h keeps c (record { base = v; has = has })

module _ (to from : TypedOperand) (c : ClassId) (line next : ℕ) (scene : Scene (record { kind = Copy to from c; line = line; next = next })) where
  open scene use {w, at, s, f, below, body, b}

  abbrev copying : TypedStatement
  copying = record { kind = Copy to from c; line = line; next = next }

  abbrev h : Classes
  h = world_classes w

  abbrev see : Sight
  see = sight s f

  -- the two pointers, and their registers
  abbrev target : Value
  target = value_of_operand see to

  abbrev source : Value
  source = value_of_operand see from

  abbrev to_register : ℕ
  to_register = operand_register (free (block scene) 0) to

  abbrev from_register : ℕ
  from_register = operand_register (free (block scene) 1) from

  abbrev needed : Bool
  needed = has_virtual_base h c

  abbrev asked : List StatementUse
  asked = arrow target ++ (arrow source ++ (uses_of_view needed target ++ (uses_of_view needed source ++ (asked_covered h c target ++ asked_covered h c source))))

  -- what is asked among all
  reads_target : Has asked (Reads target)
  reads_target = inl refl

  guards_target : Has asked (Guards target)
  guards_target = inr (inr (inl refl))

  reads_source : Has asked (Reads source)
  reads_source = inr (inr (inr (inl refl)))

  guards_source : Has asked (Guards source)
  guards_source = inr (inr (inr (inr (inr (inl refl)))))

  viewed : (v : Value) → needed ≡ true → Has (uses_of_view needed v) (Views v)
  viewed v e = subst (λ (x : Bool). Has (uses_of_view x v) (Views v)) (sym e) (inl refl)

  views_target : needed ≡ true → Has asked (Views target)
  views_target e = inr (inr (inr (inr (inr (inr (has_left (uses_of_view needed target) (uses_of_view needed source ++ (asked_covered h c target ++ asked_covered h c source)) (Views target) (viewed target e)))))))

  views_source : needed ≡ true → Has asked (Views source)
  views_source e = inr (inr (inr (inr (inr (inr (has_right (uses_of_view needed target) (uses_of_view needed source ++ (asked_covered h c target ++ asked_covered h c source)) (Views source)
      (has_left (uses_of_view needed source) (asked_covered h c target ++ asked_covered h c source) (Views source) (viewed source e))))))))

  types : IsCopied (scope scene) to from c
  types = copied_typed h (scope scene) to from c (kind_typed scene)

  target_typed : IsValue h s.objects.classes target (PointerType c)
  target_typed = operand_typed h (scope scene) see (sees scene) to (PointerType c) types.to_typed

  source_typed : IsValue h s.objects.classes source (PointerType c)
  source_typed = operand_typed h (scope scene) see (sees scene) from (PointerType c) types.from_typed

  -- both pointers stand in their registers
  record Holds (registers : List (Option ℕ)) : Type 0 where
    to_word : register_of registers to_register ≡ register_word w (here scene) target
    from_word : register_of registers from_register ≡ register_word w (here scene) source
    variables : HasVariables w (here scene) f registers

  -- the tests of the block are those that the rules ask
  abbrev Tests : List (Option ℕ) → List StatementUse → List Used → Type 0
  Tests new us ds = Along (fixed w) (at_registers b new) (Reaches scene) h s.objects asked us ds

  along_copy : (new : List (Option ℕ)) → Holds new → Tests new asked (copy_used (block scene) to from c)
  along_copy new k =
      let e = scope scene in
      let state = at_registers b new in
      let columns = scene.begins.stands.columns in
      let first = free (block scene) 0 in
      let second = free (block scene) 1 in
      let views_to = views_if needed to_register 0 c in
      let views_from = views_if needed from_register 0 c in
      let cover_to = covered_used w.setup to_register (c.0 + 1) c 0 in
      let cover_from = covered_used w.setup from_register (c.0 + 1) c 0 in
      let append = λ (us vs : List StatementUse) (ds es : List Used) (a : Tests new us ds) (x : Tests new vs es). along_append (fixed w) state (Reaches scene) h s.objects asked us vs ds es a x in
      append (arrow target) (arrow source ++ (uses_of_view needed target ++ (uses_of_view needed source ++ (asked_covered h c target ++ asked_covered h c source)))) (arrow_used e first to c) (arrow_used e second from c ++ (views_to ++ (views_from ++ (cover_to ++ cover_from))))
      (along_arrow w see state (Reaches scene) scene.world columns asked e first to c (sees scene) types.to_typed k.to_word)
      (append (arrow source) (uses_of_view needed target ++ (uses_of_view needed source ++ (asked_covered h c target ++ asked_covered h c source))) (arrow_used e second from c) (views_to ++ (views_from ++ (cover_to ++ cover_from)))
      (along_arrow w see state (Reaches scene) scene.world columns asked e second from c (sees scene) types.from_typed k.from_word)
      (append (uses_of_view needed target) (uses_of_view needed source ++ (asked_covered h c target ++ asked_covered h c source)) views_to (views_from ++ (cover_to ++ cover_from))
      (along_views w see state (Reaches scene) scene.world columns asked needed to_register target c (tells scene new) (open_read w see state (Reaches scene) scene.world columns asked target reads_target) guards_target (virtual_dynamic h c) target_typed k.to_word)
      (append (uses_of_view needed source) (asked_covered h c target ++ asked_covered h c source) views_from (cover_to ++ cover_from)
      (along_views w see state (Reaches scene) scene.world columns asked needed from_register source c (tells scene new) (open_read w see state (Reaches scene) scene.world columns asked source reads_source) guards_source (virtual_dynamic h c) source_typed k.from_word)
      (append (asked_covered h c target) (asked_covered h c source) cover_to cover_from
      (along_covered w see state (Reaches scene) scene.world columns asked to_register (c.0 + 1) target c target_typed k.to_word)
      (along_covered w see state (Reaches scene) scene.world columns asked from_register (c.0 + 1) source c source_typed k.from_word)))))

  -- what the tests say of a part that a pointer names
  usable : (v : Value) (p : ObjectPart) → v ≡ Pointer p → IsPartMade h s.objects.classes p c → ((r : Undefined) → is_broken h s.objects asked r ≡ false) → Has asked (Reads v) → Has asked (Guards v) → (needed ≡ true → Has asked (Views v)) → IsUsable w s.objects c p
  usable v p is made none reads guards viewed =
      let clear = λ (u : StatementUse) (has : Has asked u) (r : Undefined). unbroken (fixed w) b (Reaches scene) h s.objects asked u r (none r) has in
      record {
        made = made;
        is_open = subst (λ (y : Value). names (λ q. s.objects.is_closed q.object) y ≡ false) is (clear (Reads v) reads Dangling);
        ready = subst (λ (y : Value). names (is_unready s.objects) y ≡ false) is (clear (Guards v) guards NotReady);
        in_view = λ i valid through. subst (λ (y : Value). names (is_outside h s.objects) y ≡ false) is (clear (Views v) (viewed (shared_virtual h scene.world.hierarchy c i valid through)) OutsideView);
      }

  apart : (new : List (Option ℕ)) → HasVariables w (here scene) f new → AreApart to_register from_register (free (block scene) 2) (free (block scene) 3) new
  apart new kept = record {
    to_first = operand_apart w s f (scope scene) to (PointerType c) (free (block scene) 0) (free (block scene) 2) (sees scene) types.to_typed (is_free scene 2) (free_apart scene 0 2 (λ q. omega arith));
    to_second = operand_apart w s f (scope scene) to (PointerType c) (free (block scene) 0) (free (block scene) 3) (sees scene) types.to_typed (is_free scene 3) (free_apart scene 0 3 (λ q. omega arith));
    from_first = operand_apart w s f (scope scene) from (PointerType c) (free (block scene) 1) (free (block scene) 2) (sees scene) types.from_typed (is_free scene 2) (free_apart scene 1 2 (λ q. omega arith));
    from_second = operand_apart w s f (scope scene) from (PointerType c) (free (block scene) 1) (free (block scene) 3) (sees scene) types.from_typed (is_free scene 3) (free_apart scene 1 3 (λ q. omega arith));
    two = free_apart scene 2 3 (λ q. omega arith);
    first_there = free_in scene f.locals new 2 (omega arith) kept;
    second_there = free_in scene f.locals new 3 (omega arith) kept;
  }

  variables_last : (new last : List (Option ℕ)) → HasVariables w (here scene) f new → WroteTwo (free (block scene) 2) (free (block scene) 3) new last → HasVariables w (here scene) f last
  variables_last new last a wrote =
      let first = is_free scene 2 in
      let second = is_free scene 3 in
      record {
        size = wrote.size ∙ a.size;
        this = wrote.other 0 (λ e. omega arith) (λ e. omega arith) ∙ a.this;
        local = λ n v there. let within = slice_get_within f.locals n v there in wrote.other (n + 1) (λ e. omega arith) (λ e. omega arith) ∙ a.local n v there;
        spare = wrote.other (length f.locals + 1) (λ e. omega arith) (λ e. omega arith) ∙ a.spare;
      }

  -- all leaves are copied, and control goes on
  leads_copies : (new : List (Option ℕ)) (p q : ObjectPart) → target ≡ Pointer p → source ≡ Pointer q → IsUsable w s.objects c p → IsUsable w s.objects c q → Holds new
      → move_in w s ≡ move_by (copied_at h (state_on s s.objects s.globals (body_on f f.locals next) below) c target source) None
      → OpsLead (fixed w) (copy_ops (block scene) to from c ++ (Jump (to_next scene next) ∷ [])) (at_registers b new) (Reaches scene)
  leads_copies new p q is_p is_q usable_p usable_q k moves =
      let g = here scene in
      let list = preorder h c in
      let lengths = λ (i : Subobject) (has : Has list i). three_length _ _ _ _ (subobject_three w s.objects b.memory.regions c p q usable_p.is_open usable_q.is_open (copy_sides (block scene)) c.0 i usable_p.made usable_q.made (has_preorder h c i has)) in
      let pairs = leaves_paired h c p q lengths in
      leads_subobjects w s.objects (top scene).goings b (Reaches scene) c p q scene.world (top scene).planned scene.next.settled scene.next.seen usable_p usable_q body to_register from_register new (apart new k.variables)
      (k.to_word ∙ ap (register_word w g) is_p) (k.from_word ∙ ap (register_word w g) is_q) list new [] b.memory.bit (λ i has. has_preorder h c i has) (record { size = refl; other = λ x not_first not_second. refl })
      (record { all = record { each = λ pair has. absurd has }; columns = scene.begins.stands.columns })
      (λ last bit wrote after.
      let columns = subst (λ (list : List (Leaf × Leaf)). ColumnsStand w (copied_by s.objects list) (memory_with b bit) b.objects b.heap b.notes) pairs after.columns in
      leads_jump (fixed w) (to_next scene next) (leads_end (fixed w)
      (finished scene (copied h c p q s.objects) (memory_with b bit) s.globals b.globals f.locals next last b.outs [] (record { classes = refl; phases = refl }) refl columns scene.begins.stands.globals
      (variables_on w g f next last (variables_last new last k.variables wrote)) (silent scene f.locals)
      (moves ∙ (ap (λ (y : Value). move_by (copied_at h (state_on s s.objects s.globals (body_on f f.locals next) below) c y source) None) is_p
      ∙ ap (λ (y : Value). move_by (copied_at h (state_on s s.objects s.globals (body_on f f.locals next) below) c (Pointer p) y) None) is_q)))))

  holds : (mid new : List (Option ℕ)) → HasOperand w (here scene) see to (free (block scene) 0) b.top.registers mid → HasVariables w (here scene) f mid → HasOperand w (here scene) see from (free (block scene) 1) mid new → Holds new
  holds mid new read kept read' = record {
    to_word = operand_kept w (here scene) s f (scope scene) to (PointerType c) (free (block scene) 0) (free (block scene) 1) b.top.registers mid new (sees scene) types.to_typed (is_free scene 1) (free_apart scene 0 1 (λ q. omega arith)) read read'.wrote;
    from_word = read'.word;
    variables = variables_kept w (here scene) f (free (block scene) 1) mid new (is_free scene 1) kept read'.wrote;
  }

  pub copy_does : LeadsBlock (fixed w) (statement_ops w.setup at (top scene).on.routine body f.next (record { kind = Copy to from c; line = line; next = next })) b (Agrees w at (move_in w s))
  copy_does =
      let given : IsGiven h see (wanted_result f) (Copy to from c) = (value_of h s.objects target c target_typed, value_of h s.objects source c source_typed) in
      let us = uses_of h see (wanted_result f) (Copy to from c) in
      let answers = statement_answers h scene.world.hierarchy see (wanted_result f) scene.next.settled (Copy to from c) given in
      leads_grouped (fixed w) (operand_ops (free (block scene) 0) to) (operand_ops (free (block scene) 1) from) _
      (leads_operand (fixed w) w (here scene) s f (scope scene) b to (PointerType c) (free (block scene) 0) b.top.registers (sees scene) scene.begins.stands.globals (variables scene) types.to_typed (free_in scene f.locals b.top.registers 0 (omega arith) (variables scene))
      (λ mid read. let kept = variables_kept w (here scene) f (free (block scene) 0) b.top.registers mid (is_free scene 0) (variables scene) read.wrote in
      leads_operand (fixed w) w (here scene) s f (scope scene) b from (PointerType c) (free (block scene) 1) mid (sees scene) scene.begins.stands.globals kept types.from_typed (free_in scene f.locals mid 1 (omega arith) kept)
      (λ new read'. let k = holds mid new read kept read' in
      leads_checks (fixed w) (at_registers b new) (Reaches scene) h s.objects asked (copy_used (block scene) to from c) (along_copy new k)
      (λ fine none.
      let clear : refused_by h s.objects us ≡ None = answers.same ∙ fine in
      let first = followed h s.objects us clear target (inl refl) (inr (inl refl)) c target_typed in
      let second = followed h s.objects us clear source (inr (inr (inr (inl refl)))) (inr (inr (inr (inr (inl refl))))) c source_typed in
      leads_copies new first.part second.part first.is second.is (usable target first.part first.is first.made none reads_target guards_target views_target) (usable source second.part second.is second.made none reads_source guards_source views_source) k
      (move_fine w s f below body copying scene.world scene.next given fine refl))
      (λ rule broken. refused scene rule (at_registers b new) refl (move_refused w s f below body copying scene.world scene.next rule given broken)))))
