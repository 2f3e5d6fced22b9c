-- A pointer to a polymorphic class, of whose object the view is asked.
use Rattle.std.proofs.Common.{sym, ◌≡◌, ℕ, false, Option, Some, None, List, [], ◌∷◌, ◌++◌, length, inl, inr, refl, ◌∙◌, subst, arith}
use Rattle.foundation.proofs.Members.{Has}
use Rattle.cxx_hierarchy.specs.declared.records.ClassId.{ClassId}
use Rattle.cxx_hierarchy.specs.declared.records.ValueType.TheVariants.{Pointer as PointerType}
use Rattle.cxx_hierarchy.specs.Classes.{Classes}
use Rattle.cxx_subobject.specs.Locations.{ObjectPart}
use Rattle.cxx_program.specs.declared.operand.TypedOperand.{TypedOperand}
use Rattle.cxx_program.specs.declared.statement.TypedStatement.{TypedStatement}
use Rattle.cxx_program.specs.Typed.{HasType, IsPolymorphic}
use Rattle.path_rules.specs.declared.Undefined.{Undefined}
use Rattle.path_rules.specs.declared.Undefined.TheVariants.{Dangling, NotReady, OutsideView}
use Rattle.path_model.specs.Values.{Value, Pointer, value_of_operand}
use Rattle.path_model.specs.Uses.{StatementUse, Reads, Guards, Views, arrow}
use Rattle.path_model.specs.Rules.{is_broken, is_unready, is_outside, names}
use Rattle.path_model.specs.Order.{first_broken, sorted}
use Rattle.path_model.specs.Runs.{IsRefused}
use Rattle.path_model.specs.TypedStates.{IsPartMade}
use Rattle.path_model.proofs.Sorted.{by_sort}
use Rattle.path_model.proofs.TypedUses.{followed}
use Rattle.path_model.proofs.TypedValues.{IsTypedSight, operand_typed}
use Rattle.abi_primary.specs.Kinds.{IsDynamic, declares}
use Rattle.abi_slots.proofs.Dynamics.{dynamic_whole}
use Rattle.byte_machine.specs.Frames.{register_of}
use Rattle.byte_code.specs.declared.op.Op.{Op}
use Rattle.byte_machine.specs.Leads.{OpsLead}
use Rattle.code_ops.specs.Arguments.{free}
use Rattle.code_ops.specs.Operands.{operand_ops, operand_register}
use Rattle.code_ops.specs.Uses.{check_ops, arrow_used}
use Rattle.code_ops.specs.declared.uses.Used.TheVariants.{Views as ViewsWord}
use Rattle.agree_relation.specs.Worlds.{world_classes, fixed}
use Rattle.agree_relation.specs.Words.{register_word}
use Rattle.agree_relation.specs.Frames.{HasVariables}
use Rattle.agree_statements.specs.Registers.{at_registers, body_on}
use Rattle.agree_statements.specs.Tests.{nothing, tested}
use Rattle.agree_statements.proofs.Registers.{variables_kept}
use Rattle.agree_statements.proofs.Operands.{leads_operand}
use Rattle.agree_statements.proofs.Tests.{leads_checks, along_append, unbroken}
use Rattle.agree_statements.proofs.Useds.{viewed, open_read, along_arrow}
use Rattle.agree_statements.proofs.Seen.{in_sight}
use Rattle.agree_statements.proofs.Bases.{IsUnder, under}
use Rattle.agree_statements.proofs.Moves.{move_in}
use Rattle.agree_statements.proofs.Scenes.{Scene, top, here, scope, block, sight_with}
use Rattle.agree_statements.proofs.Finish.{Reaches, refused}
use Rattle.agree_statements.proofs.Rights.{tells, free_of, free_in}

pub polymorphic_dynamic : (h : Classes) (c : ClassId) → IsPolymorphic h c → IsDynamic h c
polymorphic_dynamic h c a = dynamic_whole h c a.source a.part.part a.part.valid a.part.class (declares a.source a.class a.there a.declares)

-- what the tests of a pointer to a class say of the part that it names
pub record IsSeen {statement : TypedStatement} (scene : Scene statement) (v : Value) (c : ClassId) : Type 0 where
  pub part : ObjectPart
  pub is : v ≡ Pointer part
  pub made : IsPartMade (world_classes scene.w) scene.s.objects.classes part c
  pub is_open : scene.s.objects.is_closed part.object ≡ false
  pub under_view : IsUnder scene.w scene.s.objects scene.b part c

-- the part that a pointer names is the one that is seen
pub seen_under : {statement : TypedStatement} (scene : Scene statement) (v : Value) (c : ClassId) → (k : IsSeen scene v c) → (p : ObjectPart) → v ≡ Pointer p → IsUnder scene.w scene.s.objects scene.b p c
seen_under scene v c k p is =
    let one : Pointer k.part ≡ Pointer p = sym k.is ∙ is in
    let same : k.part ≡ p = cc in
    subst (λ (q : ObjectPart). IsUnder scene.w scene.s.objects scene.b q c) same k.under_view

module _ {statement : TypedStatement} (scene : Scene statement) (locals : List Value) (x : TypedOperand) (c : ClassId) where
  open scene use {w, at, s, f, below, body, b}

  abbrev v : Value
  v = value_of_operand (sight_with scene locals) x

  abbrev from : ℕ
  from = operand_register (free (block scene) 0) x

  -- a part that some uses read, guard and view
  pub seen_part : (us : List StatementUse) (p : ObjectPart) → v ≡ Pointer p → IsPartMade (world_classes w) s.objects.classes p c → IsDynamic (world_classes w) c → ((r : Undefined) → is_broken (world_classes w) s.objects us r ≡ false) → Has us (Reads v) → Has us (Guards v) → Has us (Views v) → IsSeen scene v c
  seen_part us p is made dynamic none reads_it guards_it views_it =
      let h = world_classes w in
      let clear = λ (u : StatementUse) (has : Has us u) (r : Undefined). unbroken (fixed w) b (Reaches scene) h s.objects us u r (none r) has in
      let open_there = subst (λ (y : Value). names (λ q. s.objects.is_closed q.object) y ≡ false) is (clear (Reads v) reads_it Dangling) in
      let ready = subst (λ (y : Value). names (is_unready s.objects) y ≡ false) is (clear (Guards v) guards_it NotReady) in
      record {
        part = p;
        is = is;
        made = made;
        is_open = open_there;
        under_view = under w s.objects b scene.world scene.begins.stands.columns p c (in_sight w s.objects (top scene).goings p c (top scene).planned scene.next.settled scene.next.seen made ready) made open_there
            (subst (λ (y : Value). names (is_outside h s.objects) y ≡ false) is (clear (Views v) views_it OutsideView)) dynamic;
      }

  abbrev followed_uses : List StatementUse
  followed_uses = arrow v ++ Views v ∷ []

  -- `typeid(*p)`
  pub leads_seen : {ops : List Op} (old : List (Option ℕ)) → IsTypedSight (world_classes w) (scope scene) (sight_with scene locals) → length locals ≡ length body.locals → HasType (scope scene) x (PointerType c) → IsDynamic (world_classes w) c → HasVariables w (here scene) (body_on f locals f.next) old
      → ((rule : Undefined) → first_broken (world_classes w) s.objects (sorted followed_uses) ≡ Some rule → move_in w s ≡ IsRefused rule statement.line)
      → ((new : List (Option ℕ)) → IsSeen scene v c → first_broken (world_classes w) s.objects (sorted followed_uses) ≡ None → HasVariables w (here scene) (body_on f locals f.next) new → register_of new from ≡ register_word w (here scene) v → OpsLead (fixed w) ops (at_registers b new) (Reaches scene))
      → OpsLead (fixed w) (operand_ops (free (block scene) 0) x ++ (check_ops (arrow_used (scope scene) (free (block scene) 0) x c ++ (ViewsWord from 0 c.0 ∷ [])) ++ ops)) (at_registers b old) (Reaches scene)
  leads_seen old sees count has dynamic variables refuses goes =
      let h = world_classes w in
      let e = scope scene in
      let r = free (block scene) 0 in
      let us = followed_uses in
      let typed = operand_typed h e (sight_with scene locals) sees x (PointerType c) has in
      leads_operand (fixed w) w (here scene) s (body_on f locals f.next) e b x (PointerType c) r old sees scene.begins.stands.globals variables has (free_in scene locals old 0 (omega arith) variables)
      (λ new read. leads_checks (fixed w) (at_registers b new) (Reaches scene) h s.objects us (arrow_used e r x c ++ (ViewsWord from 0 c.0 ∷ []))
      (along_append (fixed w) (at_registers b new) (Reaches scene) h s.objects us (arrow v) (Views v ∷ []) (arrow_used e r x c) (ViewsWord from 0 c.0 ∷ [])
      (along_arrow w (sight_with scene locals) (at_registers b new) (Reaches scene) scene.world scene.begins.stands.columns us e r x c sees has read.word)
      (tested (Views v) (ViewsWord from 0 c.0) (viewed w (sight_with scene locals) (at_registers b new) (Reaches scene) scene.world scene.begins.stands.columns us from v c (tells scene new)
      (open_read w (sight_with scene locals) (at_registers b new) (Reaches scene) scene.world scene.begins.stands.columns us v (inl refl)) (inr (inr (inl refl))) dynamic typed read.word) nothing))
      (λ fine none.
      let k = followed h s.objects us ((by_sort h s.objects us).same ∙ fine) v (inl refl) (inr (inl refl)) c typed in
      goes new (seen_part us k.part k.is k.made dynamic none (inl refl) (inr (inr (inl refl))) (inr (inr (inr (inl refl))))) fine
      (variables_kept w (here scene) (body_on f locals f.next) r old new (free_of scene locals 0 count) variables read.wrote) read.word)
      (λ rule broken. refused scene rule (at_registers b new) refl (refuses rule broken)))
