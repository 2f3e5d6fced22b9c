-- Operands are read into registers.
use Rattle.std.proofs.Common.{◌≡◌, ℕ, zero, suc, ◌<◌, Option, Some, None, List, [], ◌∷◌, ◌++◌, length, map, refl, ap, sym, ◌∙◌, ◌+◌, arith}
use Rattle.std.specs.Prelude.{slice_get, unwrap_or}
use Rattle.std.proofs.lemmas.Option.{slice_get_within}
use Rattle.cxx_hierarchy.specs.declared.records.ClassId.{ClassId}
use Rattle.cxx_hierarchy.specs.declared.records.ValueType.{ValueType}
use Rattle.cxx_hierarchy.specs.Classes.{Classes}
use Rattle.cxx_hierarchy.proofs.Listed.{get_map}
use Rattle.cxx_program.specs.declared.operand.Variable.TheVariants.{Global, Local}
use Rattle.cxx_program.specs.declared.operand.TypedOperand.{TypedOperand}
use Rattle.cxx_program.specs.declared.operand.TypedOperand.TheVariants.{Variable as VariableOperand}
use Rattle.cxx_program.specs.Typed.{Types, Scope, HasType, of_variable, of_this, of_number}
use Rattle.path_model.specs.Values.{Value, Sight, value_of_operand, Unset}
use Rattle.path_model.specs.States.{ProgramState, RunningBody as Body, sight}
use Rattle.path_model.specs.TypedStates.{AreValues}
use Rattle.path_model.proofs.TypedValues.{IsTypedSight}
use Rattle.byte_machine.specs.Frames.{register_of}
use Rattle.byte_code.specs.declared.op.Op.{Op}
use Rattle.byte_code.specs.Numbers.{word_of}
use Rattle.byte_machine.specs.Running.{Fixed, Running, Stop}
use Rattle.byte_machine.specs.Leads.{OpsLead}
use Rattle.byte_machine.proofs.ValueLeads.{leads_const, leads_read_global}
use Rattle.code_ops.specs.Operands.{operand_ops, operand_register}
use Rattle.agree_parts.specs.Heaps.{Heap}
use Rattle.agree_relation.specs.Worlds.{World, world_classes}
use Rattle.agree_relation.specs.Words.{register_word}
use Rattle.agree_relation.specs.Frames.{HasVariables}
use Rattle.agree_statements.specs.Registers.{at_registers, Wrote}
use Rattle.agree_statements.proofs.Registers.{IsFree, set_here, wrote_set, wrote_none}

-- what has a type at its place is there
pub value_there : (h : Classes) (cs : List ClassId) (vs : List Value) (ts : Types) (n : ℕ) (t : ValueType ClassId) → AreValues h cs vs ts → slice_get ts n ≡ Some t → (v : Value) × (slice_get vs n ≡ Some v)
value_there h cs vs [] n t a e = absurd (let f : None ≡ Some t = e in cc)
value_there h cs [] (u ∷ us) n t a e = absurd a
value_there h cs (v ∷ vs) (u ∷ us) zero t a e = (v, refl)
value_there h cs (v ∷ vs) (u ∷ us) (suc n) t a e = value_there h cs vs us n t a.1 e

-- the globals of a state stand in those of the machine
abbrev pub HasGlobals : World → Heap → List Value → Running → Type 0
HasGlobals w g globals b = b.globals ≡ map (register_word w g) globals

-- an operand is in its register, and no other one but a free one was written
pub record HasOperand (w : World) (g : Heap) (see : Sight) (x : TypedOperand) (r : ℕ) (old new : List (Option ℕ)) : Type 0 where
  pub wrote : Wrote r old new
  pub word : register_of new (operand_register r x) ≡ register_word w g (value_of_operand see x)

-- the value of a global
global_word : (w : World) (g : Heap) (globals : List Value) (n : ℕ) (v : Value) (b : Running) → HasGlobals w g globals b → slice_get globals n ≡ Some v → slice_get b.globals n ≡ Some (register_word w g v)
global_word w g globals n v b has there = ap (λ words. slice_get words n) has ∙ get_map (register_word w g) globals n v there

pub leads_operand : (fx : Fixed) (w : World) (g : Heap) (s : ProgramState) (f : Body) (e : Scope) (b : Running) {ops : List Op} {P : Running → Stop → Type 0} (x : TypedOperand) (t : ValueType ClassId) (r : ℕ) (old : List (Option ℕ)) →
    IsTypedSight (world_classes w) e (sight s f) → HasGlobals w g s.globals b → HasVariables w g f old → HasType e x t → r < length old →
    ((new : List (Option ℕ)) → HasOperand w g (sight s f) x r old new → OpsLead fx ops (at_registers b new) P) → OpsLead fx (operand_ops r x ++ ops) (at_registers b old) P
leads_operand fx w g s f e b {ops} {P} _ _ r old typed globals variables (of_variable (Global n) t' there) inside rest =
    let v = value_there (world_classes w) s.objects.classes s.globals e.globals n t' typed.globals there in
    let read : value_of_operand (sight s f) (VariableOperand (Global n)) ≡ v.0 = ap (λ o. unwrap_or o Unset) v.1 in
    leads_read_global fx r n (register_word w g v.0) (global_word w g s.globals n v.0 b globals v.1) inside
    (rest _ (record { wrote = wrote_set b old r (register_word w g v.0); word = set_here b old r (register_word w g v.0) inside ∙ ap (register_word w g) (sym read) }))
leads_operand fx w g s f e b {ops} {P} _ _ r old typed globals variables (of_variable (Local n) t' there) inside rest =
    let v = value_there (world_classes w) s.objects.classes f.locals e.locals n t' typed.locals there in
    let read : value_of_operand (sight s f) (VariableOperand (Local n)) ≡ v.0 = ap (λ o. unwrap_or o Unset) v.1 in
    rest old (record { wrote = wrote_none r old; word = variables.local n v.0 v.1 ∙ ap (register_word w g) (sym read) })
leads_operand fx w g s f e b {ops} {P} _ _ r old typed globals variables (of_this c there) inside rest = rest old (record { wrote = wrote_none r old; word = variables.this })
leads_operand fx w g s f e b {ops} {P} _ _ r old typed globals variables (of_number z u range) inside rest =
    leads_const fx r (word_of z) inside (rest _ (record { wrote = wrote_set b old r (Some (word_of z)); word = set_here b old r (Some (word_of z)) inside }))

-- an operand stays where another free register is written
pub operand_kept : (w : World) (g : Heap) (s : ProgramState) (f : Body) (e : Scope) (x : TypedOperand) (t : ValueType ClassId) (r q : ℕ) (old mid new : List (Option ℕ)) → IsTypedSight (world_classes w) e (sight s f) → HasType e x t → IsFree f q → (r ≡ q → ⊥) → HasOperand w g (sight s f) x r old mid → Wrote q mid new
    → register_of new (operand_register r x) ≡ register_word w g (value_of_operand (sight s f) x)
operand_kept w g s f e _ _ r q old mid new typed (of_variable (Global n) t there) free apart a wrote = wrote.other r apart ∙ a.word
operand_kept w g s f e _ _ r q old mid new typed (of_variable (Local n) t there) free apart a wrote =
    let v = value_there (world_classes w) s.objects.classes f.locals e.locals n t typed.locals there in
    let within = slice_get_within f.locals n v.0 v.1 in
    wrote.other (n + 1) (λ same. omega arith) ∙ a.word
operand_kept w g s f e _ _ r q old mid new typed (of_this c there) free apart a wrote = wrote.other 0 (λ same. omega arith) ∙ a.word
operand_kept w g s f e _ _ r q old mid new typed (of_number z u range) free apart a wrote = wrote.other r apart ∙ a.word

-- an operand's register is no other free one
pub operand_apart : (w : World) (s : ProgramState) (f : Body) (e : Scope) (x : TypedOperand) (t : ValueType ClassId) (r q : ℕ) → IsTypedSight (world_classes w) e (sight s f) → HasType e x t → IsFree f q → (r ≡ q → ⊥) → operand_register r x ≡ q → ⊥
operand_apart w s f e _ _ r q typed (of_variable (Global n) t there) free apart = apart
operand_apart w s f e _ _ r q typed (of_variable (Local n) t there) free apart =
    let v = value_there (world_classes w) s.objects.classes f.locals e.locals n t typed.locals there in
    let within = slice_get_within f.locals n v.0 v.1 in
    λ same. omega arith
operand_apart w s f e _ _ r q typed (of_this c there) free apart = λ same. omega arith
operand_apart w s f e _ _ r q typed (of_number z u range) free apart = apart
