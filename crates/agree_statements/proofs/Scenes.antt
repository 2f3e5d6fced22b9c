-- What is known where the block of a statement begins.
use Rattle.std.proofs.Common.{◌≡◌, ℕ, suc, ◌+◌, ◌*◌, ◌<◌, ◌≤◌, Option, Some, List, [], ◌∷◌, length, refl, ap, sym, ◌∙◌, subst, arith}
use Rattle.cxx_hierarchy.specs.declared.records.ClassId.{ClassId}
use Rattle.cxx_hierarchy.specs.Classes.{Classes}
use Rattle.cxx_program.specs.declared.program.TypedBody.{TypedBody}
use Rattle.cxx_program.specs.declared.statement.TypedStatement.{TypedStatement}
use Rattle.cxx_program.specs.Typed.{Types, Scope, scope_of, IsTyped, IsTypedBody}
use Rattle.path_model.specs.Values.{Value, Sight}
use Rattle.path_model.specs.States.{ProgramState, RunningBody as Body, Frame as PathFrame, owned_body, sight}
use Rattle.path_model.specs.TypedStates.{AreValues}
use Rattle.path_model.proofs.TypedValues.{IsTypedSight}
use Rattle.path_model.proofs.TypedBodies.{body_typed}
use Rattle.path_model.proofs.TypedFrames.{sight_typed}
use Rattle.byte_machine.specs.Frames.{MachineFrame}
use Rattle.byte_machine.specs.Running.{Running}
use Rattle.code_blocks.specs.Lowered.{argument_count}
use Rattle.code_ops.specs.Arguments.{Block, free, block_in}
use Rattle.code_ops.specs.Setups.{body_of_routine}
use Rattle.agree_parts.specs.Heaps.{Heap}
use Rattle.agree_parts.proofs.Inside.{known_class}
use Rattle.agree_relation.specs.Worlds.{World, IsProgramWorld, world_classes}
use Rattle.agree_relation.specs.Words.{heap_of}
use Rattle.agree_relation.specs.Frames.{PlaceNumbers, HasVariables}
use Rattle.agree_relation.proofs.Objects.{objects_laid}
use Rattle.agree_statements.specs.Registers.{body_on}
use Rattle.agree_statements.specs.Statements.{IsNext, BeginsBlock}
use Rattle.agree_statements.proofs.Registers.{IsFree}
use Rattle.agree_statements.proofs.After.{HasTop, top_of}

-- a statement is next in a state of a world, and a byte state in which its block begins stands for that
pub record Scene (statement : TypedStatement) : Type 0 where
  pub w : World
  pub at : PlaceNumbers
  pub s : ProgramState
  pub f : Body
  pub below : List PathFrame
  pub body : TypedBody
  pub b : Running
  pub world : IsProgramWorld w
  pub next : IsNext w s f below body statement
  pub begins : BeginsBlock w at s b
  pub line : b.line ≡ statement.line

pub values_count : (h : Classes) (cs : List ClassId) (vs : List Value) (ts : Types) → AreValues h cs vs ts → length vs ≡ length ts
values_count h cs [] [] a = refl
values_count h cs [] (t ∷ ts) a = absurd a
values_count h cs (v ∷ vs) [] a = absurd a
values_count h cs (v ∷ vs) (t ∷ ts) a = ap suc (values_count h cs vs ts a.1)

module _ {statement : TypedStatement} (scene : Scene statement) where
  open scene use {w, at, s, f, below, body, b}

  abbrev pub here : Heap
  here = heap_of s.objects.classes b.memory.regions

  -- what the statement sees where these values stand in its variables
  abbrev pub sight_with : List Value → Sight
  sight_with locals = sight s (body_on f locals f.next)

  abbrev pub scope : Scope
  scope = scope_of (world_classes w) w.setup.program.globals body

  abbrev pub block : Block
  block = block_in w.setup body

  pub top : HasTop w at s f below b
  top = top_of w at s f below b scene.next.frames scene.begins

  pub the_body : (body.owner ≡ f.owner) × IsTypedBody (world_classes w) w.setup.program.globals body
  the_body = body_typed (world_classes w) w.setup.program scene.world.typed f.owner body scene.next.there

  pub kind_typed : IsTyped (world_classes w) scope statement.kind
  kind_typed = (the_body.1.statements f.next statement scene.next.here).typed

  pub sees : IsTypedSight (world_classes w) scope (sight s f)
  sees = sight_typed (world_classes w) w.setup.program s f below body scene.next.frames scene.next.there the_body.0 scene.next.typed

  pub locals_count : length f.locals ≡ length body.locals
  locals_count = values_count (world_classes w) s.objects.classes f.locals body.locals sees.locals

  -- the variables stand in the registers
  pub variables : HasVariables w here f b.top.registers
  variables =
      let there : top.begins.top ∷ b.below ≡ top.on.frame ∷ top.on.rest = top.on.is in
      let first : top.on.frame ≡ top.begins.top = cc in
      let same : top.on.frame.registers ≡ b.top.registers = ap (λ (t : MachineFrame). t.registers) first ∙ sym (ap (λ (t : MachineFrame). t.registers) top.begins.stepped) in
      subst (λ (rs : List (Option ℕ)). HasVariables w here f rs) same top.on.body.variables

  -- the routine is one of the program, with this body
  its_body : body_of_routine w.setup top.on.routine ≡ Some body
  its_body = ap (owned_body w.setup.program) top.on.owner ∙ scene.next.there

  pub registers_enough : length body.locals + 2 + (7 + 2 * argument_count statement.kind) ≤ w.code.registers
  registers_enough =
      let laid = objects_laid w s.objects b.memory.regions b.objects b.heap scene.world scene.begins.stands.columns.objects in
      let known = top.on.known s.objects.classes body (λ p c made. known_class (world_classes w) w.setup.rows here p c laid made) top.planned.going scene.next.there in
      scene.world.lowered.registers.statement top.on.routine body f.next statement known its_body scene.next.here

  pub is_free : (n : ℕ) → IsFree f (free block n)
  is_free n = let count = locals_count in omega arith

  pub has_free : (n : ℕ) → n < 7 → free block n < w.code.registers
  has_free n few = let enough = registers_enough in omega arith

  -- two free registers are not one
  pub free_apart : (n m : ℕ) → (n ≡ m → ⊥) → free block n ≡ free block m → ⊥
  free_apart n m apart e = apart (omega arith)
