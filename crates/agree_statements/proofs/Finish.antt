-- Where a block ends: a rule refuses its statement, or control goes on.
use Rattle.std.proofs.Common.{◌≡◌, ℕ, Option, List, ◌∷◌, ◌++◌, map, refl, ap, sym, ◌∙◌, subst}
use Rattle.cxx_program.specs.declared.statement.TypedStatement.{TypedStatement}
use Rattle.path_rules.specs.declared.Undefined.{Undefined}
use Rattle.path_rules.specs.Rules.{undefined_no}
use Rattle.path_model.specs.declared.outs.Out.{Out}
use Rattle.path_model.specs.Values.{Value, Objects}
use Rattle.path_model.specs.Runs.{Move, Moves, IsRefused}
use Rattle.byte_memory.specs.Store.{Store}
use Rattle.byte_machine.specs.declared.turn.RawOut.{RawOut}
use Rattle.byte_machine.specs.declared.turn.MachineTurn.TheVariants.{Went, Refused}
use Rattle.byte_machine.specs.Frames.{MachineFrame}
use Rattle.byte_machine.specs.Running.{Running, Stop, Answers}
use Rattle.byte_machine.specs.Effects.{jumping}
use Rattle.byte_machine.specs.Leads.{HoldsOfAnswer}
use Rattle.code_blocks.specs.Blocks.{AtStatement}
use Rattle.agree_parts.specs.Heaps.{Heap}
use Rattle.agree_relation.specs.Worlds.{fixed}
use Rattle.agree_relation.specs.Words.{heap_of, register_word}
use Rattle.agree_relation.specs.Columns.{ColumnsStand}
use Rattle.agree_relation.specs.Frames.{HasVariables}
use Rattle.agree_relation.specs.Stands.{StateStands}
use Rattle.agree_relation.specs.Agrees.{ReadAs, Agrees, StandsNow}
use Rattle.agree_statements.specs.Registers.{body_on, frame_on}
use Rattle.agree_statements.proofs.After.{AreSame, state_on, stands_after}
use Rattle.agree_statements.proofs.Moves.{move_in}
use Rattle.agree_statements.proofs.Scenes.{Scene, top}

-- a state of a block with other bytes, globals, registers and outs
abbrev pub ended : Running → Store → List (Option ℕ) → List (Option ℕ) → List RawOut → Running
ended b memory words registers raws = record b { memory = memory; globals = words; outs = raws; top = record b.top { registers = registers } }

module _ {statement : TypedStatement} (scene : Scene statement) where
  open scene use {w, at, s, f, below, body, b}

  abbrev pub Reaches : Running → Stop → Type 0
  Reaches = HoldsOfAnswer (fixed w) (Agrees w at (move_in w s))

  abbrev pub to_next : ℕ → ℕ
  to_next n = at (AtStatement (top scene).on.routine n)

  pub refused : (rule : Undefined) (new : Running) → new.line ≡ b.line → move_in w s ≡ IsRefused rule statement.line → Reaches new (Answers (Refused (undefined_no rule) new.line))
  refused rule new line e = subst (λ (m : Move). Agrees w at m new (Refused (undefined_no rule) new.line)) (sym e) (ap (Refused (undefined_no rule)) (line ∙ scene.line))

  pub finished : (objects : Objects) (memory : Store) (globals : List Value) (words : List (Option ℕ)) (locals : List Value) (next : ℕ) (registers : List (Option ℕ)) (raws : List RawOut) (outs : List Out) →
      AreSame s.objects objects → memory.regions ≡ b.memory.regions → ColumnsStand w objects memory b.objects b.heap b.notes → words ≡ map (register_word w (heap_of s.objects.classes b.memory.regions)) globals
      → HasVariables w (heap_of s.objects.classes b.memory.regions) (body_on f locals next) registers → ReadAs w at (heap_of s.objects.classes b.memory.regions) raws outs
      → move_in w s ≡ Moves (state_on s objects globals (body_on f locals next) below) outs
      → Reaches (jumping (to_next next) (ended b memory words registers raws)) (Answers Went)
  finished objects memory globals words locals next registers raws outs same regions columns has variables told e =
      let a = top scene in
      let after = stands_after w at s f below b a objects memory globals words locals next registers same regions columns has variables in
      let heap : heap_of s.objects.classes b.memory.regions ≡ heap_of objects.classes memory.regions = ap (λ c. heap_of c b.memory.regions) (sym same.classes) ∙ ap (λ r. heap_of objects.classes r) (sym regions) in
      let stack : frame_on b.top registers (to_next next) ∷ b.below ≡ b.opened ++ frame_on b.top registers (to_next next) ∷ b.below = ap (λ (o : List MachineFrame). o ++ frame_on b.top registers (to_next next) ∷ b.below) (sym a.begins.opened) in
      let now : StandsNow w at (state_on s objects globals (body_on f locals next) below) (jumping (to_next next) (ended b memory words registers raws)) = subst (λ (bs : List MachineFrame). StateStands w at (state_on s objects globals (body_on f locals next) below) memory b.objects b.heap b.notes words bs b.calls) stack after in
      subst (λ (m : Move). Agrees w at m (jumping (to_next next) (ended b memory words registers raws)) Went) (sym e) (now, subst (λ (g : Heap). ReadAs w at g raws outs) heap told, refl)
