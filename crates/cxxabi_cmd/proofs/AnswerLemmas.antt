-- An answer that was made, and the machine that is handed out with it.
use Rattle.std.proofs.Common.{◌≡◌, ℕ, Bool, Option, Some, None, Result, Ok, Err, List, sym, subst}
use Rattle.std.specs.Prelude.{IfOk, MatchOption}
use Rattle.foundation.specs.declared.memory.NoMemory.{NoMemory as Want}
use Rattle.cxx_hierarchy.specs.Classes.{Classes}
use Rattle.cxx_syntax.specs.declared.tree.BodyTree.{BodyTree}
use Rattle.cxx_syntax.specs.declared.source_text.SourceText.{SourceText}
use Rattle.cxx_program.specs.declared.program.TypedProgram.{TypedProgram}
use Rattle.abi_sound.specs.declared.class_layout.ClassLayout.{ClassLayout}
use Rattle.cxxabi_words.specs.declared.command.QualifiedMember.{QualifiedMember}
use Rattle.cxxabi_words.specs.declared.command.Command.{Command}
use Rattle.cxxabi_words.specs.declared.command.Command.TheVariants.{LayoutOf, TablesOf, Array, MemberPointer, Inspect}
use Rattle.cxxabi_cmd.specs.declared.reply.Reply.{Reply}
use Rattle.cxxabi_cmd.specs.declared.status.Status.{Status}
use Rattle.cxxabi_cmd.specs.Commands.{IsOnBytes, RunsMain, by_run, by_paths, by_gen, by_foreign}
use Rattle.cxxabi_cmd.specs.Divided.{IsLayoutOf}
use Rattle.cxxabi_cmd.specs.Handed.{SeenMachine, IsMachineOf}
use Rattle.cxxabi_cmd.specs.Output.{Answer, Yields}
use Rattle.cxxabi_cmd.specs.invariants.Replies.{as_answer, machine_of, HandsBy}

abbrev pub answer_with : List ℕ → Status → Answer
answer_with text status = record { text = text; status = status }

-- an answer that was made
pub yields : (r : Result Reply Want) (front : List ℕ) (size : ℕ) (source : SourceText) (h : Classes) (typed : TypedProgram) (c : Command) (a : Answer) → IfOk r (λ reply. as_answer reply ≡ a) → Yields front size source h typed c a → IfOk r (λ reply. Yields front size source h typed c (as_answer reply))
yields (Ok reply) front size source h typed c a same is = subst (λ (b : Answer). Yields front size source h typed c b) (sym same) is
yields (Err w) front size source h typed c a same is = same

-- no machine, for a reason
pub hands_none : (r : Result Reply Want) (c : Command) (front : List ℕ) (source : SourceText) (h : Classes) (program : TypedProgram) → IfOk r (λ reply. machine_of reply ≡ None) →
    ((trace : Bool) (steps : ℕ) (tree : BodyTree) (rows : List ClassLayout) → RunsMain c steps trace → IsOnBytes c → source.main ≡ Some tree → IsLayoutOf c front h rows → ⊥) → IfOk r (λ reply. HandsBy c front source h program (machine_of reply))
hands_none (Ok reply) c front source h program none why = subst (λ (m : Option SeenMachine). HandsBy c front source h program m) (sym none) why
hands_none (Err w) c front source h program none why = none

pub hands_some : (c : Command) (front : List ℕ) (source : SourceText) (h : Classes) (program : TypedProgram) (rows : List ClassLayout) (trace : Bool) (steps : ℕ) (tree : BodyTree) (m : Option SeenMachine) → RunsMain c steps trace → IsOnBytes c → source.main ≡ Some tree → IsLayoutOf c front h rows →
    MatchOption m ⊥ (IsMachineOf h rows program trace steps) → HandsBy c front source h program m
hands_some c front source h program rows trace steps tree None runs bytes main laid machine = absurd machine
hands_some c front source h program rows trace steps tree (Some m) runs bytes main laid machine =
    record { trace = trace; steps = steps; runs = runs; on_bytes = bytes; tree = tree; main = main; rows = rows; laid = laid; is_machine = machine }

-- the machine of the run
pub hands_machine : (r : Result Reply Want) (c : Command) (front : List ℕ) (source : SourceText) (h : Classes) (program : TypedProgram) (rows : List ClassLayout) (trace : Bool) (steps : ℕ) (tree : BodyTree) → RunsMain c steps trace → IsOnBytes c → source.main ≡ Some tree → IsLayoutOf c front h rows →
    IfOk r (λ reply. MatchOption (machine_of reply) ⊥ (IsMachineOf h rows program trace steps)) → IfOk r (λ reply. HandsBy c front source h program (machine_of reply))
hands_machine (Ok reply) c front source h program rows trace steps tree runs bytes main laid machine = hands_some c front source h program rows trace steps tree (machine_of reply) runs bytes main laid machine
hands_machine (Err w) c front source h program rows trace steps tree runs bytes main laid machine = machine

-- a command that lists a class runs nothing
pub runs_no_layout : (c : Command) (name : List ℕ) (steps : ℕ) (trace : Bool) → RunsMain c steps trace → c ≡ LayoutOf name → ⊥
runs_no_layout _ name _ _ (by_run steps trace) same = cc
runs_no_layout _ name _ _ (by_paths steps) same = cc
runs_no_layout _ name _ _ (by_gen n) same = cc
runs_no_layout _ name _ _ (by_foreign steps) same = cc

pub runs_no_tables : (c : Command) (name : List ℕ) (steps : ℕ) (trace : Bool) → RunsMain c steps trace → c ≡ TablesOf name → ⊥
runs_no_tables _ name _ _ (by_run steps trace) same = cc
runs_no_tables _ name _ _ (by_paths steps) same = cc
runs_no_tables _ name _ _ (by_gen n) same = cc
runs_no_tables _ name _ _ (by_foreign steps) same = cc

pub runs_no_array : (c : Command) (name : List ℕ) (n steps : ℕ) (trace : Bool) → RunsMain c steps trace → c ≡ Array name n → ⊥
runs_no_array _ name n _ _ (by_run steps trace) same = cc
runs_no_array _ name n _ _ (by_paths steps) same = cc
runs_no_array _ name n _ _ (by_gen k) same = cc
runs_no_array _ name n _ _ (by_foreign steps) same = cc

pub runs_no_member : (c : Command) (named : QualifiedMember) (steps : ℕ) (trace : Bool) → RunsMain c steps trace → c ≡ MemberPointer named → ⊥
runs_no_member _ named _ _ (by_run steps trace) same = cc
runs_no_member _ named _ _ (by_paths steps) same = cc
runs_no_member _ named _ _ (by_gen n) same = cc
runs_no_member _ named _ _ (by_foreign steps) same = cc

pub runs_no_dump : (c : Command) (steps : ℕ) (trace : Bool) → RunsMain c steps trace → c ≡ Inspect → ⊥
runs_no_dump _ _ _ (by_run steps trace) same = cc
runs_no_dump _ _ _ (by_paths steps) same = cc
runs_no_dump _ _ _ (by_gen n) same = cc
runs_no_dump _ _ _ (by_foreign steps) same = cc

-- what holds of a reply for each thing: from each, and of one
pub for_each : {X : Type 0} (r : Result Reply Want) (x : X) (P : X → Reply → Type 0) → ((y : X) → IfOk r (P y)) → IfOk r (λ reply. (y : X) → P y reply)
for_each (Ok reply) x P each = each
for_each (Err w) x P each = each x

pub at_each : {X : Type 0} (r : Result Reply Want) (P : X → Reply → Type 0) (x : X) → IfOk r (λ reply. (y : X) → P y reply) → IfOk r (P x)
at_each (Ok reply) P x each = each x
at_each (Err w) P x each = each
