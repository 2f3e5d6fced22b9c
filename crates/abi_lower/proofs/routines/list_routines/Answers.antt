use Rattle.std.proofs.Common.{List, ◌++◌, length, ap, ◌∙◌, append_assoc}
use Rattle.std.specs.List.{flat_map}
use Rattle.cxx_program.specs.declared.program.TypedBody.{TypedBody}
use Rattle.code_ops.specs.Setups.{Routine}
use Rattle.abi_lower.specs.invariants.Numbers.{main_routines, owned_routines, plan_routines, class_ids, routines}
use Rattle.abi_lower.proofs.routines.list_routines.Goals as goal

pub returns : goal.returns
unfolding routines
returns c = λ rows.
    let functions = flat_map (λ (body : TypedBody). owned_routines body.owner) c.args.program.now.bodies in
    let classes = flat_map plan_routines (class_ids (length c.args.h.now)) in
    c.in_ok-push_classes.ensures ∙ ap (λ (l : List Routine). l ++ classes) c.in_ok-list.ensures ∙ append_assoc (main_routines c.args.program.now.main) functions classes
