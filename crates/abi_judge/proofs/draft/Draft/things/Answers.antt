use Rattle.std.proofs.Common.{◌∙◌, ◌+◌, List, ◌++◌, ap, arith}
use Rattle.abi_judge.specs.declared.things.Thing.{Thing}
use Rattle.abi_judge.specs.invariants.Things.{setting_of}
use Rattle.abi_judge.specs.invariants.Pushes.{object_things}
use Rattle.abi_judge.proofs.Pushed.{object_added}
use Rattle.abi_judge.proofs.draft.Draft.things.Goals as goal

pub returns : goal.returns
returns c =
    let x = setting_of c.args.self.now in
    object_added x c.args.c 0 c.new-things.result.items c.push_object.new.things.items c.in_ok-push_object.ensures (c.args.c.0 + 1) (omega arith)
    ∙ ap (λ (ts : List Thing). ts ++ object_things x (c.args.c.0 + 1) c.args.c 0) c.new-things.ensures.items
