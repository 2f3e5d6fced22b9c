use Rattle.std.proofs.Common.{◌≡◌, ◌∙◌, ap, sym, ◌+◌, Result, List, drop, ◌∷◌, arith}
use Rattle.std.proofs.lemmas.List.{drop_more}
use Rattle.cxx_syntax.specs.declared.tree.Operand.{Operand}
use Rattle.cxx_program.specs.declared.operand.Argument.{Argument}
use Rattle.cxx_expression.specs.declared.faults.Fault.{Fault}
use Rattle.cxx_expression.specs.Calls.{arguments_of}
use Rattle.cxx_expression.specs.invariants.Arguments.{all_of}
use Rattle.cxx_expression.proofs.ArgumentSteps.{typed_more, faults_more}
use Rattle.cxx_expression.proofs.arguments.arguments_of.Goals as goal

pub loop-n-preserved : goal.loop-n-preserved
loop-n-preserved c =
    let d : c.index-operands-n.result ∷ drop (c.loop-n.n + 1) c.args.operands.now ≡ drop c.loop-n.n c.args.operands.now =
    ap (λ (x : Operand). x ∷ drop (c.loop-n.n + 1) c.args.operands.now) c.index-operands-n.is ∙ sym (drop_more c.args.operands.now c.loop-n.n c.index-operands-n.result (omega arith)) in
    record {
      typed = ap (λ (l : Result (List Argument) Fault). all_of l (arguments_of c.args.site.now.h.now c.args.site.now.setting.now c.args.site.now.scene.now c.args.site.now.at c.args.parameters.now (c.loop-n.n + 1) (drop (c.loop-n.n + 1) c.args.operands.now)).typed) c.in_ok-list.ensures
          ∙ typed_more c.args.site.now.h.now c.args.site.now.setting.now c.args.site.now.scene.now c.args.site.now.at c.args.parameters.now c.loop-n.n c.index-operands-n.result (drop (c.loop-n.n + 1) c.args.operands.now) c.loop-n.list c.in_ok-argument.argument (cc (c.in_ok-argument.ensures.answers.0, c.nth-parameter.ensures))
          ∙ ap (λ (xs : List Operand). all_of c.loop-n.list (arguments_of c.args.site.now.h.now c.args.site.now.setting.now c.args.site.now.scene.now c.args.site.now.at c.args.parameters.now c.loop-n.n xs).typed) d
          ∙ c.loop-n.invariant.typed;
      faults = faults_more c.args.site.now.h.now c.args.site.now.setting.now c.args.site.now.scene.now c.args.site.now.at c.args.parameters.now c.loop-n.n c.index-operands-n.result (drop (c.loop-n.n + 1) c.args.operands.now) c.loop-n.faults c.argument_of.new.faults (cc (c.in_ok-argument.ensures.answers.1, c.nth-parameter.ensures))
          ∙ ap (λ (xs : List Operand). (arguments_of c.args.site.now.h.now c.args.site.now.setting.now c.args.site.now.scene.now c.args.site.now.at c.args.parameters.now c.loop-n.n xs).faults c.loop-n.faults) d
          ∙ c.loop-n.invariant.faults;
      knows = c.in_ok-argument.ensures.knows;
    }
