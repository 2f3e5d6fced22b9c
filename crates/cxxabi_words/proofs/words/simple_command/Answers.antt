use Rattle.std.proofs.Common.{◌≡◌, ◌∙◌, ap, ap₂, codes, rules}
use Rattle.clap.specs.Words.{App, app_of, new_app, rule_of, with_rule}
use Rattle.clap.specs.Simple.{app_of_fields}
use Rattle.cxxabi_words.specs.Commands.{arg_rule, command_rule, simple_command, steps_rule, trace_rule, without_binary_name}
use Rattle.cxxabi_words.proofs.words.simple_command.Goals as goal

abbrev nameless : App
nameless = without_binary_name (new_app (codes "tagymelur"))

pub returns : goal.returns
unfolding simple_command
returns c =
    let word_is : rule_of c.required-word.result ≡ command_rule = search rules in
    let arg_is : rule_of c.new-arg.result ≡ arg_rule = search rules in
    let steps_is : rule_of c.long-steps.result ≡ steps_rule = search rules in
    let trace_is : rule_of c.action-trace.result ≡ trace_rule = search rules in
    let none : app_of c.no_binary_name.result ≡ nameless = ap app_of_fields c.no_binary_name.ensures ∙ ap without_binary_name c.new-4.ensures.app in
    let one : app_of c.in_ok-arg.field-0 ≡ with_rule nameless command_rule = c.in_ok-arg.ensures.shape (search rules) ∙ ap₂ with_rule none word_is in
    let two : app_of c.in_ok-arg-2.field-0 ≡ with_rule (with_rule nameless command_rule) arg_rule = c.in_ok-arg-2.ensures.shape (search rules) ∙ ap₂ with_rule one arg_is in
    let three : app_of c.in_ok-arg-3.field-0 ≡ with_rule (with_rule (with_rule nameless command_rule) arg_rule) steps_rule = c.in_ok-arg-3.ensures.shape (search rules) ∙ ap₂ with_rule two steps_is in
    c.in_ok-simple.ensures.shape (search rules) ∙ ap₂ with_rule three trace_is
