use Rattle.std.proofs.Common.{◌∙◌, List, codes, map, option_map, string_bytes}
use Rattle.clap.specs.Words.{Text, found_of, rows_of}
use Rattle.clap.proofs.WalkLemmas.{first_value-rows}
use Rattle.cxxabi_words.proofs.Answering.{no_word, answered}
use Rattle.cxxabi_words.proofs.command.command_of.Goals as goal

pub returns-in_default-get_str : goal.returns-in_default-get_str
returns-in_default-get_str c =
    let words : List Text = map string_bytes c.args.words.now in
    let found = rw c.in-Some.is at c.in_ok-matches.ensures in
    no_word words (rows_of (found_of c.in-Some.matches)) found.1 (c.in_default-get_str.ensures ∙ first_value-rows (found_of c.in-Some.matches) (codes "command"))

pub returns : goal.returns
returns c =
    let words : List Text = map string_bytes c.args.words.now in
    let found = rw c.in-Some.is at c.in_ok-matches.ensures in
    let entries = found_of c.in-Some.matches in
    answered words (rows_of entries) c.in-Some-get_str.word.now
    (option_map (λ s. s.now) c.get_str-arg.result) (option_map (λ s. s.now) c.get_str-steps.result) c.has_trace.result
    found.1 (c.in-Some-get_str.ensures ∙ first_value-rows entries (codes "command"))
    (c.get_str-arg.ensures ∙ first_value-rows entries (codes "arg")) (c.get_str-steps.ensures ∙ first_value-rows entries (codes "steps"))
    c.has_trace.ensures c.form_of.result found.0 c.form_of.ensures
