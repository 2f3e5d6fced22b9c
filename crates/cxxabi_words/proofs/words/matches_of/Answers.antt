use Rattle.std.proofs.Common.{◌≡◌, ◌∙◌, List, [], map, string_bytes}
use Rattle.clap.specs.Words.{HasKind, Text, app_of, fault_of, found_of, rows_of}
use Rattle.cxxabi_words.specs.Commands.{simple_command}
use Rattle.cxxabi_words.proofs.Matching.{over_simple, rows_over, refused}
use Rattle.cxxabi_words.proofs.words.matches_of.Goals as goal

pub returns-in-Ok : goal.returns-in-Ok
returns-in-Ok c =
    let words : List Text = map string_bytes c.args.words.now in (
      over_simple (app_of c.in_ok-simple.simple) (λ a. fault_of a words ≡ []) c.in_ok-simple.ensures c.in-Ok.ensures.kinds,
      rows_over (app_of c.in_ok-simple.simple) words (rows_of (found_of c.in-Ok.matches)) _ c.in_ok-simple.ensures c.in-Ok.ensures.matches,
    )

pub returns : goal.returns
returns c =
    let words : List Text = map string_bytes c.args.words.now in
    refused (fault_of simple_command words) c.in-Err.error
    (over_simple (app_of c.in_ok-simple.simple) (λ a. HasKind (fault_of a words) c.in-Err.error) c.in_ok-simple.ensures c.in-Err.ensures.kinds)
    (λ memory. c.in_default.not-OutOfMemory (c.kind.ensures ∙ memory))
