use Rattle.std.proofs.Common.{◌∙◌, ap, codes}
use Rattle.clap.specs.Words.{found_of, one_text}
use Rattle.clap.proofs.WalkLemmas.{one_text-rows}
use Rattle.cxxabi_words.specs.Commands.{is_true}
use Rattle.cxxabi_words.proofs.Matching.{flag_read}
use Rattle.cxxabi_words.proofs.words.has_trace.Goals as goal

pub returns : goal.returns
returns c =
    c.unwrap_or.ensures
    ∙ flag_read (one_text (found_of c.args.matches.now) (codes "trace")) c.get_one.result c.get_one.ensures.none c.get_one.ensures.value
    ∙ ap is_true (one_text-rows (found_of c.args.matches.now) (codes "trace"))
