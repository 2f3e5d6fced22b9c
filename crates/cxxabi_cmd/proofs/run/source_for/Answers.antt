use Rattle.std.proofs.Common.{List, ℕ, sym, subst}
use Rattle.std.specs.Prelude.{vec_items}
use Rattle.cxx_gen.specs.Generated.{generated}
use Rattle.cxxabi_words.specs.declared.command.Command.{Command}
use Rattle.cxxabi_cmd.specs.Commands.{ReadsSource, input_of}
use Rattle.cxxabi_cmd.specs.invariants.Replies.{IsReadToLimit}
use Rattle.cxxabi_cmd.proofs.SourceLemmas.{all_read, given_read, left_read, reads_given}
use Rattle.cxxabi_cmd.proofs.run.source_for.Goals as goal

pub returns-in-Gen-clause-read : goal.returns-in-Gen-clause-read
returns-in-Gen-clause-read g c = λ given told. subst (λ (d : Command). IsReadToLimit c.in_ok-generate.field-0.items (input_of d given)) (sym c.in-Gen.is) (all_read c.in_ok-generate.field-0.items (generated c.in-Gen.n) c.in_ok-generate.ensures)

pub returns-in-Gen-clause-left : goal.returns-in-Gen-clause-left
returns-in-Gen-clause-left g c = λ reads. absurd (subst ReadsSource c.in-Gen.is reads)

pub returns-clause-read : goal.returns-clause-read
returns-clause-read g c = given_read vec_items c.read_source.result c.args.command.now _ c.in_default.not-Gen c.read_source.ensures.bytes

pub returns-clause-left : goal.returns-clause-left
returns-clause-left g c = left_read c.read_source.result c.args.command.now _ _ c.read_source.ensures.rest

pub returns-clause-kept : goal.returns-clause-kept
returns-clause-kept g c = λ none. absurd (none (reads_given c.args.command.now c.in_default.not-Gen).0)
