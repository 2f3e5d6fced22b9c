use Rattle.std.proofs.Common.{ap, ◌∙◌, List, ℕ}
use Rattle.std.proofs.lemmas.Option.{get_or_from_slice_get}
use Rattle.abi_tables.specs.invariants.Weights.{number_by_class}
use Rattle.abi_tables.proofs.vtt_lengths.VttLengths.vtt_len.Goals as goal

pub returns : goal.returns
returns c = λ h l are known. c.number_of.ensures ∙ ap (λ (ks : List ℕ). number_by_class ks c.args.c) c.as_slice.ensures ∙ get_or_from_slice_get c.args.self.now.lengths c.args.c.0 _ 0 (are c.args.c known)
