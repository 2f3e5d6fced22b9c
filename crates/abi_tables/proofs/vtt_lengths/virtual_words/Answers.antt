use Rattle.std.proofs.Common.{◌∙◌}
use Rattle.std.specs.Prelude.{◌&&◌}
use Rattle.abi_slots.specs.Views.{is_dynamic}
use Rattle.abi_vtt.specs.Vtts.{has_vtt}
use Rattle.abi_tables.specs.invariants.Weights.{virtual_word}
use Rattle.abi_tables.proofs.NumberLemmas.{numbers_push, word_cut}
use Rattle.abi_tables.proofs.vtt_lengths.virtual_words.Goals as goal

pub loop-n-preserved : goal.loop-n-preserved
loop-n-preserved g c =
    let h = c.args.h.now in
    numbers_push c.loop-n.n (virtual_word h) c.loop-n.words.items c.push.new.self.items c.virtual_word.result (c.virtual_word.ensures ∙ word_cut (is_dynamic h (record { 0 = c.loop-n.n }) && has_vtt h (record { 0 = c.loop-n.n }))) c.in_ok-push.ensures.items c.loop-n.invariant
