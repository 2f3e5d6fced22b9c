use Rattle.std.proofs.Common.{◌∙◌}
use Rattle.abi_slots.specs.Views.{is_dynamic}
use Rattle.abi_tables.specs.invariants.Weights.{dynamic_word}
use Rattle.abi_tables.proofs.NumberLemmas.{numbers_push, word_cut}
use Rattle.abi_tables.proofs.vtt_lengths.dynamic_words.Goals as goal

pub loop-n-preserved : goal.loop-n-preserved
loop-n-preserved c =
    let h = c.args.h.now in
    numbers_push c.loop-n.n (dynamic_word h) c.loop-n.words.items c.push.new.self.items c.dynamic_word.result (c.dynamic_word.ensures ∙ word_cut (is_dynamic h (record { 0 = c.loop-n.n }))) c.in_ok-push.ensures.items c.loop-n.invariant
