use Rattle.std.proofs.Common.{subst, sym}
use Rattle.abi_sound.specs.Places.{places_of}
use Rattle.abi_tables.specs.Counts.{AreVttLengths, vtt_words}
use Rattle.abi_tables.specs.invariants.Weights.{AreNumbers, base_words, sub_words, sub_vtt_words}
use Rattle.abi_tables.proofs.NumberLemmas.{numbers_same, vtt_lengths}
use Rattle.abi_tables.proofs.VttSums.{vtt_sum}
use Rattle.abi_tables.proofs.vtt_lengths.VttLengths.new.Goals as goal

pub sub_word_counts-requires-clause-bases : goal.sub_word_counts-requires-clause-bases
sub_word_counts-requires-clause-bases g c =
    let h = c.args.h.now in
    let l = places_of h (g.L.SoundLayout.rows c.args.layout.now) in
    subst (AreNumbers h (base_words h l)) (sym c.deref.ensures.value) c.in_ok-bases.ensures

pub returns : goal.returns
returns g c =
    let h = c.args.h.now in
    let l = places_of h (g.L.SoundLayout.rows c.args.layout.now) in
    let own = c.in_ok-own.ensures (sub_words h l) (subst (AreNumbers h (sub_words h l)) (sym c.deref-2.ensures.value) c.in_ok-counts.ensures) in
    let all = c.in_ok-lengths.ensures (sub_vtt_words h l) (sub_vtt_words h l) (subst (AreNumbers h (sub_vtt_words h l)) (sym c.deref-3.ensures.value) own) (subst (AreNumbers h (sub_vtt_words h l)) (sym c.deref-4.ensures.value) own) in
    subst (AreVttLengths h l) (sym c.from_vec.ensures) (vtt_lengths h l _ (numbers_same h _ (vtt_words h l) _ (λ d. sym (vtt_sum h c.keeps.ensures l d)) all))
