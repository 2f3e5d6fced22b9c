use Rattle.std.proofs.Common.{sym, subst, ◌∙◌}
use Rattle.abi_sound.specs.Places.{places_of}
use Rattle.abi_tables.specs.Counts.{words_before_class}
use Rattle.abi_tables.specs.invariants.Weights.{AreNumbers, head_words, sides_of}
use Rattle.abi_tables.proofs.CheckLemmas.{one_class_more}
use Rattle.abi_tables.proofs.check.all_words.Goals as goal

pub with_class-requires-clause-sides : goal.with_class-requires-clause-sides
with_class-requires-clause-sides g c =
    let h = c.args.h.now in
    let l = places_of h (g.L.SoundLayout.rows c.args.layout.now) in
    subst (AreNumbers h (sides_of h l (head_words h l))) (sym c.deref-in-loop-n.ensures.value) (c.in_ok-sides.ensures (head_words h l) (subst (AreNumbers h (head_words h l)) (sym c.deref.ensures.value) c.in_ok-heads.ensures))

pub loop-n-preserved : goal.loop-n-preserved
loop-n-preserved g c =
    let h = c.args.h.now in
    let l = places_of h (g.L.SoundLayout.rows c.args.layout.now) in
    c.in_ok-sum.ensures (words_before_class h l c.loop-n.n) c.loop-n.invariant ∙ one_class_more h l c.loop-n.n
