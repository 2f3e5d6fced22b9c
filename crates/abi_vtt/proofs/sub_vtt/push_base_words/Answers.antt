use Rattle.std.proofs.Common.{true, false, sym, ◌∙◌}
use Rattle.cxx_subobject.specs.Preorder.{preorder}
use Rattle.abi_sound.specs.Places.{places_of}
use Rattle.abi_vtable.specs.invariants.Parts.{view_of_parts}
use Rattle.abi_vtt.proofs.KnownParts.{known_part, part_there, subobject_there, word_noted}
use Rattle.abi_vtt.proofs.WordSteps.{part_more, grows_none}
use Rattle.abi_vtt.proofs.sub_vtt.push_base_words.Goals.{then-needs_word+in_ok-push_word, else-needs_word}
use Rattle.abi_vtt.proofs.sub_vtt.push_base_words.Goals as goal

pub needs_word-requires-clause-part : goal.needs_word-requires-clause-part
needs_word-requires-clause-part g c =
    let h = c.args.h.now in
    let l = places_of h (g.L.SoundLayout.rows c.args.layout.now) in
    let v = c.args.x.now in
    let part = c.part-item.result in
    known_part h c.keeps.ensures l (view_of_parts v) c.requires.view.view (preorder h v.class) part (c.requires.view.parts.each c.loop-n.n part (part_there h l v c.requires.view c.as_slice-part-items.result.now c.loop-n.n part c.as_slice-part-items.ensures c.loop-n-test.true c.part-item.is))

pub push_word-requires : goal.push_word-requires
push_word-requires g c =
    let h = c.args.h.now in
    let l = places_of h (g.L.SoundLayout.rows c.args.layout.now) in
    word_noted h c.keeps.ensures l c.args.x.now c.args.tables.now c.requires.view c.requires.tables c.as_slice-part-items.result.now c.loop-n.n c.part-item.result c.as_slice-part-items.ensures c.loop-n-test.true c.part-item.is (sym c.needs_word.ensures ∙ c.if-needs_word.true)

pub loop-n-preserved : goal.loop-n-preserved
loop-n-preserved g c =
    let h = c.args.h.now in
    let l = places_of h (g.L.SoundLayout.rows c.args.layout.now) in
    let v = c.args.x.now in
    let parts = c.as_slice-part-items.result.now in
    let part = c.part-item.result in
    let n = c.loop-n.n in
    let there = subobject_there h l v c.requires.view parts n part c.as_slice-part-items.ensures c.loop-n-test.true c.part-item.is in
    elim c.if-needs_word.branch [
      | then-needs_word+in_ok-push_word w ↦ rw w.words-is (part_more h l v.complete v.at parts n part true _ c.args.words.now c.loop-n.words w.push_word.new.words c.loop-n-test.true c.part-item.is (sym c.needs_word.ensures ∙ w.if-needs_word.true)
          (w.in_ok-push_word.ensures h l part.at c.requires.view c.requires.tables there) c.loop-n.invariant)
      | else-needs_word w ↦ part_more h l v.complete v.at parts n part false _ c.args.words.now c.loop-n.words c.if-needs_word.words c.loop-n-test.true c.part-item.is (sym c.needs_word.ensures ∙ w.if-needs_word.false)
          (grows_none h l v.complete c.loop-n.words c.if-needs_word.words w.words-is) c.loop-n.invariant
    ]
