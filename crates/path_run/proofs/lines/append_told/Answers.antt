use Rattle.std.proofs.Common.{◌++◌, List, ℕ, true, ap, sym, ◌∙◌}
use Rattle.std.proofs.lemmas.List.{append-nil}
use Rattle.abi_sound.specs.Places.{places_of}
use Rattle.text_told.specs.OutTexts.{out_text}
use Rattle.text_told.proofs.Texts.{text_all, text_more}
use Rattle.path_run.proofs.lines.append_told.Goals as goal

pub append_out-requires-clause-told : goal.append_out-requires-clause-told
append_out-requires-clause-told g c = c.requires.told c.out-item.result (c.loop-out.out-index, c.loop-out-test.true, sym c.out-item.is)

pub loop-out-preserved : goal.loop-out-preserved
loop-out-preserved g c =
    let h = c.args.h.now in
    let l = places_of h (g.L.SoundLayout.rows c.args.layout.now) in
    text_more h l true c.args.text.now.items c.loop-out.text.items c.append_out.new.text.items c.args.outs.now c.loop-out.out-index c.out-item.result c.loop-out-test.true c.out-item.is
    c.loop-out.invariant (c.in_ok-append_out.ensures.ok ∙ ap (λ (t : List ℕ). c.loop-out.text.items ++ t) (sym (append-nil (out_text h l c.out-item.result))))

pub returns : goal.returns
returns g c =
    text_all c.args.h.now (places_of c.args.h.now (g.L.SoundLayout.rows c.args.layout.now)) true c.args.text.now.items c.loop-out.text.items c.args.outs.now c.loop-out.out-index c.loop-out-test.false c.loop-out.invariant
