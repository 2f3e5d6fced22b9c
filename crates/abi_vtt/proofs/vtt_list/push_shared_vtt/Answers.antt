use Rattle.std.proofs.Common.{◌<◌, [], length, refl, sym, subst, ◌∙◌, arith}
use Rattle.cxx_subobject.specs.declared.Root.TheVariants.{Shared}
use Rattle.cxx_subobject.specs.Subobjects.{IsSubobject, shared, subobject}
use Rattle.cxx_subobject.proofs.PathLemmas.{virtual_below}
use Rattle.abi_sound.specs.Places.{places_of}
use Rattle.abi_vtt.proofs.MarkLemmas.{some_has}
use Rattle.abi_vtable.proofs.Kept.{views_same}
use Rattle.abi_vtt.proofs.WordSteps.{nothing_shared, base_shared}
use Rattle.abi_vtt.proofs.vtt_list.push_shared_vtt.Goals as goal

pub returns-then-not-is_marked-clause-words : goal.returns-then-not-is_marked-clause-words
returns-then-not-is_marked-clause-words g c =
    let h = c.args.h.now in
    let l = places_of h (g.L.SoundLayout.rows c.args.layout.now) in
    let known : c.args.v.0 < length h = let less = virtual_below h c.keeps.ensures c.args.complete c.args.v c.requires.base in let k = c.requires.known in omega arith in
    nothing_shared h l c.args.complete c.args.marks.now c.args.v c.args.words.now c.is_marked.result c.requires.marks known c.is_marked.ensures c.if-not-is_marked.true

pub push_sub_vtt-requires-clause-view : goal.push_sub_vtt-requires-clause-view
push_sub_vtt-requires-clause-view g c = subst (λ p. IsSubobject c.args.h.now c.args.complete (subobject (Shared c.args.v) p)) (sym c.in_ok-longer_path.ensures) (shared c.args.v [] c.requires.base tt)

pub push_sub_vtt-requires-clause-has_base : goal.push_sub_vtt-requires-clause-has_base
push_sub_vtt-requires-clause-has_base g c =
    let h = c.args.h.now in
    let known : c.args.v.0 < length h = let less = virtual_below h c.keeps.ensures c.args.complete c.args.v c.requires.base in let k = c.requires.known in omega arith in
    some_has h c.keeps.ensures c.args.v (sym (c.requires.marks.each c.args.v known) ∙ sym c.is_marked.ensures ∙ c.if-not-is_marked.false)

pub returns-then-not-is_marked-clause-views : goal.returns-then-not-is_marked-clause-views
returns-then-not-is_marked-clause-views g c = views_same c.args.h.now (places_of c.args.h.now (g.L.SoundLayout.rows c.args.layout.now)) c.args.views.now c.args.views.now refl

pub returns-clause-words : goal.returns-clause-words
returns-clause-words g c =
    let h = c.args.h.now in
    let l = places_of h (g.L.SoundLayout.rows c.args.layout.now) in
    let known : c.args.v.0 < length h = let less = virtual_below h c.keeps.ensures c.args.complete c.args.v c.requires.base in let k = c.requires.known in omega arith in
    base_shared h l c.args.complete c.args.marks.now c.args.v c.args.words.now c.push_sub_vtt.new.words c.is_marked.result c.in_ok-longer_path.field-0 c.requires.marks known c.is_marked.ensures c.if-not-is_marked.false c.in_ok-longer_path.ensures c.in_ok-push_sub_vtt.ensures.words
