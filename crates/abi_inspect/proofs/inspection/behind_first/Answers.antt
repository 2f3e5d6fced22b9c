use Rattle.std.proofs.Common.{◌≡◌, ◌∙◌, ℕ, ◌<◌, List, ◌++◌, length, ap, sym, arith}
use Rattle.std.specs.Prelude.{codes}
use Rattle.std.specs.Fmt.{decimal}
use Rattle.abi_print.specs.LayoutTexts.{declared_class_name}
use Rattle.abi_sound.specs.Places.{places_of, size_in_row}
use Rattle.abi_inspect.specs.SeenTexts.{dump_heading}
use Rattle.abi_inspect.proofs.LineReads.{same_line}
use Rattle.abi_inspect.proofs.inspection.behind_first.Goals as goal

pub layout-requires : goal.layout-requires
layout-requires g c =
    let h = c.args.h.now in
    let rows = g.L.SoundLayout.rows c.args.layout.now in
    let sound = g.met.L.SoundLayout.sound c.args.layout.now h c.requires.layout in
    let known : c.args.c.0 < length h = c.requires.known in
    let all : length rows ≡ length h = sound.full.one_each in omega arith

pub returns : goal.returns
returns g c =
    let h = c.args.h.now in
    let l = places_of h (g.L.SoundLayout.rows c.args.layout.now) in
    let whole : c.append_first.new.text.items ≡ dump_heading h l c.args.object c.args.c =
    c.in_ok-append_first.ensures
    ∙ (ap (λ (s : List ℕ). s ++ codes "dump #" ++ decimal c.args.object ++ codes " " ++ declared_class_name h c.args.c ++ codes " " ++ decimal c.layout.result.now.size ++ codes "\n") c.new-line.ensures.items
    ∙ ap (λ (n : ℕ). codes "dump #" ++ decimal c.args.object ++ codes " " ++ declared_class_name h c.args.c ++ codes " " ++ decimal n ++ codes "\n") (sym (ap size_in_row c.layout.ensures))) in
    same_line c.args.text.now c.deref.result.now (dump_heading h l c.args.object c.args.c) c.behind.result (c.deref.ensures.value ∙ whole) c.behind.ensures
