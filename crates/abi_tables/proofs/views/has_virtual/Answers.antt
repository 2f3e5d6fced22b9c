use Rattle.std.proofs.Common.{ap, length, ◌∙◌, arith}
use Rattle.cxx_subobject.specs.VirtualBases.{virtual_bases}
use Rattle.abi_tables.proofs.NumberLemmas.{none_filled, some_filled}
use Rattle.abi_tables.proofs.views.has_virtual.Goals as goal

pub returns-in-empty : goal.returns-in-empty
returns-in-empty g c =
    let h = c.args.h.now in
    let full = (g.met.L.SoundLayout.sound c.args.layout.now h c.requires.layout).full.each c.args.c c.layout.result.now c.layout.ensures in
    let size = ap length (c.as_slice.ensures ∙ full.virtuals) in
    let few = c.in-empty.len_below in
    none_filled (virtual_bases h c.args.c) (omega arith)

pub returns-in-len1-up : goal.returns-in-len1-up
returns-in-len1-up g c =
    let h = c.args.h.now in
    let full = (g.met.L.SoundLayout.sound c.args.layout.now h c.requires.layout).full.each c.args.c c.layout.result.now c.layout.ensures in
    let size = ap length (c.as_slice.ensures ∙ full.virtuals) in
    let some = c.in-len1-up.len_at_least in
    some_filled (virtual_bases h c.args.c) (omega arith)
