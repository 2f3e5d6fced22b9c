use Rattle.std.proofs.Common.{◌<◌, ◌^◌, None, get_or, arith}
use Rattle.std.specs.Prelude.{Contains}
use Rattle.foundation.proofs.Places.{any_default}
use Rattle.text_told.specs.declared.pointers.TablePointer.{TablePointer}
use Rattle.text_told.proofs.pointers.push_moved.Goals as goal

pub moved-requires : goal.moved-requires
moved-requires c =
    let none : TablePointer = record { place = 0; class = None; in_object = 0; object = record { 0 = 0 } } in
    let p = get_or c.args.inside.now c.loop-pointer.pointer-index none in
    let has : Contains c.args.inside.now p = (c.loop-pointer.pointer-index, c.loop-pointer-test.true, any_default c.args.inside.now c.loop-pointer.pointer-index p none c.loop-pointer-test.true) in
    let small : p.place < 2 ^ 31 = c.requires.inside p has in
    let by : c.args.by < 2 ^ 31 = c.requires.by in omega arith
