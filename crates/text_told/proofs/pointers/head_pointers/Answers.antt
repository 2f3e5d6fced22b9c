use Rattle.std.proofs.Common.{◌≡◌, ◌∙◌, ◌<◌, ◌++◌, ◌∷◌, [], List, length, get_or, take, map, ap, sym, subst}
use Rattle.cxx_subobject.specs.Preorder.{preorder}
use Rattle.abi_sound.specs.Places.{places_of}
use Rattle.abi_slots.specs.Views.{heads}
use Rattle.abi_vtable.specs.declared.view.ViewPart.{ViewPart}
use Rattle.abi_vtable.specs.invariants.Parts.{view_of_parts}
use Rattle.abi_vtable.proofs.Lists.{read_at}
use Rattle.abi_vtable.proofs.TableWords.{head_at, number_below}
use Rattle.text_told.specs.declared.pointers.TablePointer.{TablePointer}
use Rattle.text_told.specs.Pointers.{table_pointer_at}
use Rattle.text_told.proofs.Steps.{part_is, map_one_more}
use Rattle.text_told.proofs.pointers.head_pointers.Goals as goal

pub part_at-part-requires : goal.part_at-part-requires
part_at-part-requires g c =
    let h = c.args.h.now in
    let l = places_of h (g.L.SoundLayout.rows c.args.layout.now) in
    let v = c.args.x.now in
    let n = get_or c.args.numbers.now c.loop-number.number-index 0 in
    let at = head_at (preorder h v.class) (heads h l (view_of_parts v)) c.args.numbers.now c.loop-number.number-index n c.requires.heads (read_at c.args.numbers.now c.loop-number.number-index 0 c.loop-number-test.true) in
    subst (λ (parts : List ViewPart). n < length parts) (sym c.as_slice.ensures) (number_below h l v c.requires.view n at.head at.at_number)

pub loop-number-preserved : goal.loop-number-preserved
loop-number-preserved g c =
    let h = c.args.h.now in
    let l = places_of h (g.L.SoundLayout.rows c.args.layout.now) in
    let v = c.args.x.now in
    let i = c.loop-number.number-index in
    let n = get_or c.args.numbers.now i 0 in
    let at = head_at (preorder h v.class) (heads h l (view_of_parts v)) c.args.numbers.now i n c.requires.heads (read_at c.args.numbers.now i 0 c.loop-number-test.true) in
    let part = c.part_at-part.result.now in
    let same : part.at ≡ at.head = part_is v.parts c.as_slice.result.now (preorder h v.class) n part at.head c.requires.view.parts.subobjects c.as_slice.ensures c.part_at-part.ensures at.at_number in
    let pointer : c.pointer_at.result ≡ table_pointer_at l v.class at.head = c.pointer_at.ensures ∙ ap (table_pointer_at l v.class) same in
    c.in_ok-push.ensures.items
    ∙ (ap (λ (list : List TablePointer). list ++ c.pointer_at.result ∷ []) c.loop-number.invariant
    ∙ (ap (λ (p : TablePointer). map (table_pointer_at l v.class) (take i (heads h l (view_of_parts v))) ++ p ∷ []) pointer
    ∙ map_one_more (table_pointer_at l v.class) (heads h l (view_of_parts v)) i at.head at.there))
