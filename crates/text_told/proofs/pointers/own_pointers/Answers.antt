use Rattle.std.proofs.Common.{◌∙◌, [], map, ap, sym, subst}
use Rattle.foundation.proofs.Truth.{not_both}
use Rattle.cxx_hierarchy.specs.declared.records.ClassId.{ClassId}
use Rattle.cxx_subobject.specs.declared.Subobject.{Subobject}
use Rattle.cxx_subobject.specs.Subobjects.{IsSubobject, whole}
use Rattle.abi_sound.specs.Places.{places_of}
use Rattle.text_told.specs.Pointers.{table_pointer_at}
use Rattle.text_told.proofs.Objects.{no_heads}
use Rattle.text_told.proofs.pointers.own_pointers.Goals as goal

pub returns-then-not-is_dynamic : goal.returns-then-not-is_dynamic
returns-then-not-is_dynamic g c =
    let h = c.args.h.now in
    let l = places_of h (g.L.SoundLayout.rows c.args.layout.now) in
    c.new.ensures.items ∙ sym (ap (map (table_pointer_at l c.args.c)) (no_heads h c.keeps.ensures l c.args.c (λ dyn. not_both (c.is_dynamic.ensures.1 dyn) c.if-not-is_dynamic.true)))

pub view_parts-requires-clause-view : goal.view_parts-requires-clause-view
view_parts-requires-clause-view g c =
    let h = c.args.h.now in
    let name = c.in_ok-whole_name.field-0 in
    subst (λ (d : ClassId). IsSubobject h d name.view) (sym c.in_ok-whole_name.ensures.complete)
    (subst (λ (s : Subobject). IsSubobject h c.args.c s) (sym c.in_ok-whole_name.ensures.view) (whole [] tt))
