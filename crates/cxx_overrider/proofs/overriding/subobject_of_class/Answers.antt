use Rattle.std.proofs.Common.{List, subst, sym, arith}
use Rattle.std.specs.List.{Contains}
use Rattle.cxx_subobject.specs.declared.Subobject.{Subobject}
use Rattle.foundation.proofs.Places.{place_of as contains_get}
use Rattle.std.proofs.lemmas.Option.{slice_get_within}
use Rattle.cxx_overrider.proofs.overriding.subobject_of_class.Goals as goal

pub unreachable-requires : goal.unreachable-requires
unreachable-requires c =
    let items = c.as_slice-s-items.result.now in
    let s = c.requires.part.part in
    let listed : Contains items s = subst (λ (x : List Subobject). Contains x s) (sym c.as_slice-s-items.ensures) (c.in_ok-list.ensures.lists.listed s c.requires.part.valid) in
    let at = contains_get items s listed in
    let lt = slice_get_within items at.0 s at.1 in
    let end = c.loop-s-test.false in
    c.loop-s.invariant at.0 s (omega arith) at.1 c.requires.part.class
