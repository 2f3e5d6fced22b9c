use Rattle.std.proofs.Common.{◌≡◌, ◌∙◌, ◌<◌, ◌≤◌, ap, sym, subst, get_or, length, false, rules, List}
use Rattle.std.specs.Prelude.{Some, slice_get}
use Rattle.std.proofs.lemmas.Option.{slice_get-get_or}
use Rattle.cxx_hierarchy.specs.declared.records.ClassId.{ClassId}
use Rattle.cxx_hierarchy.specs.declared.records.Base.{Base}
use Rattle.cxx_hierarchy.specs.Classes.{bases_of}
use Rattle.path_numbers.specs.Numbers.{base_number}
use Rattle.path_numbers.proofs.Placed.{base_number_at, base_past, none_more, some_base}
use Rattle.path_numbers.proofs.Rows.{bases_are}
use Rattle.path_numbers.proofs.numbers.Numbers.base_number.Goals as goal

abbrev no_base : Base ClassId
no_base = record { class = record { 0 = 0 }; is_virtual = false; is_public = false; at = 0 }

pub returns-then-c-len : goal.returns-then-c-len
returns-then-c-len c = λ edge. absurd (base_past c.args.h.now c.args.c c.args.b false edge (search rules))

pub returns-then-eq : goal.returns-then-eq
returns-then-eq c =
    let e = bases_are c.args.h.now c.args.c c.class.result.now c.as_slice-bases.result.now c.class.ensures c.as_slice-bases.ensures in
    let same : (get_or c.as_slice-bases.result.now c.loop-i.i no_base).class ≡ c.args.b = search rules in
    let at : slice_get (bases_of c.args.h.now c.args.c) c.loop-i.i ≡ Some (get_or c.as_slice-bases.result.now c.loop-i.i no_base) = ap (λ (bs : List (Base ClassId)). slice_get bs c.loop-i.i) (sym e) ∙ slice_get-get_or c.as_slice-bases.result.now c.loop-i.i no_base c.loop-i-test.true in
    let lt : c.loop-i.i < length (bases_of c.args.h.now c.args.c) = subst (λ (bs : List (Base ClassId)). c.loop-i.i < length bs) e c.loop-i-test.true in
    λ edge. c.base_offset.ensures c.args.h.now c.requires lt ∙ sym (base_number_at c.args.h.now c.keeps.ensures c.args.c c.loop-i.i (get_or c.as_slice-bases.result.now c.loop-i.i no_base) at) ∙ ap (base_number c.args.h.now c.args.c) same

pub loop-i-preserved : goal.loop-i-preserved
loop-i-preserved c =
    let other_class : (get_or c.as_slice-bases.result.now c.loop-i.i no_base).class ≡ c.args.b → ⊥ = search rules in
    record { none = none_more c.as_slice-bases.result.now c.args.b c.loop-i.i no_base c.loop-i-test.true c.loop-i.invariant.none other_class }

pub returns : goal.returns
returns c =
    let e = bases_are c.args.h.now c.args.c c.class.result.now c.as_slice-bases.result.now c.class.ensures c.as_slice-bases.ensures in
    λ edge. absurd (some_base c.args.h.now c.args.c c.args.b c.loop-i.i edge (subst (λ (bs : List (Base ClassId)). length bs ≤ c.loop-i.i) e c.loop-i-test.false)
    (λ j x lt at. c.loop-i.invariant.none j x lt (ap (λ (bs : List (Base ClassId)). slice_get bs j) e ∙ at)))
