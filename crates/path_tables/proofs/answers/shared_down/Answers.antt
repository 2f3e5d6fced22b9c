use Rattle.std.proofs.Common.{ap, ◌∙◌}
use Rattle.cxx_subobject.specs.Subobjects.{same_subobject}
use Rattle.cxx_subobject.specs.declared.Subobject.{Subobject}
use Rattle.path_tables.proofs.Numbered.{one_numbered}
use Rattle.path_tables.proofs.Downs.{derived_shared, derived_other}
use Rattle.path_tables.proofs.answers.shared_down.Goals as goal

pub returns-then-is_same : goal.returns-then-is_same
returns-then-is_same c = λ y ny.
    let same = one_numbered c.args.h.now c.keeps.ensures c.args.c c.args.source c.in-Some.y.now y c.in-Some.ensures ny in
    c.base_number.ensures ∙ derived_shared c.args.h.now c.args.c c.args.target c.args._v c.args.i.now y c.requires.shared (c.if-is_same.ensures ∙ ap (λ (z : Subobject). same_subobject c.args.i.now z) same)

pub returns-else-is_same : goal.returns-else-is_same
returns-else-is_same c = λ y ny.
    let same = one_numbered c.args.h.now c.keeps.ensures c.args.c c.args.source c.in-Some.y.now y c.in-Some.ensures ny in
    derived_other c.args.h.now c.args.c c.args.target c.args._v c.args.i.now y c.requires.shared (c.if-is_same.ensures ∙ ap (λ (z : Subobject). same_subobject c.args.i.now z) same)
