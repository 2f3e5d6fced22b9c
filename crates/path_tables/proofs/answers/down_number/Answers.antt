use Rattle.std.proofs.Common.{◌-◌, ap, sym, ◌∙◌, arith}
use Rattle.foundation.proofs.Truth.{not_both}
use Rattle.cxx_subobject.specs.Subobjects.{class_of}
use Rattle.cxx_search.proofs.Casts.{of_class, is_the_class}
use Rattle.cxx_hierarchy.specs.Classes.{class_by_number}
use Rattle.path_tables.proofs.Numbered.{one_numbered}
use Rattle.path_tables.proofs.Downs.{down_none, down_some}
use Rattle.path_tables.proofs.answers.down_number.Goals as goal

pub returns-then-key : goal.returns-then-key
returns-then-key c = down_none c.args.h.now c.args.key (λ t valid class number. let lt = c.if-key.true in omega arith)

pub returns-then-is_of_class : goal.returns-then-is_of_class
returns-then-is_of_class c = down_some c.args.h.now c.keeps.ensures c.args.key (c.args.key.source - c.args.key.offset) c.in-Some.t.now (let le = c.if-key.false in omega arith) c.in-Some.ensures (of_class (class_by_number c.args.key.target) (class_of c.in-Some.t.now) (sym c.if-is_of_class.ensures))

pub returns-else-is_of_class : goal.returns-else-is_of_class
returns-else-is_of_class c = down_none c.args.h.now c.args.key (λ t valid class number.
    let same = one_numbered c.args.h.now c.keeps.ensures (class_by_number c.args.key.class) (c.args.key.source - c.args.key.offset) t c.in-Some.t.now (record { valid = valid; number = omega (arith, number) }) c.in-Some.ensures in
    not_both (is_the_class (class_by_number c.args.key.target) (class_of c.in-Some.t.now) (ap class_of (sym same) ∙ class)) (sym c.if-is_of_class.ensures))

pub returns-in-None : goal.returns-in-None
returns-in-None c = down_none c.args.h.now c.args.key (λ t valid class number. c.in-None.ensures t (record { valid = valid; number = omega (arith, number) }))
