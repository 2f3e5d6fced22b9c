use Rattle.std.proofs.Common.{◌≡◌, Some, sym}
use Rattle.std.proofs.lemmas.Result.{IfOk-weaker}
use Rattle.cxx_subobject.specs.Subobjects.{class_of}
use Rattle.cxx_overrider.specs.Overriding.{IsVirtual}
use Rattle.cxx_search.specs.Searches.{final_in}
use Rattle.cxx_search.proofs.Casts.{of_class}
use Rattle.path_tables.specs.Parts.{numbered_overrider}
use Rattle.path_tables.specs.Kept.{keyed_function, IsFinalAnswer}
use Rattle.path_tables.proofs.Targets.{told_true}
use Rattle.path_tables.proofs.Answering.{final_for_all, final_other, class_there}
use Rattle.cxx_hierarchy.specs.Classes.{class_by_number}
use Rattle.path_tables.proofs.answers.final_answer.Goals as goal

pub returns-then-not-is_of_class : goal.returns-then-not-is_of_class
returns-then-not-is_of_class c = final_other c.args.world.now.h.now c.keeps.ensures c.args.key c.in-Some-part_at.y.now c.in-Some-part_at.ensures c.if-not-is_of_class.ensures

pub final_at-requires-clause-call : goal.final_at-requires-clause-call
final_at-requires-clause-call c =
    let f = keyed_function c.args.key in
    let class : class_of c.in-Some-part_at.y.now ≡ Some f.class = of_class (class_by_number c.args.key.owner) (class_of c.in-Some-part_at.y.now) (sym c.if-not-is_of_class.ensures) in
    let is_virtual : IsVirtual c.args.world.now.h.now f = told_true c.is_virtual.result (c.is_virtual.ensures c.args.world.now.h.now c.requires.world.are_overriders) c.if-not-is_virtual.false in
    record {
      known = class_there c.args.world.now.h.now (class_by_number c.args.key.class) c.in-Some-part_at.y.now f c.in-Some-part_at.ensures.valid class is_virtual;
      view = c.in-Some.ensures.valid;
      source = c.in-Some-part_at.ensures.valid;
      of_class = class;
      is_virtual = is_virtual;
    }

pub returns : goal.returns
returns c = IfOk-weaker c.final_at.result (λ answer. answer ≡ numbered_overrider c.args.world.now.h.now (class_by_number c.args.key.class) (final_in c.args.world.now.h.now c.in-Some.x.now c.in-Some-part_at.y.now (keyed_function c.args.key))) (IsFinalAnswer c.args.world.now.h.now c.args.key) (λ answer e. final_for_all c.args.world.now.h.now c.keeps.ensures c.args.key c.in-Some.x.now c.in-Some-part_at.y.now c.in-Some.ensures c.in-Some-part_at.ensures answer e) c.final_at.ensures
