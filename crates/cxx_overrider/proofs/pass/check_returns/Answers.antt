use Rattle.std.proofs.Common.{◌≡◌, Some, length, ap, sym, ◌∙◌, arith}
use Rattle.std.specs.List.{slice_get}
use Rattle.cxx_hierarchy.specs.Classes.{functions_of}
use Rattle.cxx_overrider.proofs.Lists.{get_at}
use Rattle.cxx_overrider.proofs.PassLemmas.{function_fault, function_fine, functions_fine}
use Rattle.cxx_overrider.proofs.pass.check_returns.Goals as goal

pub returns-in-Some-clause-err : goal.returns-in-Some-clause-err
returns-in-Some-clause-err c =
    let h = c.args.h.now in
    let f = c.index-functions-index.result in
    let i = c.loop-index.index in
    let at : slice_get (functions_of h c.args.c) i ≡ Some f = get_at c.as_slice-functions.result.now (functions_of h c.args.c) i f c.loop-index.invariant.items c.loop-index-test.true ∙ ap (λ x. Some x) (sym c.index-functions-index.is) in
    function_fault h c.args.c i f c.in-Some.rule at c.in-Some.ensures c.loop-index.invariant.fine

pub loop-index-preserved : goal.loop-index-preserved
loop-index-preserved c = record {
  items = c.loop-index.invariant.items;
  fine = function_fine c.args.h.now c.args.c c.loop-index.index c.in-None.ensures c.loop-index.invariant.fine;
}

pub returns-clause-fine : goal.returns-clause-fine
returns-clause-fine c =
    let h = c.args.h.now in
    let end = c.loop-index-test.false in
    let size = ap length c.loop-index.invariant.items in
    functions_fine h c.args.c c.loop-index.index (omega arith) c.loop-index.invariant.fine
