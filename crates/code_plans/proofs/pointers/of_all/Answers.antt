use Rattle.std.proofs.Common.{◌+◌, take, drop, subst, sym, ◌∙◌}
use Rattle.cxx_subobject.specs.Preorder.{preorder}
use Rattle.path_plan.specs.declared.form.Form.TheVariants.{AsBase, InFull}
use Rattle.abi_sound.specs.Places.{places_of}
use Rattle.code_ops.specs.Setups.{setup}
use Rattle.code_plans.specs.invariants.Walks.{IsPast}
use Rattle.code_plans.proofs.Putting.{all_taken, around, next_taken, settings_all, settings_next}
use Rattle.code_plans.proofs.pointers.of_all.Goals as goal

pub visit-requires-clause-at : goal.visit-requires-clause-at
visit-requires-clause-at g c =
    let list = c.as_slice-s-items.result.now in
    let i = c.loop-s.s-index in
    record {
      passed = take i list;
      rest = drop (i + 1) list;
      is = sym (c.as_slice-s-items.ensures ∙ c.in_ok-list.ensures.preorder) ∙ around list i c.s-item.result c.loop-s-test.true c.s-item.is;
      past = c.loop-s.invariant.past;
    }

pub loop-s-preserved : goal.loop-s-preserved
loop-s-preserved g c =
    let h = c.args.site.now.h.now in
    let rows = g.L.SoundLayout.rows c.args.site.now.layout.now in
    let x = setup h rows c.args.site.now.program.now in
    let list = c.as_slice-s-items.result.now in
    let i = c.loop-s.s-index in
    let s = c.s-item.result in
    let next = next_taken list i s c.loop-s-test.true c.s-item.is in
    record {
      past = subst (λ passed. IsPast h (places_of h rows) c.args.c passed c.visit.new.walk) next (c.in_ok-visit.ensures.walk (take i list) c.loop-s.invariant.past);
      in_full = settings_next x InFull c.args.c (take i list) (take (i + 1) list) s c.loop-s.made.in_full c.visit.new.made.in_full next c.loop-s.invariant.in_full c.in_ok-visit.ensures.in_full;
      as_base = settings_next x AsBase c.args.c (take i list) (take (i + 1) list) s c.loop-s.made.as_base c.visit.new.made.as_base next c.loop-s.invariant.as_base c.in_ok-visit.ensures.as_base;
    }

pub returns : goal.returns
returns g c =
    let x = setup c.args.site.now.h.now (g.L.SoundLayout.rows c.args.site.now.layout.now) c.args.site.now.program.now in
    let all = all_taken c.as_slice-s-items.result.now (preorder x.h c.args.c) c.loop-s.s-index c.loop-s-test.false (c.as_slice-s-items.ensures ∙ c.in_ok-list.ensures.preorder) in
    let list = take c.loop-s.s-index c.as_slice-s-items.result.now in
    let whole = preorder x.h c.args.c in
    record {
      in_full = settings_all x InFull c.args.c list whole c.loop-s.made.in_full c.loop-s.invariant.in_full all;
      as_base = settings_all x AsBase c.args.c list whole c.loop-s.made.as_base c.loop-s.invariant.as_base all;
    }
