use Rattle.abi_sound.specs.Places.{places_of}
use Rattle.path_plan.specs.declared.form.Form.TheVariants.{AsBase, InFull}
use Rattle.code_ops.specs.Setups.{setup}
use Rattle.code_plans.proofs.LoneClasses.{lone_settings, whole_at, whole_valid}
use Rattle.code_plans.proofs.pointers.of_whole.Goals as goal

pub visit-requires-clause-valid : goal.visit-requires-clause-valid
visit-requires-clause-valid g c = whole_valid c.args.site.now.h.now c.args.c c.in_ok-longer_path.field-0 c.in_ok-longer_path.ensures

pub visit-requires-clause-at : goal.visit-requires-clause-at
visit-requires-clause-at g c =
    let h = c.args.site.now.h.now in
    whole_at h (places_of h (g.L.SoundLayout.rows c.args.site.now.layout.now)) c.args.c c.in_ok-longer_path.field-0 c.start-walk.result c.in_ok-longer_path.ensures c.start-walk.ensures

pub returns : goal.returns
returns g c =
    let x = setup c.args.site.now.h.now (g.L.SoundLayout.rows c.args.site.now.layout.now) c.args.site.now.program.now in
    let path = c.in_ok-longer_path.field-0 in
    record {
      in_full = lone_settings x InFull c.args.c path c.new.result c.visit.new.made.in_full c.requires.lone c.in_ok-longer_path.ensures c.new.ensures c.in_ok-visit.ensures.in_full;
      as_base = lone_settings x AsBase c.args.c path c.new-2.result c.visit.new.made.as_base c.requires.lone c.in_ok-longer_path.ensures c.new-2.ensures c.in_ok-visit.ensures.as_base;
    }
