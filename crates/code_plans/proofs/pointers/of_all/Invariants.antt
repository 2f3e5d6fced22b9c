use Rattle.std.proofs.Common.{◌≡◌, take}
use Rattle.path_plan.specs.declared.form.Form.TheVariants.{AsBase, InFull}
use Rattle.abi_sound.specs.Places.{places_of}
use Rattle.code_ops.specs.Setups.{setup}
use Rattle.code_plans.specs.Settings.{settings_of}
use Rattle.code_plans.specs.invariants.Walks.{IsPast}
use Rattle.code_plans.proofs.pointers.of_all.Given as goal

abbrev pub invariant-loop-s : goal.invariant-loop-s
invariant-loop-s g l = record {
  past : IsPast l.site.h.now (places_of l.site.h.now (g.L.SoundLayout.rows l.site.layout.now)) l.c (take l.s-index l.s-items) l.walk;
  in_full : l.made.in_full ≡ settings_of (setup l.site.h.now (g.L.SoundLayout.rows l.site.layout.now) l.site.program.now) InFull l.c (take l.s-index l.s-items);
  as_base : l.made.as_base ≡ settings_of (setup l.site.h.now (g.L.SoundLayout.rows l.site.layout.now) l.site.program.now) AsBase l.c (take l.s-index l.s-items);
}
