use Rattle.std.proofs.Common.{ap, sym, ◌∙◌}
use Rattle.cxx_hierarchy.specs.Classes.{bases_in}
use Rattle.abi_sound.specs.Places.{places_of, primary_in}
use Rattle.code_plans.proofs.LoneClasses.{lone_by}
use Rattle.code_plans.proofs.lone.is_lone.Goals as goal

pub returns : goal.returns
returns g c = λ all.
    let h = c.args.h.now in
    lone_by h (places_of h (g.L.SoundLayout.rows c.args.layout.now)) c.keeps.ensures c.args.c c.layout.result.now.primary c.args.dynamic.now c.args.lone.now c.as_slice-bases.result.now c.requires.known
    (c.as_slice-bases.ensures ∙ sym (ap bases_in c.class.ensures)) (sym (ap primary_in c.layout.ensures)) c.requires.dynamic c.requires.lone (sym c.all_join.ensures ∙ all)
