use Rattle.std.proofs.Common.{ap, sym, ◌∙◌}
use Rattle.cxx_subobject.specs.declared.Subobject.{Subobject}
use Rattle.cxx_subobject.specs.Subobjects.{same_subobject}
use Rattle.abi_sound.specs.Chains.{is_subobject_in}
use Rattle.abi_layout.proofs.algorithm.SceneLemmas.{holder_below, holds_by, holder_is_none}
use Rattle.abi_layout.proofs.scene.holds.Goals as goal

pub bounds-scene-n : goal.bounds-scene-n
bounds-scene-n c =
    let x = c.args.scene.now in
    holder_below x.primaries.now x.list.now x.c.0 x.holders.now c.args.v c.in-Some.n c.requires.scene.holders_are c.requires.before (sym c.holder.ensures ∙ c.in-Some.is)

pub returns-in-Some : goal.returns-in-Some
returns-in-Some c =
    let x = c.args.scene.now in
    c.is_same.ensures
    ∙ (ap (λ (t : Subobject). same_subobject t c.args.s.now) (sym c.index-scene-n.is)
    ∙ holds_by x.h.now x.primaries.now x.c x.list.now x.c.0 x.holders.now c.args.v c.in-Some.n c.index-scene-n.result c.args.s.now c.requires.scene.tells c.requires.scene.holders_are c.requires.before (sym c.holder.ensures ∙ c.in-Some.is) c.index-scene-n.is)

pub returns-in-None : goal.returns-in-None
returns-in-None c =
    let x = c.args.scene.now in
    sym (ap (λ o. is_subobject_in o c.args.s.now) (holder_is_none x.h.now x.primaries.now x.c x.list.now x.c.0 x.holders.now c.args.v c.requires.scene.tells c.requires.scene.holders_are c.requires.before (sym c.holder.ensures ∙ c.in-None.is)))
