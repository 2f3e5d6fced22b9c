use Rattle.std.proofs.Common.{◌≡◌, ◌<◌, All, length, subst, sym, arith}
use Rattle.std.specs.List.{flat_map}
use Rattle.std.proofs.lemmas.Grind.{common_steps}
use Rattle.cxx_hierarchy.specs.declared.records.ClassId.{ClassId}
use Rattle.abi_rtti.specs.TypeInfos.{named_virtual}
use Rattle.abi_rtti.proofs.WalkLemmas.{known_edges}
use Rattle.abi_rtti.proofs.walk.virtual_edges.Goals as goal

pub returns-clause-known : goal.returns-clause-known
returns-clause-known c =
    let e : c.loop-d.edges.items ≡ flat_map (named_virtual c.args.h.now) c.args.classes.now = grind (arith, common_steps) in
    subst (λ cs. All (λ (d : ClassId). d.0 < length c.args.h.now) cs) (sym e) (known_edges c.args.h.now c.keeps.ensures c.args.classes.now c.requires)
