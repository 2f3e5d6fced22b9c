use Rattle.std.proofs.Common.{◌≡◌, ◌<◌, All, length, subst, sym, arith}
use Rattle.std.proofs.lemmas.Grind.{common_steps}
use Rattle.cxx_hierarchy.specs.declared.records.ClassId.{ClassId}
use Rattle.cxx_subobject.proofs.TreeLemmas.{preorder_lists}
use Rattle.abi_rtti.specs.TypeInfos.{classes_in}
use Rattle.abi_rtti.proofs.WalkLemmas.{known_classes}
use Rattle.abi_rtti.proofs.walk.classes_in.Goals as goal

pub returns-clause-known : goal.returns-clause-known
returns-clause-known c =
    let e : c.loop-s.classes.items ≡ classes_in c.args.h.now c.args.c = grind (arith, common_steps) in
    subst (λ cs. All (λ (d : ClassId). d.0 < length c.args.h.now) cs) (sym e) (known_classes c.args.h.now c.keeps.ensures c.args.c c.requires (preorder_lists c.args.h.now c.args.c c.keeps.ensures))
