use Rattle.std.proofs.Common.{Bool, sym, subst, arith}
use Rattle.std.specs.Prelude.{◌↔◌, IsTrue}
use Rattle.cxx_subobject.proofs.PathLemmas.{virtual_below}
use Rattle.abi_primary.specs.Kinds.{IsDynamic}
use Rattle.abi_judge.proofs.draft.Draft.has_dynamic_virtual_base.Goals as goal

pub returns-then-has_virtual_base : goal.returns-then-has_virtual_base
returns-then-has_virtual_base c =
    let h = c.args.self.now.h.now in
    let base = c.has_virtual_base.ensures.0 c.if-has_virtual_base.true in
    let low = virtual_below h c.requires.draft.keeps c.args.c c.args.v base in
    let known = c.requires.known in
    let told = subst (λ (f : Bool). IsTrue f ↔ IsDynamic h c.args.v) (sym c.flag_of.ensures) (c.requires.draft.dynamic.each c.args.v (omega (arith, low, known))) in
    (λ t. (base, told.0 t), λ both. told.1 both.1)
