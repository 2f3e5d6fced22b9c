use Rattle.std.proofs.Common.{Bool, false, sym, subst, arith}
use Rattle.std.specs.Prelude.{◌↔◌, IsTrue}
use Rattle.cxx_subobject.proofs.PathLemmas.{base_before}
use Rattle.abi_primary.specs.Kinds.{IsDynamic}
use Rattle.abi_judge.proofs.draft.Draft.has_dynamic_base.Goals as goal

pub returns-then-has_direct_base : goal.returns-then-has_direct_base
returns-then-has_direct_base c =
    let h = c.args.self.now.h.now in
    let base = c.has_direct_base.ensures.0 c.if-has_direct_base.true in
    let low = base_before h c.requires.draft.keeps c.args.c c.args.b false base in
    let known = c.requires.known in
    let told = subst (λ (f : Bool). IsTrue f ↔ IsDynamic h c.args.b) (sym c.flag_of.ensures) (c.requires.draft.dynamic.each c.args.b (omega (arith, low, known))) in
    (λ t. (base, told.0 t), λ both. told.1 both.1)
