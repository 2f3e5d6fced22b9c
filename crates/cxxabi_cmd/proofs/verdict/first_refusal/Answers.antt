use Rattle.std.proofs.Common.{inl, inr, ⊎_elim, arith}
use Rattle.cxxabi_cmd.proofs.ClassFaults.{class_known, layout_before, meaning_first, refused_meaning}
use Rattle.cxxabi_cmd.proofs.verdict.first_refusal.Goals as goal

pub lay_out_first-requires : goal.lay_out_first-requires
lay_out_first-requires c =
    let known = class_known c.args.h.now c.args.refused.class c.args.refused.stop (refused_meaning c.args.h.now c.args.refused.class c.args.refused.stop c.requires.stops c.requires.refuses) in
    omega (arith, known)

pub returns-in-Err : goal.returns-in-Err
returns-in-Err c =
    let refused = refused_meaning c.args.h.now c.args.refused.class c.args.refused.stop c.requires.stops c.requires.refuses in
    ⊎_elim (λ memory. inl memory) (λ first. inr (layout_before c.args.h.now c.args.refused.class c.in-Err.stop c.args.refused.stop c.keeps.ensures refused first)) c.in-Err.ensures.stop

pub returns : goal.returns
returns c =
    let refused = refused_meaning c.args.h.now c.args.refused.class c.args.refused.stop c.requires.stops c.requires.refuses in
    inr (meaning_first c.args.h.now c.args.refused.class c.args.refused.stop c.in-Ok.field-0 c.keeps.ensures refused c.in-Ok.ensures.laid)
