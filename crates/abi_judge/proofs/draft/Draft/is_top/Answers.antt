use Rattle.std.proofs.Common.{◌∙◌, ◌<◌, not, List, length, ap, subst}
use Rattle.cxx_hierarchy.specs.declared.records.ClassId.{ClassId}
use Rattle.abi_sound.specs.Places.{places_of}
use Rattle.abi_judge.proofs.Heads.{top_held, long_top}
use Rattle.abi_judge.proofs.draft.Draft.is_top.Goals as goal

pub returns-in-Some : goal.returns-in-Some
returns-in-Some c =
    top_held c.args.self.now.h.now (places_of c.args.self.now.h.now c.args.self.now.rows.now) c.args.e c.in-Shared.v c.args.s.now _ c.requires.held c.requires.subobject c.in-Shared.is
    (subst (λ (p : List ClassId). length p < 2) c.as_slice.ensures c.in_default.len_below) c.in-Some.ensures

pub returns-in-len2-up : goal.returns-in-len2-up
returns-in-len2-up c =
    let l = places_of c.args.self.now.h.now c.args.self.now.rows.now in
    ap not c.is_direct_primary.ensures ∙ long_top l c.args.e (record { 0 = 0 }) c.args.s.now c.as_slice.result.now c.as_slice.ensures c.in-len2-up.len_at_least
