use Rattle.std.proofs.Common.{◌≡◌, ap, ◌∙◌, set, false}
use Rattle.std.proofs.lemmas.Option.{get_or_from_slice_get}
use Rattle.byte_memory.specs.declared.memory.Region.{Region}
use Rattle.byte_memory.proofs.Reached.{shut-set, starts-differ}
use Rattle.byte_memory.proofs.regions.shut_region.Goals as goal

pub returns : goal.returns
returns c r here =
    let regions = c.args.regions.now.items in
    let one : c.index_mut.result.now ≡ r = c.index_mut.ensures.value ∙ get_or_from_slice_get regions c.args.number r c.index_mut.result.now here in
    ap (λ (q : Region). set regions c.args.number (record q { is_open = false })) one
    ∙ shut-set regions c.args.number r here (λ k x other there. starts-differ regions c.args.number k r x c.requires.ascending c.requires.sizes here other there)
