use Rattle.std.proofs.Common.{◌≡◌, ◌∙◌}
use Rattle.std.proofs.lemmas.Option.{get_or_from_slice_get}
use Rattle.byte_shadow.proofs.ListLemmas.{changed-near}
use Rattle.byte_shadow.proofs.near_list.NearList.change.Goals as goal

pub returns : goal.returns
returns g c item here =
    let items = c.args.self.now.items.items in
    let one : c.index-item.result.now ≡ item = c.index-item.ensures ∙ get_or_from_slice_get items c.args.index item c.index-item.result.now here in
    changed-near items c.args.index c.index-item.result.now item c.args.other_class c.args.distance c.args.what one c.args.self.now.ascending here
