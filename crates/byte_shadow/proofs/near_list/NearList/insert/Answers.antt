use Rattle.std.proofs.Common.{◌≡◌, ◌^◌, ◌<◌, ◌∙◌, insert, ap, is_ok, rules}
use Rattle.std.specs.List.{find}
use Rattle.byte_shadow.specs.NearLists.{is_near_at}
use Rattle.byte_shadow.proofs.ListLemmas.{ascending-put, narrow-put, listed-insert}
use Rattle.byte_shadow.proofs.near_list.NearList.insert.Goals as goal

pub invariant_of-self : goal.invariant_of-self
invariant_of-self g c =
    let list = c.args.self.now in
    let low : c.args.item.at < 2 ^ 32 = search rules in
    let small : c.args.item.class < 2 ^ 16 = search rules in
    record {
      ascending = ascending-put list.items.items c.insert.new.self.items c.args.index c.args.item (is_ok c.insert.result) c.insert.ensures.items list.ascending list.narrow small c.requires.within c.requires.place c.requires.unlisted;
      narrow = narrow-put list.items.items c.insert.new.self.items c.args.index c.args.item (is_ok c.insert.result) c.insert.ensures.items list.narrow low small c.requires.within;
    }

pub returns-clause-ok : goal.returns-clause-ok
returns-clause-ok g c at class =
    let now : c.insert.new.self.items ≡ insert c.args.self.now.items.items c.args.index c.args.item = search rules in
    ap (find (is_near_at at class)) now ∙ listed-insert c.args.self.now.items.items c.args.index c.args.item c.requires.unlisted at class
