use Rattle.abi_cookie.proofs.Stores.{stored-count, empty-ascends, empty-opened}
use Rattle.abi_cookie.proofs.TextLines.{whole-text}
use Rattle.abi_cookie.proofs.texts.array_text.Goals as goal

pub returns : goal.returns
returns c =
    whole-text c.args.size c.args.cookie c.args.count c.new-text.result.items c.append_sizes.new.text.items c.append_cookie.new.text.items c.append_elements.new.text.items c.append_ending.new.text.items
    c.new-text.ensures.items c.in_ok-append_sizes.ensures
    (c.in_ok-append_cookie.ensures c.args.count (λ some. stored-count _ _ c.args.size c.args.cookie c.args.count c.in_ok-first.first (empty-ascends _ c.new-memory.ensures) c.ranges.count.fits c.requires.multiple c.in_ok-first.ensures.made some))
    c.in_ok-append_elements.ensures
    (c.in_ok-append_ending.ensures c.args.count (c.in_ok-first.ensures.array (empty-opened _ c.new-memory.ensures)))
