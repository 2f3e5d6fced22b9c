use Rattle.std.proofs.Common.{◌≡◌, rules}
use Rattle.path_numbers.proofs.Placed.{or_zero, told_is}
use Rattle.path_heap.proofs.Reaching.{virtual_past}
use Rattle.path_heap.proofs.ways.shared_distance.Goals as goal

pub returns-then-c-len : goal.returns-then-c-len
returns-then-c-len c = λ has. absurd (virtual_past c.args.h.now c.args.c c.args.v has (search rules))

pub returns : goal.returns
returns c =
    let told : c.unwrap_or.result ≡ or_zero c.shared_offset.result = search rules in
    λ has. told_is c.args.h.now c.args.c c.args.v c.shared_offset.result c.unwrap_or.result (c.shared_offset.ensures c.args.h.now c.keeps.ensures c.requires) has told
