use Rattle.std.proofs.Common.{rules, arith}
use Rattle.path_numbers.proofs.Paths.{first_of, rest_of, stepped, base_known, path_room}
use Rattle.path_numbers.proofs.numbers.Numbers.+path_offset.Goals as goal

pub path_offset-requires : goal.path_offset-requires
path_offset-requires t c =
    let step = stepped c.args.h.now c.args.c c.args.path.now c.in-len1-up.len_at_least c.requires.path in
    (search rules, (base_known c.args.h.now c.keeps.ensures c.args.c (first_of c.args.path.now) _ step.edge c.requires.known, (c.requires.limits, (c.requires.numbers, step.rest))))

pub overflow_add-result : goal.overflow_add-result
overflow_add-result t c =
    let step = stepped c.args.h.now c.args.c c.args.path.now c.in-len1-up.len_at_least c.requires.path in
    let r = path_room c.args.h.now c.keeps.ensures c.requires.limits c.args.c (first_of c.args.path.now) (rest_of c.args.path.now) c.base_number.result c.path_offset.result c.requires.known step.edge step.rest (c.base_number.ensures step.edge) c.path_offset.ensures in omega arith
