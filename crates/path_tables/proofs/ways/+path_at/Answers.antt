use Rattle.std.proofs.Common.{arith}
use Rattle.path_numbers.proofs.Paths.{first_of, rest_of, path_room}
use Rattle.path_tables.proofs.ways.+path_at.Goals as goal

pub overflow_add-result : goal.overflow_add-result
overflow_add-result t c =
    let first = c.in_ok-first-in-len1-up.ensures in
    let rest = c.in_ok-rest-in-len1-up.ensures in
    let r = path_room c.args.h.now c.keeps.ensures c.requires.limits c.args.c (first_of c.args.path.now) (rest_of c.args.path.now) c.in_ok-first-in-len1-up.first c.in_ok-rest-in-len1-up.rest first.2 first.0 rest.0 first.1 rest.1 in omega arith
