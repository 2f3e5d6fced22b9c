use Rattle.std.proofs.Common.{◌≡◌, rules, arith}
use Rattle.cxx_subobject.specs.Subobjects.{tail_of}
use Rattle.path_numbers.specs.Numbers.{path_number}
use Rattle.path_numbers.proofs.Placed.{or_zero, told_is}
use Rattle.path_numbers.proofs.Paths.{shared_parts, virtual_known, shared_fits}
use Rattle.path_numbers.proofs.numbers.Numbers.number_in.Goals as goal

pub path_offset-requires-in-Shared-clause-known : goal.path_offset-requires-in-Shared-clause-known
path_offset-requires-in-Shared-clause-known c =
    virtual_known c.args.h.now c.keeps.ensures c.args.c c.in-Shared.v _ (shared_parts c.args.h.now c.args.c c.in-Shared.v c.args.s.now c.requires.subobject c.in-Shared.is).0 c.requires.known

pub overflow_add-result : goal.overflow_add-result
overflow_add-result c =
    let parts = shared_parts c.args.h.now c.args.c c.in-Shared.v c.args.s.now c.requires.subobject c.in-Shared.is in
    let started : c.unwrap_or-start.result ≡ or_zero c.shared_offset.result = search rules in
    let start = told_is c.args.h.now c.args.c c.in-Shared.v c.shared_offset.result c.unwrap_or-start.result (c.shared_offset.ensures c.args.h.now c.keeps.ensures c.requires.numbers) parts.0 started in
    let path : c.path_offset-in-Shared.result ≡ path_number c.args.h.now c.in-Shared.v (tail_of c.args.s.now.path) = search rules in
    let r = shared_fits c.args.h.now c.keeps.ensures c.requires.limits c.args.c c.in-Shared.v (tail_of c.args.s.now.path) c.unwrap_or-start.result c.path_offset-in-Shared.result c.requires.known parts.0 parts.1 start path in omega arith
