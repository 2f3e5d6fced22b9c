use Rattle.std.proofs.Common.{◌+◌, ◌∙◌, ap, refl}
use Rattle.byte_memory.specs.Store.{Store}
use Rattle.abi_cookie.specs.Arrays.{count_stored}
use Rattle.abi_cookie.proofs.Stores.{reached-count, made-array, made-opened}
use Rattle.abi_cookie.proofs.arrays.new_array.Goals as goal

pub store_count-requires-clause-reached : goal.store_count-requires-clause-reached
store_count-requires-clause-reached g c = λ some.
    reached-count (g.M.Memory.meaning c.args.memory.now) (g.M.Memory.meaning c.open.new.self) c.in-Ok.start c.args.size c.args.cookie c.args.count
    (g.met.M.Memory.ascends c.args.memory.now) c.in-Ok.ensures.0 c.in-Ok.ensures.1 c.requires.multiple some

pub returns-clause-array : goal.returns-clause-array
returns-clause-array g c = λ are.
    made-array (g.M.Memory.meaning c.args.memory.now) (g.M.Memory.meaning c.store_count.new.memory) c.args.size c.args.cookie c.args.count (c.in-Ok.start + c.args.cookie)
    (g.met.M.Memory.ascends c.args.memory.now) are c.requires.some_count c.ranges.count.fits c.requires.multiple
    (record {
      start = c.in-Ok.start;
      room = c.in-Ok.ensures.0;
      behind = refl;
      new_is = c.store_count.ensures ∙ ap (λ (memory : Store). count_stored memory c.args.cookie c.args.count (c.in-Ok.start + c.args.cookie)) c.in-Ok.ensures.1;
    })

pub returns-clause-opened : goal.returns-clause-opened
returns-clause-opened g c = λ are.
    made-opened (g.M.Memory.meaning c.args.memory.now) (g.M.Memory.meaning c.store_count.new.memory) c.args.size c.args.cookie c.args.count (c.in-Ok.start + c.args.cookie)
    c.requires.some_size c.requires.some_count are
    (record {
      start = c.in-Ok.start;
      room = c.in-Ok.ensures.0;
      behind = refl;
      new_is = c.store_count.ensures ∙ ap (λ (memory : Store). count_stored memory c.args.cookie c.args.count (c.in-Ok.start + c.args.cookie)) c.in-Ok.ensures.1;
    })
