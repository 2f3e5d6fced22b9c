use Rattle.std.proofs.Common.{◌-◌}
use Rattle.byte_memory.specs.Store.{Closes}
use Rattle.abi_cookie.proofs.Ending.{kept-by-close}
use Rattle.abi_cookie.proofs.arrays.delete_array.Goals as goal

pub returns-clause-kept : goal.returns-clause-kept
returns-clause-kept g c =
    kept-by-close (Closes (g.M.Memory.meaning c.args.memory.now) (g.M.Memory.meaning c.close.new.self) (c.args.first - c.args.cookie)) c.close.result
    (g.M.Memory.meaning c.args.memory.now) (g.M.Memory.meaning c.close.new.self) c.args.ended.now c.end_elements.new.ended c.args.first c.args.size c.args.cookie c.requires.array.0 (c.args.first - c.args.cookie)
    c.close.ensures c.in_ok-end_elements.ensures.reached (c.in_ok-end_elements.ensures.ended c.requires.array.0 c.requires.array.1)
