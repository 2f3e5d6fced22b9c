use Rattle.std.proofs.Common.{◌≡◌, ◌<◌, ◌-◌, inr, refl, arith}
use Rattle.std.specs.Prelude.{Ok}
use Rattle.std.proofs.lemmas.Result.{on_ok_weaker, IfErr-weaker}
use Rattle.byte_memory.specs.declared.memory.MemoryFault.TheVariants.{NoMemory}
use Rattle.abi_cookie.specs.Arrays.{IsCloseRefusal}
use Rattle.abi_cookie.proofs.Ending.{loaded-count, below-count, ended-by-count}
use Rattle.abi_cookie.proofs.arrays.end_elements.Goals as goal

pub append_ended-requires : goal.append_ended-requires
append_ended-requires g c =
    let some : 0 < c.args.cookie = omega arith in
    below-count (g.M.Memory.meaning c.args.memory.now) c.args.size c.args.cookie c.requires.array.0 c.args.first c.in-Ok.count c.requires.array.1
    (loaded-count (g.M.Memory.meaning c.args.memory.now) c.args.size c.args.cookie c.requires.array.0 c.args.first c.in-Ok.count (Ok c.in-Ok.count)
    (g.met.M.Memory.ascends c.args.memory.now) c.requires.multiple some c.requires.array.1 c.in-Ok.ensures refl).0

pub returns-clause-ended : goal.returns-clause-ended
returns-clause-ended g c =
    let some : 0 < c.args.cookie = omega arith in
    on_ok_weaker c.append_ended.result (λ is n array.
    ended-by-count c.args.ended.now c.append_ended.new.ended c.args.first c.args.size c.args.cookie n c.in-Ok.count some
    (loaded-count (g.M.Memory.meaning c.args.memory.now) c.args.size c.args.cookie n c.args.first c.in-Ok.count (Ok c.in-Ok.count)
    (g.met.M.Memory.ascends c.args.memory.now) c.requires.multiple some array c.in-Ok.ensures refl).0 is) c.append_ended.ensures.ok

pub returns-clause-reached : goal.returns-clause-reached
returns-clause-reached g c =
    let some : 0 < c.args.cookie = omega arith in
    on_ok_weaker c.append_ended.result (λ is more.
    (loaded-count (g.M.Memory.meaning c.args.memory.now) c.args.size c.args.cookie c.requires.array.0 c.args.first c.in-Ok.count (Ok c.in-Ok.count)
    (g.met.M.Memory.ascends c.args.memory.now) c.requires.multiple some c.requires.array.1 c.in-Ok.ensures refl).1) c.append_ended.ensures.ok

pub returns-clause-refused : goal.returns-clause-refused
returns-clause-refused g c =
    let some : 0 < c.args.cookie = omega arith in
    IfErr-weaker c.append_ended.result (λ fault. fault ≡ NoMemory) (IsCloseRefusal (g.M.Memory.meaning c.args.memory.now) (c.args.first - c.args.cookie)) (λ fault is. inr (
      (loaded-count (g.M.Memory.meaning c.args.memory.now) c.args.size c.args.cookie c.requires.array.0 c.args.first c.in-Ok.count (Ok c.in-Ok.count)
          (g.met.M.Memory.ascends c.args.memory.now) c.requires.multiple some c.requires.array.1 c.in-Ok.ensures refl).1,
      is,
    )) c.append_ended.ensures.err
