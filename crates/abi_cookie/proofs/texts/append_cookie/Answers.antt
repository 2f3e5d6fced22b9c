use Rattle.std.proofs.Common.{◌<◌, ◌-◌, arith}
use Rattle.byte_memory.specs.Store.{load_of}
use Rattle.abi_cookie.proofs.TextLines.{cookie-told}
use Rattle.abi_cookie.proofs.texts.append_cookie.Goals as goal

pub returns : goal.returns
returns g c =
    let some : 0 < c.args.cookie = omega arith in
    cookie-told c.append_count.result (load_of (g.M.Memory.meaning c.args.memory.now) (c.args.first - 8) 8) c.args.text.now.items c.append_count.new.text.items c.args.cookie some c.append_count.ensures
