use Rattle.std.proofs.Common.{◌≡◌, w64, to_z, of_z, rules}
use Rattle.byte_code.specs.Images.{word_at}
use Rattle.byte_code.proofs.Reading.{read_thunk}
use Rattle.byte_code.proofs.code.ImageBytes.thunk.Goals as goal

pub returns : goal.returns
returns c = λ r there.
    let a : to_z w64 (of_z w64 c.signed_behind.result) ≡ c.signed_behind.result = search rules in
    let b : to_z w64 (of_z w64 c.signed_behind-2.result) ≡ c.signed_behind-2.result = search rules in
    let d : to_z w64 (of_z w64 c.signed_behind-3.result) ≡ c.signed_behind-3.result = search rules in
    let e : to_z w64 (of_z w64 c.signed_behind-4.result) ≡ c.signed_behind-4.result = search rules in
    read_thunk (word_at c.args.self.now) c.args.at _ _ _ _ _ _ _ _ r c.signed_behind.ensures c.signed_behind-2.ensures c.signed_behind-3.ensures c.signed_behind-4.ensures a b d e there
