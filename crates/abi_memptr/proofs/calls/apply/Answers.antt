use Rattle.std.proofs.Common.{◌≡◌, ◌∙◌, w64, to_z, of_z, rules}
use Rattle.abi_memptr.proofs.Applying.{applies}
use Rattle.abi_memptr.proofs.calls.apply.Goals as goal

pub returns : goal.returns
returns g c = λ h rows codes d f s complete value coded ptr_is adj_is.
    let word_back : to_z w64 (of_z w64 c.args.ptr) ≡ c.args.ptr = search rules in
    let add_back : to_z w64 (of_z w64 c.args.adj) ≡ c.args.adj = search rules in
    applies h rows c.args.image.now codes (g.M.Memory.meaning c.args.memory.now) d c.args.at f s complete value c.args.ptr c.args.adj c.unsigned-word.result c.unsigned-add.result c.moved-this.result c.word_target.result coded ptr_is adj_is
    (λ n is. c.unsigned-word.ensures n (word_back ∙ is)) (λ n is. c.unsigned-add.ensures n (add_back ∙ is)) c.moved-this.ensures c.word_target.ensures.odd c.word_target.ensures.even
