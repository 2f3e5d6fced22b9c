use Rattle.std.proofs.Common.{◌≡◌, List, ℕ, ◌++◌, append_assoc}
use Rattle.std.specs.Prelude.{codes}
use Rattle.std.specs.Fmt.{decimal}
use Rattle.cxx_gen.proofs.source.append_object.Goals as goal

-- three pieces, one behind the other
three_pieces : (old a b d first second third : List ℕ) → first ≡ old ++ a → second ≡ first ++ b → third ≡ second ++ d → third ≡ old ++ (a ++ (b ++ d))
three_pieces old a b d first second third e f g = rw (g, f, e) (simp append_assoc)

pub returns : goal.returns
returns c =
    three_pieces c.args.text.now.items (codes "q = new A") (decimal c.args.class) (codes "; r = q->f(); print(r);\n") _ _ _ c.in_ok-append.ensures c.in_ok-append_number.ensures c.in_ok-append-2.ensures
