-- The name under the key is compared, since the key has only its number.
use Rattle.std.proofs.Common.{◌≡◌, sym, ◌∙◌, refl, Bool, true, false}
use Rattle.std.specs.Prelude.{not, List, ℕ}
use Rattle.std.specs.Str.{bytes_eq}
use Rattle.std.proofs.lemmas.Slice.Eq.{bytes_eq-Decides}
use Rattle.cxx_expression.proofs.Knowing.{name_known}
use Rattle.cxx_expression.proofs.known.Known.name.Goals as goal

same_text : (xs ys : List ℕ) (test : Bool) → test ≡ not (bytes_eq xs ys) → test ≡ false → xs ≡ ys
same_text xs ys test e t = (bytes_eq-Decides xs ys).0 (passes (bytes_eq xs ys) (sym e ∙ t))
  where
    passes : (b : Bool) → not b ≡ false → b ≡ true
    passes true f = refl
    passes false f = absurd (cc)

pub returns : goal.returns
returns c = λ h knows. name_known h c.args.self.now c.key_of.result c.args.c c.in_ok-number.number c.args.name.now c.in_ok-known.known.now c.key_of.ensures c.in_ok-known.ensures
    (sym c.as_slice.ensures ∙ same_text c.as_slice.result.now c.args.name.now c.ne.result c.ne.ensures c.if-ne.false) knows
