use Rattle.std.proofs.Common.{◌≡◌, ◌-◌, List, [], ◌∷◌, length, take, drop, suc, subst, sym, rules, arith}
use Rattle.std.specs.List.{Contains}
use Rattle.std.proofs.lemmas.List.{take_all}
use Rattle.cxx_overrider.proofs.keys.+push_types.Goals as goal

rest_contains : {X : Type 0} (xs : List X) (x : X) → Contains (take (length xs - 1) (drop 1 xs)) x → Contains xs x
rest_contains [] x k = let lt = k.1 in absurd (omega arith)
rest_contains {X} (y ∷ ys) x k =
    let same : take (length (y ∷ ys) - 1) ys ≡ ys = take_all (length (y ∷ ys) - 1) ys (omega arith) in
    let r : Contains ys x = subst (λ (zs : List X). Contains zs x) same k in
    let lt = r.1 in
    (suc r.0, omega arith, r.2)

pub first_code-requires : goal.first_code-requires
first_code-requires t c = λ x e. c.requires x c.param-item.result (0, omega arith, sym c.param-item.is) e

pub push_types-requires : goal.push_types-requires
push_types-requires t c = (search rules, λ x p there e. c.requires x p (rest_contains c.args.params.now p there) e)
