-- What a call gives that has found nothing, or that has no memory.
use Rattle.std.proofs.Common.{◌≡◌, Option, Some, None, sym, subst}
use Rattle.std.specs.Prelude.{MatchOption, Result, Ok, Err, IfOk, IfErr}
use Rattle.std.specs.Result.{IsErrAnd}

pub none_then : {A : Type 0} (found : Option A) (P : Type 0) (Q : A → Type 0) → found ≡ None → P → MatchOption found P Q
none_then None P Q is p = p
none_then (Some x) P Q is p = cc

pub err_ok : {T E : Type 0} (P : T → Type 0) (Q : E → Type 0) (r : Result T E) → IsErrAnd r Q → IfOk r P
err_ok P Q (Ok x) is = absurd is
err_ok P Q (Err y) is = tt

pub err_stop : {T E : Type 0} (P : E → Type 0) (r : Result T E) (e : E) → IsErrAnd r (λ y. y ≡ e) → P e → IfErr r P
err_stop P (Ok x) e is p = absurd is
err_stop P (Err y) e is p = subst P (sym is) p
