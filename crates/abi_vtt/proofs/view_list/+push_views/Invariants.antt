use Rattle.std.proofs.Common.{◌≡◌, ℕ, suc, ◌<◌, ◌++◌, drop}
use Rattle.abi_vtt.specs.Vtts.{sub_views}
use Rattle.abi_vtt.proofs.ViewLemmas.{base_views}
use Rattle.abi_vtt.proofs.view_list.+push_views.Given as goal

abbrev pub decreases-push_views : goal.decreases-push_views
decreases-push_views l = l.c.0

-- the views of the bases that are left are still to come
abbrev pub invariant-loop-base : goal.invariant-loop-base
invariant-loop-base l = (n : ℕ) → l.fn.c.0 < suc n → l.list ++ base_views l.h n l.x (drop l.base-index l.base-items) ≡ l.fn.list ++ sub_views l.h (suc n) l.x l.fn.c
