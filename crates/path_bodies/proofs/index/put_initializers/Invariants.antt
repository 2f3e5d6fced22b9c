use Rattle.std.proofs.Common.{◌≡◌}
use Rattle.std.specs.Prelude.{nat_eq, if◌then◌else◌, None, take}
use Rattle.path_bodies.specs.declared.table.MemberKey.{MemberKey}
use Rattle.path_bodies.specs.Places.{place_by_key, first_place, sets}
use Rattle.path_bodies.specs.invariants.Firsts.{first_or}
use Rattle.path_bodies.proofs.index.put_initializers.Given as goal

abbrev pub invariant-loop-place : goal.invariant-loop-place
invariant-loop-place l = (q : MemberKey) → place_by_key l.table q ≡ first_or (place_by_key l.initial.table q) (if nat_eq q.class l.c.0 then first_place (sets q.index) (take l.place l.inits) else None)
