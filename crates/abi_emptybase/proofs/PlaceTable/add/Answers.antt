use Rattle.std.proofs.Common.{◌≡◌, ◌≤◌, Bool, true, false, List, length, refl, ◌∙◌, ap, arith}
use Rattle.std.specs.Prelude.{◌||◌}
use Rattle.std.specs.HashSet.{spare}
use Rattle.abi_emptybase.specs.declared.Part.{Part}
use Rattle.abi_emptybase.specs.Table.{holds}
use Rattle.abi_emptybase.proofs.PlaceTable.add.Goals as goal

or_false : (b : Bool) → b ≡ (b || false)
or_false true = refl
or_false false = refl

pub loop-part-init : goal.loop-part-init
loop-part-init c = record {
  added = λ q. c.in_ok-reserve.ensures.keys.2 q ∙ (ap (λ (keys : List Part). holds keys q) c.self.view_is ∙ or_false (holds c.args.self.now q));
  room = let r : length c.args.parts.now ≤ spare c.reserve.new.self = c.in_ok-reserve.ensures.ok in omega arith;
}
