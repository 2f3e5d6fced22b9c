use Rattle.std.proofs.Common.{refl}
use Rattle.path_columns.specs.Codes.{code_at}
use Rattle.path_heap.specs.invariants.LeafCodes.{pair_by_code}
use Rattle.path_heap.specs.invariants.Layers.{in_byte_layer}
use Rattle.path_heap.proofs.Layering.{others_held, next_held}
use Rattle.path_heap.proofs.pair_layer.PairLayer.set.Goals as goal

pub returns-in_err-set-in-None-2-clause-others : goal.returns-in_err-set-in-None-2-clause-others
returns-in_err-set-in-None-2-clause-others c =
    others_held pair_by_code (code_at c.args.self.now.codes) (code_at c.set-in-None.new.self) (in_byte_layer c.args.self.now.rest) (in_byte_layer c.set-in-None-2.new.self) c.args.n 3
    c.in_ok-set-in-None.ensures.set c.set-in-None-2.ensures.others

pub returns-in_ok-set-in-Some-clause-others : goal.returns-in_ok-set-in-Some-clause-others
returns-in_ok-set-in-Some-clause-others c =
    others_held pair_by_code (code_at c.args.self.now.codes) (code_at c.set.new.self) (in_byte_layer c.args.self.now.rest) (in_byte_layer c.args.self.now.rest) c.args.n c.in-Some.code
    c.in_ok-set-in-Some.ensures.set (λ m differ. refl)

pub returns-in_ok-set-in-None-2-clause-set : goal.returns-in_ok-set-in-None-2-clause-set
returns-in_ok-set-in-None-2-clause-set c =
    next_held pair_by_code (code_at c.args.self.now.codes) (code_at c.set-in-None.new.self) (in_byte_layer c.args.self.now.rest) (in_byte_layer c.set-in-None-2.new.self) c.args.n 3 c.args.value refl
    c.in_ok-set-in-None.ensures.set c.in_ok-set-in-None-2.ensures.set

pub returns-in_ok-set-in-None-2-clause-others : goal.returns-in_ok-set-in-None-2-clause-others
returns-in_ok-set-in-None-2-clause-others c =
    others_held pair_by_code (code_at c.args.self.now.codes) (code_at c.set-in-None.new.self) (in_byte_layer c.args.self.now.rest) (in_byte_layer c.set-in-None-2.new.self) c.args.n 3
    c.in_ok-set-in-None.ensures.set c.set-in-None-2.ensures.others
