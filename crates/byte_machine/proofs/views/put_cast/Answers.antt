use Rattle.std.proofs.Common.{◌≡◌, ℕ, Some, subst}
use Rattle.byte_code.specs.Images.{word_at}
use Rattle.byte_code.specs.declared.code.ImageBytes.{ImageBytes}
use Rattle.abi_dyncast.specs.Casts.{CastsTo}
use Rattle.byte_machine.specs.invariants.States.{fixed_by, running_of}
use Rattle.byte_machine.specs.Running.{with_register}
use Rattle.byte_machine.specs.Effects.{or_null}
use Rattle.byte_machine.proofs.Allowed.{put_inside, did_put}
use Rattle.byte_machine.proofs.views.put_cast.Goals as goal

pub put-requires : goal.put-requires
put-requires g c =
    let s = running_of c.args.running.now in
    let casts : CastsTo (word_at c.args.setup.now.image) s.memory c.args.at c.args.class c.args.target c.cast_hinted-found.result = subst (λ (i : ImageBytes). CastsTo (word_at i) s.memory c.args.at c.args.class c.args.target c.cast_hinted-found.result) c.new-reader.ensures.image (rw c.memory.ensures at c.cast_hinted-found.ensures.casts) in
    put_inside (fixed_by c.args.setup.now) c.args.to (Some (or_null c.cast_hinted-found.result)) s s (λ next. Unit {0}) (c.requires.allowed.1 c.cast_hinted-found.result casts)

pub returns-clause-did : goal.returns-clause-did
returns-clause-did g c =
    let s = running_of c.args.running.now in
    let casts : CastsTo (word_at c.args.setup.now.image) s.memory c.args.at c.args.class c.args.target c.cast_hinted-found.result = subst (λ (i : ImageBytes). CastsTo (word_at i) s.memory c.args.at c.args.class c.args.target c.cast_hinted-found.result) c.new-reader.ensures.image (rw c.memory.ensures at c.cast_hinted-found.ensures.casts) in
    let inside = put_inside (fixed_by c.args.setup.now) c.args.to (Some (or_null c.cast_hinted-found.result)) s s (λ next. Unit {0}) (c.requires.allowed.1 c.cast_hinted-found.result casts) in
    let new : running_of c.put.new.self ≡ with_register s c.args.to (Some (or_null c.cast_hinted-found.result)) = subst (λ (w : ℕ). running_of c.put.new.self ≡ with_register s c.args.to (Some w)) c.or_null.ensures c.put.ensures.put in
    (c.cast_hinted-found.result, (casts, did_put (fixed_by c.args.setup.now) c.args.to (Some (or_null c.cast_hinted-found.result)) s s (running_of c.put.new.self) inside new))
