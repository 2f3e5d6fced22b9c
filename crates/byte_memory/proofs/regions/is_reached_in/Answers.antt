use Rattle.std.proofs.Common.{◌∙◌, ap, sym, refl, arith, false}
use Rattle.std.proofs.lemmas.Option.{slice_get-get_or}
use Rattle.byte_memory.specs.declared.memory.Region.{Region}
use Rattle.byte_memory.specs.Regions.{holds_bytes, fault_in}
use Rattle.byte_memory.proofs.Ascending.{find-last}
use Rattle.byte_memory.proofs.Reached.{holds-address}
use Rattle.byte_memory.proofs.regions.is_reached_in.Goals as goal

pub returns-then-is_within : goal.returns-then-is_within
returns-then-is_within c is_open =
    let found = find-last (λ (r : Region). r.start) (λ r. r.size) c.args.regions.now c.args.at (holds_bytes c.args.at c.args.n) c.args.number _ c.requires.ascending (holds-address _ _ _ c.requires.some)
    (slice_get-get_or c.args.regions.now c.args.number (record { start = 0; size = 0; is_open = false }) (omega (arith, c.if-number-regions.false))) (sym c.is_within.ensures ∙ c.if-is_within.true) in
    ap (fault_in c.args.at) found ∙ rw is_open refl
