use Rattle.std.proofs.Common.{arith, sym, subst}
use Rattle.byte_code.specs.Images.{word_at}
use Rattle.abi_slots.specs.Images.{HasTables}
use Rattle.abi_image.specs.invariants.Points.{AreGroupPoints}
use Rattle.abi_image.specs.invariants.Parts.{addresses_of}
use Rattle.abi_image.proofs.encoding.encode.Goals as goal

pub returns : goal.returns
returns c =
    let parts = c.in_ok-parts.parts in
    let points = subst (λ l. AreGroupPoints c.args.groups.now c.in_ok-parts.parts.groups.at.items l) (sym c.deref.ensures.value) c.in_ok-parts.ensures.points in
    record {
      addresses = addresses_of c.in_ok-parts.parts;
      tables = subst (λ n. HasTables c.args.codes.now c.args.groups.now c.args.vtts.now c.args.infos.now (addresses_of c.in_ok-parts.parts) n (word_at c.in_ok-bytes.bytes)) (sym c.in_ok-bytes.ensures.base) (c.in_ok-draft.ensures.says (word_at c.in_ok-bytes.bytes) c.in_ok-bytes.ensures.words);
      points = c.in_ok-points.ensures c.in_ok-parts.parts.groups.at.items points;
      small =
          let base = c.in_ok-bytes.ensures.base in
          let size = c.in_ok-bytes.ensures.size in
          let few = c.in_ok-draft.ensures.small in
          omega (arith, base, size, few);
    }
