use Rattle.std.proofs.Common.{◌∙◌, length, ap, sym}
use Rattle.cxx_subobject.specs.declared.Subobject.{Subobject}
use Rattle.abi_sound.specs.Places.{places_of, nvalign_in}
use Rattle.abi_judge.proofs.Fits.{align_base}
use Rattle.abi_judge.proofs.draft.Draft.align_of.Goals as goal

pub returns-else-len-eq1 : goal.returns-else-len-eq1
returns-else-len-eq1 c =
    sym (align_base (places_of c.args.self.now.h.now c.args.self.now.rows.now) c.args.s.now c.args.d (λ e. c.if-len-eq1.false (c.len.ensures ∙ ap (λ (t : Subobject). length t.path) e)) ∙ ap nvalign_in c.row-row.ensures)
