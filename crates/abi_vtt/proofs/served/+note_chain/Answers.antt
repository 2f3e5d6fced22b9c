use Rattle.std.proofs.Common.{◌<◌, IfSome, length, get_or, ap, sym, subst}
use Rattle.abi_vtable.specs.declared.view.ViewPart.{ViewPart}
use Rattle.abi_vtt.proofs.Noting.{noted_more}
use Rattle.abi_vtt.proofs.served.+note_chain.Goals as goal

pub returns : goal.returns
returns t c = λ list go s are of. noted_more list go s c.args.parts.now c.args.at c.in-Some.number c.index-parts-number.result c.args.table c.args.steps c.args.tables.now c.note_chain.new.tables are of c.in-Some.is
    (subst (λ o. IfSome o (λ n. n < length c.args.parts.now)) c.in-Some.is c.requires.within) c.index-parts-number.is c.requires.size c.if-steps-eq0.false (get_or c.args.parts.now c.in-Some.number c.index-parts-number.result).next (ap (λ (p : ViewPart). p.next) (sym c.index-parts-number.is)) (λ o. c.note_chain.ensures list go o)
