use Rattle.std.proofs.Common.{refl, ap, ◌+◌, ◌%◌, ◌^◌, ◌∙◌}
use Rattle.path_events.proofs.Inside.{shared_stands, shared_told}
use Rattle.path_events.proofs.kids.shared_kid.Goals as goal

pub returns-clause-part : goal.returns-clause-part
returns-clause-part c = λ classes p stands.
    shared_stands c.args.h.now c.keeps.ensures classes c.args.part p stands c.args.j c.args.v c.requires.listed _ refl refl refl
    (ap (λ n. (c.args.part.number + n) % 2 ^ 64) (c.unwrap_or-offset.ensures ∙ shared_told c.args.h.now c.keeps.ensures c.args.part.class c.args.v c.args.j c.requires.listed c.shared_offset.result (c.shared_offset.ensures c.args.h.now c.keeps.ensures c.requires.numbers)))
