use Rattle.std.proofs.Common.{ℕ, refl, ap, sym, subst, ◌+◌, ◌*◌, ◌%◌, ◌^◌, ◌<◌, ◌∙◌}
use Rattle.std.proofs.lemmas.Option.{slice_get_within}
use Rattle.cxx_hierarchy.specs.Classes.{members_of}
use Rattle.path_numbers.specs.Sizes.{sizes_of, member_offset}
use Rattle.path_events.proofs.Inside.{element_stands, object_within}
use Rattle.path_events.proofs.kids.element_kid.Goals as goal

pub in_full-size-requires : goal.in_full-size-requires
in_full-size-requires c = subst (λ (n : ℕ). c.args.d.0 < n) (sym c.requires.numbers.size) (object_within c.args.h.now c.keeps.ensures c.args.part.class c.args.d c.args.m c.args.member.now c.requires.listed c.requires.object)

pub returns-clause-part : goal.returns-clause-part
returns-clause-part c = λ classes form p stands.
    element_stands c.args.h.now c.keeps.ensures classes c.args.part form p stands c.args.m c.args.i c.args.d c.args.member.now c.requires.listed c.requires.object c.requires.within _ refl refl refl
    (ap (λ n. (c.args.part.number + (n + c.args.i * c.in_full-size.result % 2 ^ 64) % 2 ^ 64) % 2 ^ 64) (c.member_offset-offset.ensures c.args.h.now c.requires.numbers (slice_get_within (members_of c.args.h.now c.args.part.class) c.args.m c.args.member.now c.requires.listed))
    ∙ ap (λ n. (c.args.part.number + (member_offset c.args.h.now (sizes_of c.args.h.now) c.args.part.class c.args.m + c.args.i * n % 2 ^ 64) % 2 ^ 64) % 2 ^ 64) (c.in_full-size.ensures c.args.h.now c.requires.numbers))
