use Rattle.std.proofs.Common.{rules, ◌≤◌, ℕ, ap, subst}
use Rattle.abi_sound.specs.Places.{places_of, size_in_row}
use Rattle.cxx_overrider.specs.Overriding.{IsAbstract}
use Rattle.abi_cookie.specs.Answers.{of_abstract}
use Rattle.abi_cookie.proofs.Answering.{answer-too_large, answer-told, whole-cookie, not_so}
use Rattle.abi_cookie.proofs.answers.array_answer.Goals as goal

pub returns-then-is_abstract : goal.returns-then-is_abstract
returns-then-is_abstract g c = of_abstract ((c.is_abstract.ensures c.args.h.now c.requires.overriders c.requires.known).0 c.if-is_abstract.true)

pub array_text-requires-clause-some_size : goal.array_text-requires-clause-some_size
array_text-requires-clause-some_size g c =
    subst (λ (n : ℕ). 1 ≤ n) (ap size_in_row c.layout.ensures) ((g.met.L.SoundLayout.sound c.args.layout.now c.args.h.now c.requires.layout).each c.args.c c.requires.known).positive

pub array_text-requires-clause-multiple : goal.array_text-requires-clause-multiple
array_text-requires-clause-multiple g c = whole-cookie c.args.h.now (places_of c.args.h.now (g.L.SoundLayout.rows c.args.layout.now)) c.args.c c.cookie_size-cookie.result c.requires.align c.cookie_size-cookie.ensures

pub returns : goal.returns
returns g c =
    answer-told c.args.h.now (places_of c.args.h.now (g.L.SoundLayout.rows c.args.layout.now)) c.args.c c.args.n c.cookie_size-cookie.result c.layout.result.now.size c.from_vec.result (ap size_in_row c.layout.ensures)
    (not_so c.is_abstract.result (IsAbstract c.args.h.now c.args.c) (c.is_abstract.ensures c.args.h.now c.requires.overriders c.requires.known) c.if-is_abstract.false)
    c.cookie_size-cookie.ensures (search rules) (search rules)

pub returns-then-bytes-gt-MOST_BYTES : goal.returns-then-bytes-gt-MOST_BYTES
returns-then-bytes-gt-MOST_BYTES g c =
    answer-too_large c.args.h.now (places_of c.args.h.now (g.L.SoundLayout.rows c.args.layout.now)) c.args.c c.args.n c.cookie_size-cookie.result c.layout.result.now.size (ap size_in_row c.layout.ensures)
    (not_so c.is_abstract.result (IsAbstract c.args.h.now c.args.c) (c.is_abstract.ensures c.args.h.now c.requires.overriders c.requires.known) c.if-is_abstract.false)
    c.cookie_size-cookie.ensures c.if-bytes-gt-MOST_BYTES.true
