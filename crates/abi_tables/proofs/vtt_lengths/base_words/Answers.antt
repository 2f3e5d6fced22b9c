use Rattle.std.proofs.Common.{subst, sym}
use Rattle.abi_sound.specs.Places.{places_of}
use Rattle.abi_tables.specs.invariants.Weights.{AreNumbers, dynamic_word, virtual_word, shared_words, sides_of}
use Rattle.abi_tables.proofs.vtt_lengths.base_words.Goals as goal

pub returns : goal.returns
returns g c =
    let h = c.args.h.now in
    let l = places_of h (g.L.SoundLayout.rows c.args.layout.now) in
    let below = c.in_ok-below_shared.ensures (dynamic_word h) (subst (AreNumbers h (dynamic_word h)) (sym c.deref-2.ensures.value) c.in_ok-dynamic.ensures) in
    let shared = c.in_ok-shared.ensures (dynamic_word h) (sides_of h l (dynamic_word h)) (subst (AreNumbers h (dynamic_word h)) (sym c.deref-3.ensures.value) c.in_ok-dynamic.ensures) (subst (AreNumbers h (sides_of h l (dynamic_word h))) (sym c.deref-4.ensures.value) below) in
    let own = c.in_ok-own.ensures (virtual_word h) (subst (AreNumbers h (virtual_word h)) (sym c.deref-6.ensures.value) c.in_ok-with_virtual.ensures) in
    c.in_ok-words.ensures (sides_of h l (virtual_word h)) (shared_words h l) (subst (AreNumbers h (sides_of h l (virtual_word h))) (sym c.deref-7.ensures.value) own) (subst (AreNumbers h (shared_words h l)) (sym c.deref-8.ensures.value) shared)
