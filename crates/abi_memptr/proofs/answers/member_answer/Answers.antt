use Rattle.abi_sound.specs.Places.{places_of}
use Rattle.abi_memptr.specs.Answers.{answer_of, member_pointer_text}
use Rattle.abi_memptr.specs.Pointers.{given, pointer_for}
use Rattle.abi_memptr.proofs.Converting.{refusal_first}
use Rattle.abi_memptr.proofs.Told.{fault_told}
use Rattle.abi_memptr.proofs.answers.member_answer.Goals as goal

pub returns-in-Err : goal.returns-in-Err
returns-in-Err g c =
    let l = places_of c.args.h.now (g.L.SoundLayout.rows c.args.layout.now) in
    fault_told c.refusal.result (answer_of c.args.h.now l c.args.k c.args.name.now c.args.d) c.in-Err.fault c.refusal.ensures
    (refusal_first (pointer_for c.args.h.now c.args.k c.args.name.now c.args.d) (λ v. given (member_pointer_text c.args.h.now l c.args.d v)) c.in-Err.fault c.in-Err.ensures.err)
