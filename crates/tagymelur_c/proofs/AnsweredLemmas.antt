-- From what the program's call says of a sink to what stands in a buffer.
use Rattle.std.proofs.Common.{◌≡◌, ℕ, ◌<◌, ◌≤◌, ◌⊎◌, inl, inr, Option, Some, None, List, [], ◌++◌, take, drop, length, refl, sym, ◌∙◌, ap, subst, arith}
use Rattle.std.proofs.lemmas.List.{append_assoc, length-take, take-append-drop}
use Rattle.cxxabi_cmd.specs.declared.status.Status.{Status}
use Rattle.cxxabi_cmd.specs.declared.status.Status.TheVariants.{Done, Refused, BadInput, Usage, Undefined, OutOfSteps, Limit, ReadFault, WriteFault, NoMemory}
use Rattle.cxxabi_streams.specs.Streams.{Rose}
use Rattle.cxxabi_cmd.specs.Statuses.{exit_status}
use Rattle.cxxabi_cmd.specs.Output.{WritesAnswer, BreaksOff, IsAnswerWritten, IsSilent}
use Rattle.tagymelur_c.specs.Answered.{IsWhole, IsAnswerFront}

-- a code below 6 is that of an answer
answered_of : (status : Status) → exit_status status < 6 → IsAnswerWritten status
answered_of Done low = tt
answered_of (Refused rule at) low = tt
answered_of (BadInput rule line) low = tt
answered_of (Undefined number line) low = tt
answered_of OutOfSteps low = tt
answered_of (Limit limit) low = tt
answered_of Usage low = tt
answered_of ReadFault low = absurd (omega (arith, low))
answered_of WriteFault low = absurd (omega (arith, low))
answered_of NoMemory low = absurd (omega (arith, low))

abbrev told_list : Option (List ℕ) → List ℕ
told_list None = []
told_list (Some xs) = xs

same_list : (xs ys : List ℕ) → Some xs ≡ Some ys → xs ≡ ys
same_list xs ys e = ap told_list e

-- the sink had nothing, and has these bytes
answers_from : (words : List (List ℕ)) (bytes taken : List ℕ) (before after : Option (List ℕ)) (status : Status) → before ≡ Some [] → after ≡ Some taken →
    WritesAnswer words bytes before after status → WritesAnswer words bytes (Some []) (Some taken) status
answers_from words bytes taken before after status b a found =
    subst (λ (o : Option (List ℕ)). WritesAnswer words bytes o (Some taken) status) b (subst (λ (o : Option (List ℕ)). WritesAnswer words bytes before o status) a found)

breaks_from : (words : List (List ℕ)) (bytes taken : List ℕ) (before after : Option (List ℕ)) → before ≡ Some [] → after ≡ Some taken →
    BreaksOff words bytes before after → BreaksOff words bytes (Some []) (Some taken)
breaks_from words bytes taken before after b a found =
    subst (λ (o : Option (List ℕ)). BreaksOff words bytes o (Some taken)) b (subst (λ (o : Option (List ℕ)). BreaksOff words bytes before o) a found)

-- the sink has the whole text of the answer
pub whole_of : (words : List (List ℕ)) (bytes taken text : List ℕ) (before after : Option (List ℕ)) (status : Status) → before ≡ Some [] → after ≡ Some taken → text ≡ taken →
    (IsAnswerWritten status → WritesAnswer words bytes before after status) → exit_status status < 6 → IsWhole words bytes (exit_status status) text
whole_of words bytes taken text before after status b a e answers low =
    let found : WritesAnswer words bytes (Some []) (Some taken) status = answers_from words bytes taken before after status b a (answers (answered_of status low)) in
    record { answer = found.answer; output = found.output; same = ap exit_status found.same; is = e ∙ same_list taken found.answer.text found.text }

front_of_text : (words : List (List ℕ)) (bytes taken : List ℕ) (status : Status) (n : ℕ) → WritesAnswer words bytes (Some []) (Some taken) status → IsAnswerFront words bytes (take n taken)
front_of_text words bytes taken status n found =
    record { answer = found.answer; output = found.output; rest = drop n taken; is = sym (same_list taken found.answer.text found.text) ∙ sym (take-append-drop n taken) }

front_of_front : (words : List (List ℕ)) (bytes taken : List ℕ) (n : ℕ) → BreaksOff words bytes (Some []) (Some taken) → IsAnswerFront words bytes (take n taken)
front_of_front words bytes taken n found =
    let part : taken ≡ take found.part.count found.answer.text = same_list taken (take found.part.count found.answer.text) found.part.taken in
    let behind : List ℕ = drop found.part.count found.answer.text in
    record {
      answer = found.answer;
      output = found.output;
      rest = drop n taken ++ behind;
      is = sym (take-append-drop found.part.count found.answer.text) ∙ ap (λ (t : List ℕ). t ++ behind) (sym part ∙ sym (take-append-drop n taken)) ∙ append_assoc (take n taken) (drop n taken) behind;
    }

nothing_taken : (taken : List ℕ) (n : ℕ) (before after : Option (List ℕ)) → before ≡ Some [] → after ≡ Some taken → after ≡ before → n < length taken → ⊥
nothing_taken taken n before after b a same short =
    let none : length taken ≡ 0 = ap length (same_list taken [] (sym a ∙ same ∙ b)) in omega (arith, none, short)

-- the front of what the sink took is a front of the answer's text, where the sink took more
pub front_of : (words : List (List ℕ)) (bytes taken : List ℕ) (before after : Option (List ℕ)) (status : Status) (n : ℕ) → before ≡ Some [] → after ≡ Some taken → n < length taken →
    (IsAnswerWritten status → WritesAnswer words bytes before after status) → (status ≡ WriteFault → BreaksOff words bytes before after) → (IsSilent status → after ≡ before) → IsAnswerFront words bytes (take n taken)
front_of words bytes taken before after Done n b a short answers breaks silent = front_of_text words bytes taken Done n (answers_from words bytes taken before after Done b a (answers tt))
front_of words bytes taken before after (Refused rule at) n b a short answers breaks silent = front_of_text words bytes taken (Refused rule at) n (answers_from words bytes taken before after (Refused rule at) b a (answers tt))
front_of words bytes taken before after (BadInput rule line) n b a short answers breaks silent = front_of_text words bytes taken (BadInput rule line) n (answers_from words bytes taken before after (BadInput rule line) b a (answers tt))
front_of words bytes taken before after (Undefined number line) n b a short answers breaks silent = front_of_text words bytes taken (Undefined number line) n (answers_from words bytes taken before after (Undefined number line) b a (answers tt))
front_of words bytes taken before after OutOfSteps n b a short answers breaks silent = front_of_text words bytes taken OutOfSteps n (answers_from words bytes taken before after OutOfSteps b a (answers tt))
front_of words bytes taken before after (Limit limit) n b a short answers breaks silent = front_of_text words bytes taken (Limit limit) n (answers_from words bytes taken before after (Limit limit) b a (answers tt))
front_of words bytes taken before after Usage n b a short answers breaks silent = front_of_text words bytes taken Usage n (answers_from words bytes taken before after Usage b a (answers tt))
front_of words bytes taken before after WriteFault n b a short answers breaks silent = front_of_front words bytes taken n (breaks_from words bytes taken before after b a (breaks refl))
front_of words bytes taken before after ReadFault n b a short answers breaks silent = absurd (nothing_taken taken n before after b a (silent tt) short)
front_of words bytes taken before after NoMemory n b a short answers breaks silent = absurd (nothing_taken taken n before after b a (silent tt) short)

-- the whole of what the sink took is a front of the answer's text, where the code is that of a sink that failed
pub front_of_fault : (words : List (List ℕ)) (bytes taken text : List ℕ) (before after : Option (List ℕ)) (status : Status) → before ≡ Some [] → after ≡ Some taken → text ≡ taken →
    (status ≡ WriteFault → BreaksOff words bytes before after) → exit_status status ≡ 7 → IsAnswerFront words bytes text
front_of_fault words bytes taken text before after WriteFault b a e breaks is =
    let found : BreaksOff words bytes (Some []) (Some taken) = breaks_from words bytes taken before after b a (breaks refl) in
    let part : taken ≡ take found.part.count found.answer.text = same_list taken (take found.part.count found.answer.text) found.part.taken in
    let behind : List ℕ = drop found.part.count found.answer.text in
    record {
      answer = found.answer;
      output = found.output;
      rest = behind;
      is = sym (take-append-drop found.part.count found.answer.text) ∙ ap (λ (t : List ℕ). t ++ behind) (sym part ∙ sym e);
    }
front_of_fault words bytes taken text before after Done b a e breaks is = absurd (omega (arith, is))
front_of_fault words bytes taken text before after (Refused rule at) b a e breaks is = absurd (omega (arith, is))
front_of_fault words bytes taken text before after (BadInput rule line) b a e breaks is = absurd (omega (arith, is))
front_of_fault words bytes taken text before after (Undefined number line) b a e breaks is = absurd (omega (arith, is))
front_of_fault words bytes taken text before after OutOfSteps b a e breaks is = absurd (omega (arith, is))
front_of_fault words bytes taken text before after (Limit limit) b a e breaks is = absurd (omega (arith, is))
front_of_fault words bytes taken text before after Usage b a e breaks is = absurd (omega (arith, is))
front_of_fault words bytes taken text before after ReadFault b a e breaks is = absurd (omega (arith, is))
front_of_fault words bytes taken text before after NoMemory b a e breaks is = absurd (omega (arith, is))

-- a code other than that of a fault of the source
pub code_of_no_fault : (status : Status) → (status ≡ ReadFault → ⊥) → (exit_status status < 6) ⊎ (6 < exit_status status)
code_of_no_fault Done other = inl (omega arith)
code_of_no_fault (Refused rule at) other = inl (omega arith)
code_of_no_fault (BadInput rule line) other = inl (omega arith)
code_of_no_fault (Undefined number line) other = inl (omega arith)
code_of_no_fault OutOfSteps other = inl (omega arith)
code_of_no_fault (Limit limit) other = inl (omega arith)
code_of_no_fault Usage other = inl (omega arith)
code_of_no_fault ReadFault other = absurd (other refl)
code_of_no_fault WriteFault other = inr (omega arith)
code_of_no_fault NoMemory other = inr (omega arith)

-- a count that is always 0 does not rise
pub never_rose : Rose 0 0 → ⊥
never_rose (inl more) = omega (arith, more)
never_rose (inr last) = omega (arith, last)

-- a code above 7 is that of a call without an answer
silent_of : (status : Status) → 7 < exit_status status → IsSilent status
silent_of Done high = absurd (omega (arith, high))
silent_of (Refused rule at) high = absurd (omega (arith, high))
silent_of (BadInput rule line) high = absurd (omega (arith, high))
silent_of (Undefined number line) high = absurd (omega (arith, high))
silent_of OutOfSteps high = absurd (omega (arith, high))
silent_of (Limit limit) high = absurd (omega (arith, high))
silent_of Usage high = absurd (omega (arith, high))
silent_of ReadFault high = tt
silent_of WriteFault high = absurd (omega (arith, high))
silent_of NoMemory high = tt

-- then the sink took nothing, and neither did the buffer
pub nothing_written : (taken text : List ℕ) (before after : Option (List ℕ)) (status : Status) (written room : ℕ) → before ≡ Some [] → after ≡ Some taken → (IsSilent status → after ≡ before) → take written text ≡ taken → written ≤ room → length text ≡ room → 7 < exit_status status → written ≡ 0
nothing_written taken text before after status written room b a silent whole fits long high =
    let none : length taken ≡ 0 = ap length (same_list taken [] (sym a ∙ silent (silent_of status high) ∙ b)) in
    let short : length (take written text) ≡ 0 = ap length whole ∙ none in
    let many = length-take written text in
    omega (arith, short, many, fits, long)
