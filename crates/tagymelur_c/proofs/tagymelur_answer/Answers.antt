use Rattle.std.proofs.Common.{ℕ, ◌≡◌, ◌<◌, ◌⊎◌, take, List, map, string_bytes, String, Global, Some, refl, ap, sym, ◌∙◌, subst}
use Rattle.cxxabi_streams.specs.declared.sinks.BytesSink.{BytesSink}
use Rattle.cxxabi_streams.specs.BytesStreams.{bytes_taken}
use Rattle.cxxabi_cmd.specs.Statuses.{exit_status}
use Rattle.tagymelur_c.specs.Words.{words_in}
use Rattle.tagymelur_c.specs.Answered.{IsWhole, IsAnswerFront}
use Rattle.tagymelur_c.proofs.AnsweredLemmas.{whole_of, front_of, front_of_fault, code_of_no_fault, never_rose, nothing_written}
use Rattle.tagymelur_c.proofs.tagymelur_answer.Goals as goal

pub returns-then-put_front-clause-whole : goal.returns-then-put_front-clause-whole
returns-then-put_front-clause-whole g c =
    let text : List ℕ = take g.put_front.new.written g.put_front.new.text in
    subst (λ (code : ℕ). IsWhole (words_in g.args.words.now) g.args.source.now code text) (sym g.code-then-put_front.ensures)
    (subst (λ (words : List (List ℕ)). IsWhole words g.args.source.now (exit_status g.run_cxxabi-status.result) text) (ap (λ (words : List (String Global)). map string_bytes words) g.deref.ensures.value ∙ g.in-Ok.ensures.words)
    (whole_of (map string_bytes g.deref.result.now) g.args.source.now g.taken.result.now text _ _ g.run_cxxabi-status.result (g.in-Ok-reserve.ensures.contents ∙ g.new-sink.ensures.contents) g.taken.ensures
    (g.if-put_front.ensures.whole refl)
    (g.run_cxxabi-status.ensures.answered g.args.source.now (λ command says reads. g.new-source.ensures.remaining ∙ ap (λ (bytes : List ℕ). Some bytes) g.in-Ok-from_slice.ensures.items)) (subst (λ (code : ℕ). code < 6) g.code-then-put_front.ensures c)))

pub returns-then-put_front-clause-front : goal.returns-then-put_front-clause-front
returns-then-put_front-clause-front g c =
    let text : List ℕ = take g.put_front.new.written g.put_front.new.text in
    subst (λ (words : List (List ℕ)). IsAnswerFront words g.args.source.now text) (ap (λ (words : List (String Global)). map string_bytes words) g.deref.ensures.value ∙ g.in-Ok.ensures.words)
    (front_of_fault (map string_bytes g.deref.result.now) g.args.source.now g.taken.result.now text _ _ g.run_cxxabi-status.result (g.in-Ok-reserve.ensures.contents ∙ g.new-sink.ensures.contents) g.taken.ensures
    (g.if-put_front.ensures.whole refl)
    (g.run_cxxabi-status.ensures.breaks_off g.args.source.now (λ command says reads. g.new-source.ensures.remaining ∙ ap (λ (bytes : List ℕ). Some bytes) g.in-Ok-from_slice.ensures.items)) (sym g.code-then-put_front.ensures ∙ c))

pub returns-clause-front : goal.returns-clause-front
returns-clause-front g c =
    subst (λ (words : List (List ℕ)). IsAnswerFront words g.args.source.now (take g.put_front.new.written g.put_front.new.text)) (ap (λ (words : List (String Global)). map string_bytes words) g.deref.ensures.value ∙ g.in-Ok.ensures.words)
    (subst (λ (text : List ℕ). IsAnswerFront (map string_bytes g.deref.result.now) g.args.source.now text) (sym g.put_front.ensures.front)
    (front_of (map string_bytes g.deref.result.now) g.args.source.now g.taken.result.now _ _ g.run_cxxabi-status.result g.put_front.new.written (g.in-Ok-reserve.ensures.contents ∙ g.new-sink.ensures.contents) g.taken.ensures
    g.if-put_front.ensures.short
    (g.run_cxxabi-status.ensures.answered g.args.source.now (λ command says reads. g.new-source.ensures.remaining ∙ ap (λ (bytes : List ℕ). Some bytes) g.in-Ok-from_slice.ensures.items))
    (g.run_cxxabi-status.ensures.breaks_off g.args.source.now (λ command says reads. g.new-source.ensures.remaining ∙ ap (λ (bytes : List ℕ). Some bytes) g.in-Ok-from_slice.ensures.items))
    (λ silent. ap (λ (sink : BytesSink). Some (bytes_taken sink)) (g.run_cxxabi-status.ensures.silent silent))))

pub returns-then-put_front-clause-no_fault : goal.returns-then-put_front-clause-no_fault
returns-then-put_front-clause-no_fault c =
    subst (λ (code : ℕ). (code < 6) ⊎ (6 < code)) (sym c.code-then-put_front.ensures)
    (code_of_no_fault c.run_cxxabi-status.result (λ e. never_rose (c.run_cxxabi-status.ensures.read_fault e)))

pub returns-then-put_front-clause-none : goal.returns-then-put_front-clause-none
returns-then-put_front-clause-none g c =
    nothing_written g.taken.result.now g.put_front.new.text _ _ g.run_cxxabi-status.result g.put_front.new.written _ (g.in-Ok-reserve.ensures.contents ∙ g.new-sink.ensures.contents) g.taken.ensures
    (λ silent. ap (λ (sink : BytesSink). Some (bytes_taken sink)) (g.run_cxxabi-status.ensures.silent silent))
    (g.if-put_front.ensures.whole refl) g.put_front.ensures.fits g.put_front.ensures.same_room (subst (λ (code : ℕ). 7 < code) g.code-then-put_front.ensures c)
