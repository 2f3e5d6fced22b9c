use Rattle.std.proofs.Common.{◌≡◌, ℕ, ◌++◌, ◌∷◌, [], List, length, subst, sym, ◌∙◌, rules}
use Rattle.cxx_overrider.specs.declared.FunctionId.{FunctionId}
use Rattle.cxx_overrider.specs.Functions.{signature_of}
use Rattle.cxx_overrider.specs.invariants.Keys.{AreKeyed}
use Rattle.cxx_overrider.specs.invariants.Numbers.{AreFirst, IsFirstOf}
use Rattle.cxx_overrider.proofs.Numbering.{some_value, first_kept, first_new, firsts_pushed}
use Rattle.cxx_overrider.proofs.KeyLemmas.{found_first, missing_first, keyed_pushed}
use Rattle.cxx_overrider.proofs.signatures.number_function.Goals as goal

pub returns-in-Some-clause-first : goal.returns-in-Some-clause-first
returns-in-Some-clause-first c =
    let s = some_value (signature_of c.args.h.now c.args.f) c.requires.known in
    found_first c.args.h.now c.args.keys.now c.args.firsts.now.items c.args.f s.0 c.deref.result.now c.in-Some.place c.requires.firsts c.requires.keyed s.1 (c.deref.ensures.value ∙ c.in_ok-key.ensures s.0 s.1) c.in-Some.ensures

pub returns-clause-firsts : goal.returns-clause-firsts
returns-clause-firsts c =
    let h = c.args.h.now in
    let firsts = c.args.firsts.now.items in
    let s = some_value (signature_of h c.args.f) c.requires.known in
    let fresh = missing_first h c.args.keys.now firsts c.args.f s.0 c.deref.result.now c.requires.keyed s.1 (c.deref.ensures.value ∙ c.in_ok-key.ensures s.0 s.1) c.in-None.ensures in
    let grown : c.push.new.self.items ≡ firsts ++ c.args.f ∷ [] = c.in_ok-push-in-None.ensures.items in
    subst (λ (xs : List FunctionId). AreFirst h xs) (sym grown) (firsts_pushed h firsts c.args.f c.requires.firsts c.requires.known c.requires.class fresh)

pub returns-clause-keyed : goal.returns-clause-keyed
returns-clause-keyed c =
    let h = c.args.h.now in
    let firsts = c.args.firsts.now.items in
    let s = some_value (signature_of h c.args.f) c.requires.known in
    let last : c.len-place.result ≡ length firsts = search rules in
    let grown : c.push.new.self.items ≡ firsts ++ c.args.f ∷ [] = c.in_ok-push-in-None.ensures.items in
    subst (λ (xs : List FunctionId). AreKeyed h c.note.new.self xs) (sym grown)
    (keyed_pushed h c.args.keys.now c.note.new.self firsts c.args.f s.0 c.deref-in-None.result.now c.len-place.result c.requires.keyed s.1 (c.deref-in-None.ensures.value ∙ c.in_ok-key.ensures s.0 s.1) last c.in_ok-note-in-None.ensures.numbers)

pub returns-clause-kept : goal.returns-clause-kept
returns-clause-kept c = λ g n k.
    let firsts = c.args.firsts.now.items in
    let grown : c.push.new.self.items ≡ firsts ++ c.args.f ∷ [] = c.in_ok-push-in-None.ensures.items in
    subst (λ (xs : List FunctionId). IsFirstOf c.args.h.now xs g n) (sym grown) (first_kept c.args.h.now firsts c.args.f g n k)

pub returns-clause-first : goal.returns-clause-first
returns-clause-first c =
    let h = c.args.h.now in
    let firsts = c.args.firsts.now.items in
    let last : c.len-place.result ≡ length firsts = search rules in
    let grown : c.push.new.self.items ≡ firsts ++ c.args.f ∷ [] = c.in_ok-push-in-None.ensures.items in
    subst (λ (xs : List FunctionId). IsFirstOf h xs c.args.f c.len-place.result) (sym grown) (subst (λ (n : ℕ). IsFirstOf h (firsts ++ c.args.f ∷ []) c.args.f n) (sym last) (first_new h firsts c.args.f))
