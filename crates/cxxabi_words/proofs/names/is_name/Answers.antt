use Rattle.std.proofs.Common.{◌≡◌, List, ℕ, Bool, true, ap, sym, ◌∙◌}
use Rattle.cxx_text.specs.Bytes.{begins, is_letter}
use Rattle.cxxabi_words.proofs.NameCuts.{name_by_length}
use Rattle.cxxabi_words.proofs.names.is_name.Goals as goal

pub returns : goal.returns
returns c =
    let first : begins is_letter c.args.word.now ≡ true = ap (λ (t : List ℕ). begins is_letter t) (sym c.as_bytes.ensures.value) ∙ sym c.begins_name.ensures ∙ c.if-not-begins_name.false in
    name_by_length c.args.word.now first (sym c.has_word_bytes.ensures ∙ c.if-not-has_word_bytes.false)
