use Rattle.std.proofs.Common.{List, ℕ, arith, None, Some, Bor, ap, sym, ◌∙◌, option_map}
use Rattle.std.proofs.lemmas.Str.Pattern.{strip_prefix_char}
use Rattle.cxxabi_words.proofs.CutCalls.{cut_is, no_scope, no_member, some_member}
use Rattle.cxxabi_words.proofs.names.cut_scope.Goals as goal

pub returns-in_err-class : goal.returns-in_err-class
returns-in_err-class c =
    ap (option_map (λ (p : Bor (List ℕ) × Bor (List ℕ)). (p.0.now, p.1.now))) c.from_residual.ensures
    ∙ no_scope c.args.word.now (cut_is 58 c.args.word.now None c.in_err-class.ensures.cases (omega arith))

pub returns-in_err-member : goal.returns-in_err-member
returns-in_err-member c =
    ap (option_map (λ (p : Bor (List ℕ) × Bor (List ℕ)). (p.0.now, p.1.now))) c.from_residual-in_err-member.ensures
    ∙ no_member c.args.word.now c.in_ok-class.class.now c.in_ok-class.rest.now
    (cut_is 58 c.args.word.now (Some (c.in_ok-class.class, c.in_ok-class.rest)) c.in_ok-class.ensures.cases (omega arith))
    (strip_prefix_char 58 c.in_ok-class.rest.now None c.in_err-member.ensures.cases (omega arith))

pub returns : goal.returns
returns c =
    some_member c.args.word.now c.in_ok-class.class.now c.in_ok-class.rest.now c.in_ok-member.member.now
    (cut_is 58 c.args.word.now (Some (c.in_ok-class.class, c.in_ok-class.rest)) c.in_ok-class.ensures.cases (omega arith))
    (strip_prefix_char 58 c.in_ok-class.rest.now (Some c.in_ok-member.member) c.in_ok-member.ensures.cases (omega arith))
