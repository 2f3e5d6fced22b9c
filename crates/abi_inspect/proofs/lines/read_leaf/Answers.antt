use Rattle.std.proofs.Common.{◌≡◌, ◌∙◌, List, ℕ, ◌++◌, ap}
use Rattle.abi_inspect.specs.Values.{value_text}
use Rattle.abi_inspect.specs.SeenTexts.{before_value, behind_value, leaf_line}
use Rattle.abi_inspect.proofs.LineReads.{leaf_value, line_other}
use Rattle.abi_inspect.proofs.lines.read_leaf.Goals as goal

pub returns-in-None-clause-each : goal.returns-in-None-clause-each
returns-in-None-clause-each c = λ v r fits is.
    let h = c.args.h.now in
    let x = c.args.x.now in
    let begun : c.append_before.new.text.items ≡ before_value x = c.in_ok-append_before.ensures ∙ ap (λ (l : List ℕ). l ++ before_value x) c.new-line.ensures.items in
    let whole : c.append_behind.new.text.items ≡ leaf_line h x c.value_read-value.result =
    c.in_ok-append_behind.ensures
    ∙ (ap (λ (l : List ℕ). l ++ behind_value h x) c.in_ok-append_value.ensures
    ∙ ap (λ (l : List ℕ). (l ++ value_text x.bits.width x.ty c.value_read-value.result) ++ behind_value h x) begun) in
    let same = leaf_value h x c.args.text.now c.in-Some.rest.now c.before_byte.result.now c.deref.result.now c.value_read-value.result v r c.requires (c.deref.ensures.value ∙ begun) c.in-Some.ensures c.before_byte.ensures c.value_read-value.ensures.each fits is in
    line_other h x c.args.text.now c.deref-2.result.now c.value_read-value.result v r (c.deref-2.ensures.value ∙ whole) c.in-None.ensures same is

pub returns-clause-each : goal.returns-clause-each
returns-clause-each c = λ v r fits is.
    let x = c.args.x.now in
    let begun : c.append_before.new.text.items ≡ before_value x = c.in_ok-append_before.ensures ∙ ap (λ (l : List ℕ). l ++ before_value x) c.new-line.ensures.items in
    leaf_value c.args.h.now x c.args.text.now c.in-Some.rest.now c.before_byte.result.now c.deref.result.now c.value_read-value.result v r c.requires (c.deref.ensures.value ∙ begun) c.in-Some.ensures c.before_byte.ensures c.value_read-value.ensures.each fits is
