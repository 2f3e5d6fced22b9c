use Rattle.std.proofs.Common.{◌≡◌, ◌+◌, ◌-◌, ◌<◌, length, arith, rules, sym, subst, ap, ◌∙◌, inl, inr}
use Rattle.std.specs.Prelude.{Contains}
use Rattle.foundation.proofs.Places.{any_default}
use Rattle.abi_dyncast.specs.declared.work.Entry.{Entry}
use Rattle.abi_dyncast.specs.invariants.Chain.{no_entry, part_entry_at, Reach}
use Rattle.abi_dyncast.proofs.Chaining.{at_part, part_at, entry_has, met_stands, ends, goes_on}
use Rattle.abi_dyncast.proofs.work.WorkList.find.Goals as goal

pub returns-then-is_at-clause-some : goal.returns-then-is_at-clause-some
returns-then-is_at-clause-some c =
    let es = c.args.self.now.entries.items in
    let lt : c.loop-link.link - 1 < length es = search rules in
    let e : c.index-entry.result.now ≡ part_entry_at es (c.loop-link.link - 1) = c.index-entry.ensures ∙ any_default es (c.loop-link.link - 1) c.index-entry.result.now no_entry lt in
    (subst (λ (x : Entry). Contains es x) (sym e) (entry_has es (c.loop-link.link - 1) lt), at_part c.args.part c.index-entry.result.now (sym c.is_at.ensures ∙ c.if-is_at.true))

pub loop-link-preserved : goal.loop-link-preserved
loop-link-preserved c = λ j l is k.
    let es = c.args.self.now.entries.items in
    let lt : c.loop-link.link - 1 < length es = search rules in
    let e : c.index-entry.result.now ≡ part_entry_at es (c.loop-link.link - 1) = c.index-entry.ensures ∙ any_default es (c.loop-link.link - 1) c.index-entry.result.now no_entry lt in
    c.loop-link.invariant j l is (λ r.
    let on = goes_on es c.loop-link.link j
    (λ same.
    let here : c.index-entry.result.now.part ≡ c.args.part = ap (λ (x : Entry). x.part) e ∙ (ap (λ i. (part_entry_at es i).part) same ∙ is) in
    let t = part_at c.args.part c.index-entry.result.now here in
    let f = sym c.is_at.ensures ∙ c.if-is_at.false in cc)
    c.loop-link-test.true r in
    k (subst (λ (x : Entry). Reach es x.next (j + 1)) (sym e) on))

pub returns-else-link-len-clause-none : goal.returns-else-link-len-clause-none
returns-else-link-len-clause-none c = λ none met.
    let es = c.args.self.now.entries.items in
    let s = met_stands es c.args.part met in
    let far : length es < c.loop-link.link = search rules in
    c.loop-link.invariant s.place s.below s.is (λ r. ends es c.loop-link.link s.place (inr far) s.below r)

pub returns-after-loop-link-clause-none : goal.returns-after-loop-link-clause-none
returns-after-loop-link-clause-none c = λ none met.
    let es = c.args.self.now.entries.items in
    let s = met_stands es c.args.part met in
    let zero_there : c.loop-link.link ≡ 0 = omega arith in
    c.loop-link.invariant s.place s.below s.is (λ r. ends es c.loop-link.link s.place (inl zero_there) s.below r)
