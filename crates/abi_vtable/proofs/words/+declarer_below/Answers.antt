use Rattle.std.proofs.Common.{◌≡◌, ◌<◌, None, length, ap, sym, ◌∙◌, subst, rules}
use Rattle.std.specs.Prelude.{IfSome}
use Rattle.cxx_subobject.specs.Preorder.{preorder}
use Rattle.abi_slots.specs.Views.{next}
use Rattle.abi_slots.specs.Groups.{declares_at}
use Rattle.abi_vtable.specs.invariants.Parts.{view_of_parts}
use Rattle.abi_vtable.specs.invariants.Words.{IsDeclaredBy, nowhere}
use Rattle.abi_vtable.proofs.Declaring.{number_none, first_zero, first_none}
use Rattle.abi_vtable.proofs.Steps.{next_within, found_here, found_below}
use Rattle.abi_vtable.proofs.words.+declarer_below.Goals as goal

pub returns-then-steps-eq0 : goal.returns-then-steps-eq0
returns-then-steps-eq0 t c = λ l k s view slots number along.
    let h = c.args.h.now in
    let x = view_of_parts c.args.x.now in
    subst (λ o. IsDeclaredBy h l x c.args.x.now.parts k o None) (sym (first_zero (declares_at h l k) (next l x) c.args.steps s c.if-steps-eq0.true)) nowhere

pub returns-in-None : goal.returns-in-None
returns-in-None t c = λ l k s view slots number along.
    let h = c.args.h.now in
    let x = view_of_parts c.args.x.now in
    let none : s ≡ None = number_none (preorder h c.args.x.now.class) c.args.at s c.in-None.is number in
    subst (λ o. IsDeclaredBy h l x c.args.x.now.parts k o None) (sym (ap (Rattle.abi_slots.specs.Views.first_in (declares_at h l k) (next l x) c.args.steps) none ∙ first_none (declares_at h l k) (next l x) c.args.steps)) nowhere

pub declarer_below-requires : goal.declarer_below-requires
declarer_below-requires t c =
    let h = c.args.h.now in
    let v = c.args.x.now in
    let inside : IfSome c.index-as_slice-number.result.next (λ i. i < length v.parts) = next_within h c.requires.view.places v c.requires.view.view c.as_slice.result.now c.in-Some.number c.index-as_slice-number.result c.as_slice.ensures (subst (λ o. IfSome o (λ i. i < length v.parts)) c.in-Some.is c.requires.number) c.index-as_slice-number.is in
    search rules

pub returns-in-Some-declared : goal.returns-in-Some-declared
returns-in-Some-declared t c = λ l k s view slots number along.
    let h = c.args.h.now in
    let v = c.args.x.now in
    found_here h l v c.keeps.ensures view c.as_slice.result.now c.in-Some.number c.index-as_slice-number.result c.as_slice.ensures (subst (λ o. IfSome o (λ i. i < length v.parts)) c.in-Some.is c.requires.number) c.index-as_slice-number.is
    k c.args.n c.args.steps c.args.at s c.declared.result c.in-Some-declared.function c.in-Some.is number along c.if-steps-eq0.false (c.declared.ensures h l slots) c.in-Some-declared.is

pub returns-in-None-declared : goal.returns-in-None-declared
returns-in-None-declared t c = λ l k s view slots number along.
    let h = c.args.h.now in
    let v = c.args.x.now in
    found_below h l v c.keeps.ensures view c.as_slice.result.now c.in-Some.number c.index-as_slice-number.result c.as_slice.ensures (subst (λ o. IfSome o (λ i. i < length v.parts)) c.in-Some.is c.requires.number) c.index-as_slice-number.is
    k c.args.n c.args.steps c.args.at s c.declared.result c.declarer_below.result c.in-Some.is number along c.if-steps-eq0.false (c.declared.ensures h l slots) c.in-None-declared.is (λ k s number along. c.declarer_below.ensures l k s view slots number along)
