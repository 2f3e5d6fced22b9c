use Rattle.std.proofs.Common.{◌≡◌, ℕ, List, Some, get_or, ⊎_elim, subst, sym, arith}
use Rattle.std.specs.List.{slice_get}
use Rattle.cxx_hierarchy.specs.VirtualBases.{HasVirtualBase}
use Rattle.cxx_subobject.specs.declared.Root.TheVariants.{Shared}
use Rattle.cxx_overrider.specs.Functions.{Signature}
use Rattle.cxx_overrider.specs.Overriding.{IsAbstract}
use Rattle.cxx_overrider.specs.invariants.Numbers.{IsNumberOf}
use Rattle.cxx_overrider.specs.invariants.Abstract.{HasPureAt}
use Rattle.cxx_overrider.proofs.WithinLemmas.{base_listed, listed_number}
use Rattle.std.proofs.lemmas.Bool.{cases_lt, MatchBool-at_false}
use Rattle.std.proofs.lemmas.Option.{slice_get_within}
use Rattle.cxx_overrider.proofs.AbstractLemmas.{signature_number, shared_base_of, shared_within, same_item}
use Rattle.cxx_overrider.proofs.SettlingLemmas.{refuted}
use Rattle.cxx_overrider.proofs.abstracts.has_pure_base.Goals as goal

pub returns-then-not-has_virtual_base : goal.returns-then-not-has_virtual_base
returns-then-not-has_virtual_base c = λ s at.
    let base = shared_base_of c.args.site.now.h.now c.args.site.now.c c.args.v s at in
    refuted c.has_virtual_base.result (HasVirtualBase c.args.site.now.h.now c.args.site.now.c c.args.v) c.has_virtual_base.ensures c.if-not-has_virtual_base.true base

pub numbers_within-n-items-requires : goal.numbers_within-n-items-requires
numbers_within-n-items-requires c = base_listed c.args.site.now.h.now c.keeps.ensures c.args.site.now.tables.now c.requires.site.tables c.args.site.now.c c.args.v c.requires.site.known (c.has_virtual_base.ensures.0 c.if-not-has_virtual_base.false)

pub has_pure_number-requires : goal.has_pure_number-requires
has_pure_number-requires c =
    let listed = listed_number c.args.site.now.h.now c.keeps.ensures c.args.site.now.tables.now c.requires.site.tables c.args.site.now.c c.args.v c.requires.site.known (c.has_virtual_base.ensures.0 c.if-not-has_virtual_base.false) _ _ c.loop-n.invariant.items c.loop-n-test.true in
    record {
      site = c.requires.site;
      at = record { base = c.has_virtual_base.ensures.0 c.if-not-has_virtual_base.false; number = listed.few; within = listed.valid };
      made = c.requires.made;
    }

pub loop-n-preserved : goal.loop-n-preserved
loop-n-preserved c =
    let h = c.args.site.now.h.now in
    let xs = c.numbers_within-n-items.result.now in
    let rows = c.args.site.now.tables.now.numbering.rows.items in
    record {
      items = c.loop-n.invariant.items;
      none = λ i n s lt at k there. ⊎_elim
          (λ small. c.loop-n.invariant.none i n s small at k there)
          (λ past.
          let here : i ≡ c.loop-n.n-index = omega arith in
          let same : n ≡ get_or xs c.loop-n.n-index 0 = same_item xs i c.loop-n.n-index n 0 here at in
          let none = MatchBool-at_false (IsAbstract h c.args.site.now.c) ((t : Signature) → IsNumberOf h rows (get_or xs c.loop-n.n-index 0) t → HasPureAt h c.args.site.now.c (Shared c.args.v) t → ⊥) c.if-has_pure_number.false c.has_pure_number.ensures in
          none s (subst (λ (m : ℕ). IsNumberOf h rows m s) same k) there)
          (cases_lt i c.loop-n.n-index);
    }

pub returns : goal.returns
returns c = λ s at.
    let h = c.args.site.now.h.now in
    let xs = c.numbers_within-n-items.result.now in
    let t = c.args.site.now.tables.now in
    let base = base_listed h c.keeps.ensures t c.requires.site.tables c.args.site.now.c c.args.v c.requires.site.known (c.has_virtual_base.ensures.0 c.if-not-has_virtual_base.false) in
    let k = signature_number h t.numbering.rows.items t.numbering.count at.function s c.requires.site.tables.numbering at.same in
    let r = c.requires.site.tables.within.listed c.args.v k.0 s base k.1 (shared_within h c.args.site.now.c c.args.v s at) in
    let listed : slice_get xs r.0 ≡ Some k.0 = subst (λ (x : List ℕ). slice_get x r.0 ≡ Some k.0) (sym c.loop-n.invariant.items) r.1 in
    let small = slice_get_within xs r.0 k.0 listed in
    let f = c.loop-n-test.false in
    c.loop-n.invariant.none r.0 k.0 s (omega arith) listed k.1 at
