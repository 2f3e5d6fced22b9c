use Rattle.std.proofs.Common.{rules, ◌≡◌, ℕ, true, false, Some, List, [], length, get_or, refl, ap, subst, sym, ◌∙◌, arith}
use Rattle.std.specs.List.{slice_get, Contains}
use Rattle.cxx_hierarchy.specs.declared.records.ClassId.{ClassId}
use Rattle.cxx_hierarchy.specs.declared.records.Base.{Base}
use Rattle.cxx_hierarchy.specs.Classes.{bases_of}
use Rattle.std.proofs.lemmas.Option.{get_or_from_slice_get}
use Rattle.foundation.proofs.Places.{contains_at, get_read}
use Rattle.cxx_overrider.specs.invariants.Numbers.{row_of, number_of}
use Rattle.cxx_overrider.proofs.Lists.{get_at}
use Rattle.cxx_overrider.proofs.SharedEntries.{declares_no_more}
use Rattle.cxx_overrider.proofs.sharing.serving_base.Goals as goal

abbrev no_base : Base ClassId
no_base = record { class = record { 0 = 0 }; is_virtual = false; is_public = false; at = 0 }

pub class-requires-2 : goal.class-requires-2
class-requires-2 c =
    let h = c.args.site.now.h.now in
    let items : c.as_slice-bases.result.now ≡ bases_of h c.args.site.now.c = search rules in
    let one = c.if-bases-ne1.false in
    let listed = get_at c.as_slice-bases.result.now (bases_of h c.args.site.now.c) 0 no_base items (omega arith) in
    let lt = c.keeps.ensures.bases c.args.site.now.c _ (contains_at (bases_of h c.args.site.now.c) 0 _ listed) in
    let known = c.requires.known in
    omega arith

pub index-requires : goal.index-requires
index-requires c =
    let h = c.args.site.now.h.now in
    let items : c.as_slice-bases.result.now ≡ bases_of h c.args.site.now.c = search rules in
    let one = c.if-bases-ne1.false in
    let listed = get_at c.as_slice-bases.result.now (bases_of h c.args.site.now.c) 0 no_base items (omega arith) in
    let lt = c.keeps.ensures.bases c.args.site.now.c _ (contains_at (bases_of h c.args.site.now.c) 0 _ listed) in
    let known = c.requires.known in
    let all = c.requires.tables.numbering.all in
    omega arith

pub returns : goal.returns
returns c =
    let h = c.args.site.now.h.now in
    let items : c.as_slice-bases.result.now ≡ bases_of h c.args.site.now.c = search rules in
    let one = c.if-bases-ne1.false in
    let listed = get_at c.as_slice-bases.result.now (bases_of h c.args.site.now.c) 0 no_base items (omega arith) in
    let lt = c.keeps.ensures.bases c.args.site.now.c _ (contains_at (bases_of h c.args.site.now.c) 0 _ listed) in
    let known = c.requires.known in
    let t = c.args.site.now.tables.now in
    let base = get_or c.as_slice-bases.result.now 0 no_base in
    let below : c.as_slice.result.now ≡ bases_of h base.class = search rules in
    let rows = t.numbering.rows.items in
    let all = c.requires.tables.numbering.all in
    let there = get_read rows base.class.0 c.index.result.now (omega arith) c.index.ensures in
    let row : c.as_slice-row.result.now ≡ row_of rows base.class = c.as_slice-row.ensures ∙ sym (get_or_from_slice_get rows base.class.0 c.index.result.now [] there) in
    let size = ap length items in
    record {
      base = base;
      listed = listed;
      alone = omega arith;
      class = refl;
      is_virtual = c.if-not-base.false;
      plain_none = subst (λ (xs : List (Base ClassId)). (x : Base ClassId) → Contains xs x → x.is_virtual ≡ true) below (c.are_virtual.ensures c.if-not-are_virtual.false);
      declares = declares_no_more h t.numbering.rows.items t.numbering.count c.args.site.now.c base.class c.requires.tables.numbering
          (λ i n at.
          let f = c.declares_all.ensures c.if-not-declares_all.false i n (subst (λ (xs : List ℕ). slice_get xs i ≡ Some n) (sym row) at) in
          (f.0, f.1, ap (λ (r : List (List ℕ)). number_of r f.0) (sym c.deref.ensures.value) ∙ f.2));
    }
