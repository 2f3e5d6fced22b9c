use Rattle.std.proofs.Common.{◌≡◌, ◌+◌, ◌++◌, ◌∷◌, [], get_or, length, take, ap, subst, sym, ◌∙◌, arith, rules, true, false, List, set}
use Rattle.std.specs.List.{flat_map, slice_get}
use Rattle.std.proofs.lemmas.List.{length-set}
use Rattle.std.proofs.lemmas.Option.{slice_get_within}
use Rattle.cxx_hierarchy.specs.declared.records.ClassId.{ClassId}
use Rattle.cxx_hierarchy.specs.declared.records.Base.{Base}
use Rattle.cxx_hierarchy.specs.Classes.{bases_in}
use Rattle.cxx_subobject.specs.declared.Subobject.{Subobject}
use Rattle.cxx_subobject.specs.Subobjects.{subobject}
use Rattle.cxx_subobject.specs.invariants.Walks.{IsFresh, AreSharedMarks, IsPlaced, IsClosed}
use Rattle.cxx_subobject.proofs.TreeLemmas.{base_listed, base_down, base_across}
use Rattle.cxx_subobject.proofs.WalkLemmas.{below, closed_here, closed_less, placed_down, fresh_next, others_before, marks_down, marks_across, fresh_shared, walk_whole, has_start, start_at, next_walked, skip_walked}
use Rattle.cxx_subobject.proofs.listing.+visit.Goals.{then-base+then-not-marks-number+in_ok-put_shared+in_ok-visit, then-base+else-not-marks-number, else-base+in_ok-put_below_number+in_ok-visit-2}
use Rattle.cxx_subobject.proofs.listing.+visit.Goals as goal

abbrev no_base : Base ClassId
no_base = record { class = record { 0 = 0 }; is_virtual = false; is_public = false; at = 0 }

pub loop-base-init : goal.loop-base-init
loop-base-init t c =
    let pushed = c.in_ok-push_moved.ensures in
    record {
      items = c.as_slice-base-items.ensures ∙ sym (ap bases_in c.class.ensures);
      size = c.requires.size;
      found = pushed;
      marks = subst (λ (xs : List Subobject). AreSharedMarks c.args.marks.now xs) (sym pushed) c.requires.marks;
      closed = subst (λ (xs : List Subobject). IsClosed c.args.h.now c.args.c.0 xs) (sym pushed) (closed_here c.args.h.now c.args.c c.args.s.now c.args.found.now.items c.requires.place.class c.requires.closed);
    }

pub bounds-marks-number : goal.bounds-marks-number
bounds-marks-number t c =
    let base = get_or c.as_slice-base-items.result.now c.loop-base.base-index no_base in
    let less = c.keeps.ensures.bases c.args.c base (base_listed c.args.h.now c.args.c c.as_slice-base-items.result.now c.loop-base.base-index no_base c.loop-base.invariant.items c.loop-base-test.true) in
    let known = c.requires.known in
    let size = c.loop-base.invariant.size in
    omega arith

pub bounds-marks-number-then-not-marks-number : goal.bounds-marks-number-then-not-marks-number
bounds-marks-number-then-not-marks-number t c =
    let base = get_or c.as_slice-base-items.result.now c.loop-base.base-index no_base in
    let less = c.keeps.ensures.bases c.args.c base (base_listed c.args.h.now c.args.c c.as_slice-base-items.result.now c.loop-base.base-index no_base c.loop-base.invariant.items c.loop-base-test.true) in
    let known = c.requires.known in
    let size = c.loop-base.invariant.size in
    omega arith

-- a virtual base that was not met
pub visit-requires : goal.visit-requires
visit-requires t c =
    let h = c.args.h.now in
    let bases = c.as_slice-base-items.result.now in
    let i = c.loop-base.base-index in
    let base = get_or bases i no_base in
    let found = c.loop-base.found.items in
    let marks = c.loop-base.marks in
    let listed = base_listed h c.args.c bases i no_base c.loop-base.invariant.items c.loop-base-test.true in
    let less = c.keeps.ensures.bases c.args.c base listed in
    let known = c.requires.known in
    let size = c.loop-base.invariant.size in
    let is = c.in_ok-put_shared.ensures in
    let placed = placed_down h c.args.c c.args.s.now base c.requires.place listed in
    let across = base_across c.args.s.now base c.if-base.true in (
      omega arith,
      (
        omega arith,
        (
          length-set marks base.class.0 true ∙ size,
          (
            subst (λ (x : Subobject). IsPlaced h base.class x) (sym is) (subst (λ (x : Subobject). IsPlaced h base.class x) across placed),
            (
              subst (λ (x : Subobject). IsFresh found x) (sym is) (fresh_shared marks found base.class c.loop-base.invariant.marks c.if-not-marks-number.true),
              (
                subst (λ (x : Subobject). AreSharedMarks (set marks base.class.0 true) (found ++ x ∷ [])) (sym is) (marks_across marks found base.class c.loop-base.invariant.marks (omega arith)),
                closed_less h c.args.c.0 (base.class.0 + 1) found (omega arith) c.loop-base.invariant.closed,
              ),
            ),
          ),
        ),
      ),
    )

-- a base of its own
pub visit-requires-else-base : goal.visit-requires-else-base
visit-requires-else-base t c =
    let h = c.args.h.now in
    let bases = c.as_slice-base-items.result.now in
    let i = c.loop-base.base-index in
    let base = get_or bases i no_base in
    let found = c.loop-base.found.items in
    let marks = c.loop-base.marks in
    let old = c.args.found.now.items in
    let s = c.args.s.now in
    let listed = base_listed h c.args.c bases i no_base c.loop-base.invariant.items c.loop-base-test.true in
    let less = c.keeps.ensures.bases c.args.c base listed in
    let known = c.requires.known in
    let at : c.len-at.result ≡ length old = search rules in
    let is = c.in_ok-put_below_number.ensures s (ap (λ xs. slice_get xs c.len-at.result) c.deref.ensures.value ∙ start_at c.args.found.now.items (flat_map (below c.args.h.now c.args.c c.args.s.now) (take c.loop-base.base-index c.as_slice-base-items.result.now)) c.loop-base.found.items c.len-at.result c.args.s.now at c.loop-base.invariant.found) in
    let placed = placed_down h c.args.c s base c.requires.place listed in
    let there = base_down s base c.if-base.false in
    let fresh = fresh_next h c.keeps.ensures c.args.c s base (take i bases) old c.requires.place c.requires.fresh (others_before h c.keeps.ensures c.args.c bases i no_base c.loop-base.invariant.items c.loop-base-test.true) in (
      omega arith,
      (
        omega arith,
        (
          c.loop-base.invariant.size,
          (
            subst (λ (x : Subobject). IsPlaced h base.class x) (sym is) (subst (λ (x : Subobject). IsPlaced h base.class x) there placed),
            (
              subst (λ (x : Subobject). IsFresh found x) (sym is) (subst (λ (xs : List Subobject). IsFresh xs (subobject s.root (s.path ++ base.class ∷ []))) (sym c.loop-base.invariant.found) fresh),
              (
                subst (λ (x : Subobject). AreSharedMarks marks (found ++ x ∷ [])) (sym is) (marks_down marks found s c.args.c base.class c.loop-base.invariant.marks (has_start old (flat_map (below h c.args.c s) (take i bases)) found s c.loop-base.invariant.found) c.requires.place.class),
                closed_less h c.args.c.0 (base.class.0 + 1) found (omega arith) c.loop-base.invariant.closed,
              ),
            ),
          ),
        ),
      ),
    )

-- it stands at its number
pub put_below_number-requires : goal.put_below_number-requires
put_below_number-requires t c =
    let at : c.len-at.result ≡ length c.args.found.now.items = search rules in
    slice_get_within c.deref.result.now c.len-at.result c.args.s.now (ap (λ xs. slice_get xs c.len-at.result) c.deref.ensures.value ∙ start_at c.args.found.now.items (flat_map (below c.args.h.now c.args.c c.args.s.now) (take c.loop-base.base-index c.as_slice-base-items.result.now)) c.loop-base.found.items c.len-at.result c.args.s.now at c.loop-base.invariant.found)

pub loop-base-preserved : goal.loop-base-preserved
loop-base-preserved t c =
    let h = c.args.h.now in
    let bases = c.as_slice-base-items.result.now in
    let i = c.loop-base.base-index in
    let base = get_or bases i no_base in
    let old = c.args.found.now.items in
    let s = c.args.s.now in
    let walked = c.loop-base.invariant in
    let at : c.len-at.result ≡ length old = search rules in
    let lt = c.loop-base-test.true in
    elim c.if-base.branch [
      | then-base+then-not-marks-number+in_ok-put_shared+in_ok-visit w ↦ rw (w.marks-is, w.found-is)
          (next_walked h c.keeps.ensures c.args.c s bases i no_base old c.loop-base.marks w.visit.new.marks c.loop-base.found.items w.visit.new.found.items w.put_shared.new.inner c.requires.place lt walked
          (w.in_ok-put_shared.ensures ∙ sym (base_across s base w.if-base.true)) w.in_ok-visit.ensures.found w.in_ok-visit.ensures.marks w.in_ok-visit.ensures.size)
      | then-base+else-not-marks-number w ↦ rw (w.marks-is, w.found-is)
          (skip_walked h c.keeps.ensures c.args.c s bases i no_base old c.loop-base.marks c.loop-base.found.items lt walked w.if-base.true w.if-not-marks-number.false)
      | else-base+in_ok-put_below_number+in_ok-visit-2 w ↦ rw (w.marks-is, w.found-is)
          (next_walked h c.keeps.ensures c.args.c s bases i no_base old c.loop-base.marks w.visit-else-base.new.marks c.loop-base.found.items w.visit-else-base.new.found.items w.put_below_number.new.inner c.requires.place lt walked
          (w.in_ok-put_below_number.ensures s (ap (λ xs. slice_get xs c.len-at.result) w.deref.ensures.value ∙ start_at c.args.found.now.items (flat_map (below c.args.h.now c.args.c c.args.s.now) (take c.loop-base.base-index c.as_slice-base-items.result.now)) c.loop-base.found.items c.len-at.result c.args.s.now at c.loop-base.invariant.found) ∙ sym (base_down s base w.if-base.false)) w.in_ok-visit-2.ensures.found w.in_ok-visit-2.ensures.marks w.in_ok-visit-2.ensures.size)
    ]

pub returns-clause-found : goal.returns-clause-found
returns-clause-found t c = walk_whole c.args.h.now c.args.c c.args.s.now c.as_slice-base-items.result.now c.loop-base.base-index c.args.found.now.items c.loop-base.found.items c.loop-base.invariant.items c.loop-base-test.false c.requires.fresh c.loop-base.invariant.found
