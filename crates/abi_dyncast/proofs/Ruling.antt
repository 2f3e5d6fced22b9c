-- The decision by the entries of a walk is the rule over the parts below the view.
use Rattle.std.proofs.Common.{◌≡◌, ℕ, ◌-◌, ⊎_elim, true, false, Option, Some, None, List, [], refl, ap, subst, sym, ◌∙◌}
use Rattle.std.specs.Prelude.{nat_eq, not, ◌&&◌, ◌||◌, if◌then◌else◌}
use Rattle.std.proofs.lemmas.Bool.{eqb-true, eq-eqb, and_parts, and_from, or_cases, or_left, or_right}
use Rattle.foundation.proofs.Truth.{split}
use Rattle.byte_memory.specs.Store.{Store}
use Rattle.abi_dyncast.specs.declared.parts.TypedPart.{TypedPart}
use Rattle.abi_dyncast.specs.declared.work.Goal.{Goal}
use Rattle.abi_dyncast.specs.declared.work.Found.{Found}
use Rattle.abi_dyncast.specs.declared.work.Entry.{Entry}
use Rattle.abi_dyncast.specs.Rule.{Parts, IsOver, IsDown, AnswersCast, down, across, nowhere}
use Rattle.abi_dyncast.specs.Graph.{moved}
use Rattle.abi_dyncast.specs.Graph.{Graph, graph_of, word_in, pointer_at, any_edge, public_edge, LeadsByEdges, LeadsToSome}
use Rattle.abi_dyncast.specs.Casts.{IsPartAtAddress, IsTargetPart, parts_below, view_at_address, found_address, CastsTo}
use Rattle.abi_dyncast.specs.invariants.Chain.{IsMet, IsEachOnce}
use Rattle.abi_dyncast.specs.invariants.Finding.{IsOfTarget, TellsBelow}
use Rattle.abi_dyncast.specs.invariants.Walks.{AreDone, Visited}
use Rattle.abi_dyncast.specs.invariants.Deciding.{is_candidate, only_candidate, across_by, decide_by}
use Rattle.abi_dyncast.proofs.Entries.{met_entry}
use Rattle.abi_dyncast.proofs.Ways.{leads_any}
use Rattle.abi_dyncast.proofs.Choosing.{Matches, found_only, found_none}

-- the rule's questions for a goal
abbrev asked : Graph → Goal → TypedPart → Parts TypedPart
asked g goal view = parts_below g view goal.at goal.class goal.target

-- a whole walk from a view
record IsWalked (g : Graph) (goal : Goal) (view : TypedPart) (found : Found) (entries : List Entry) : Type 0 where
  done : AreDone g goal entries
  once : IsEachOnce entries
  met : (end : TypedPart) → LeadsByEdges g any_edge view end → IsOfTarget g goal end → IsMet entries end
  below : (part : TypedPart) → IsMet entries part → LeadsByEdges g any_edge view part
  tells : TellsBelow g goal view found

walked : (g : Graph) (goal : Goal) (view : TypedPart) (found : Found) (entries : List Entry) → IsEachOnce entries → Visited g goal view [] entries → TellsBelow g goal view found → IsWalked g goal view found entries
walked g goal view found entries once v tells = record {
  done = v.done;
  once = once;
  met = v.met;
  below = λ part m. v.below part (subst (λ xs. IsMet xs part) v.is m);
  tells = tells;
}

target_matches : (g : Graph) (goal : Goal) (view : TypedPart) (found : Found) (entries : List Entry) → IsWalked g goal view found entries → Matches entries (is_candidate goal.target false) (IsTargetPart g goal.target view)
target_matches g goal view found entries w = record {
  sound = λ e h t. record {
    below = w.below e.part (met_entry entries e h);
    class = sym (w.done.class e h) ∙ eqb-true e.class goal.target (and_parts (nat_eq e.class goal.target) (e.found.source || not false) t).0;
  };
  complete = λ part q.
      let m = w.met part q.below q.class in
      let class : m.entry.class ≡ goal.target = w.done.class m.entry m.has ∙ (ap g.class m.is ∙ q.class) in
      (m.entry, m.has, m.is, and_from (nat_eq m.entry.class goal.target) (m.entry.found.source || not false) (eq-eqb m.entry.class goal.target class) (or_right m.entry.found.source (not false) refl));
}

over_matches : (g : Graph) (goal : Goal) (view : TypedPart) (found : Found) (entries : List Entry) → IsWalked g goal view found entries → Matches entries (is_candidate goal.target true) (IsOver (asked g goal view))
over_matches g goal view found entries w = let all = target_matches g goal view found entries w in record {
  sound = λ e h t.
      let both = and_parts (nat_eq e.class goal.target) (e.found.source || not true) t in
      let has : e.found.source ≡ true = ⊎_elim (λ a. a) (λ b. absurd (cc)) (or_cases e.found.source (not true) both.1) in
      record {
        target = all.sound e h (and_from (nat_eq e.class goal.target) (e.found.source || not false) both.0 (or_right e.found.source (not false) refl));
        contains = (w.done.tells e h).source.0 has;
      };
  complete = λ part q.
      let c = all.complete part q.target in
      let has : c.0.found.source ≡ true = (w.done.tells c.0 c.1).source.1 (subst (λ p. LeadsToSome g any_edge (IsPartAtAddress g goal.at goal.class) p) (sym c.2) q.contains) in
      (c.0, c.1, c.2, and_from (nat_eq c.0.class goal.target) (c.0.found.source || not true) (and_parts (nat_eq c.0.class goal.target) (c.0.found.source || not false) c.3).0 (or_left c.0.found.source (not true) has));
}

-- where it leads not down
across_rule : (g : Graph) (goal : Goal) (view : TypedPart) (found : Found) (entries : List Entry) → IsWalked g goal view found entries → ((other : TypedPart) → IsDown (asked g goal view) other → ⊥) →
    (all : Option Entry) → only_candidate entries goal.target false ≡ all → AnswersCast (asked g goal view) (across_by all found)
across_rule g goal view found entries w none None e = nowhere none (λ part a. found_none entries (is_candidate goal.target false) (IsTargetPart g goal.target view) w.once (target_matches g goal view found entries w) e part a.target)
across_rule g goal view found entries w none (Some x) e =
    let f = found_only entries (is_candidate goal.target false) (IsTargetPart g goal.target view) x (target_matches g goal view found entries w) e in
    split (found.public_source && found.public_target) (λ b. AnswersCast (asked g goal view) (if b then Some x.part else None))
    (λ t.
    let both = and_parts found.public_source found.public_target t in
    let way = w.tells.public_target.0 both.1 in
    let there : IsTargetPart g goal.target view way.end = record { below = leads_any g public_edge view way.end way.leads; class = way.is } in
    across x.part none (record { source = w.tells.public_source.0 both.0; target = f.1; reached = subst (λ p. LeadsByEdges g public_edge view p) (f.1.only way.end there) way.leads }))
    (λ t. nowhere none (λ part a.
    let one = w.tells.public_source.1 a.source in
    let two = w.tells.public_target.1 (record { end = part; leads = a.reached; is = a.target.is.class }) in
    let both = and_from found.public_source found.public_target one two in cc))

-- the decision is the rule
decides : (g : Graph) (goal : Goal) (view : TypedPart) (found : Found) (entries : List Entry) → IsWalked g goal view found entries → AnswersCast (asked g goal view) (decide_by (only_candidate entries goal.target true) (only_candidate entries goal.target false) found)
decides g goal view found entries w = by_over (only_candidate entries goal.target true) refl
  where
    by_over : (over : Option Entry) → only_candidate entries goal.target true ≡ over → AnswersCast (asked g goal view) (decide_by over (only_candidate entries goal.target false) found)
    by_over None e = across_rule g goal view found entries w (λ other d. found_none entries (is_candidate goal.target true) (IsOver (asked g goal view)) w.once (over_matches g goal view found entries w) e other d.over) (only_candidate entries goal.target false) refl
    by_over (Some x) e =
        let f = found_only entries (is_candidate goal.target true) (IsOver (asked g goal view)) x (over_matches g goal view found entries w) e in
        let tells = w.done.tells x f.0 in
        split x.found.public_source (λ b. AnswersCast (asked g goal view) (if b then Some x.part else across_by (only_candidate entries goal.target false) found))
        (λ t. down x.part (record { over = f.1; source = tells.public_source.0 t }))
        (λ t. across_rule g goal view found entries w
        (λ other d. let same = f.1.only other d.over.is in let p = tells.public_source.1 (subst (λ q. LeadsToSome g public_edge (IsPartAtAddress g goal.at goal.class) q) same d.source) in cc)
        (only_candidate entries goal.target false) refl)

-- the view as the code reads it
pub view_is : (image : ℕ → Option ℕ) (memory : Store) (at point before top to behind info : ℕ) → point ≡ pointer_at memory at → before ≡ point - 16 → top ≡ word_in (image before) → to ≡ moved at top → behind ≡ point - 8 → info ≡ word_in (image behind) → record { at = to; info = info } ≡ view_at_address image memory at
view_is image memory at point before top to behind info a b c d e f =
    let make : ℕ → ℕ → TypedPart = λ x y. record { at = x; info = y } in
    let top_is : top ≡ word_in (image (pointer_at memory at - 16)) = c ∙ ap (λ k. word_in (image k)) (b ∙ ap (λ p. p - 16) a) in
    let info_is : info ≡ word_in (image (pointer_at memory at - 8)) = f ∙ ap (λ k. word_in (image k)) (e ∙ ap (λ p. p - 8) a) in
    let end : make to info ≡ view_at_address image memory at = ap (λ x. make x info) (d ∙ ap (moved at) top_is) ∙ ap (make (moved at (word_in (image (pointer_at memory at - 16))))) info_is in
    end

-- the answer of the code
pub cast_is : (image : ℕ → Option ℕ) (memory : Store) (goal : Goal) (view : TypedPart) (found : Found) (before entries slice : List Entry) (result : Option TypedPart) → view ≡ view_at_address image memory goal.at → before ≡ [] → IsEachOnce entries → Visited (graph_of image memory) goal view before entries → TellsBelow (graph_of image memory) goal view found → slice ≡ entries →
    result ≡ decide_by (only_candidate slice goal.target true) (only_candidate slice goal.target false) found → CastsTo image memory goal.at goal.class goal.target (found_address result)
cast_is image memory goal view found before entries slice result is empty once visited tells same decided =
    let g = graph_of image memory in
    let v = subst (λ xs. Visited g goal view xs entries) empty visited in
    let rule = decides g goal view found entries (walked g goal view found entries once v tells) in
    let chosen : result ≡ decide_by (only_candidate entries goal.target true) (only_candidate entries goal.target false) found =
    decided ∙ ap (λ xs. decide_by (only_candidate xs goal.target true) (only_candidate xs goal.target false) found) same in
    record {
      answer = result;
      rule = subst (λ p. AnswersCast (parts_below g p goal.at goal.class goal.target) result) is (subst (λ r. AnswersCast (asked g goal view) r) (sym chosen) rule);
      is = refl;
    }
