-- Ways along bases that are not virtual.
use Rattle.std.proofs.Common.{◌≡◌, ℕ, zero, suc, ◌+◌, ◌-◌, ◌^◌, ◌<◌, ◌≤◌, ◌⊎◌, inl, inr, ⊎_elim, Bool, true, false, Option, List, refl, ap, subst, sym, ◌∙◌, arith}
use Rattle.std.specs.Prelude.{Contains}
use Rattle.std.proofs.lemmas.Bool.{cases_order}
use Rattle.byte_memory.specs.Store.{Store}
use Rattle.byte_code.specs.declared.image.BaseRecord.{BaseRecord}
use Rattle.abi_dyncast.specs.declared.parts.TypedPart.{TypedPart}
use Rattle.abi_dyncast.specs.declared.work.Goal.{Goal}
use Rattle.abi_dyncast.specs.declared.kept.KnownPart.{KnownPart}
use Rattle.abi_dyncast.specs.Graph.{Graph, moved, graph_of, word_in, info_at, any_edge, base_record, has_virtual_flag, offset_word, LeadsByEdges, stays, steps, LeadsToSome}
use Rattle.abi_dyncast.specs.Casts.{AreClosedParts, CanTellWithin, IsPartAtAddress, TellsWithin, complete_view_at, point_of}
use Rattle.abi_dyncast.specs.Known.{HasKnownPart}
use Rattle.abi_dyncast.specs.invariants.Direct.{plain_base, GoesDirectly, arrived, goes, LeadsDirectly}
use Rattle.abi_dyncast.specs.invariants.Finding.{IsSource, is_source}
use Rattle.abi_dyncast.proofs.Edges.{plain_part}
use Rattle.abi_dyncast.proofs.Findings.{source_test}

-- two moves, in either order
moved_twice : (x a d : ℕ) → moved (moved x a) d ≡ moved x (moved a d)
moved_twice x a d = omega arith

-- a part as far on
abbrev shifted : ℕ → TypedPart → TypedPart
shifted x part = record { at = moved x part.at; info = part.info }

-- a way is one from each other place
goes_shifted : (image : ℕ → Option ℕ) (x : ℕ) (part end : TypedPart) → GoesDirectly image part end → GoesDirectly image (shifted x part) (shifted x end)
goes_shifted image x _ _ (arrived part) = arrived (shifted x part)
goes_shifted image x _ _ (goes part end i lt plain way) =
    goes (shifted x part) (shifted x end) i lt plain
    (subst (λ a. GoesDirectly image (record { at = a; info = (base_record image part i).info }) (shifted x end)) (sym (moved_twice x part.at (offset_word (base_record image part i)))) (goes_shifted image x (plain_base image part i) end way))

-- it is one along edges
goes_by_edges : (image : ℕ → Option ℕ) (memory : Store) (part end : TypedPart) → GoesDirectly image part end → LeadsByEdges (graph_of image memory) any_edge part end
goes_by_edges image memory _ _ (arrived part) = stays part
goes_by_edges image memory _ _ (goes part end i lt plain way) =
    steps part end i lt refl
    (subst (λ p. LeadsByEdges (graph_of image memory) any_edge p end) (plain_part image memory part i (base_record image part i) (offset_word (base_record image part i)) (moved part.at (offset_word (base_record image part i))) refl plain refl refl) (goes_by_edges image memory (plain_base image part i) end way))

-- the source itself
pub itself_directly : (image : ℕ → Option ℕ) (memory : Store) (goal : Goal) (part : TypedPart) (class : ℕ) → class ≡ (info_at image part.info).class → is_source goal part.at class ≡ true → LeadsDirectly image goal part
itself_directly image memory goal part class is found =
    let q = (source_test (graph_of image memory) goal part).0 (sym (ap (is_source goal part.at) is) ∙ found) in
    record { end = part; way = arrived part; same_place = q.same_place; same_class = q.same_class }

-- where it lies, as it is read
pub next_is : (image : ℕ → Option ℕ) (part : TypedPart) (i : ℕ) (base : BaseRecord) (far at : ℕ) → base ≡ base_record image part i → far ≡ offset_word base → at ≡ moved part.at far → record { at = at; info = base.info } ≡ plain_base image part i
next_is image part i base far at is offset place =
    let make : BaseRecord → TypedPart = λ b. record { at = moved part.at (offset_word b); info = b.info } in
    let put : ℕ → TypedPart = λ a. record { at = a; info = base.info } in
    ap put (place ∙ ap (moved part.at) offset) ∙ ap make is

-- a base that is not virtual, from which bases that are not virtual lead on
pub goes_on_directly : (image : ℕ → Option ℕ) (goal : Goal) (part next : TypedPart) (i : ℕ) → i < (info_at image part.info).bases → has_virtual_flag (base_record image part i) ≡ false → next ≡ plain_base image part i → LeadsDirectly image goal next → LeadsDirectly image goal part
goes_on_directly image goal part next i lt plain is found =
    let f = subst (λ p. LeadsDirectly image goal p) is found in
    record { end = f.end; way = goes part f.end i lt plain f.way; same_place = f.same_place; same_class = f.same_class }

-- a part of a class is found, or is not below a part
abbrev Decided : Graph → Goal → TypedPart → Type 0
Decided g goal part = LeadsToSome g any_edge (IsSource g goal) part ⊎ (LeadsToSome g any_edge (IsSource g goal) part → ⊥)

-- no edge of the first k leads there
abbrev PastEdges : Graph → Goal → TypedPart → ℕ → Type 0
PastEdges g goal part k = (i : ℕ) → i < k → LeadsToSome g any_edge (IsSource g goal) (g.edge part i).part → ⊥

by_edges : (g : Graph) (goal : Goal) (part : TypedPart) → ((i : ℕ) → i < g.count part → Decided g goal (g.edge part i).part) → (k : ℕ) → k ≤ g.count part → LeadsToSome g any_edge (IsSource g goal) part ⊎ PastEdges g goal part k
by_edges g goal part each zero low = inr (λ i less l. omega arith)
by_edges g goal part each (suc k) low = ⊎_elim
    (λ found. inl found)
    (λ past. ⊎_elim
    (λ l. inl (record { end = l.end; leads = steps part l.end k (omega arith) refl l.leads; is = l.is }))
    (λ nothing. inr (λ i less l. ⊎_elim (λ e. nothing (subst (λ j. LeadsToSome g any_edge (IsSource g goal) (g.edge part j).part) e l)) (λ o. ⊎_elim (λ a. past i a l) (λ b. omega arith) o) (cases_order i k)))
    (each k (omega arith)))
    (by_edges g goal part each k (omega arith))

leads_nowhere : (g : Graph) (goal : Goal) (part end : TypedPart) → LeadsByEdges g any_edge part end → IsSource g goal end → is_source goal part.at (g.class part) ≡ false → PastEdges g goal part (g.count part) → ⊥
leads_nowhere g goal _ _ (stays part) q off past = let on = (source_test g goal part).1 q in let both : true ≡ false = sym on ∙ off in cc
leads_nowhere g goal _ _ (steps part end i less a l) q off past = past i less (record { end = end; leads = l; is = q })

by_test : (g : Graph) (goal : Goal) (part : TypedPart) → ((i : ℕ) → i < g.count part → Decided g goal (g.edge part i).part) → (b : Bool) → is_source goal part.at (g.class part) ≡ b → Decided g goal part
by_test g goal part each true e = inl (record { end = part; leads = stays part; is = (source_test g goal part).0 e })
by_test g goal part each false e = ⊎_elim (λ l. inl l) (λ past. inr (λ l. leads_nowhere g goal part l.end l.leads l.is e past)) (by_edges g goal part each (g.count part) (omega arith))

decided : (g : Graph) (goal : Goal) (parts : List TypedPart) → AreClosedParts g parts → (n : ℕ) (part : TypedPart) → g.class part < n → Contains parts part → Decided g goal part
decided g goal parts are zero part lt has = absurd (omega arith)
decided g goal parts are (suc n) part lt has = by_test g goal part (λ i less. let falls = are.falls part i has less in decided g goal parts are n (g.edge part i).part (omega arith) (are.inside part i has less)) (is_source goal part.at (g.class part)) refl

-- a part that was found along bases that are not virtual is there for each view of the class
pub known_from : (image : ℕ → Option ℕ) (base view_at info at view_class class distance target : ℕ) → 0 < point_of image base view_class → info ≡ word_in (image (point_of image base view_class - 8)) → view_at < 2 ^ 64 → moved view_at distance ≡ at → LeadsDirectly image (record { at = at; class = class; target = target }) (record { at = view_at; info = info }) → HasKnownPart image base view_class class distance
known_from image base view_at info at view_class class distance target some is low place found = record {
  dynamic = some;
  named = λ memory there less absent.
      let x : ℕ = there + (2 ^ 64 - view_at) in
      let to_there : moved x view_at ≡ there = omega arith in
      let from : shifted x (record { at = view_at; info = info }) ≡ complete_view_at image base there view_class = ap (λ a. record { at = a; info = info }) to_there ∙ ap (λ i. record { at = there; info = i }) is in
      let end_at : moved x found.end.at ≡ moved there distance = ap (moved x) (found.same_place ∙ sym place) ∙ (sym (moved_twice x view_at distance) ∙ ap (λ a. moved a distance) to_there) in
      absent (record {
        end = shifted x found.end;
        leads = subst (λ p. LeadsByEdges (graph_of image memory) any_edge p (shifted x found.end)) from (goes_by_edges image memory _ _ (goes_shifted image x (record { at = view_at; info = info }) found.end found.way));
        is = record { same_place = end_at; same_class = found.same_class };
      });
}

-- the same, over what is read of the directory
pub known_found : (image : ℕ → Option ℕ) (base view_at at view_class class distance point before info : ℕ) → point ≡ point_of image base view_class → (point ≡ 0 → ⊥) → before ≡ point - 8 → info ≡ word_in (image before) → view_at < 2 ^ 64 → moved view_at distance ≡ at → LeadsDirectly image (record { at = at; class = class; target = class }) (record { at = view_at; info = info }) → HasKnownPart image base view_class class distance
known_found image base view_at at view_class class distance point before info is some place read low there found =
    known_from image base view_at info at view_class class distance class (omega arith) (read ∙ ap (λ n. word_in (image n)) (place ∙ ap (λ p. p - 8) is)) low there found

-- what is known is told
pub known_tells : (image : ℕ → Option ℕ) (base : ℕ) (memory : Store) (room view_at view_class at class distance : ℕ) → CanTellWithin image base memory room view_at view_class → HasKnownPart image base view_class class distance → view_at < 2 ^ 64 → moved view_at distance ≡ at → TellsWithin image base memory view_at view_class at class true
known_tells image base memory room view_at view_class at class distance can known low place =
    let walk = can.walk known.dynamic in
    let g : Graph = graph_of image memory in
    let goal : Goal = record { at = at; class = class; target = class } in
    let view : TypedPart = complete_view_at image base view_at view_class in
    let named : LeadsToSome g any_edge (IsPartAtAddress g at class) view = ⊎_elim
    (λ l. l)
    (λ absent. absurd (known.named memory view_at low (subst (λ a. LeadsToSome g any_edge (IsPartAtAddress g a class) view → ⊥) (sym place) absent)))
    (decided g goal walk.parts walk.are (suc (g.class view)) view (omega arith) walk.has) in
    (λ t. record { dynamic = known.dynamic; named = named }, λ w. refl)

-- an entry of what was asked tells
pub kept_tells : (image : ℕ → Option ℕ) (base : ℕ) (memory : Store) (room view_at view_class at class distance : ℕ) (k : KnownPart) → CanTellWithin image base memory room view_at view_class → HasKnownPart image base k.view_class k.class k.distance → view_at < 2 ^ 64 → moved view_at distance ≡ at → k.distance ≡ distance → k.class ≡ class → k.view_class ≡ view_class → TellsWithin image base memory view_at view_class at class true
kept_tells image base memory room view_at view_class at class distance k can known low place d c v =
    known_tells image base memory room view_at view_class at class distance can
    (subst (λ n. HasKnownPart image base view_class class n) d (subst (λ n. HasKnownPart image base view_class n k.distance) c (subst (λ n. HasKnownPart image base n k.class k.distance) v known)))
    low place
