-- The list of met parts, from one edge of a part to the next.
use Rattle.std.proofs.Common.{◌≡◌, ℕ, suc, ◌+◌, ◌<◌, ◌≤◌, ⊎_elim, Option, List, [], ◌∷◌, ◌++◌, map, length, refl, ap, subst, sym, ◌∙◌, arith, append_assoc}
use Rattle.std.specs.Prelude.{Contains}
use Rattle.std.proofs.lemmas.List.{append-nil, length-map}
use Rattle.std.proofs.lemmas.List.Elements.{Contains-append_cases}
use Rattle.std.proofs.lemmas.Bool.{cases_order}
use Rattle.foundation.proofs.Members.{has_from_contains}
use Rattle.byte_memory.specs.Store.{Store}
use Rattle.abi_dyncast.specs.declared.parts.TypedPart.{TypedPart}
use Rattle.abi_dyncast.specs.declared.parts.Edge.{Edge}
use Rattle.abi_dyncast.specs.declared.work.Goal.{Goal}
use Rattle.abi_dyncast.specs.declared.work.Found.{Found}
use Rattle.abi_dyncast.specs.declared.work.Entry.{Entry}
use Rattle.abi_dyncast.specs.Graph.{Graph, graph_of, any_edge, LeadsByEdges, stays, steps}
use Rattle.abi_dyncast.specs.Casts.{AreClosedParts}
use Rattle.abi_dyncast.specs.invariants.Chain.{IsMet, IsEachOnce}
use Rattle.abi_dyncast.specs.invariants.Finding.{IsOfTarget, IsToldAlready, TellsBelow, found_itself, found_with_base}
use Rattle.abi_dyncast.specs.invariants.Walks.{AreDone, MayBeginWalk, Visited}
use Rattle.abi_dyncast.proofs.OnceLists.{each_once, once_short}
use Rattle.abi_dyncast.proofs.Entries.{part_in, met_entry, met_left, met_cases, none_met, one_there, one_met, last_met, met_part}
use Rattle.abi_dyncast.proofs.Findings.{TellsTo, tells_start, tells_step, tells_past, tells_end}
use Rattle.abi_dyncast.proofs.Ways.{leads_inside, leads_lower}

-- the first k edges of a part are done
pub record Going (g : Graph) (goal : Goal) (part : TypedPart) (k : ℕ) (found : Found) (old new : List Entry) : Type 0 where
  pub tells : TellsTo g goal part k found
  pub more : List Entry
  pub is : new ≡ old ++ more
  pub low : (other : TypedPart) → IsMet more other → g.class other < g.class part
  pub below : (other : TypedPart) → IsMet more other → LeadsByEdges g any_edge part other
  pub met : (i : ℕ) (end : TypedPart) → i < k → LeadsByEdges g any_edge (g.edge part i).part end → IsOfTarget g goal end → IsMet new end
  pub done : AreDone g goal new

-- a part that was met
pub found_tells : (g : Graph) (goal : Goal) (part : TypedPart) (entries : List Entry) (e : Entry) → AreDone g goal entries → Contains entries e × (e.part ≡ part) → TellsBelow g goal part e.found
found_tells g goal part entries e done f = subst (λ p. TellsBelow g goal p e.found) f.1 (done.tells e f.0)

pub found_visited : (g : Graph) (goal : Goal) (part : TypedPart) (entries : List Entry) (e : Entry) → AreDone g goal entries → Contains entries e × (e.part ≡ part) → Visited g goal part entries entries
found_visited g goal part entries e done f = record {
  more = [];
  is = sym (append-nil entries);
  low = λ other m. absurd (none_met other m);
  below = λ other m. absurd (none_met other m);
  met = λ end l q. done.targets part end (subst (λ p. IsMet entries p) f.1 (met_entry entries e f.0)) l q;
  done = done;
}

-- no edge is done
pub going_from : (g : Graph) (goal : Goal) (part : TypedPart) (class : ℕ) (found : Found) (entries : List Entry) → AreDone g goal entries → class ≡ g.class part → found ≡ found_itself goal part.at class → Going g goal part 0 found entries entries
going_from g goal part class found entries done e f = record {
  tells = subst (λ x. TellsTo g goal part 0 x) (sym f) (tells_start g goal part class e);
  more = [];
  is = sym (append-nil entries);
  low = λ other m. absurd (none_met other m);
  below = λ other m. absurd (none_met other m);
  met = λ i end lt l q. absurd (omega arith);
  done = done;
}

-- all that was met is among the parts of a walk
going_inside : (image : ℕ → Option ℕ) (memory : Store) (goal : Goal) (room : ℕ) (part : TypedPart) (k : ℕ) (found : Found) (old new : List Entry) → (ready : MayBeginWalk image memory goal room old part) → Going (graph_of image memory) goal part k found old new → (other : TypedPart) → IsMet new other → Contains ready.parts other
going_inside image memory goal room part k found old new ready going other m = ⊎_elim
    (λ a. ready.inside other a)
    (λ b. leads_inside (graph_of image memory) any_edge ready.parts part other ready.are (going.below other b) ready.has)
    (met_cases old going.more other (subst (λ xs. IsMet xs other) going.is m))

-- the next walk can begin
pub going_ready : (image : ℕ → Option ℕ) (memory : Store) (goal : Goal) (room : ℕ) (part : TypedPart) (k : ℕ) (found : Found) (old new : List Entry) → MayBeginWalk image memory goal room old part → Going (graph_of image memory) goal part k found old new → k < (graph_of image memory).count part → MayBeginWalk image memory goal room new ((graph_of image memory).edge part k).part
going_ready image memory goal room part k found old new ready going lt = record {
  parts = ready.parts;
  are = ready.are;
  read = ready.read;
  has = ready.are.inside part k ready.has lt;
  few = ready.few;
  inside = going_inside image memory goal room part k found old new ready going;
  done = going.done;
}

going_step : (g : Graph) (goal : Goal) (part : TypedPart) (k : ℕ) (found below : Found) (old mid new : List Entry) → Going g goal part k found old mid → k < g.count part → g.class (g.edge part k).part < g.class part → TellsBelow g goal (g.edge part k).part below → Visited g goal (g.edge part k).part mid new → Going g goal part (k + 1) (found_with_base found below (g.edge part k).is_public) old new
going_step g goal part k found below old mid new going lt falls tells v = record {
  tells = tells_step g goal part k found below going.tells tells;
  more = going.more ++ v.more;
  is = v.is ∙ (ap (λ xs. xs ++ v.more) going.is ∙ append_assoc old going.more v.more);
  low = λ other m. ⊎_elim (λ a. going.low other a) (λ b. let l = v.low other b in omega arith) (met_cases going.more v.more other m);
  below = λ other m. ⊎_elim (λ a. going.below other a) (λ b. steps part other k lt refl (v.below other b)) (met_cases going.more v.more other m);
  met = λ i end h l q. ⊎_elim
      (λ e. v.met end (subst (λ j. LeadsByEdges g any_edge (g.edge part j).part end) e l) q)
      (λ o. ⊎_elim
      (λ a. subst (λ xs. IsMet xs end) (sym v.is) (met_left mid v.more end (going.met i end a l q)))
      (λ b. absurd (omega arith))
      o)
      (cases_order i k);
  done = v.done;
}

-- one edge more, over what the code has
pub going_next : (g : Graph) (goal : Goal) (part : TypedPart) (k : ℕ) (found below next : Found) (way : Edge) (old mid new : List Entry) → Going g goal part k found old mid → k < g.count part → g.class (g.edge part k).part < g.class part → way ≡ g.edge part k → next ≡ found_with_base found below way.is_public → TellsBelow g goal way.part below → Visited g goal way.part mid new → Going g goal part (k + 1) next old new
going_next g goal part k found below next way old mid new going lt falls is joins tells v =
    let e : next ≡ found_with_base found below (g.edge part k).is_public = joins ∙ ap (λ (w : Edge). found_with_base found below w.is_public) is in
    let t = subst (λ (w : Edge). TellsBelow g goal w.part below) is tells in
    let u = subst (λ (w : Edge). Visited g goal w.part mid new) is v in
    subst (λ f. Going g goal part (k + 1) f old new) (sym e) (going_step g goal part k found below old mid new going lt falls t u)

-- nothing of the target class lies below a part of a lower class
none_below : (g : Graph) (goal : Goal) (parts : List TypedPart) (part end : TypedPart) → AreClosedParts g parts → Contains parts part → g.class part < goal.target → LeadsByEdges g any_edge part end → IsOfTarget g goal end → ⊥
none_below g goal parts part end are has low l q =
    let target : g.class end ≡ goal.target = q in
    ⊎_elim
    (λ same. let e : g.class end ≡ g.class part = ap g.class same in omega arith)
    (λ less. omega arith)
    (leads_lower g any_edge parts part end are l has)

-- an edge that is left out
pub going_past : (g : Graph) (goal : Goal) (parts : List TypedPart) (part : TypedPart) (k : ℕ) (found : Found) (way : Edge) (class : ℕ) (old new : List Entry) → AreClosedParts g parts → Contains parts part → Going g goal part k found old new → k < g.count part → way ≡ g.edge part k → class ≡ g.class way.part → IsToldAlready goal found class → Going g goal part (k + 1) found old new
going_past g goal parts part k found way class old new are has going lt is of_way told =
    let there : class ≡ g.class (g.edge part k).part = of_way ∙ ap (λ (w : Edge). g.class w.part) is in
    let inside = are.inside part k has lt in
    let lower : class < goal.target = told.lower in
    let none_there : (end : TypedPart) → LeadsByEdges g any_edge (g.edge part k).part end → IsOfTarget g goal end → ⊥ = λ end l q. none_below g goal parts (g.edge part k).part end are inside (omega arith) l q in
    record {
      tells = tells_past g goal part k found told.source told.public_source none_there going.tells;
      more = going.more;
      is = going.is;
      low = going.low;
      below = going.below;
      met = λ i end h l q. ⊎_elim
          (λ e. absurd (none_there end (subst (λ j. LeadsByEdges g any_edge (g.edge part j).part end) e l) q))
          (λ o. ⊎_elim (λ a. going.met i end a l q) (λ b. absurd (omega arith)) o)
          (cases_order i k);
      done = going.done;
    }

-- a part is not yet there when all that lies below it is
pub going_new : (g : Graph) (goal : Goal) (part : TypedPart) (k : ℕ) (found : Found) (old new : List Entry) → Going g goal part k found old new → (IsMet old part → ⊥) → IsMet new part → ⊥
going_new g goal part k found old new going none m = ⊎_elim
    (λ a. none a)
    (λ b. let l = going.low part b in omega arith)
    (met_cases old going.more part (subst (λ xs. IsMet xs part) going.is m))

-- there is room for it
pub going_room : (image : ℕ → Option ℕ) (memory : Store) (goal : Goal) (room : ℕ) (part : TypedPart) (k : ℕ) (found : Found) (old new : List Entry) → MayBeginWalk image memory goal room old part → Going (graph_of image memory) goal part k found old new → IsEachOnce new → (IsMet old part → ⊥) → length new < room
going_room image memory goal room part k found old new ready going once none =
    let fresh = going_new (graph_of image memory) goal part k found old new going none in
    let short = once_short (part ∷ map part_in new) ready.parts (λ h. fresh (met_part new part h), each_once part_in new once) (λ other h. has_from_contains ready.parts other (⊎_elim
    (λ e. subst (λ p. Contains ready.parts p) e ready.has)
    (λ m. going_inside image memory goal room part k found old new ready going other (met_part new other m))
    h)) in
    let long : length (map part_in new) ≡ length new = length-map new part_in in
    let few = ready.few in
    let short' : suc (length (map part_in new)) ≤ length ready.parts = short in
    omega arith

-- all of the target class below a part whose edges are done is there, with the part
leads_met : (g : Graph) (goal : Goal) (part end : TypedPart) (new : List Entry) (e : Entry) → LeadsByEdges g any_edge part end → IsOfTarget g goal end → ((i : ℕ) (other : TypedPart) → i < g.count part → LeadsByEdges g any_edge (g.edge part i).part other → IsOfTarget g goal other → IsMet new other) → e.part ≡ part → IsMet (new ++ e ∷ []) end
leads_met g goal _ _ new e (stays part) q met is = subst (λ p. IsMet (new ++ e ∷ []) p) is (last_met new e)
leads_met g goal _ _ new e (steps part end i lt a l) q met is = met_left new (e ∷ []) end (met i end lt l q)

-- all edges are done, and the part is put behind
pub going_end : (g : Graph) (goal : Goal) (e : Entry) (old new : List Entry) → Going g goal e.part (g.count e.part) e.found old new → e.class ≡ g.class e.part → Visited g goal e.part old (new ++ e ∷ [])
going_end g goal e old new going class = record {
  more = going.more ++ e ∷ [];
  is = ap (λ xs. xs ++ e ∷ []) going.is ∙ append_assoc old going.more (e ∷ []);
  low = λ other m. ⊎_elim (λ a. let l = going.low other a in omega arith) (λ b. let l : g.class e.part ≡ g.class other = ap g.class (one_met e other b) in omega arith) (met_cases going.more (e ∷ []) other m);
  below = λ other m. ⊎_elim (λ a. going.below other a) (λ b. subst (λ p. LeadsByEdges g any_edge e.part p) (one_met e other b) (stays e.part)) (met_cases going.more (e ∷ []) other m);
  met = λ end l q. leads_met g goal e.part end new e l q going.met refl;
  done = record {
    class = λ x h. ⊎_elim (λ a. going.done.class x a) (λ b. subst (λ (y : Entry). y.class ≡ g.class y.part) (one_there x e b) class) (Contains-append_cases new (e ∷ []) x h);
    tells = λ x h. ⊎_elim (λ a. going.done.tells x a) (λ b. subst (λ (y : Entry). TellsBelow g goal y.part y.found) (one_there x e b) (tells_end g goal e.part e.found going.tells)) (Contains-append_cases new (e ∷ []) x h);
    targets = λ other end m l q. ⊎_elim
        (λ a. met_left new (e ∷ []) end (going.done.targets other end a l q))
        (λ b. leads_met g goal e.part end new e (subst (λ p. LeadsByEdges g any_edge p end) (sym (one_met e other b)) l) q going.met refl)
        (met_cases new (e ∷ []) other m);
  };
}
