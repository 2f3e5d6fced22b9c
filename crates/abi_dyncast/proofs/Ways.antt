-- Ways along edges.
use Rattle.std.proofs.Common.{◌≡◌, ◌<◌, ◌⊎◌, inl, inr, ⊎_elim, Bool, List, refl, subst, sym, arith}
use Rattle.std.specs.Prelude.{Contains}
use Rattle.abi_dyncast.specs.declared.parts.TypedPart.{TypedPart}
use Rattle.abi_dyncast.specs.declared.parts.Edge.{Edge}
use Rattle.abi_dyncast.specs.Graph.{Graph, any_edge, LeadsByEdges, stays, steps}
use Rattle.abi_dyncast.specs.Casts.{AreClosedParts}

-- a way of some edges is a way
pub leads_any : (g : Graph) (allow : Edge → Bool) (part end : TypedPart) → LeadsByEdges g allow part end → LeadsByEdges g any_edge part end
leads_any g allow _ _ (stays part) = stays part
leads_any g allow _ _ (steps part end i lt a l) = steps part end i lt refl (leads_any g allow (g.edge part i).part end l)

-- no way leaves parts that no edge leaves
pub leads_inside : (g : Graph) (allow : Edge → Bool) (parts : List TypedPart) (part end : TypedPart) → AreClosedParts g parts → LeadsByEdges g allow part end → Contains parts part → Contains parts end
leads_inside g allow parts _ _ are (stays part) has = has
leads_inside g allow parts _ _ are (steps part end i lt a l) has = leads_inside g allow parts (g.edge part i).part end are l (are.inside part i has lt)

-- what lies below a part is the part itself, or of a lower class
pub leads_lower : (g : Graph) (allow : Edge → Bool) (parts : List TypedPart) (part end : TypedPart) → AreClosedParts g parts → LeadsByEdges g allow part end → Contains parts part → (end ≡ part) ⊎ (g.class end < g.class part)
leads_lower g allow parts _ _ are (stays part) has = inl refl
leads_lower g allow parts _ _ are (steps part end i lt a l) has =
    let falls = are.falls part i has lt in
    ⊎_elim
    (λ same. inr (subst (λ p. g.class p < g.class part) (sym same) falls))
    (λ less. inr (omega arith))
    (leads_lower g allow parts (g.edge part i).part end are l (are.inside part i has lt))
