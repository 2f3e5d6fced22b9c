-- What a search found tells whether a part lies in a view.
use Rattle.std.proofs.Common.{◌≡◌, ℕ, ◌-◌, Bool, Option, ap, subst, ◌∙◌, arith}
use Rattle.byte_memory.specs.Store.{Store}
use Rattle.abi_dyncast.specs.declared.parts.TypedPart.{TypedPart}
use Rattle.abi_dyncast.specs.declared.work.Goal.{Goal}
use Rattle.abi_dyncast.specs.Graph.{graph_of, word_in}
use Rattle.abi_dyncast.specs.Casts.{TellsWithin, point_of}
use Rattle.abi_dyncast.specs.invariants.Searches.{TellsOfSource}

pub within_told : (image : ℕ → Option ℕ) (base : ℕ) (memory : Store) (view_at view_class at class point before info : ℕ) (found : Bool) → point ≡ point_of image base view_class → (point ≡ 0 → ⊥) → before ≡ point - 8 → info ≡ word_in (image before) →
    TellsOfSource (graph_of image memory) (record { at = at; class = class; target = class }) (record { at = view_at; info = info }) found → TellsWithin image base memory view_at view_class at class found
within_told image base memory view_at view_class at class point before info found is some place read told =
    let wanted : Goal = record { at = at; class = class; target = class } in
    let view : ℕ → TypedPart = λ i. record { at = view_at; info = i } in
    let same : info ≡ word_in (image (point_of image base view_class - 8)) = read ∙ ap (λ k. word_in (image k)) (place ∙ ap (λ p. p - 8) is) in
    let tells = subst (λ (i : ℕ). TellsOfSource (graph_of image memory) wanted (view i) found) same told in
    (λ there. record { dynamic = omega arith; named = tells.source.0 there }, λ within. tells.source.1 within.named)
