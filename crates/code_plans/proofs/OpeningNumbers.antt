-- Openings with equal numbers are one.
use Rattle.std.proofs.Common.{◌≡◌, ℕ, Option, Some, ap, ◌∙◌}
use Rattle.byte_code.specs.declared.op.Opening.{Opening}
use Rattle.byte_code.specs.declared.op.BaseHand.{BaseHand}
use Rattle.byte_code.specs.declared.op.Whose.{Whose}
use Rattle.cxx_hierarchy.specs.declared.records.ClassId.{ClassId}
use Rattle.code_ops.specs.Setups.{Routine}
use Rattle.code_plans.specs.declared.plan_sites.ClassPlan.{ClassPlan}
use Rattle.code_plans.specs.invariants.Frames.{base_frame}

abbrev pub opening : ℕ → ℕ → Option BaseHand → ℕ → ℕ → Opening
opening place block hand count stride = record { place = place; block = block; hand = hand; count = count; stride = stride }

pub opening_same : (p q b d : ℕ) (a e : Option BaseHand) (n s t : ℕ) → p ≡ q → b ≡ d → a ≡ e → s ≡ t → opening p b a n s ≡ opening q d e n t
opening_same p q b d a e n s t place block hand stride =
    ap (λ k. opening k b a n s) place ∙ ap (λ k. opening q k a n s) block ∙ ap (λ k. opening q d k n s) hand ∙ ap (λ k. opening q d e n k) stride

abbrev pub hand : Whose → ℕ → Option ℕ → BaseHand
hand owner class vtt = record { owner = owner; class = class; vtt = vtt }

pub hand_same : (a b : Whose) (class : ℕ) (v w : Option ℕ) → a ≡ b → v ≡ w → Some (hand a class v) ≡ Some (hand b class w)
hand_same a b class v w owner vtt = ap (λ k. Some (hand k class v)) owner ∙ ap (λ k. Some (hand b class k)) vtt

pub frame_same : (at : Routine → ℕ) (plan : ClassPlan) (d : ClassId) (p q : ℕ) (v w : Option ℕ) (how : Opening) → how ≡ base_frame at plan d p v → p ≡ q → v ≡ w → how ≡ base_frame at plan d q w
frame_same at plan d p q v w how is place vtt = is ∙ ap (λ k. base_frame at plan d k v) place ∙ ap (λ k. base_frame at plan d q k) vtt
