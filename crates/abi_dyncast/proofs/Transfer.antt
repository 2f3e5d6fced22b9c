-- The rule goes over from one kind of parts to another.
use Rattle.std.proofs.Common.{◌≡◌, Option, Some, None, refl, ap, subst, sym, ◌∙◌}
use Rattle.std.specs.Prelude.{◌↔◌}
use Rattle.abi_dyncast.specs.Rule.{Parts, IsDown, IsAcross, AnswersCast, down, across, nowhere}

-- the parts of the target class correspond, and the rule's questions have the same answers there
pub record Corresponds {P Q : Type 0} (a : Parts P) (b : Parts Q) (f : P → Q) : Type 0 where
  pub to : (p : P) → a.is_target p → b.is_target (f p)
  pub from : (q : Q) → b.is_target q → (p : P) × (a.is_target p) × (f p ≡ q)
  pub once : (p o : P) → a.is_target p → a.is_target o → f p ≡ f o → p ≡ o
  pub contains : (p : P) → a.is_target p → a.contains p ↔ b.contains (f p)
  pub above : (p : P) → a.is_target p → a.is_above p ↔ b.is_above (f p)
  pub seen : a.is_seen ↔ b.is_seen
  pub reached : (p : P) → a.is_target p → a.is_reached p ↔ b.is_reached (f p)

abbrev pub made : {P Q : Type 0} → (P → Q) → Option P → Option Q
made f None = None
made f (Some p) = Some (f p)

pub record IsAnswer {P Q : Type 0} (a : Parts P) (f : P → Q) (given : Option Q) : Type 0 where
  pub answer : Option P
  pub rule : AnswersCast a answer
  pub is : made f answer ≡ given

down_to : {P Q : Type 0} (a : Parts P) (b : Parts Q) (f : P → Q) → Corresponds a b f → (p : P) → IsDown a p → IsDown b (f p)
down_to a b f c p d = record {
  over = record {
    is = record { target = c.to p d.over.is.target; contains = (c.contains p d.over.is.target).0 d.over.is.contains };
    only = λ q o. let m = c.from q o.target in
        let inside = (c.contains m.0 m.1).1 (subst (λ r. b.contains r) (sym m.2) o.contains) in
        sym m.2 ∙ ap f (d.over.only m.0 (record { target = m.1; contains = inside }));
  };
  source = (c.above p d.over.is.target).0 d.source;
}

down_from : {P Q : Type 0} (a : Parts P) (b : Parts Q) (f : P → Q) → Corresponds a b f → (p : P) → a.is_target p → IsDown b (f p) → IsDown a p
down_from a b f c p target d = record {
  over = record {
    is = record { target = target; contains = (c.contains p target).1 d.over.is.contains };
    only = λ o k. c.once o p k.target target (d.over.only (f o) (record { target = c.to o k.target; contains = (c.contains o k.target).0 k.contains }));
  };
  source = (c.above p target).1 d.source;
}

across_to : {P Q : Type 0} (a : Parts P) (b : Parts Q) (f : P → Q) → Corresponds a b f → (p : P) → IsAcross a p → IsAcross b (f p)
across_to a b f c p k = record {
  source = c.seen.0 k.source;
  target = record {
    is = c.to p k.target.is;
    only = λ q o. let m = c.from q o in sym m.2 ∙ ap f (k.target.only m.0 m.1);
  };
  reached = (c.reached p k.target.is).0 k.reached;
}

across_from : {P Q : Type 0} (a : Parts P) (b : Parts Q) (f : P → Q) → Corresponds a b f → (p : P) → a.is_target p → IsAcross b (f p) → IsAcross a p
across_from a b f c p target k = record {
  source = c.seen.1 k.source;
  target = record { is = target; only = λ o t. c.once o p t target (k.target.only (f o) (c.to o t)) };
  reached = (c.reached p target).1 k.reached;
}

pub transfer : {P Q : Type 0} (a : Parts P) (b : Parts Q) (f : P → Q) → Corresponds a b f → (given : Option Q) → AnswersCast b given → IsAnswer a f given
transfer a b f c _ (down q d) =
    let m = c.from q d.over.is.target in
    record {
      answer = Some m.0;
      rule = down m.0 (down_from a b f c m.0 m.1 (subst (λ r. IsDown b r) (sym m.2) d));
      is = ap (λ r. Some r) m.2;
    }
transfer a b f c _ (across q none k) =
    let m = c.from q k.target.is in
    record {
      answer = Some m.0;
      rule = across m.0 (λ p d. none (f p) (down_to a b f c p d)) (across_from a b f c m.0 m.1 (subst (λ r. IsAcross b r) (sym m.2) k));
      is = ap (λ r. Some r) m.2;
    }
transfer a b f c _ (nowhere none no_across) = record {
  answer = None;
  rule = nowhere (λ p d. none (f p) (down_to a b f c p d)) (λ p k. no_across (f p) (across_to a b f c p k));
  is = refl;
}
