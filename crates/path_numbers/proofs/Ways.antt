-- A way leads from a numbered part to a numbered part, at its distance; and each part has the whole that owns it.
use Rattle.std.proofs.Common.{◌≡◌, ℕ, ◌+◌, ◌*◌, inl, Some, List, [], ◌∷◌, ◌++◌, refl, ap, subst, sym, ◌∙◌, append_assoc, append-nil, arith}
use Rattle.std.specs.Prelude.{slice_get, if◌then◌else◌}
use Rattle.cxx_hierarchy.specs.declared.records.ClassId.{ClassId}
use Rattle.cxx_hierarchy.specs.Classes.{Classes, members_of}
use Rattle.cxx_subobject.specs.declared.Subobject.{Subobject}
use Rattle.cxx_subobject.specs.Subobjects.{subobject, base_subobject}
use Rattle.cxx_subobject.proofs.TreeLemmas.{base_down}
use Rattle.path_plan.specs.Places.{ObjectPart, part, element, base_part, shared_part}
use Rattle.path_plan.specs.declared.form.Form.{Form}
use Rattle.path_plan.specs.declared.form.Form.TheVariants.{InFull, AsBase}
use Rattle.path_plan.specs.Plans.{virtual_order, unmet, walk, is_among}
use Rattle.cxx_subobject.proofs.ListLemmas.{EachOnce, split}
use Rattle.path_plan.proofs.Order.{has_unmet}
use Rattle.path_numbers.specs.Sizes.{Sizes, base_offset, member_offset, shared_offset}
use Rattle.path_numbers.specs.Nodes.{Node, node, Kid, base_kid, element_kid, shared_kid, Under, here, deeper}
use Rattle.path_numbers.specs.Hops.{Hop, arrive, IsNumberedPath, IsConstantWay, stop, inherit, share, enter}
use Rattle.path_numbers.proofs.Naming.{OrdersOnce}

unmet_once : (met list : List ClassId) → EachOnce (unmet met list)
unmet_once met [] = tt
unmet_once met (v ∷ list) = split (is_among met v) (λ t. EachOnce (if t then unmet met list else v ∷ unmet (v ∷ met) list)) (λ e. unmet_once met list)
    (λ e. (λ has. (has_unmet (v ∷ met) list v has).0 (inl refl), unmet_once (v ∷ met) list))

pub orders_once : (h : Classes) → OrdersOnce h
orders_once h = record { once = λ c. unmet_once [] (walk h (c.0 + 1) c) }

pub under_through : (h : Classes) (size : Sizes) (z y x : Node) → Under h size y x → Under h size z y → Under h size z x
under_through h size z y _ (here x e) b = subst (λ (t : Node). Under h size z t) (sym e) b
under_through h size z y _ (deeper x r kid more) b = deeper x r kid (under_through h size z y r more b)

pub one_kid : (h : Classes) (size : Sizes) (z y x : Node) → Under h size y x → Kid h size y z → Under h size z x
one_kid h size z y x a kid = under_through h size z y x a (deeper y z kid (here z refl))

-- where a path leads from a numbered part
pub record Arrives (h : Classes) (size : Sizes) (x : Node) (q : ObjectPart) (n : ℕ) (e : ClassId) : Type 0 where
  pub end : Node
  pub under : Under h size end x
  pub is_part : end.part ≡ q
  pub is_number : end.number ≡ x.number + n
  pub is_class : end.class ≡ e

pub path_arrives : (h : Classes) (size : Sizes) (x : Node) (path : List ClassId) (n : ℕ) (e : ClassId) → IsNumberedPath h size x.class path n e → Arrives h size x (part x.part.object x.part.owner (subobject x.part.at.root (x.part.at.path ++ path))) n e
path_arrives h size x [] n e (z, c) = record { end = x; under = here x refl; is_part = ap (λ p. part x.part.object x.part.owner (subobject x.part.at.root p)) (sym (append-nil x.part.at.path)); is_number = omega arith; is_class = c }
path_arrives h size x (b ∷ path) n e (i, base, r, at, way, class, is, more) =
    let y = node AsBase base.class (base_part x.part base) (x.number + base_offset h size x.class i) in
    let a = path_arrives h size y path r e (subst (λ (t : ClassId). IsNumberedPath h size t path r e) (sym class) more) in
    let f : base_subobject x.part.at base ≡ subobject x.part.at.root (x.part.at.path ++ b ∷ []) = base_down x.part.at base way ∙ ap (λ (t : ClassId). subobject x.part.at.root (x.part.at.path ++ t ∷ [])) class in
    record {
      end = a.end;
      under = deeper x y (base_kid i base at way refl) a.under;
      is_part = a.is_part ∙ (ap (λ (s : Subobject). part x.part.object x.part.owner (subobject s.root (s.path ++ path))) f ∙ ap (λ p. part x.part.object x.part.owner (subobject x.part.at.root p)) (append_assoc x.part.at.path (b ∷ []) path));
      is_number = let g = a.is_number in omega arith;
      is_class = a.is_class;
    }

-- a way leads on from where it began
pub way_arrives : (h : Classes) (size : Sizes) (f : Form) (c : ClassId) (hops : List Hop) (n : ℕ) (g : ClassId) → IsConstantWay h size f c hops n g → (x : Node) → x.class ≡ c → (f ≡ InFull → x.form ≡ InFull) → Arrives h size x (arrive x.part hops) n g
way_arrives h size _ _ _ _ _ (stop f c) x class full = record { end = x; under = here x refl; is_part = refl; is_number = omega arith; is_class = class }
way_arrives h size _ _ _ _ _ (inherit f c e g path hops n r is more) x class full =
    let a = path_arrives h size x path n e (subst (λ (t : ClassId). IsNumberedPath h size t path n e) (sym class) is) in
    let b = way_arrives h size AsBase e hops r g more a.end a.is_class (λ (u : AsBase ≡ InFull). absurd (cc)) in
    record {
      end = b.end;
      under = under_through h size b.end a.end x a.under b.under;
      is_part = b.is_part ∙ ap (λ (p : ObjectPart). arrive p hops) a.is_part;
      is_number = let u = a.is_number in let v = b.is_number in omega arith;
      is_class = b.is_class;
    }
way_arrives h size _ _ _ _ _ (share c v e g path hops j n r at is more) x class full =
    let y = node AsBase v (shared_part x.part v) (x.number + shared_offset h size x.class j) in
    let under_y : Under h size y x = deeper x y (shared_kid j v (full refl) (subst (λ (t : ClassId). slice_get (virtual_order h t) j ≡ Some v) (sym class) at) refl) (here y refl) in
    let a = path_arrives h size y path n e is in
    let b = way_arrives h size AsBase e hops r g more a.end a.is_class (λ (u : AsBase ≡ InFull). absurd (cc)) in
    record {
      end = b.end;
      under = under_through h size b.end y x under_y (under_through h size b.end a.end y a.under b.under);
      is_part = b.is_part ∙ ap (λ (p : ObjectPart). arrive p hops) a.is_part;
      is_number = let u = a.is_number in let w = b.is_number in let k : shared_offset h size x.class j ≡ shared_offset h size c j = ap (λ (t : ClassId). shared_offset h size t j) class in omega arith;
      is_class = b.is_class;
    }
way_arrives h size _ _ _ _ _ (enter f c d g m i member hops r at ty lt more) x class full =
    let y = node InFull d (element x.part m i d) (x.number + (member_offset h size x.class m + i * size InFull d)) in
    let under_y : Under h size y x = deeper x y (element_kid m i d member (subst (λ (t : ClassId). slice_get (members_of h t) m ≡ Some member) (sym class) at) ty lt refl) (here y refl) in
    let b = way_arrives h size InFull d hops r g more y refl (λ u. refl) in
    record {
      end = b.end;
      under = under_through h size b.end y x under_y b.under;
      is_part = b.is_part;
      is_number = let w = b.is_number in let k : member_offset h size x.class m ≡ member_offset h size c m = ap (λ (t : ClassId). member_offset h size t m) class in omega arith;
      is_class = b.is_class;
    }

-- all parts are of one object
pub same_object : (h : Classes) (size : Sizes) (y x : Node) → Under h size y x → y.part.object ≡ x.part.object
same_object h size y _ (here x e) = ap (λ (t : Node). t.part.object) (sym e)
same_object h size y _ (deeper x r kid more) = same_object h size y r more ∙ one kid
  where
    one : Kid h size x r → r.part.object ≡ x.part.object
    one (base_kid i b at e same) = ap (λ (t : Node). t.part.object) same
    one (element_kid m i d member at ty lt same) = ap (λ (t : Node). t.part.object) same
    one (shared_kid j v full at same) = ap (λ (t : Node). t.part.object) same
