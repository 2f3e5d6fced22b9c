-- A number names one leaf.
use Rattle.std.proofs.Common.{◌≡◌, ℕ, ◌+◌, ◌*◌, ◌<◌, ◌≤◌, ◌⊎◌, inl, inr, ⊎_elim, ap, subst, sym, ◌∙◌, arith}
use Rattle.cxx_hierarchy.specs.declared.records.ClassId.{ClassId}
use Rattle.cxx_hierarchy.specs.declared.records.Member.{Member}
use Rattle.cxx_hierarchy.specs.declared.records.FieldType.TheVariants.{Value, Object}
use Rattle.cxx_hierarchy.specs.Classes.{Classes, members_of}
use Rattle.cxx_subobject.specs.Parts.{elements_of}
use Rattle.path_plan.specs.declared.form.Form.TheVariants.{AsBase}
use Rattle.path_numbers.specs.Sizes.{Sizes, before, unit_size, member_size, IsSizes, member_offset}
use Rattle.path_numbers.specs.Nodes.{Node, Kid, Under, here, deeper, LeafAt}
use Rattle.path_numbers.proofs.Intervals.{size_of, bases_end, before_within, before_apart, own_least, Spotted, base_at, element_at, shared_at, spotted, order, under_lies, kids_apart, Apart}

-- n is among the numbers of x, and of none of its kids
pub record IsOwn (h : Classes) (size : Sizes) (x : Node) (n : ℕ) : Type 0 where
  pub low : x.number ≤ n
  pub high : n < x.number + size_of size x
  pub none : (r : Node) → Kid h size x r → (n < r.number) ⊎ (r.number + size_of size r ≤ n)

-- where a leaf lies
pub record LeafSpot (h : Classes) (size : Sizes) (x : Node) (m i n : ℕ) : Type 0 where
  pub number : n ≡ bases_end h size x + (before (member_size size) m (members_of h x.class) + i)
  pub apart : (k : ℕ) → m < k → n < bases_end h size x + before (member_size size) k (members_of h x.class)
  pub end : n < x.number + size AsBase x.class

leaf_size : (size : Sizes) (member : Member ClassId) (d : _) → member.ty ≡ Value d → member_size size member ≡ elements_of member.count * 1
leaf_size size member d e = ap (λ t. elements_of member.count * unit_size size t) e

pub leaf_spot : (h : Classes) (size : Sizes) → IsSizes h size → (x : Node) (m i n : ℕ) → LeafAt h size x m i n → LeafSpot h size x m i n
unfolding member_offset
leaf_spot h size is x m i n a =
    let s = leaf_size size a.member a.type a.leaf in let lt = a.within in let e = a.is in
    record {
      number = omega arith;
      apart = λ k less. let b = before_apart (member_size size) m k (members_of h x.class) a.member a.listed less in omega arith;
      end = let b = before_within (member_size size) m (members_of h x.class) a.member a.listed in let o = is.own x.class in omega arith;
    }

leaf_none : (h : Classes) (size : Sizes) → IsSizes h size → (x r : Node) (m i n : ℕ) → LeafAt h size x m i n → LeafSpot h size x m i n → Spotted h size x r → (n < r.number) ⊎ (r.number + size_of size r ≤ n)
leaf_none h size is x r m i n a s (base_at j b at same t) = inr (let u = t.end in let v = s.number in omega arith)
leaf_none h size is x r m i n a s (element_at m' j d member at ty same t) = ⊎_elim
    (λ lt. inr (let u = t.apart m lt in let v = s.number in omega arith))
    (λ k. ⊎_elim
    (λ e. absurd (let f : a.member ≡ member = cc (a.listed, at, e) in let g : Value a.type ≡ Object d = sym a.leaf ∙ (ap (λ (w : Member ClassId). w.ty) f ∙ ty) in cc))
    (λ gt. inl (let u = s.apart m' gt in let v = t.number in omega arith)) k)
    (order m' m)
leaf_none h size is x r m i n a s (shared_at j v at same t) = inl (let u = s.end in let w = t.number in omega arith)

pub leaf_own : (h : Classes) (size : Sizes) → IsSizes h size → (x : Node) (m i n : ℕ) → LeafAt h size x m i n → IsOwn h size x n
leaf_own h size is x m i n a =
    let s = leaf_spot h size is x m i n a in
    record {
      low = let u = s.number in omega arith;
      high = let u = s.end in let o = own_least h size is x.form x.class in omega arith;
      none = λ r kid. leaf_none h size is x r m i n a s (spotted h size is x r kid);
    }

-- a number is an own one of one part
pub one_owner : (h : Classes) (size : Sizes) → IsSizes h size → (n : ℕ) (y z x : Node) → Under h size y x → Under h size z x → IsOwn h size y n → IsOwn h size z n → y ≡ z
one_owner h size is n y z _ (here x e) (here x' e') a b = sym e ∙ e'
one_owner h size is n y z _ (here x e) (deeper x' r kid more) a b =
    absurd (let l = under_lies h size is z r more in let p = l.low in let q = l.high in let u = b.low in let v = b.high in
    ⊎_elim (λ t. omega arith) (λ t. omega arith) ((subst (λ (w : Node). IsOwn h size w n) (sym e) a).none r kid))
one_owner h size is n y z _ (deeper x r kid more) (here x' e') a b =
    absurd (let l = under_lies h size is y r more in let p = l.low in let q = l.high in let u = a.low in let v = a.high in
    ⊎_elim (λ t. omega arith) (λ t. omega arith) ((subst (λ (w : Node). IsOwn h size w n) (sym e') b).none r kid))
one_owner h size is n y z _ (deeper x r kid more) (deeper x' r' kid' more') a b = ⊎_elim
    (λ e. one_owner h size is n y z r more (subst (λ (t : Node). Under h size z t) (sym e) more') a b)
    (λ apart. absurd (off apart))
    (kids_apart h size is x r r' kid kid')
  where
    off : Apart size r r' → ⊥
    off apart =
        let l = under_lies h size is y r more in let k = under_lies h size is z r' more' in
        let p = l.low in let q = l.high in let s = k.low in let t = k.high in
        let u = a.low in let v = a.high in let c = b.low in let d = b.high in
        ⊎_elim (λ w. omega arith) (λ w. omega arith) apart

pub record SameLeaf (m m' i i' : ℕ) : Type 0 where
  pub member : m ≡ m'
  pub index : i ≡ i'

-- and of one leaf of the part
pub one_leaf : (h : Classes) (size : Sizes) → IsSizes h size → (x : Node) (m i m' i' n : ℕ) → LeafAt h size x m i n → LeafAt h size x m' i' n → SameLeaf m m' i i'
one_leaf h size is x m i m' i' n a b =
    let s = leaf_spot h size is x m i n a in let t = leaf_spot h size is x m' i' n b in
    let u = s.number in let v = t.number in
    ⊎_elim
    (λ lt. absurd (let p = s.apart m' lt in omega arith))
    (λ k. ⊎_elim
    (λ e. record { member = e; index = let f : before (member_size size) m (members_of h x.class) ≡ before (member_size size) m' (members_of h x.class) = ap (λ w. before (member_size size) w (members_of h x.class)) e in omega arith })
    (λ gt. absurd (let p = t.apart m gt in omega arith)) k)
    (order m m')
