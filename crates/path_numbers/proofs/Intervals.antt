-- The numbers of a part are an interval; those of its bases, members and shared bases lie in it, apart from each other.
use Rattle.std.proofs.Common.{◌≡◌, ℕ, zero, suc, ◌+◌, ◌*◌, ◌<◌, ◌≤◌, ◌⊎◌, inl, inr, ⊎_elim, false, Some, List, [], ◌∷◌, refl, ap, subst, sym, ◌∙◌, arith}
use Rattle.std.specs.Prelude.{slice_get}
use Rattle.cxx_hierarchy.specs.declared.records.ClassId.{ClassId}
use Rattle.cxx_hierarchy.specs.declared.records.Base.{Base}
use Rattle.cxx_hierarchy.specs.declared.records.Member.{Member}
use Rattle.cxx_hierarchy.specs.declared.records.FieldType.TheVariants.{Object}
use Rattle.cxx_hierarchy.specs.Classes.{Classes, bases_of, members_of}
use Rattle.cxx_subobject.specs.Parts.{elements_of}
use Rattle.path_plan.specs.Places.{base_part, shared_part, element}
use Rattle.path_plan.specs.declared.form.Form.{Form}
use Rattle.path_plan.specs.declared.form.Form.TheVariants.{InFull, AsBase}
use Rattle.path_plan.specs.Plans.{virtual_order}
use Rattle.path_numbers.specs.Sizes.{Sizes, total, before, base_size, unit_size, member_size, IsSizes, base_offset, member_offset, shared_offset}
use Rattle.path_numbers.specs.Nodes.{Node, node, Kid, base_kid, element_kid, shared_kid, Under, here, deeper}

pub before_within : {X : Type 0} (f : X → ℕ) (i : ℕ) (xs : List X) (x : X) → slice_get xs i ≡ Some x → before f i xs + f x ≤ total f xs
before_within f zero [] x e = absurd (cc)
before_within f (suc i) [] x e = absurd (cc)
before_within f zero (y ∷ xs) x e = let s : y ≡ x = cc in let t : f y ≡ f x = ap f s in omega arith
before_within f (suc i) (y ∷ xs) x e = let r = before_within f i xs x e in omega arith

pub before_apart : {X : Type 0} (f : X → ℕ) (i j : ℕ) (xs : List X) (x : X) → slice_get xs i ≡ Some x → i < j → before f i xs + f x ≤ before f j xs
before_apart f i zero xs x e lt = absurd (omega arith)
before_apart f i (suc j) [] x e lt = absurd (cc)
before_apart f zero (suc j) (y ∷ xs) x e lt = let s : y ≡ x = cc in let t : f y ≡ f x = ap f s in omega arith
before_apart f (suc i) (suc j) (y ∷ xs) x e lt = let r = before_apart f i j xs x e (omega arith) in omega arith

pub times_apart : (i j s : ℕ) → i < j → i * s + s ≤ j * s
times_apart i j s lt = grind arith

pub base_size_is : (size : Sizes) (b : Base ClassId) → b.is_virtual ≡ false → base_size size b ≡ size AsBase b.class
base_size_is size b e = rw e refl

pub member_size_is : (size : Sizes) (m : Member ClassId) (d : ClassId) → m.ty ≡ Object d → member_size size m ≡ elements_of m.count * size InFull d
member_size_is size m d e = ap (λ t. elements_of m.count * unit_size size t) e

abbrev pub size_of : Sizes → Node → ℕ
size_of size x = size x.form x.class

pub own_least : (h : Classes) (size : Sizes) → IsSizes h size → (form : Form) (c : ClassId) → size AsBase c ≤ size form c
own_least h size is AsBase c = omega arith
own_least h size is InFull c = let e = is.full c in omega arith

abbrev pub bases_end : Classes → Sizes → Node → ℕ
bases_end h size x = x.number + (1 + total (base_size size) (bases_of h x.class))

-- where a base, an element and a shared base lie
pub record BaseSpot (h : Classes) (size : Sizes) (x y : Node) (i : ℕ) : Type 0 where
  pub number : y.number ≡ x.number + (1 + before (base_size size) i (bases_of h x.class))
  pub apart : (j : ℕ) → i < j → y.number + size_of size y ≤ x.number + (1 + before (base_size size) j (bases_of h x.class))
  pub end : y.number + size_of size y ≤ bases_end h size x

base_spot : (h : Classes) (size : Sizes) (x : Node) (i : ℕ) (b : Base ClassId) → slice_get (bases_of h x.class) i ≡ Some b → b.is_virtual ≡ false
    → BaseSpot h size x (node AsBase b.class (base_part x.part b) (x.number + base_offset h size x.class i)) i
unfolding base_offset
base_spot h size x i b at e = record {
  number = refl;
  apart = λ j lt. let k = before_apart (base_size size) i j (bases_of h x.class) b at lt in let s = base_size_is size b e in omega arith;
  end = let k = before_within (base_size size) i (bases_of h x.class) b at in let s = base_size_is size b e in omega arith;
}

pub record ElementSpot (h : Classes) (size : Sizes) (x y : Node) (m i : ℕ) (d : ClassId) : Type 0 where
  pub number : y.number ≡ bases_end h size x + (before (member_size size) m (members_of h x.class) + i * size InFull d)
  pub units : size_of size y ≡ size InFull d
  pub apart : (n : ℕ) → m < n → y.number + size_of size y ≤ bases_end h size x + before (member_size size) n (members_of h x.class)
  pub end : y.number + size_of size y ≤ x.number + size AsBase x.class

element_spot : (h : Classes) (size : Sizes) → IsSizes h size → (x : Node) (m i : ℕ) (d : ClassId) (member : Member ClassId) → slice_get (members_of h x.class) m ≡ Some member → member.ty ≡ Object d → i < elements_of member.count
    → ElementSpot h size x (node InFull d (element x.part m i d) (x.number + (member_offset h size x.class m + i * size InFull d))) m i d
unfolding member_offset
element_spot h size is x m i d member at ty lt =
    let s = member_size_is size member d ty in
    let t = times_apart i (elements_of member.count) (size InFull d) lt in
    record {
      number = omega arith;
      units = refl;
      apart = λ n less. let k = before_apart (member_size size) m n (members_of h x.class) member at less in omega arith;
      end = let k = before_within (member_size size) m (members_of h x.class) member at in let o = is.own x.class in omega arith;
    }

pub record SharedSpot (h : Classes) (size : Sizes) (x y : Node) (j : ℕ) : Type 0 where
  pub number : y.number ≡ x.number + (size AsBase x.class + before (size AsBase) j (virtual_order h x.class))
  pub apart : (n : ℕ) → j < n → y.number + size_of size y ≤ x.number + (size AsBase x.class + before (size AsBase) n (virtual_order h x.class))
  pub end : y.number + size_of size y ≤ x.number + size InFull x.class

shared_spot : (h : Classes) (size : Sizes) → IsSizes h size → (x : Node) (j : ℕ) (v : ClassId) → slice_get (virtual_order h x.class) j ≡ Some v
    → SharedSpot h size x (node AsBase v (shared_part x.part v) (x.number + shared_offset h size x.class j)) j
unfolding shared_offset
shared_spot h size is x j v at = record {
  number = refl;
  apart = λ n lt. let k = before_apart (size AsBase) j n (virtual_order h x.class) v at lt in omega arith;
  end = let k = before_within (size AsBase) j (virtual_order h x.class) v at in let f = is.full x.class in omega arith;
}

-- y's numbers lie among x's, behind x's own
pub record LiesIn (size : Sizes) (x y : Node) : Type 0 where
  pub low : x.number + 1 ≤ y.number
  pub high : y.number + size_of size y ≤ x.number + size_of size x

pub kid_lies : (h : Classes) (size : Sizes) → IsSizes h size → (x y : Node) → Kid h size x y → LiesIn size x y
kid_lies h size is x y (base_kid i b at e same) = subst (λ (z : Node). LiesIn size x z) (sym same)
    (let s = base_spot h size x i b at e in let l = own_least h size is x.form x.class in let o = is.own x.class in record { low = let n = s.number in omega arith; high = let n = s.end in omega arith })
kid_lies h size is x y (element_kid m i d member at ty lt same) = subst (λ (z : Node). LiesIn size x z) (sym same)
    (let s = element_spot h size is x m i d member at ty lt in let l = own_least h size is x.form x.class in let o = is.own x.class in record { low = let n = s.number in omega arith; high = let n = s.end in omega arith })
kid_lies h size is x y (shared_kid j v full at same) = subst (λ (z : Node). LiesIn size x z) (sym same)
    (let s = shared_spot h size is x j v at in let f : size_of size x ≡ size InFull x.class = ap (λ t. size t x.class) full in let o = is.own x.class in record { low = let n = s.number in omega arith; high = let n = s.end in omega arith })

pub record LiesWithin (size : Sizes) (x y : Node) : Type 0 where
  pub low : x.number ≤ y.number
  pub high : y.number + size_of size y ≤ x.number + size_of size x

pub under_lies : (h : Classes) (size : Sizes) → IsSizes h size → (y x : Node) → Under h size y x → LiesWithin size x y
under_lies h size is y _ (here x e) = subst (λ (z : Node). LiesWithin size x z) e (record { low = omega arith; high = omega arith })
under_lies h size is y _ (deeper x r kid more) =
    let a = kid_lies h size is x r kid in let b = under_lies h size is y r more in
    record { low = let p = a.low in let q = b.low in omega arith; high = let p = a.high in let q = b.high in omega arith }

-- each part takes at least one number
pub size_some : (h : Classes) (size : Sizes) → IsSizes h size → (form : Form) (c : ClassId) → 1 ≤ size form c
size_some h size is form c = let o = is.own c in let l = own_least h size is form c in omega arith

abbrev pub Apart : Sizes → Node → Node → Type 0
Apart size y z = (y.number + size_of size y ≤ z.number) ⊎ (z.number + size_of size z ≤ y.number)

abbrev pub Either : Sizes → Node → Node → Type 0
Either size y z = (y ≡ z) ⊎ Apart size y z

pub order : (i j : ℕ) → (i < j) ⊎ ((i ≡ j) ⊎ (j < i))
order i j = grind arith

-- where a kid lies, by its kind
pub data Spotted (h : Classes) (size : Sizes) (x y : Node) : Type 0 where
  base_at : (i : ℕ) (b : Base ClassId) → slice_get (bases_of h x.class) i ≡ Some b → y ≡ node AsBase b.class (base_part x.part b) (x.number + base_offset h size x.class i) → BaseSpot h size x y i → Spotted h size x y
  element_at : (m i : ℕ) (d : ClassId) (member : Member ClassId) → slice_get (members_of h x.class) m ≡ Some member → member.ty ≡ Object d
      → y ≡ node InFull d (element x.part m i d) (x.number + (member_offset h size x.class m + i * size InFull d)) → ElementSpot h size x y m i d → Spotted h size x y
  shared_at : (j : ℕ) (v : ClassId) → slice_get (virtual_order h x.class) j ≡ Some v → y ≡ node AsBase v (shared_part x.part v) (x.number + shared_offset h size x.class j) → SharedSpot h size x y j → Spotted h size x y

pub spotted : (h : Classes) (size : Sizes) → IsSizes h size → (x y : Node) → Kid h size x y → Spotted h size x y
spotted h size is x y (base_kid i b at e same) = base_at i b at same (subst (λ (z : Node). BaseSpot h size x z i) (sym same) (base_spot h size x i b at e))
spotted h size is x y (element_kid m i d member at ty lt same) = element_at m i d member at ty same (subst (λ (z : Node). ElementSpot h size x z m i d) (sym same) (element_spot h size is x m i d member at ty lt))
spotted h size is x y (shared_kid j v full at same) = shared_at j v at same (subst (λ (z : Node). SharedSpot h size x z j) (sym same) (shared_spot h size is x j v at))

base_base : (h : Classes) (size : Sizes) (x y z : Node) (i : ℕ) (b : Base ClassId) (i' : ℕ) (b' : Base ClassId) → slice_get (bases_of h x.class) i ≡ Some b → slice_get (bases_of h x.class) i' ≡ Some b'
    → y ≡ node AsBase b.class (base_part x.part b) (x.number + base_offset h size x.class i) → z ≡ node AsBase b'.class (base_part x.part b') (x.number + base_offset h size x.class i')
    → BaseSpot h size x y i → BaseSpot h size x z i' → Either size y z
base_base h size x y z i b i' b' at at' same same' s s' = ⊎_elim
    (λ lt. inr (inl (let a = s.apart i' lt in let n = s'.number in omega arith)))
    (λ r. ⊎_elim
    (λ e. inl (let f : b ≡ b' = cc in same ∙ (ap (λ (t : Base ClassId). node AsBase t.class (base_part x.part t) (x.number + base_offset h size x.class i)) f ∙ (ap (λ t. node AsBase b'.class (base_part x.part b') (x.number + base_offset h size x.class t)) e ∙ sym same'))))
    (λ gt. inr (inr (let a = s'.apart i gt in let n = s.number in omega arith))) r)
    (order i i')

shared_shared : (h : Classes) (size : Sizes) (x y z : Node) (i : ℕ) (b : ClassId) (i' : ℕ) (b' : ClassId) → slice_get (virtual_order h x.class) i ≡ Some b → slice_get (virtual_order h x.class) i' ≡ Some b'
    → y ≡ node AsBase b (shared_part x.part b) (x.number + shared_offset h size x.class i) → z ≡ node AsBase b' (shared_part x.part b') (x.number + shared_offset h size x.class i')
    → SharedSpot h size x y i → SharedSpot h size x z i' → Either size y z
shared_shared h size x y z i b i' b' at at' same same' s s' = ⊎_elim
    (λ lt. inr (inl (let a = s.apart i' lt in let n = s'.number in omega arith)))
    (λ r. ⊎_elim
    (λ e. inl (let f : b ≡ b' = cc in same ∙ (ap (λ (t : ClassId). node AsBase t (shared_part x.part t) (x.number + shared_offset h size x.class i)) f ∙ (ap (λ t. node AsBase b' (shared_part x.part b') (x.number + shared_offset h size x.class t)) e ∙ sym same'))))
    (λ gt. inr (inr (let a = s'.apart i gt in let n = s.number in omega arith))) r)
    (order i i')

-- the elements of one member
same_member : (h : Classes) (size : Sizes) (x y z : Node) (m i i' : ℕ) (d d' : ClassId) → d ≡ d'
    → y ≡ node InFull d (element x.part m i d) (x.number + (member_offset h size x.class m + i * size InFull d)) → z ≡ node InFull d' (element x.part m i' d') (x.number + (member_offset h size x.class m + i' * size InFull d'))
    → ElementSpot h size x y m i d → ElementSpot h size x z m i' d' → Either size y z
same_member h size x y z m i i' d d' f same same' s s' = ⊎_elim
    (λ lt. inr (inl (let a = times_apart i i' (size InFull d) lt in let n = s.number in let n' = s'.number in let u = s.units in let v : i' * size InFull d ≡ i' * size InFull d' = ap (λ (t : ClassId). i' * size InFull t) f in omega arith)))
    (λ r. ⊎_elim
    (λ e. inl (same ∙ (ap (λ t. node InFull d (element x.part m t d) (x.number + (member_offset h size x.class m + t * size InFull d))) e
    ∙ (ap (λ (t : ClassId). node InFull t (element x.part m i' t) (x.number + (member_offset h size x.class m + i' * size InFull t))) f ∙ sym same'))))
    (λ gt. inr (inr (let a = times_apart i' i (size InFull d) gt in let n = s.number in let n' = s'.number in let u = s'.units in let w : size InFull d ≡ size InFull d' = ap (λ (t : ClassId). size InFull t) f in let v : i' * size InFull d ≡ i' * size InFull d' = ap (λ (t : ClassId). i' * size InFull t) f in omega arith))) r)
    (order i i')

element_element : (h : Classes) (size : Sizes) (x y z : Node) (m i : ℕ) (d : ClassId) (member : Member ClassId) (m' i' : ℕ) (d' : ClassId) (member' : Member ClassId)
    → slice_get (members_of h x.class) m ≡ Some member → slice_get (members_of h x.class) m' ≡ Some member' → member.ty ≡ Object d → member'.ty ≡ Object d'
    → y ≡ node InFull d (element x.part m i d) (x.number + (member_offset h size x.class m + i * size InFull d)) → z ≡ node InFull d' (element x.part m' i' d') (x.number + (member_offset h size x.class m' + i' * size InFull d'))
    → ElementSpot h size x y m i d → ElementSpot h size x z m' i' d' → Either size y z
element_element h size x y z m i d member m' i' d' member' at at' ty ty' same same' s s' = ⊎_elim
    (λ lt. inr (inl (let a = s.apart m' lt in let n = s'.number in omega arith)))
    (λ r. ⊎_elim
    (λ e. one e)
    (λ gt. inr (inr (let a = s'.apart m gt in let n = s.number in omega arith))) r)
    (order m m')
  where
    one : m ≡ m' → Either size y z
    one e =
        let f : member ≡ member' = cc in
        let g : Object d ≡ Object d' = sym ty ∙ (ap (λ (t : Member ClassId). t.ty) f ∙ ty') in
        same_member h size x y z m i i' d d' (cc)
        same (same' ∙ ap (λ t. node InFull d' (element x.part t i' d') (x.number + (member_offset h size x.class t + i' * size InFull d'))) (sym e))
        s (subst (λ t. ElementSpot h size x z t i' d') (sym e) s')

by_spot : (h : Classes) (size : Sizes) → IsSizes h size → (x y z : Node) → Spotted h size x y → Spotted h size x z → Either size y z
by_spot h size is x y z (base_at i b at same s) (base_at i' b' at' same' s') = base_base h size x y z i b i' b' at at' same same' s s'
by_spot h size is x y z (base_at i b at same s) (element_at m i' d member at' ty same' s') = inr (inl (let a = s.end in let n = s'.number in omega arith))
by_spot h size is x y z (base_at i b at same s) (shared_at j v at' same' s') = inr (inl (let a = s.end in let n = s'.number in let o = is.own x.class in omega arith))
by_spot h size is x y z (element_at m i d member at ty same s) (base_at i' b' at' same' s') = inr (inr (let a = s'.end in let n = s.number in omega arith))
by_spot h size is x y z (element_at m i d member at ty same s) (element_at m' i' d' member' at' ty' same' s') = element_element h size x y z m i d member m' i' d' member' at at' ty ty' same same' s s'
by_spot h size is x y z (element_at m i d member at ty same s) (shared_at j v at' same' s') = inr (inl (let a = s.end in let n = s'.number in omega arith))
by_spot h size is x y z (shared_at j v at same s) (base_at i' b' at' same' s') = inr (inr (let a = s'.end in let n = s.number in let o = is.own x.class in omega arith))
by_spot h size is x y z (shared_at j v at same s) (element_at m' i' d' member' at' ty' same' s') = inr (inr (let a = s'.end in let n = s.number in omega arith))
by_spot h size is x y z (shared_at j v at same s) (shared_at j' v' at' same' s') = shared_shared h size x y z j v j' v' at at' same same' s s'

-- two kids of one part are one, or their numbers lie apart
pub kids_apart : (h : Classes) (size : Sizes) → IsSizes h size → (x y z : Node) → Kid h size x y → Kid h size x z → Either size y z
kids_apart h size is x y z a b = by_spot h size is x y z (spotted h size is x y a) (spotted h size is x z b)

-- a number names one part
pub one_part : (h : Classes) (size : Sizes) → IsSizes h size → (y z x : Node) → Under h size y x → Under h size z x → y.number ≡ z.number → y ≡ z
one_part h size is y z _ (here x e) (here x' e') n = sym e ∙ e'
one_part h size is y z _ (here x e) (deeper x' r kid more) n =
    let a = kid_lies h size is x r kid in let b = under_lies h size is z r more in let f : x.number ≡ y.number = ap (λ (t : Node). t.number) e in absurd (let p = a.low in let q = b.low in omega arith)
one_part h size is y z _ (deeper x r kid more) (here x' e') n =
    let a = kid_lies h size is x r kid in let b = under_lies h size is y r more in let f : x.number ≡ z.number = ap (λ (t : Node). t.number) e' in absurd (let p = a.low in let q = b.low in omega arith)
one_part h size is y z _ (deeper x r kid more) (deeper x' r' kid' more') n = ⊎_elim
    (λ e. one_part h size is y z r more (subst (λ (t : Node). Under h size z t) (sym e) more') n)
    (λ apart. absurd (off apart))
    (kids_apart h size is x r r' kid kid')
  where
    off : Apart size r r' → ⊥
    off apart =
        let a = under_lies h size is y r more in let b = under_lies h size is z r' more' in
        let p = size_some h size is y.form y.class in let q = size_some h size is z.form z.class in
        let u = a.low in let v = a.high in let s = b.low in let t = b.high in
        ⊎_elim (λ l. omega arith) (λ l. omega arith) apart
