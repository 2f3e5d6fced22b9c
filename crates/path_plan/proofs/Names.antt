-- A name for each part: what lies in a part has a name that begins with the part's, and siblings' names differ.
use Rattle.std.proofs.Common.{◌≡◌, ℕ, false, List, [], ◌∷◌, ◌++◌, map, refl, ap, sym, ◌∙◌, append_assoc, append-nil}
use Rattle.std.proofs.lemmas.List.{map-append}
use Rattle.cxx_hierarchy.specs.declared.records.ClassId.{ClassId}
use Rattle.cxx_hierarchy.specs.declared.records.Base.{Base}
use Rattle.cxx_subobject.specs.declared.Root.{Root}
use Rattle.cxx_subobject.specs.declared.Subobject.{Subobject}
use Rattle.cxx_subobject.proofs.TreeLemmas.{base_down}
use Rattle.path_plan.specs.Places.{Step, ObjectPart, base_part}
use Rattle.path_plan.specs.Phases.{Phases, Raw}
use Rattle.path_plan.specs.declared.form.Form.{Form}
use Rattle.path_plan.specs.declared.form.Form.TheVariants.{InFull, AsBase}

pub data Token : Type 0 where
  Of : ℕ → Token
  At : Root → Token
  Next : ClassId → Token
  Member : ℕ → Token
  Index : ℕ → Token

abbrev pub sub_name : Subobject → List Token
sub_name s = At s.root ∷ map (λ c. Next c) s.path

abbrev pub owner_name : ℕ → List Step → List Token
owner_name k [] = Of k ∷ []
owner_name k (step ∷ o) = ((owner_name k o ++ sub_name step.base) ++ Member step.member ∷ []) ++ Index step.index ∷ []

abbrev pub name : ObjectPart → List Token
name p = owner_name p.object p.owner ++ sub_name p.at

-- what a plan of this form touches has a name that begins so
abbrev pub region : Form → ObjectPart → List Token
region InFull p = owner_name p.object p.owner
region AsBase p = name p

pub record Begins (t n : List Token) : Type 0 where
  pub rest : List Token
  pub is : n ≡ t ++ rest

pub begins_itself : (t : List Token) → Begins t t
begins_itself t = record { rest = []; is = sym (append-nil t) }

pub begins_more : (t u : List Token) → Begins t (t ++ u)
begins_more t u = record { rest = u; is = refl }

pub begins_through : (t u n : List Token) → Begins t u → Begins u n → Begins t n
begins_through t u n a b = record { rest = a.rest ++ b.rest; is = b.is ∙ (ap (λ x. x ++ b.rest) a.is ∙ append_assoc t a.rest b.rest) }

pub begins_child : (t : List Token) (x : Token) (n : List Token) → Begins (t ++ x ∷ []) n → Begins t n
begins_child t x n b = begins_through t (t ++ x ∷ []) n (begins_more t (x ∷ [])) b

cancel : (t u w : List Token) → t ++ u ≡ t ++ w → u ≡ w
cancel [] u w e = e
cancel (x ∷ t) u w e = cancel t u w (let f : t ++ u ≡ t ++ w = cc in f)

-- of two siblings' names the first differing token tells them apart
pub apart : (t : List Token) (x y : Token) (n : List Token) → Begins (t ++ x ∷ []) n → Begins (t ++ y ∷ []) n → x ≡ y
apart t x y n a b =
    let e : x ∷ a.rest ≡ y ∷ b.rest = cancel t (x ∷ a.rest) (y ∷ b.rest) (sym (append_assoc t (x ∷ []) a.rest) ∙ (sym a.is ∙ (b.is ∙ append_assoc t (y ∷ []) b.rest))) in
    cc

-- a name does not begin with a child's
pub not_child : (t : List Token) (x : Token) → Begins (t ++ x ∷ []) t → ⊥
not_child t x b =
    let e : [] ≡ x ∷ b.rest = cancel t [] (x ∷ b.rest) (append-nil t ∙ (b.is ∙ append_assoc t (x ∷ []) b.rest)) in
    cc

pub name_base : (p : ObjectPart) (b : Base ClassId) → b.is_virtual ≡ false → name (base_part p b) ≡ name p ++ Next b.class ∷ []
name_base p b e =
    rw (base_down p.at b e)
    (ap (λ x. owner_name p.object p.owner ++ At p.at.root ∷ x) (map-append (λ c. Next c) p.at.path (b.class ∷ []))
    ∙ sym (append_assoc (owner_name p.object p.owner) (sub_name p.at) (Next b.class ∷ [])))

pub region_name : (form : Form) (p : ObjectPart) → Begins (region form p) (name p)
region_name InFull p = begins_more (owner_name p.object p.owner) (sub_name p.at)
region_name AsBase p = begins_itself (name p)

-- each part with such a name is raw
abbrev pub IsRaw : List Token → Phases → Type 0
IsRaw t s = (q : ObjectPart) → Begins t (name q) → s.phase q ≡ Raw

pub raw_below : (t u : List Token) (s : Phases) → Begins t u → IsRaw t s → IsRaw u s
raw_below t u s b raw q c = raw q (begins_through t u (name q) b c)
