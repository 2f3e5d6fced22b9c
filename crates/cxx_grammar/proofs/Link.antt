-- The table says exactly what may follow.
use Rattle.std.proofs.Common.{◌≡◌, Bool, true, false, cond, inl, inr, List, [], ◌∷◌, ◌++◌, map, Option, Some, None, refl, sym, ap, subst, ◌∙◌, append_assoc}
use Rattle.cxx_grammar.specs.declared.sort.Sort.{Sort}
use Rattle.cxx_grammar.specs.declared.sort.Sort.TheVariants.{Struct, Public, Virtual, Int, Unsigned, Print, Name, OwnName, Number, Zero, OpenBrace, CloseBrace, OpenParen, CloseParen, OpenBracket, CloseBracket, Semicolon, Star, Assign, Arrow, Dot, End, Bad}
use Rattle.cxx_grammar.specs.Sorts.{is_same}
use Rattle.cxx_grammar.specs.Grammar.{AnyName, AnyNumber, Source, Item, MoreBases, Base, MaybeAccess, Parts, ClassPart, Length, Params, MoreParams, Param, Inits, MoreInits, Init, MaybeLong, Block, Statements, Statement, MaybeRight, ElsePart, MaybeOperand, Right, Operand, Constant, Pointer, Place, Arguments, MoreArguments, Symbol, tok, part, In, Derives}
use Rattle.cxx_grammar.specs.Table.{Use, Written, Read, Task, Only, AName, ANumber, AConstant, AnOperand, APointer, UnsignedName, LongName, AParam, RightEnd, ReadPlaceEnd, AfterOperand, AfterPointer, Member, Named, Tail, ArgumentsEnd, MoreArgumentsEnd, InitEnd, ResultEnd, AfterName, PrintEnd, ABlock, StatementsEnd, ElseEnd, BaseAfterVirtual, BaseAfterAccess, ABase, BasesEnd, ClassTail, FieldEnd, ParamsEnd, MoreParamsEnd, AfterDeclared, AfterScalar, AfterType, AfterOwnName, AnInit, ConstructorEnd, InitsEnd, AfterVirtual, VirtualEnd, PartsEnd, AfterInt, ItemsEnd, after}
use Rattle.cxx_grammar.proofs.Engine.{step, gather, gather_each, gather_some, step_complete, step_sound, no_step, In-left, In-right, In-split}

-- what is left of forms after a token
abbrev pub lefts : Sort → List (List Symbol) → List (List Symbol)
lefts t fs = unwrap (gather (step 12 t) fs) where
  unwrap : Option (List (List Symbol)) → List (List Symbol)
  unwrap None = []
  unwrap (Some xs) = xs

abbrev pub item_form : List (List Symbol)
item_form = (part Item ∷ []) ∷ []

abbrev pub base_form : List (List Symbol)
base_form = (part Base ∷ []) ∷ []

abbrev pub part_form : List (List Symbol)
part_form = (part ClassPart ∷ []) ∷ []

abbrev pub param_form : List (List Symbol)
param_form = (part Param ∷ []) ∷ []

abbrev pub statement_form : List (List Symbol)
statement_form = (part Statement ∷ []) ∷ []

abbrev pub right_form : List (List Symbol)
right_form = (part Right ∷ tok Semicolon ∷ []) ∷ []

abbrev pub member : Use → List (List Symbol)
member Written = lefts Name (lefts Arrow (lefts Name statement_form))
member Read = lefts Name (lefts Arrow (lefts Name right_form))

-- what a task stands for
abbrev pub means : Task → List (List Symbol)
means (Only s) = (tok s ∷ []) ∷ []
means AName = (part AnyName ∷ []) ∷ []
means ANumber = (part AnyNumber ∷ []) ∷ []
means AConstant = (part Constant ∷ []) ∷ []
means AnOperand = (part Operand ∷ []) ∷ []
means APointer = (part Pointer ∷ []) ∷ []
means UnsignedName = lefts Unsigned param_form
means LongName = (part MaybeLong ∷ part AnyName ∷ []) ∷ []
means AParam = (part Param ∷ []) ∷ []
means RightEnd = (part Right ∷ tok Semicolon ∷ []) ∷ []
means ReadPlaceEnd = (part Place ∷ tok Semicolon ∷ []) ∷ []
means AfterOperand = lefts Number right_form
means AfterPointer = lefts Name right_form
means (Member u) = member u
means (Named u) = lefts Name (lefts Dot (member u))
means (Tail u) = lefts CloseBracket (lefts Number (lefts OpenBracket (member u)))
means ArgumentsEnd = (part Arguments ∷ tok CloseParen ∷ []) ∷ []
means MoreArgumentsEnd = (part MoreArguments ∷ tok CloseParen ∷ []) ∷ []
means InitEnd = (part MaybeRight ∷ tok Semicolon ∷ []) ∷ []
means ResultEnd = (part MaybeOperand ∷ tok Semicolon ∷ []) ∷ []
means AfterName = lefts Name statement_form
means PrintEnd = lefts OpenParen (lefts Print statement_form)
means ABlock = (part Block ∷ []) ∷ []
means StatementsEnd = (part Statements ∷ tok CloseBrace ∷ []) ∷ []
means ElseEnd = (part ElsePart ∷ part Statements ∷ tok CloseBrace ∷ []) ∷ []
means BaseAfterVirtual = (part MaybeAccess ∷ part AnyName ∷ []) ∷ []
means BaseAfterAccess = lefts Public base_form
means ABase = (part Base ∷ []) ∷ []
means BasesEnd = (part MoreBases ∷ tok OpenBrace ∷ part Parts ∷ tok CloseBrace ∷ tok Semicolon ∷ []) ∷ []
means ClassTail = lefts Name (lefts Struct item_form)
means FieldEnd = (part Length ∷ tok Semicolon ∷ []) ∷ []
means ParamsEnd = (part Params ∷ tok CloseParen ∷ []) ∷ []
means MoreParamsEnd = (part MoreParams ∷ tok CloseParen ∷ []) ∷ []
means AfterDeclared = lefts Name (lefts Star (lefts Name part_form))
means AfterScalar = lefts Name (lefts Int part_form)
means AfterType = lefts Name part_form
means AfterOwnName = lefts OwnName part_form
means AnInit = (part Init ∷ []) ∷ []
means ConstructorEnd = (part Inits ∷ part Block ∷ []) ∷ []
means InitsEnd = (part MoreInits ∷ part Block ∷ []) ∷ []
means AfterVirtual = lefts Virtual part_form
means VirtualEnd = (part Block ∷ []) ∷ (tok Assign ∷ tok Zero ∷ tok Semicolon ∷ []) ∷ []
means PartsEnd = (part Parts ∷ tok CloseBrace ∷ []) ∷ []
means AfterInt = lefts Int item_form
means ItemsEnd = (part Source ∷ tok End ∷ []) ∷ []

-- each form of the first with each of the second
abbrev pub product : List (List Symbol) → List (List Symbol) → List (List Symbol)
product xs [] = []
product xs (y ∷ ys) = map (λ x. x ++ y) xs ++ product xs ys

-- what tasks one after another stand for
abbrev pub forms : List Task → List (List Symbol)
forms [] = [] ∷ []
forms (m ∷ ms) = product (means m) (forms ms)

abbrev pub next_forms : Option (List Task) → List (List Symbol)
next_forms None = []
next_forms (Some ms) = forms ms

only_ok : (b : Bool) → cond b ([] ∷ []) [] ++ [] ≡ next_forms (cond b (Some []) None)
only_ok true = refl
only_ok false = refl

-- Each line of the table is what the grammar leaves.
table_ok : (m : Task) (t : Sort) → gather (step 12 t) (means m) ≡ Some (next_forms (after m t))
table_ok (Only s) t = ap Some (only_ok (is_same s t))
table_ok AName Struct = refl
table_ok AName _ = refl
table_ok ANumber Struct = refl
table_ok ANumber _ = refl
table_ok AConstant Struct = refl
table_ok AConstant _ = refl
table_ok AnOperand Struct = refl
table_ok AnOperand _ = refl
table_ok APointer Struct = refl
table_ok APointer _ = refl
table_ok UnsignedName Struct = refl
table_ok UnsignedName _ = refl
table_ok LongName Struct = refl
table_ok LongName _ = refl
table_ok AParam Struct = refl
table_ok AParam _ = refl
table_ok RightEnd Struct = refl
table_ok RightEnd _ = refl
table_ok ReadPlaceEnd Struct = refl
table_ok ReadPlaceEnd _ = refl
table_ok AfterOperand Struct = refl
table_ok AfterOperand _ = refl
table_ok AfterPointer Struct = refl
table_ok AfterPointer _ = refl
table_ok (Member Written) Struct = refl
table_ok (Member Written) _ = refl
table_ok (Member Read) Struct = refl
table_ok (Member Read) _ = refl
table_ok (Named Written) Struct = refl
table_ok (Named Written) _ = refl
table_ok (Named Read) Struct = refl
table_ok (Named Read) _ = refl
table_ok (Tail Written) Struct = refl
table_ok (Tail Written) _ = refl
table_ok (Tail Read) Struct = refl
table_ok (Tail Read) _ = refl
table_ok ArgumentsEnd Struct = refl
table_ok ArgumentsEnd _ = refl
table_ok MoreArgumentsEnd Struct = refl
table_ok MoreArgumentsEnd _ = refl
table_ok InitEnd Struct = refl
table_ok InitEnd _ = refl
table_ok ResultEnd Struct = refl
table_ok ResultEnd _ = refl
table_ok AfterName Struct = refl
table_ok AfterName _ = refl
table_ok PrintEnd Struct = refl
table_ok PrintEnd _ = refl
table_ok ABlock Struct = refl
table_ok ABlock _ = refl
table_ok StatementsEnd Struct = refl
table_ok StatementsEnd _ = refl
table_ok ElseEnd Struct = refl
table_ok ElseEnd _ = refl
table_ok BaseAfterVirtual Struct = refl
table_ok BaseAfterVirtual _ = refl
table_ok BaseAfterAccess Struct = refl
table_ok BaseAfterAccess _ = refl
table_ok ABase Struct = refl
table_ok ABase _ = refl
table_ok BasesEnd Struct = refl
table_ok BasesEnd _ = refl
table_ok ClassTail Struct = refl
table_ok ClassTail _ = refl
table_ok FieldEnd Struct = refl
table_ok FieldEnd _ = refl
table_ok ParamsEnd Struct = refl
table_ok ParamsEnd _ = refl
table_ok MoreParamsEnd Struct = refl
table_ok MoreParamsEnd _ = refl
table_ok AfterDeclared Struct = refl
table_ok AfterDeclared _ = refl
table_ok AfterScalar Struct = refl
table_ok AfterScalar _ = refl
table_ok AfterType Struct = refl
table_ok AfterType _ = refl
table_ok AfterOwnName Struct = refl
table_ok AfterOwnName _ = refl
table_ok AnInit Struct = refl
table_ok AnInit _ = refl
table_ok ConstructorEnd Struct = refl
table_ok ConstructorEnd _ = refl
table_ok InitsEnd Struct = refl
table_ok InitsEnd _ = refl
table_ok AfterVirtual Struct = refl
table_ok AfterVirtual _ = refl
table_ok VirtualEnd Struct = refl
table_ok VirtualEnd _ = refl
table_ok PartsEnd Struct = refl
table_ok PartsEnd _ = refl
table_ok AfterInt Struct = refl
table_ok AfterInt _ = refl
table_ok ItemsEnd Struct = refl
table_ok ItemsEnd _ = refl

-- What is read of the tasks is what one of their forms derives.
abbrev pub Spells : List Task → List Sort → Type 0
Spells ms ts = (f : List Symbol) × In f (forms ms) × Derives f ts

In-map : {A B : Type 0} (g : A → B) (xs : List A) (b : B) → In b (map g xs) → (a : A) × In a xs × (b ≡ g a)
In-map g [] b h = elim h [ ]
In-map g (x ∷ xs) b (inl e) = (x, inl refl, e)
In-map g (x ∷ xs) b (inr h) = let r = In-map g xs b h in (r.0, inr r.1, r.2)

map-In : {A B : Type 0} (g : A → B) (xs : List A) (a : A) → In a xs → In (g a) (map g xs)
map-In g [] a h = elim h [ ]
map-In g (x ∷ xs) a (inl e) = inl (ap g e)
map-In g (x ∷ xs) a (inr h) = inr (map-In g xs a h)

-- a form of two parts
In-product : (xs ys : List (List Symbol)) (f : List Symbol) → In f (product xs ys) → (x y : List Symbol) × In x xs × In y ys × (f ≡ x ++ y)
In-product xs [] f h = elim h [ ]
In-product xs (y ∷ ys) f h = elim (In-split f (map (λ x. x ++ y) xs) (product xs ys) h) [
  | inl k ↦ (let r = In-map (λ x. x ++ y) xs f k in (r.0, y, r.1, inl refl, r.2))
  | inr k ↦ (let r = In-product xs ys f k in (r.0, r.1, r.2, inr r.3, r.4))
]

product-In : (xs ys : List (List Symbol)) (x y : List Symbol) → In x xs → In y ys → In (x ++ y) (product xs ys)
product-In xs [] x y h k = elim k [ ]
product-In xs (z ∷ ys) x y h (inl e) = In-left (x ++ y) (map (λ w. w ++ z) xs) (product xs ys) (subst (λ u. In (x ++ u) (map (λ w. w ++ z) xs)) (sym e) (map-In (λ w. w ++ z) xs x h))
product-In xs (z ∷ ys) x y h (inr k) = In-right (x ++ y) (map (λ w. w ++ z) xs) (product xs ys) (product-In xs ys x y h k)

-- forms of a list in two parts
forms-join : (ms ns : List Task) (x y : List Symbol) → In x (forms ms) → In y (forms ns) → In (x ++ y) (forms (ms ++ ns))
forms-join [] ns x y (inl e) k = subst (λ u. In (u ++ y) (forms ns)) (sym e) k
forms-join [] ns x y (inr h) k = elim h [ ]
forms-join (m ∷ ms) ns x y h k =
    let r = In-product (means m) (forms ms) x h in
    let q = product-In (means m) (forms (ms ++ ns)) r.0 (r.1 ++ y) r.2 (forms-join ms ns r.1 y r.3 k) in
    let e : x ++ y ≡ r.0 ++ (r.1 ++ y) = ap (λ u. u ++ y) r.4 ∙ append_assoc r.0 r.1 y in
    subst (λ u. In u (forms (m ∷ (ms ++ ns)))) (sym e) q

forms-part : (ms ns : List Task) (f : List Symbol) → In f (forms (ms ++ ns)) → (x y : List Symbol) × In x (forms ms) × In y (forms ns) × (f ≡ x ++ y)
forms-part [] ns f h = ([], f, inl refl, h, refl)
forms-part (m ∷ ms) ns f h =
    let r = In-product (means m) (forms (ms ++ ns)) f h in
    let q = forms-part ms ns r.1 r.3 in
    let e : f ≡ (r.0 ++ q.0) ++ q.1 = r.4 ∙ (ap (λ u. r.0 ++ u) q.4 ∙ sym (append_assoc r.0 q.0 q.1)) in
    (r.0 ++ q.0, q.1, product-In (means m) (forms ms) r.0 q.0 r.2 q.2, q.3, e)

left_of : (o : Option (List Task)) (ms : List Task) (x y : List Symbol) (ts : List Sort) → In x (next_forms o) → In y (forms ms) → Derives (x ++ y) ts → (ns : List Task) × (o ≡ Some ns) × Spells (ns ++ ms) ts
left_of None ms x y ts h k d = elim h [ ]
left_of (Some ns) ms x y ts h k d = (ns, refl, (x ++ y, forms-join ns ms x y h k, d))

-- What the tasks read begins with a token that the table allows.
pub after_complete : (m : Task) (ms : List Task) (t : Sort) (ts : List Sort) → Spells (m ∷ ms) (t ∷ ts) → (ns : List Task) × (after m t ≡ Some ns) × Spells (ns ++ ms) ts
after_complete m ms t ts s =
    let r = In-product (means m) (forms ms) s.0 s.1 in
    let g = gather_each (step 12 t) (means m) (next_forms (after m t)) r.0 (table_ok m t) r.2 in
    let d : Derives (r.0 ++ r.1) (t ∷ ts) = subst (λ f. Derives f (t ∷ ts)) r.4 s.2 in
    let q = step_complete 12 t r.0 g.0 r.1 ts g.1 d in
    left_of (after m t) ms q.0 r.1 ts (g.2 q.0 q.1) r.3 q.2

-- They read a token at least.
pub reads_some : (m : Task) (ms : List Task) → Spells (m ∷ ms) [] → ⊥
reads_some m ms s =
    let r = In-product (means m) (forms ms) s.0 s.1 in
    let g = gather_each (step 12 Bad) (means m) (next_forms (after m Bad)) r.0 (table_ok m Bad) r.2 in
    no_step 12 Bad r.0 g.0 r.1 g.1 (subst (λ f. Derives f []) r.4 s.2)

-- And what the table leaves is read on.
pub after_sound : (m : Task) (ms ns : List Task) (t : Sort) (ts : List Sort) → after m t ≡ Some ns → Spells (ns ++ ms) ts → Spells (m ∷ ms) (t ∷ ts)
after_sound m ms ns t ts e s =
    let r = forms-part ns ms s.0 s.1 in
    let x : In r.0 (next_forms (after m t)) = subst (λ o. In r.0 (next_forms o)) (sym e) r.2 in
    let g = gather_some (step 12 t) (means m) (next_forms (after m t)) r.0 (table_ok m t) x in
    let d : Derives (r.0 ++ r.1) ts = subst (λ f. Derives f ts) r.4 s.2 in
    (g.0 ++ r.1, product-In (means m) (forms ms) g.0 r.1 g.2 r.3, step_sound 12 t g.0 g.1 r.0 r.1 ts g.3 g.4 d)
