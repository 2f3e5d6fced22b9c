-- A list has one place, call and cast at its front.
use Rattle.std.proofs.Common.{◌≡◌, ℕ, List, Option, Some, refl, ap, sym, ◌∙◌}
use Rattle.cxx_grammar.specs.declared.sort.Sort.{Sort}
use Rattle.cxx_grammar.specs.declared.sort.Sort.TheVariants.{Name, OwnName, Number, Zero, Minus, True, False, This, Dot, OpenBracket, OpenParen, DoubleColon, Comma, StaticCast, DynamicCast}
use Rattle.cxx_grammar.specs.declared.sort.Lexeme.{Lexeme}
use Rattle.cxx_syntax.specs.declared.tree.Spot.{Spot}
use Rattle.cxx_syntax.specs.declared.tree.PointerText.{PointerText}
use Rattle.cxx_syntax.specs.declared.tree.Operand.{Operand}
use Rattle.cxx_syntax.specs.declared.tree.PlacePart.{PlacePart}
use Rattle.cxx_syntax.specs.declared.tree.PlaceText.{PlaceText}
use Rattle.cxx_syntax.specs.declared.tree.CallText.{CallText}
use Rattle.cxx_syntax.specs.declared.tree.CastText.{CastText}
use Rattle.cxx_syntax.specs.declared.tree.CastKind.{CastKind}
use Rattle.cxx_syntax.specs.Operands.{spot_of, PartReads, a_part, DotsRead, no_dot, a_dot, PartsRead, some_parts, PlaceReads, a_place, MoreRead, no_more_operands, one_more_operand, ArgumentsRead, no_arguments, some_arguments, CallReads, a_call, a_qualified_call, cast_kind, IsCastWord, CastReads, a_named_cast, a_plain_cast}
use Rattle.cxx_readings.proofs.Heads.{head, rests, firsts, by_is, clash}
use Rattle.cxx_readings.proofs.Leaves.{pointer_same, operand_same, operand_by, is_bracket, index_same}

pub spots : (text : List ℕ) {a b : Spot} {l m : Lexeme} → l ≡ m → a ≡ spot_of text l → b ≡ spot_of text m → a ≡ b
spots text e p q = p ∙ (ap (spot_of text) e ∙ sym q)

-- a part
abbrev part_of : Spot → Option (ℕ × ℕ) → PlacePart
part_of n i = record { name = n; index = i }

part_equal : (p q : PlacePart) → p.name ≡ q.name → p.index ≡ q.index → p ≡ q
part_equal p q e f = ap (λ n. part_of n p.index) e ∙ ap (λ i. part_of q.name i) f

part_same : {text : List ℕ} {p q : PlacePart} {ts us r s : List Lexeme} → ts ≡ us → is_bracket (head r) ≡ 0 → is_bracket (head s) ≡ 0 → PartReads text p ts r → PartReads text q us s → (p ≡ q) × (r ≡ s)
part_same {text = text} {p = p} {q = q} e b c (a_part n i m) (a_part n' i' m') =
    let l = firsts e n.front n'.front in let x = index_same (rests e n.front n'.front) b c i i' in
    (part_equal p q (spots text l m m') x.0, x.1)

-- what may not follow a place: an index or a further part
abbrev pub dots_mark : Sort → ℕ
dots_mark Dot = 1
dots_mark OpenBracket = 2
dots_mark _ = 0

no_bracket : (s : Sort) → dots_mark s ≡ 0 → is_bracket s ≡ 0
no_bracket OpenBracket h = absurd (cc)
no_bracket _ h = refl

dots_front : {text : List ℕ} {ps : List PlacePart} {ts r : List Lexeme} → dots_mark (head r) ≡ 0 → DotsRead text ps ts r → is_bracket (head ts) ≡ 0
dots_front {ts = ts} h no_dot = no_bracket (head ts) h
dots_front h (a_dot d x y) = by_is is_bracket d

dots_same : {text : List ℕ} {ps qs : List PlacePart} {ts us r s : List Lexeme} → ts ≡ us → dots_mark (head r) ≡ 0 → dots_mark (head s) ≡ 0 → DotsRead text ps ts r → DotsRead text qs us s → (ps ≡ qs) × (r ≡ s)
dots_same e p q no_dot no_dot = (refl, e)
dots_same e p q no_dot (a_dot d x y) = absurd (let f : 0 ≡ 1 = clash (λ us. dots_mark (head us)) e p (by_is dots_mark d) in cc)
dots_same e p q (a_dot d x y) no_dot = absurd (let f : 1 ≡ 0 = clash (λ us. dots_mark (head us)) e (by_is dots_mark d) q in cc)
dots_same e p q (a_dot d x y) (a_dot d' x' y') =
    let u = part_same (rests e d.front d'.front) (dots_front p y) (dots_front q y') x x' in let v = dots_same u.1 p q y y' in (cc, v.1)

parts_same : {text : List ℕ} {ps qs : List PlacePart} {ts us r s : List Lexeme} → ts ≡ us → dots_mark (head r) ≡ 0 → dots_mark (head s) ≡ 0 → PartsRead text ps ts r → PartsRead text qs us s → (ps ≡ qs) × (r ≡ s)
parts_same e p q (some_parts x y) (some_parts x' y') = let u = part_same e (dots_front p y) (dots_front q y') x x' in let v = dots_same u.1 p q y y' in (cc, v.1)

-- a place
abbrev place_of : PointerText → List PlacePart → PlaceText
place_of p ps = record { pointer = p; parts = ps }

place_equal : (x y : PlaceText) → x.pointer ≡ y.pointer → x.parts ≡ y.parts → x ≡ y
place_equal x y e f = ap (λ p. place_of p x.parts) e ∙ ap (λ ps. place_of y.pointer ps) f

pub place_same : {text : List ℕ} {x y : PlaceText} {ts us r s : List Lexeme} → ts ≡ us → dots_mark (head r) ≡ 0 → dots_mark (head s) ≡ 0 → PlaceReads text x ts r → PlaceReads text y us s → (x ≡ y) × (r ≡ s)
place_same {x = x} {y = y} e p q (a_place h w d) (a_place h' w' d') =
    let u = pointer_same e h h' in let v = parts_same (rests u.1 w.front w'.front) p q d d' in (place_equal x y u.0 v.0, v.1)

-- what may not follow the arguments: a comma or an operand
abbrev pub argument_mark : Sort → ℕ
argument_mark Comma = 1
argument_mark Name = 2
argument_mark OwnName = 2
argument_mark This = 2
argument_mark Number = 2
argument_mark Zero = 2
argument_mark Minus = 2
argument_mark True = 2
argument_mark False = 2
argument_mark _ = 0

more_same : {text : List ℕ} {vs ws : List Operand} {ts us r s : List Lexeme} → ts ≡ us → argument_mark (head r) ≡ 0 → argument_mark (head s) ≡ 0 → MoreRead text vs ts r → MoreRead text ws us s → (vs ≡ ws) × (r ≡ s)
more_same e p q no_more_operands no_more_operands = (refl, e)
more_same e p q no_more_operands (one_more_operand c x y) = absurd (let f : 0 ≡ 1 = clash (λ us. argument_mark (head us)) e p (by_is argument_mark c) in cc)
more_same e p q (one_more_operand c x y) no_more_operands = absurd (let f : 1 ≡ 0 = clash (λ us. argument_mark (head us)) e (by_is argument_mark c) q in cc)
more_same e p q (one_more_operand c x y) (one_more_operand c' x' y') =
    let u = operand_same (rests e c.front c'.front) x x' in let v = more_same u.1 p q y y' in (cc, v.1)

arguments_same : {text : List ℕ} {vs ws : List Operand} {ts us r s : List Lexeme} → ts ≡ us → argument_mark (head r) ≡ 0 → argument_mark (head s) ≡ 0 → ArgumentsRead text vs ts r → ArgumentsRead text ws us s → (vs ≡ ws) × (r ≡ s)
arguments_same e p q no_arguments no_arguments = (refl, e)
arguments_same e p q no_arguments (some_arguments x y) = absurd (let f : 0 ≡ 2 = clash (λ us. argument_mark (head us)) e p (operand_by argument_mark 2 refl refl refl refl refl refl refl refl x) in cc)
arguments_same e p q (some_arguments x y) no_arguments = absurd (let f : 2 ≡ 0 = clash (λ us. argument_mark (head us)) e (operand_by argument_mark 2 refl refl refl refl refl refl refl refl x) q in cc)
arguments_same e p q (some_arguments x y) (some_arguments x' y') = let u = operand_same e x x' in let v = more_same u.1 p q y y' in (cc, v.1)

-- a call
abbrev call_of : PointerText → Option Spot → Spot → List Operand → CallText
call_of p c n vs = record { pointer = p; class = c; name = n; arguments = vs }

call_equal : (x y : CallText) → x.pointer ≡ y.pointer → x.class ≡ y.class → x.name ≡ y.name → x.arguments ≡ y.arguments → x ≡ y
call_equal x y e f g h =
    ap (λ p. call_of p x.class x.name x.arguments) e ∙ (ap (λ c. call_of y.pointer c x.name x.arguments) f ∙
    (ap (λ n. call_of y.pointer y.class n x.arguments) g ∙ ap (λ vs. call_of y.pointer y.class y.name vs) h))

abbrev pub opens_call : Sort → ℕ
opens_call OpenParen = 1
opens_call DoubleColon = 2
opens_call _ = 0

pub call_same : {text : List ℕ} {x y : CallText} {ts us r s : List Lexeme} → ts ≡ us → CallReads text x ts r → CallReads text y us s → (x ≡ y) × (r ≡ s)
call_same {text = text} {x = x} {y = y} e (a_call p w n o g z c m) (a_call p' w' n' o' g' z' c' m') =
    let u = pointer_same e p p' in let t = rests u.1 w.front w'.front in let l = firsts t n.front n'.front in let k = rests t n.front n'.front in
    let v = arguments_same (rests k o.front o'.front) (by_is argument_mark z) (by_is argument_mark z') g g' in
    (call_equal x y u.0 (c ∙ sym c') (spots text l m m') v.0, rests v.1 z.front z'.front)
call_same {text = text} {x = x} {y = y} e (a_qualified_call p w k q n o g z c m) (a_qualified_call p' w' k' q' n' o' g' z' c' m') =
    let u = pointer_same e p p' in let t = rests u.1 w.front w'.front in let d = firsts t k.front k'.front in let a = rests t k.front k'.front in
    let b = rests a q.front q'.front in let l = firsts b n.front n'.front in let f = rests b n.front n'.front in
    let v = arguments_same (rests f o.front o'.front) (by_is argument_mark z) (by_is argument_mark z') g g' in
    (call_equal x y u.0 (c ∙ (ap (λ j. Some (spot_of text j)) d ∙ sym c')) (spots text l m m') v.0, rests v.1 z.front z'.front)
call_same e (a_call p w n o g z c m) (a_qualified_call p' w' k' q' n' o' g' z' c' m') =
    let u = pointer_same e p p' in let t = rests (rests u.1 w.front w'.front) n.front k'.front in
    absurd (let f : 1 ≡ 2 = clash (λ us. opens_call (head us)) t (by_is opens_call o) (by_is opens_call q') in cc)
call_same e (a_qualified_call p w k q n o g z c m) (a_call p' w' n' o' g' z' c' m') =
    let u = pointer_same e p p' in let t = rests (rests u.1 w.front w'.front) k.front n'.front in
    absurd (let f : 2 ≡ 1 = clash (λ us. opens_call (head us)) t (by_is opens_call q) (by_is opens_call o') in cc)

-- a cast
abbrev cast_text : CastKind → Spot → PointerText → CastText
cast_text k t p = record { kind = k; target = t; pointer = p }

cast_equal : (x y : CastText) → x.kind ≡ y.kind → x.target ≡ y.target → x.pointer ≡ y.pointer → x ≡ y
cast_equal x y e f g =
    ap (λ k. cast_text k x.target x.pointer) e ∙ (ap (λ t. cast_text y.kind t x.pointer) f ∙ ap (λ p. cast_text y.kind y.target p) g)

some_equal : {A : Type 0} (a b : A) → Some a ≡ Some b → a ≡ b
some_equal a b h = cc

-- the front token is one of the two words
pub by_cast : {A : Type 0} (f : Sort → A) (a : A) → f StaticCast ≡ a → f DynamicCast ≡ a → {k : CastKind} {l : Lexeme} {ts r : List Lexeme} → IsCastWord k l ts r → f (head ts) ≡ a
by_cast f a p q {k = k} {l = l} i = ap (λ us. f (head us)) i.front ∙ of_sort l.sort i.cast where
  of_sort : (s : Sort) → cast_kind s ≡ Some k → f s ≡ a
  of_sort StaticCast h = p
  of_sort DynamicCast h = q
  of_sort _ h = absurd (cc)

is_paren : Sort → ℕ
is_paren OpenParen = 1
is_paren _ = 0

pub cast_same : {text : List ℕ} {x y : CastText} {ts us r s : List Lexeme} → ts ≡ us → CastReads text x ts r → CastReads text y us s → (x ≡ y) × (r ≡ s)
unfolding is_paren
cast_same {text = text} {x = x} {y = y} e (a_named_cast k l n m h o p z t) (a_named_cast k' l' n' m' h' o' p' z' t') =
    let f = firsts e k.front k'.front in let a = rests e k.front k'.front in let b = rests a l.front l'.front in let g = firsts b n.front n'.front in
    let c = rests b n.front n'.front in let d = rests (rests (rests c m.front m'.front) h.front h'.front) o.front o'.front in
    let u = pointer_same d p p' in
    (cast_equal x y (some_equal x.kind y.kind (sym k.cast ∙ (ap (λ j. cast_kind j.sort) f ∙ k'.cast))) (spots text g t t') u.0, rests u.1 z.front z'.front)
cast_same {text = text} {x = x} {y = y} e (a_plain_cast o n m z p k t) (a_plain_cast o' n' m' z' p' k' t') =
    let a = rests e o.front o'.front in let g = firsts a n.front n'.front in let b = rests a n.front n'.front in
    let u = pointer_same (rests (rests b m.front m'.front) z.front z'.front) p p' in
    (cast_equal x y (k ∙ sym k') (spots text g t t') u.0, u.1)
cast_same e (a_named_cast k l n m h o p z t) (a_plain_cast o' n' m' z' p' k' t') =
    absurd (let f : 0 ≡ 1 = clash (λ us. is_paren (head us)) e (by_cast is_paren 0 refl refl k) (by_is is_paren o') in cc)
cast_same e (a_plain_cast o n m z p k t) (a_named_cast k' l' n' m' h' o' p' z' t') =
    absurd (let f : 1 ≡ 0 = clash (λ us. is_paren (head us)) e (by_is is_paren o) (by_cast is_paren 0 refl refl k') in cc)
