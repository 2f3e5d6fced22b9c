-- A list has one right side at its front, where a semicolon follows it.
use Rattle.std.proofs.Common.{◌≡◌, ℕ, List, Some, refl, ap, sym, ◌∙◌}
use Rattle.cxx_grammar.specs.declared.sort.Sort.{Sort}
use Rattle.cxx_grammar.specs.declared.sort.Sort.TheVariants.{Name, OwnName, This, Dot, OpenBracket, OpenParen, DoubleColon, StaticCast, DynamicCast, Semicolon, Plus, Minus, Star, Less, LessEqual, Equal, NotEqual, Arrow, Bang, Ampersand, New, Typeid}
use Rattle.cxx_grammar.specs.declared.sort.Lexeme.{Lexeme}
use Rattle.cxx_grammar.specs.Front.{Is, IsName}
use Rattle.cxx_syntax.specs.declared.tree.PointerText.{PointerText}
use Rattle.cxx_syntax.specs.declared.tree.Operand.{Operand}
use Rattle.cxx_syntax.specs.declared.tree.PlaceText.{PlaceText}
use Rattle.cxx_syntax.specs.declared.tree.CallText.{CallText}
use Rattle.cxx_syntax.specs.declared.tree.BinaryOp.{BinaryOp}
use Rattle.cxx_syntax.specs.declared.tree.Right.{Right}
use Rattle.cxx_syntax.specs.declared.tree.Right.TheVariants as right
use Rattle.cxx_syntax.specs.Operands.{PointerReads, OperandReads, name_operand, this_operand, constant_operand, IndexReads, no_index, an_index, a_part, DotsRead, no_dot, a_dot, PartsRead, some_parts, PlaceReads, a_place, CallReads, a_call, a_qualified_call, CastReads, a_named_cast, a_plain_cast, operator_of, IsOperator, RightReads, an_operand, a_binary, a_not, a_place_read, an_address, a_call_read, a_new, a_cast, a_type_equal}
use Rattle.cxx_readings.proofs.Heads.{head, tail, rests, firsts, by_is, by_name, clash}
use Rattle.cxx_readings.proofs.Leaves.{pointer_same, pointer_by, pointer_tail, operand_same, constant_by}
use Rattle.cxx_readings.proofs.SamePlaces.{spots, dots_mark, place_same, call_same, cast_same, by_cast}

-- the third and the fourth token
abbrev pub third : List Lexeme → Sort
third ts = head (tail (tail ts))

abbrev pub fourth : List Lexeme → Sort
fourth ts = head (tail (tail (tail ts)))

-- what a function of the first, second and fourth sort gives behind a pointer, "->" and a name
pub behind : (g : Sort → Sort → Sort → ℕ) (m : ℕ) {text : List ℕ} {p : PointerText} {ts a b c : List Lexeme} {w n : Lexeme} →
    PointerReads text p ts a → Is Arrow w a b → IsName n b c →
    g Name Arrow (head c) ≡ m → g OwnName Arrow (head c) ≡ m → g This Arrow (head c) ≡ m → g (head ts) (head (tail ts)) (fourth ts) ≡ m
behind g m {ts = ts} {a = a} {b = b} {c = c} p w n x y z =
    let t : tail ts ≡ a = pointer_tail p in
    let u : tail a ≡ b = ap tail w.front in
    let v : tail b ≡ c = ap tail n.front in
    let second : head (tail ts) ≡ Arrow = ap head t ∙ by_is (λ s. s) w in
    let last : fourth ts ≡ head c = ap (λ us. head (tail (tail us))) t ∙ (ap (λ us. head (tail us)) u ∙ ap head v) in
    ap (λ s. g (head ts) s (fourth ts)) second ∙ (ap (λ s. g (head ts) Arrow s) last ∙ pointer_by (λ s. g s Arrow (head c)) m x y z p)

-- what a function of a sort gives behind the first name of a place
pub place_by : {A : Type 0} (f : Sort → A) (a : A) → f OpenBracket ≡ a → f Dot ≡ a → {text : List ℕ} {n : Lexeme} {ps : _} {ts b r : List Lexeme} →
    IsName n ts b → PartsRead text ps ts r → f (head r) ≡ a → f (head b) ≡ a
place_by f a p q i (some_parts (a_part n x m) y) h = ap (λ us. f (head us)) (rests refl i.front n.front) ∙ of_index x (of_dots y h) where
  of_dots : {text : List ℕ} {ps : _} {ts r : List Lexeme} → DotsRead text ps ts r → f (head r) ≡ a → f (head ts) ≡ a
  of_dots no_dot h = h
  of_dots (a_dot d x y) h = by_is f d ∙ q

  of_index : {i : _} {ts r : List Lexeme} → IndexReads i ts r → f (head r) ≡ a → f (head ts) ≡ a
  of_index no_index h = h
  of_index (an_index o n c i) h = by_is f o ∙ p

-- the same for the name behind a pointer and "->"
pub behind_place : (g : Sort → Sort → Sort → ℕ) (m : ℕ) {text : List ℕ} {x : PlaceText} {ts r : List Lexeme} → PlaceReads text x ts r →
    ((s : Sort) → g Name Arrow s ≡ g This Arrow s) → ((s : Sort) → g OwnName Arrow s ≡ g This Arrow s) →
    g This Arrow OpenBracket ≡ m → g This Arrow Dot ≡ m → g This Arrow (head r) ≡ m → g (head ts) (head (tail ts)) (fourth ts) ≡ m
behind_place g m (a_place p w (some_parts (a_part {a = c} n i e) d)) x y o k h =
    let f : g This Arrow (head c) ≡ m = place_by (g This Arrow) m o k n (some_parts (a_part n i e) d) h in
    behind g m p w n (x (head c) ∙ f) (y (head c) ∙ f) f

pub behind_call : (g : Sort → Sort → Sort → ℕ) (m : ℕ) {text : List ℕ} {x : CallText} {ts r : List Lexeme} → CallReads text x ts r →
    ((s : Sort) → g Name Arrow s ≡ g This Arrow s) → ((s : Sort) → g OwnName Arrow s ≡ g This Arrow s) →
    g This Arrow OpenParen ≡ m → g This Arrow DoubleColon ≡ m → g (head ts) (head (tail ts)) (fourth ts) ≡ m
behind_call g m (a_call {c = c} p w n o v z k e) x y a b =
    let f : g This Arrow (head c) ≡ m = by_is (g This Arrow) o ∙ a in behind g m p w n (x (head c) ∙ f) (y (head c) ∙ f) f
behind_call g m (a_qualified_call {c = c} p w j q n o v z k e) x y a b =
    let f : g This Arrow (head c) ≡ m = by_is (g This Arrow) q ∙ b in behind g m p w j (x (head c) ∙ f) (y (head c) ∙ f) f

-- the forms of a right side, by its first, second and fourth token; an operand and two operands are one here
abbrev member_kind : Sort → ℕ
member_kind OpenParen = 5
member_kind DoubleColon = 5
member_kind _ = 3

abbrev pointer_right : Sort → Sort → ℕ
pointer_right Arrow y = member_kind y
pointer_right _ y = 0

abbrev right_kind : Sort → Sort → Sort → ℕ
right_kind Bang x y = 2
right_kind Ampersand x y = 4
right_kind New x y = 6
right_kind StaticCast x y = 7
right_kind DynamicCast x y = 7
right_kind OpenParen x y = 7
right_kind Typeid x y = 8
right_kind Name x y = pointer_right x y
right_kind OwnName x y = pointer_right x y
right_kind This x y = pointer_right x y
right_kind _ x y = 0

abbrev right_at : List Lexeme → ℕ
right_at ts = right_kind (head ts) (head (tail ts)) (fourth ts)

kind_of_right : {text : List ℕ} {v : Right} {ts r : List Lexeme} → RightReads text v ts r → ℕ
kind_of_right (an_operand h) = 0
kind_of_right (a_binary h o g) = 0
kind_of_right (a_not n h) = 2
kind_of_right (a_place_read h) = 3
kind_of_right (an_address n h) = 4
kind_of_right (a_call_read h) = 5
kind_of_right (a_new k n e) = 6
kind_of_right (a_cast h) = 7
kind_of_right (a_type_equal k o m p z q j u n y e) = 8

-- an operand that "->" does not follow
operand_right : {text : List ℕ} {v : Operand} {ts r : List Lexeme} → OperandReads text v ts r → ((y : Sort) → pointer_right (head r) y ≡ 0) → right_at ts ≡ 0
operand_right {ts = ts} (name_operand i e) h =
    let f : pointer_right (head (tail ts)) (fourth ts) ≡ 0 = ap (λ us. pointer_right (head (tail us)) (fourth ts)) i.front ∙ h (fourth ts) in
    by_name (λ s. right_kind s (head (tail ts)) (fourth ts)) 0 f f i
operand_right {ts = ts} (this_operand i e) h =
    let f : pointer_right (head (tail ts)) (fourth ts) ≡ 0 = ap (λ us. pointer_right (head (tail us)) (fourth ts)) i.front ∙ h (fourth ts) in
    by_is (λ s. right_kind s (head (tail ts)) (fourth ts)) i ∙ f
operand_right {ts = ts} (constant_operand c) h = constant_by (λ s. right_kind s (head (tail ts)) (fourth ts)) 0 refl refl refl refl refl c

by_operator : {A : Type 0} (f : Sort → A) (a : A) → f Plus ≡ a → f Minus ≡ a → f Star ≡ a → f Less ≡ a → f LessEqual ≡ a → f Equal ≡ a → f NotEqual ≡ a →
    {o : BinaryOp} {l : Lexeme} {ts r : List Lexeme} → IsOperator o l ts r → f (head ts) ≡ a
by_operator f a p m s l k e n {o = o} {l = t} i = ap (λ us. f (head us)) i.front ∙ of_sort t.sort i.operator where
  of_sort : (x : Sort) → operator_of x ≡ Some o → f x ≡ a
  of_sort Plus h = p
  of_sort Minus h = m
  of_sort Star h = s
  of_sort Less h = l
  of_sort LessEqual h = k
  of_sort Equal h = e
  of_sort NotEqual h = n
  of_sort _ h = absurd (cc)

cast_front : {text : List ℕ} {x : _} {ts r : List Lexeme} → CastReads text x ts r → right_at ts ≡ 7
cast_front {ts = ts} (a_named_cast k l n m h o p z t) = by_cast (λ s. right_kind s (head (tail ts)) (fourth ts)) 7 refl refl k
cast_front {ts = ts} (a_plain_cast o n m z p k t) = by_is (λ s. right_kind s (head (tail ts)) (fourth ts)) o

right_front : {text : List ℕ} {v : Right} {ts r : List Lexeme} → head r ≡ Semicolon → (h : RightReads text v ts r) → right_at ts ≡ kind_of_right h
unfolding kind_of_right
right_front e (an_operand h) = operand_right h (λ y. ap (λ s. pointer_right s y) e)
right_front e (a_binary h o g) = operand_right h (λ y. by_operator (λ s. pointer_right s y) 0 refl refl refl refl refl refl refl o)
right_front {ts = ts} e (a_not n h) = by_is (λ s. right_kind s (head (tail ts)) (fourth ts)) n
right_front e (a_place_read h) = behind_place right_kind 3 h (λ s. refl) (λ s. refl) refl refl (ap member_kind e)
right_front {ts = ts} e (an_address n h) = by_is (λ s. right_kind s (head (tail ts)) (fourth ts)) n
right_front e (a_call_read h) = behind_call right_kind 5 h (λ s. refl) (λ s. refl) refl refl
right_front {ts = ts} e (a_new k n x) = by_is (λ s. right_kind s (head (tail ts)) (fourth ts)) k
right_front e (a_cast h) = cast_front h
right_front {ts = ts} e (a_type_equal k o m p z q j u n y x) = by_is (λ s. right_kind s (head (tail ts)) (fourth ts)) k

is_semicolon : Sort → ℕ
is_semicolon Semicolon = 1
is_semicolon _ = 0

no_operator : {o : BinaryOp} {l : Lexeme} {r a b : List Lexeme} → head r ≡ Semicolon → r ≡ a → IsOperator o l a b → ⊥
unfolding is_semicolon
no_operator e t i = let f : ◌≡◌ {A = ℕ} 1 0 = clash (λ us. is_semicolon (head us)) t (ap is_semicolon e) (by_operator is_semicolon 0 refl refl refl refl refl refl refl i) in absurd (cc)

operators : {o u : BinaryOp} {l m : Lexeme} {ts us r s : List Lexeme} → ts ≡ us → IsOperator o l ts r → IsOperator u m us s → o ≡ u
operators {o = o} {u = u} e i j = let l = firsts e i.front j.front in let f : Some o ≡ Some u = sym i.operator ∙ (ap (λ k. operator_of k.sort) l ∙ j.operator) in cc

pub right_same : {text : List ℕ} {v w : Right} {ts us r s : List Lexeme} → ts ≡ us → head r ≡ Semicolon → head s ≡ Semicolon → RightReads text v ts r → RightReads text w us s → (v ≡ w) × (r ≡ s)
unfolding kind_of_right
right_same e a b (an_operand h) (an_operand g) = let x = operand_same e h g in (ap right.Operand x.0, x.1)
right_same e a b (an_operand h) (a_binary g o k) = let x = operand_same e h g in absurd (no_operator a x.1 o)
right_same e a b (a_binary h o k) (an_operand g) = let x = operand_same (sym e) g h in absurd (no_operator b x.1 o)
right_same e a b (a_binary h o k) (a_binary h' o' k') =
    let x = operand_same e h h' in let q = operators x.1 o o' in let y = operand_same (rests x.1 o.front o'.front) k k' in
    (cc, y.1)
right_same e a b (a_not n h) (a_not n' h') = let x = operand_same (rests e n.front n'.front) h h' in (ap right.Not x.0, x.1)
right_same e a b (a_place_read h) (a_place_read g) = let x = place_same e (ap dots_mark a) (ap dots_mark b) h g in (ap right.Place x.0, x.1)
right_same e a b (an_address n h) (an_address n' h') = let x = place_same (rests e n.front n'.front) (ap dots_mark a) (ap dots_mark b) h h' in (ap right.Address x.0, x.1)
right_same e a b (a_call_read h) (a_call_read g) = let x = call_same e h g in (ap right.Call x.0, x.1)
right_same {text = text} e a b (a_new k n p) (a_new k' n' p') =
    let t = rests e k.front k'.front in (ap right.New (spots text (firsts t n.front n'.front) p p'), rests t n.front n'.front)
right_same e a b (a_cast h) (a_cast g) = let x = cast_same e h g in (ap right.Cast x.0, x.1)
right_same {text = text} e a b (a_type_equal k o m p z q j u n y x) (a_type_equal k' o' m' p' z' q' j' u' n' y' x') =
    let t = rests (rests (rests e k.front k'.front) o.front o'.front) m.front m'.front in
    let v = pointer_same t p p' in
    let f = rests (rests (rests (rests v.1 z.front z'.front) q.front q'.front) j.front j'.front) u.front u'.front in
    let w = spots text (firsts f n.front n'.front) x x' in
    (cc, rests (rests f n.front n'.front) y.front y'.front)
right_same e a b h g = absurd (let f : kind_of_right h ≡ kind_of_right g = clash right_at e (right_front a h) (right_front b g) in cc)
