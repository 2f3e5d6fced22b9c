-- Places, calls and right sides behind the token that begins them.
use Rattle.std.proofs.Common.{◌≡◌, ℕ, List, [], ◌∷◌, Some, None, refl, ap, ◌∙◌}
use Rattle.cxx_grammar.specs.declared.sort.Sort.{Sort}
use Rattle.cxx_grammar.specs.declared.sort.Sort.TheVariants.{This, New, StaticCast, DynamicCast, Typeid, Name, OwnName, OpenParen, CloseParen, OpenBracket, Semicolon, DoubleColon, Comma, Star, Ampersand, Assign, Equal, NotEqual, Bang, Arrow, Dot, Less, LessEqual, Plus, Minus}
use Rattle.cxx_grammar.specs.declared.sort.Lexeme.{Lexeme}
use Rattle.cxx_grammar.specs.Sorts.{is_name}
use Rattle.cxx_grammar.specs.Front.{Is}
use Rattle.cxx_grammar.specs.Event.{State}
use Rattle.cxx_grammar.specs.Table.{Use, Written, Read, Only, AnOperand, RightEnd, ReadPlaceEnd, AfterOperand, AfterPointer, Member, Named, Tail, ArgumentsEnd, MoreArgumentsEnd, InitEnd, ResultEnd, look_up, end_of}
use Rattle.cxx_syntax.specs.declared.tree.PointerText.{PointerText}
use Rattle.cxx_syntax.specs.declared.tree.PointerText.TheVariants as pointer
use Rattle.cxx_syntax.specs.declared.tree.Operand.{Operand}
use Rattle.cxx_syntax.specs.declared.tree.Operand.TheVariants as operand
use Rattle.cxx_syntax.specs.declared.tree.PlacePart.{PlacePart}
use Rattle.cxx_syntax.specs.declared.tree.PlaceText.{PlaceText}
use Rattle.cxx_syntax.specs.declared.tree.CallText.{CallText}
use Rattle.cxx_syntax.specs.declared.tree.CastKind.TheVariants as cast
use Rattle.cxx_syntax.specs.declared.tree.BinaryOp.{BinaryOp}
use Rattle.cxx_syntax.specs.declared.tree.BinaryOp.TheVariants as binary
use Rattle.cxx_syntax.specs.declared.tree.Right.TheVariants as right
use Rattle.cxx_syntax.specs.declared.tree.Statement.{Statement}
use Rattle.cxx_syntax.specs.declared.tree.StatementKind.{StatementKind}
use Rattle.cxx_syntax.specs.declared.tree.StatementKind as kind
use Rattle.cxx_syntax.specs.Operands.{spot_of, PointerReads, a_name, a_this, OperandReads, name_operand, this_operand, an_index, no_index, a_part, DotsRead, no_dot, a_dot, PartsRead, some_parts, PlaceReads, a_place, no_more_operands, one_more_operand, no_arguments, some_arguments, CallReads, a_call, a_qualified_call, cast_kind, a_named_cast, a_plain_cast, operator_of, an_operand, a_binary, a_not, a_place_read, an_address, a_call_read, a_new, a_cast, a_type_equal}
use Rattle.cxx_syntax.specs.Statements.{no_init, an_init, no_result, a_result, IsFirst, BeginsAt, a_write, a_call_statement}
use Rattle.cxx_readings.proofs.Meanings.{RightThen, UseReads, EndReads, Got, Gots, all_done, one_done, NextGots, Step}
use Rattle.cxx_readings.proofs.Fronts.{here, name_here, name_first, is_first, operand_front, constant_front}

-- the statement of a kind that begins at a token
abbrev pub made : StatementKind → Lexeme → Statement
made k l = record { kind = k; at = l.at; line = l.line }

pub begun : (k : StatementKind) (l : Lexeme) → BeginsAt (made k l) l k
begun k l = record { at = refl; line = refl; kind = refl }

-- the token at which a pointer begins
pub record First (all : List Lexeme) : Type 0 where
  pub token : Lexeme
  pub first : IsFirst token all

pub pointer_first : {text : List ℕ} {p : PointerText} {all ts : List Lexeme} → PointerReads text p all ts → First all
pointer_first (a_name {l = l} h e) = record { token = l; first = name_first h }
pointer_first (a_this {l = l} h e) = record { token = l; first = is_first h }

-- places
dots_of : {text : List ℕ} {ps : List PlacePart} {d : Lexeme} {ts a r : List Lexeme} → Is Dot d ts a → PartsRead text ps a r → DotsRead text ps ts r
dots_of h (some_parts p ds) = a_dot h p ds

-- what follows a place, at the token behind it
the_end : (text : List ℕ) (u : Use) (t : Sort) (l : Lexeme) (ts r : List Lexeme) (v s' : State) → l.sort ≡ t → NextGots text (look_up t (end_of u ∷ [])) v ts s' r → EndReads text u (l ∷ ts) r
the_end text Written Assign l ts r v s' is (one_done o _ _ (one_done z _ _ all_done)) = (l, z.0, o.0, ts, _, here is, o.1, z.1)
the_end text Written _ l ts r v s' is h = absurd h
the_end text Read Semicolon l ts r v s' is all_done = (l, here is)
the_end text Read _ l ts r v s' is h = absurd h

pub named : (text : List ℕ) (u : Use) → Step text (Named u)
named text u OpenBracket l ts r s v s' is (one_done n _ _ (one_done z _ _ (one_done d _ _ all_done))) =
    λ m all h. (record { name = spot_of text m; index = Some (n.0.value, n.0.at) } ∷ d.0, d.1, some_parts (a_part h (an_index (here is) n.1 z.1 refl) refl) d.2, d.3)
named text u Dot l ts r s v s' is (one_done n _ _ (one_done g _ _ all_done)) =
    λ m all h. (let x = g n.0 _ n.1 in (record { name = spot_of text m; index = None } ∷ x.0, x.1, some_parts (a_part h no_index refl) (dots_of (here is) x.2), x.3))
named text u t l ts r s v s' is h =
    λ m all i. (record { name = spot_of text m; index = None } ∷ [], l ∷ ts, some_parts (a_part i no_index refl) no_dot, the_end text u t l ts r v s' is h)

pub tail : (text : List ℕ) (u : Use) → Step text (Tail u)
tail text u Dot l ts r s v s' is (one_done n _ _ (one_done g _ _ all_done)) = let x = g n.0 _ n.1 in (x.0, x.1, dots_of (here is) x.2, x.3)
tail text u t l ts r s v s' is h = ([], l ∷ ts, no_dot, the_end text u t l ts r v s' is h)

-- a place or a call in what it is part of
used_place : {text : List ℕ} (u : Use) (p : PlaceText) (all a r : List Lexeme) → First all → PlaceReads text p all a → EndReads text u a r → UseReads text u all r
used_place Written p all a r f h (e, z, v, b, c, i, o, j) = (made (kind.Write p v) f.token, a_write f.first h i o j (begun (kind.Write p v) f.token))
used_place Read p all a r f h (z, j) = (right.Place p, _, z, a_place_read h, j)

used_call : {text : List ℕ} (u : Use) (x : CallText) (z : Lexeme) {all a r : List Lexeme} → First all → CallReads text x all a → Is Semicolon z a r → UseReads text u all r
used_call Written x z f h j = (made (kind.Call x) f.token, a_call_statement f.first h j (begun (kind.Call x) f.token))
used_call Read x z f h j = (right.Call x, _, z, a_call_read h, j)

pub member : (text : List ℕ) (u : Use) → Step text (Member u)
member text u OpenParen l ts r s v s' is (one_done g _ _ (one_done z _ _ all_done)) =
    λ p all a b w n hp hw hn. (let x : CallText = record { pointer = p; «class» = None; name = spot_of text n; arguments = g.0 } in
    used_call u x z.0 (pointer_first hp) (a_call {x = x} hp hw hn (here is) g.3 g.4 refl refl) z.1)
member text u DoubleColon l ts r s v s' is (one_done m _ _ (one_done o _ _ (one_done g _ _ (one_done z _ _ all_done)))) =
    λ p all a b w n hp hw hn. (let x : CallText = record { pointer = p; «class» = Some (spot_of text n); name = spot_of text m.0; arguments = g.0 } in
    used_call u x z.0 (pointer_first hp) (a_qualified_call {x = x} hp hw hn (here is) m.1 o.1 g.3 g.4 refl refl) z.1)
member text u t l ts r s v s' is h =
    λ p all a b w n hp hw hn. (let g = named text u t l ts r s v s' is h n b hn in
    let x : PlaceText = record { pointer = p; parts = g.0 } in
    used_place u x all g.1 r (pointer_first hp) (a_place {x = x} hp hw g.2) g.3)

pub read_place : (text : List ℕ) → Step text ReadPlaceEnd
read_place text Name l ts r s v s' is (one_done w _ _ (one_done n _ _ (one_done g _ _ all_done))) = let x = g n.0 _ n.1 in (record { pointer = pointer.Name (spot_of text l); parts = x.0 }, x.1, x.3.0, a_place (a_name (name_here (ap is_name is)) refl) w.1 x.2, x.3.1)
read_place text OwnName l ts r s v s' is (one_done w _ _ (one_done n _ _ (one_done g _ _ all_done))) = let x = g n.0 _ n.1 in (record { pointer = pointer.Name (spot_of text l); parts = x.0 }, x.1, x.3.0, a_place (a_name (name_here (ap is_name is)) refl) w.1 x.2, x.3.1)
read_place text This l ts r s v s' is (one_done w _ _ (one_done n _ _ (one_done g _ _ all_done))) = let x = g n.0 _ n.1 in (record { pointer = pointer.This l.at; parts = x.0 }, x.1, x.3.0, a_place (a_this (here is) refl) w.1 x.2, x.3.1)
read_place text _ l ts r s v s' is h = absurd h

-- arguments
pub more_arguments : (text : List ℕ) → Step text MoreArgumentsEnd
more_arguments text CloseParen l ts r s v s' is all_done = ([], l ∷ ts, l, no_more_operands, here is)
more_arguments text Comma l ts r s v s' is (one_done o _ _ (one_done g _ _ all_done)) = (o.0 ∷ g.0, g.1, g.2, one_more_operand (here is) o.1 g.3, g.4)
more_arguments text _ l ts r s v s' is h = absurd h

arguments_of : {text : List ℕ} {all left r : List Lexeme} {state s' : State} (v : Operand) → OperandReads text v all left → Gots text (MoreArgumentsEnd ∷ []) state left s' r → Got text ArgumentsEnd state all s' r
arguments_of v h (one_done g _ _ all_done) = (v ∷ g.0, g.1, g.2, some_arguments h g.3, g.4)

pub some_or_no_arguments : (text : List ℕ) → Step text ArgumentsEnd
some_or_no_arguments text CloseParen l ts r s v s' is all_done = ([], l ∷ ts, l, no_arguments, here is)
some_or_no_arguments text t l ts r s v s' is h = let f = operand_front text t (MoreArgumentsEnd ∷ []) l ts r v s' is h in arguments_of f.operand f.reads f.more

-- results
result_of : {text : List ℕ} {all left r : List Lexeme} {state s' : State} (v : Operand) → OperandReads text v all left → Gots text (Only Semicolon ∷ []) state left s' r → Got text ResultEnd state all s' r
result_of v h (one_done z _ _ all_done) = (Some v, _, z.0, a_result h, z.1)

pub result : (text : List ℕ) → Step text ResultEnd
result text Semicolon l ts r s v s' is all_done = (None, l ∷ ts, l, no_result, here is)
result text t l ts r s v s' is h = let f = operand_front text t (Only Semicolon ∷ []) l ts r v s' is h in result_of f.operand f.reads f.more

-- right sides
two : (text : List ℕ) (o : BinaryOp) {t : Sort} {l : Lexeme} {ts r : List Lexeme} {v s' : State} → l.sort ≡ t → operator_of t ≡ Some o → Gots text (AnOperand ∷ Only Semicolon ∷ []) v ts s' r → (u : Operand) (all : List Lexeme) → OperandReads text u all (l ∷ ts) → RightThen text all r
two text o {l = l} is e (one_done w _ _ (one_done z _ _ all_done)) u all h = (right.Binary u o w.0, _, z.0, a_binary h (record { front = refl; operator = ap operator_of is ∙ e }) w.1, z.1)

pub after_operand : (text : List ℕ) → Step text AfterOperand
after_operand text Plus l ts r s v s' is h = two text binary.Add is refl h
after_operand text Minus l ts r s v s' is h = two text binary.Subtract is refl h
after_operand text Star l ts r s v s' is h = two text binary.Multiply is refl h
after_operand text Less l ts r s v s' is h = two text binary.Less is refl h
after_operand text LessEqual l ts r s v s' is h = two text binary.LessEqual is refl h
after_operand text Equal l ts r s v s' is h = two text binary.Equal is refl h
after_operand text NotEqual l ts r s v s' is h = two text binary.NotEqual is refl h
after_operand text Semicolon l ts r s v s' is all_done = λ u all h. (right.Operand u, l ∷ ts, l, an_operand h, here is)
after_operand text _ l ts r s v s' is h = absurd h

pub after_pointer : (text : List ℕ) → Step text AfterPointer
after_pointer text Arrow l ts r s v s' is (one_done n _ _ (one_done g _ _ all_done)) = λ p u all hp hu. g p all (l ∷ ts) ts l n.0 hp (here is) n.1
after_pointer text t l ts r s v s' is h = λ p u all hp hu. after_operand text t l ts r s v s' is h u all hu

constant_right : {text : List ℕ} {all left r : List Lexeme} {state s' : State} (u : Operand) → OperandReads text u all left → Gots text (AfterOperand ∷ []) state left s' r → RightThen text all r
constant_right {all = all} u h (one_done g _ _ all_done) = g u all h

pub right_read : (text : List ℕ) → Step text RightEnd
right_read text Name l ts r s v s' is (one_done g _ _ all_done) = g (pointer.Name (spot_of text l)) (operand.Name (spot_of text l)) (l ∷ ts) (a_name (name_here (ap is_name is)) refl) (name_operand (name_here (ap is_name is)) refl)
right_read text OwnName l ts r s v s' is (one_done g _ _ all_done) = g (pointer.Name (spot_of text l)) (operand.Name (spot_of text l)) (l ∷ ts) (a_name (name_here (ap is_name is)) refl) (name_operand (name_here (ap is_name is)) refl)
right_read text This l ts r s v s' is (one_done g _ _ all_done) = g (pointer.This l.at) (operand.This l.at) (l ∷ ts) (a_this (here is) refl) (this_operand (here is) refl)
right_read text Bang l ts r s v s' is (one_done o _ _ (one_done z _ _ all_done)) = (right.Not o.0, _, z.0, a_not (here is) o.1, z.1)
right_read text Ampersand l ts r s v s' is (one_done p _ _ all_done) = (right.Address p.0, p.1, p.2, an_address (here is) p.3, p.4)
right_read text New l ts r s v s' is (one_done n _ _ (one_done z _ _ all_done)) = (right.New (spot_of text n.0), _, z.0, a_new (here is) n.1 refl, z.1)
right_read text StaticCast l ts r s v s' is (one_done o _ _ (one_done n _ _ (one_done m _ _ (one_done g _ _ (one_done q _ _ (one_done p _ _ (one_done c _ _ (one_done z _ _ all_done)))))))) =
    (right.Cast (record { kind = cast.Static; target = spot_of text n.0; pointer = p.0 }), _, z.0, a_cast (a_named_cast (record { front = refl; cast = ap cast_kind is }) o.1 n.1 m.1 g.1 q.1 p.1 c.1 refl), z.1)
right_read text DynamicCast l ts r s v s' is (one_done o _ _ (one_done n _ _ (one_done m _ _ (one_done g _ _ (one_done q _ _ (one_done p _ _ (one_done c _ _ (one_done z _ _ all_done)))))))) =
    (right.Cast (record { kind = cast.Dynamic; target = spot_of text n.0; pointer = p.0 }), _, z.0, a_cast (a_named_cast (record { front = refl; cast = ap cast_kind is }) o.1 n.1 m.1 g.1 q.1 p.1 c.1 refl), z.1)
right_read text OpenParen l ts r s v s' is (one_done n _ _ (one_done m _ _ (one_done c _ _ (one_done p _ _ (one_done z _ _ all_done))))) =
    (right.Cast (record { kind = cast.Plain; target = spot_of text n.0; pointer = p.0 }), _, z.0, a_cast (a_plain_cast (here is) n.1 m.1 c.1 p.1 refl refl), z.1)
right_read text Typeid l ts r s v s' is (one_done o _ _ (one_done m _ _ (one_done p _ _ (one_done c _ _ (one_done q _ _ (one_done j _ _ (one_done u _ _ (one_done n _ _ (one_done y _ _ (one_done z _ _ all_done)))))))))) =
    (right.TypeEqual p.0 (spot_of text n.0), _, z.0, a_type_equal (here is) o.1 m.1 p.1 c.1 q.1 j.1 u.1 n.1 y.1 refl, z.1)
right_read text t l ts r s v s' is h = let f = constant_front text t (AfterOperand ∷ []) l ts r v s' is h in constant_right f.operand f.reads f.more

pub init : (text : List ℕ) → Step text InitEnd
init text Assign l ts r s v s' is (one_done g _ _ all_done) = (Some g.0, g.1, g.2, an_init (here is) g.3, g.4)
init text Semicolon l ts r s v s' is all_done = (None, l ∷ ts, l, no_init, here is)
init text _ l ts r s v s' is h = absurd h
