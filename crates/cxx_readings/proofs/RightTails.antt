-- What holds of a list of tokens and of the tails of each such list holds of what stands behind a right side.
use Rattle.std.proofs.Common.{ℕ, Option, List, ◌∷◌, subst}
use Rattle.cxx_grammar.specs.declared.sort.Lexeme.{Lexeme}
use Rattle.cxx_syntax.specs.declared.tree.PointerText.{PointerText}
use Rattle.cxx_syntax.specs.declared.tree.Constant.{Constant}
use Rattle.cxx_syntax.specs.declared.tree.Operand.{Operand}
use Rattle.cxx_syntax.specs.declared.tree.PlacePart.{PlacePart}
use Rattle.cxx_syntax.specs.declared.tree.PlaceText.{PlaceText}
use Rattle.cxx_syntax.specs.declared.tree.CallText.{CallText}
use Rattle.cxx_syntax.specs.declared.tree.CastText.{CastText}
use Rattle.cxx_syntax.specs.declared.tree.Right.{Right}
use Rattle.cxx_syntax.specs.Operands.{IsCastWord, IsOperator, PointerReads, a_name, a_this, ConstantReads, a_number, a_negative, a_true, a_false, OperandReads, name_operand, this_operand, constant_operand, IndexReads, no_index, an_index, PartReads, a_part, DotsRead, no_dot, a_dot, PartsRead, some_parts, PlaceReads, a_place, MoreRead, no_more_operands, one_more_operand, ArgumentsRead, no_arguments, some_arguments, CallReads, a_call, a_qualified_call, CastReads, a_named_cast, a_plain_cast, RightReads, an_operand, a_binary, a_not, a_place_read, an_address, a_call_read, a_new, a_cast, a_type_equal}
use Rattle.cxx_grammar.specs.declared.sort.Sort.{Sort}
use Rattle.cxx_grammar.specs.Front.{Is, IsName, IsNumber}
use Rattle.cxx_syntax.specs.declared.tree.CastKind.{CastKind}
use Rattle.cxx_syntax.specs.declared.tree.BinaryOp.{BinaryOp}

-- what holds of a list holds of its tail
abbrev pub Falls : (List Lexeme → Type 0) → Type 0
Falls P = (l : Lexeme) (ts : List Lexeme) → P (l ∷ ts) → P ts

pub is_tail : {P : List Lexeme → Type 0} {s : Sort} {l : Lexeme} {ts rest : List Lexeme} → Falls P → Is s l ts rest → P ts → P rest
is_tail {P} {l = l} {rest = rest} falls i p = falls l rest (subst P i.front p)

pub name_tail : {P : List Lexeme → Type 0} {l : Lexeme} {ts rest : List Lexeme} → Falls P → IsName l ts rest → P ts → P rest
name_tail {P} {l = l} {rest = rest} falls i p = falls l rest (subst P i.front p)

pub number_tail : {P : List Lexeme → Type 0} {l : Lexeme} {ts rest : List Lexeme} → Falls P → IsNumber l ts rest → P ts → P rest
number_tail {P} {l = l} {rest = rest} falls i p = falls l rest (subst P i.front p)

pub cast_word_tail : {P : List Lexeme → Type 0} {s : CastKind} {l : Lexeme} {ts rest : List Lexeme} → Falls P → IsCastWord s l ts rest → P ts → P rest
cast_word_tail {P} {l = l} {rest = rest} falls i p = falls l rest (subst P i.front p)

pub operator_tail : {P : List Lexeme → Type 0} {s : BinaryOp} {l : Lexeme} {ts rest : List Lexeme} → Falls P → IsOperator s l ts rest → P ts → P rest
operator_tail {P} {l = l} {rest = rest} falls i p = falls l rest (subst P i.front p)

pub pointer_tail : {P : List Lexeme → Type 0} {text : List ℕ} {x : PointerText} {ts rest : List Lexeme} → Falls P → PointerReads text x ts rest → P ts → P rest
pointer_tail falls (a_name a _) p = name_tail falls a p
pointer_tail falls (a_this a _) p = is_tail falls a p

pub constant_tail : {P : List Lexeme → Type 0} {x : Constant} {ts rest : List Lexeme} → Falls P → ConstantReads x ts rest → P ts → P rest
constant_tail falls (a_number a _ _) p = number_tail falls a p
constant_tail falls (a_negative a b _ _) p = number_tail falls b (is_tail falls a p)
constant_tail falls (a_true a _) p = is_tail falls a p
constant_tail falls (a_false a _) p = is_tail falls a p

pub operand_tail : {P : List Lexeme → Type 0} {text : List ℕ} {x : Operand} {ts rest : List Lexeme} → Falls P → OperandReads text x ts rest → P ts → P rest
operand_tail falls (name_operand a _) p = name_tail falls a p
operand_tail falls (this_operand a _) p = is_tail falls a p
operand_tail falls (constant_operand a) p = constant_tail falls a p

pub index_tail : {P : List Lexeme → Type 0} {x : Option (ℕ × ℕ)} {ts rest : List Lexeme} → Falls P → IndexReads x ts rest → P ts → P rest
index_tail _ no_index p = p
index_tail falls (an_index a b c _) p = is_tail falls c (number_tail falls b (is_tail falls a p))

pub part_tail : {P : List Lexeme → Type 0} {text : List ℕ} {x : PlacePart} {ts rest : List Lexeme} → Falls P → PartReads text x ts rest → P ts → P rest
part_tail falls (a_part a b _) p = index_tail falls b (name_tail falls a p)

pub dots_tail : {P : List Lexeme → Type 0} {text : List ℕ} {x : List PlacePart} {ts rest : List Lexeme} → Falls P → DotsRead text x ts rest → P ts → P rest
dots_tail _ no_dot p = p
dots_tail falls (a_dot a b c) p = dots_tail falls c (part_tail falls b (is_tail falls a p))

pub parts_tail : {P : List Lexeme → Type 0} {text : List ℕ} {x : List PlacePart} {ts rest : List Lexeme} → Falls P → PartsRead text x ts rest → P ts → P rest
parts_tail falls (some_parts a b) p = dots_tail falls b (part_tail falls a p)

pub place_tail : {P : List Lexeme → Type 0} {text : List ℕ} {x : PlaceText} {ts rest : List Lexeme} → Falls P → PlaceReads text x ts rest → P ts → P rest
place_tail falls (a_place a b c) p = parts_tail falls c (is_tail falls b (pointer_tail falls a p))

pub more_tail : {P : List Lexeme → Type 0} {text : List ℕ} {x : List Operand} {ts rest : List Lexeme} → Falls P → MoreRead text x ts rest → P ts → P rest
more_tail _ no_more_operands p = p
more_tail falls (one_more_operand a b c) p = more_tail falls c (operand_tail falls b (is_tail falls a p))

pub arguments_tail : {P : List Lexeme → Type 0} {text : List ℕ} {x : List Operand} {ts rest : List Lexeme} → Falls P → ArgumentsRead text x ts rest → P ts → P rest
arguments_tail _ no_arguments p = p
arguments_tail falls (some_arguments a b) p = more_tail falls b (operand_tail falls a p)

pub call_tail : {P : List Lexeme → Type 0} {text : List ℕ} {x : CallText} {ts rest : List Lexeme} → Falls P → CallReads text x ts rest → P ts → P rest
call_tail falls (a_call a b c d e f _ _) p = is_tail falls f (arguments_tail falls e (is_tail falls d (name_tail falls c (is_tail falls b (pointer_tail falls a p)))))
call_tail falls (a_qualified_call a b c d e f g h _ _) p = is_tail falls h (arguments_tail falls g (is_tail falls f (name_tail falls e (is_tail falls d (name_tail falls c (is_tail falls b (pointer_tail falls a p)))))))

pub cast_tail : {P : List Lexeme → Type 0} {text : List ℕ} {x : CastText} {ts rest : List Lexeme} → Falls P → CastReads text x ts rest → P ts → P rest
cast_tail falls (a_named_cast a b c d e f g h _) p = is_tail falls h (pointer_tail falls g (is_tail falls f (is_tail falls e (is_tail falls d (name_tail falls c (is_tail falls b (cast_word_tail falls a p)))))))
cast_tail falls (a_plain_cast a b c d e _ _) p = pointer_tail falls e (is_tail falls d (is_tail falls c (name_tail falls b (is_tail falls a p))))

pub right_tail : {P : List Lexeme → Type 0} {text : List ℕ} {x : Right} {ts rest : List Lexeme} → Falls P → RightReads text x ts rest → P ts → P rest
right_tail falls (an_operand a) p = operand_tail falls a p
right_tail falls (a_binary a b c) p = operand_tail falls c (operator_tail falls b (operand_tail falls a p))
right_tail falls (a_not a b) p = operand_tail falls b (is_tail falls a p)
right_tail falls (a_place_read a) p = place_tail falls a p
right_tail falls (an_address a b) p = place_tail falls b (is_tail falls a p)
right_tail falls (a_call_read a) p = call_tail falls a p
right_tail falls (a_new a b _) p = name_tail falls b (is_tail falls a p)
right_tail falls (a_cast a) p = cast_tail falls a p
right_tail falls (a_type_equal a b c d e f g h i j _) p = is_tail falls j (name_tail falls i (is_tail falls h (is_tail falls g (is_tail falls f (is_tail falls e (pointer_tail falls d (is_tail falls c (is_tail falls b (is_tail falls a p)))))))))
