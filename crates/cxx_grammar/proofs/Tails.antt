-- Tasks in their parts: what a task does at a token, by other tasks.
use Rattle.std.proofs.Common.{◌≡◌, true, false, List, [], ◌∷◌, ◌++◌, Some, refl, sym, subst}
use Rattle.cxx_grammar.specs.declared.sort.Sort.{Sort}
use Rattle.cxx_grammar.specs.declared.sort.Sort.TheVariants.{Struct, Boolean, Char, Short, Int, Long, Signed, Unsigned, This, True, False, DynamicCast, Typeid, Name, OwnName, Number, Zero, OpenParen, CloseParen, OpenBracket, Semicolon, DoubleColon, Comma, Star, Assign, Equal, NotEqual, Arrow, Dot, Less, LessEqual, Plus, Minus}
use Rattle.cxx_grammar.specs.declared.sort.Lexeme.{Lexeme}
use Rattle.cxx_grammar.specs.Sorts.{is_same, is_name, is_number}
use Rattle.cxx_grammar.specs.Table.{Use, Written, Read, Task, Only, AName, AConstant, AnOperand, APointer, UnsignedName, LongName, RightEnd, ReadPlaceEnd, AfterOperand, AfterPointer, Member, Named, Tail, ArgumentsEnd, MoreArgumentsEnd, InitEnd, ResultEnd, AfterName, PrintEnd, StatementsEnd, after, end_tasks, scalar_rest, is_scalar_word, is_operator, is_pointer, is_constant}
use Rattle.cxx_grammar.specs.Event.{State, admit, refusal}
use Rattle.cxx_grammar.specs.invariants.Run.{go_on, run, Outcome}

-- At a token other than "." what follows a place is left.
place_ends_at : (u : Use) (l : Lexeme) (ts : List Lexeme) (s : State) (k : List Task) → is_same Dot l.sort ≡ false → run (l ∷ ts) s (Tail u ∷ k) ≡ run (l ∷ ts) s (end_tasks u ++ k)
place_ends_at Written l ts s k h = by_sort l.sort h where
  by_sort : (t : Sort) → is_same Dot t ≡ false → go_on l (after (Tail Written) t) (admit t s) k (run ts) ≡ go_on l (after (Only Assign) t) (Some s) (AnOperand ∷ Only Semicolon ∷ k) (run ts)
  by_sort Dot h = absurd (cc)
  by_sort _ h = refl
place_ends_at Read l ts s k h = by_sort l.sort h where
  by_sort : (t : Sort) → is_same Dot t ≡ false → go_on l (after (Tail Read) t) (admit t s) k (run ts) ≡ go_on l (after (Only Semicolon) t) (Some s) k (run ts)
  by_sort Dot h = absurd (cc)
  by_sort _ h = refl

pub place_ends : (rest : List Lexeme) (u : Use) (l : Lexeme) (ts : List Lexeme) (s : State) (k : List Task) → rest ≡ l ∷ ts → is_same Dot l.sort ≡ false → run rest s (Tail u ∷ k) ≡ run rest s (end_tasks u ++ k)
place_ends rest u l ts s k e h0 = subst (λ w. run w s (Tail u ∷ k) ≡ run w s (end_tasks u ++ k)) (sym e) (place_ends_at u l ts s k h0)

-- At a token other than "[" no index stands.
no_index_at : (u : Use) (l : Lexeme) (ts : List Lexeme) (s : State) (k : List Task) → is_same OpenBracket l.sort ≡ false → run (l ∷ ts) s (Named u ∷ k) ≡ run (l ∷ ts) s (Tail u ∷ k)
no_index_at u l ts s k h = by_sort u l.sort h where
  by_sort : (u : Use) (t : Sort) → is_same OpenBracket t ≡ false → go_on l (after (Named u) t) (admit t s) k (run ts) ≡ go_on l (after (Tail u) t) (admit t s) k (run ts)
  by_sort Written OpenBracket h = absurd (cc)
  by_sort Written _ h = refl
  by_sort Read OpenBracket h = absurd (cc)
  by_sort Read _ h = refl

pub no_index : (rest : List Lexeme) (u : Use) (l : Lexeme) (ts : List Lexeme) (s : State) (k : List Task) → rest ≡ l ∷ ts → is_same OpenBracket l.sort ≡ false → run rest s (Named u ∷ k) ≡ run rest s (Tail u ∷ k)
no_index rest u l ts s k e h0 = subst (λ w. run w s (Named u ∷ k) ≡ run w s (Tail u ∷ k)) (sym e) (no_index_at u l ts s k h0)

-- At a token other than "(" and "::" a member is part of a place.
no_call_at : (u : Use) (l : Lexeme) (ts : List Lexeme) (s : State) (k : List Task) → is_same OpenParen l.sort ≡ false → is_same DoubleColon l.sort ≡ false → run (l ∷ ts) s (Member u ∷ k) ≡ run (l ∷ ts) s (Named u ∷ k)
no_call_at u l ts s k h i = by_sort u l.sort h i where
  by_sort : (u : Use) (t : Sort) → is_same OpenParen t ≡ false → is_same DoubleColon t ≡ false → go_on l (after (Member u) t) (admit t s) k (run ts) ≡ go_on l (after (Named u) t) (admit t s) k (run ts)
  by_sort Written OpenParen h i = absurd (cc)
  by_sort Written DoubleColon h i = absurd (cc)
  by_sort Written _ h i = refl
  by_sort Read OpenParen h i = absurd (cc)
  by_sort Read DoubleColon h i = absurd (cc)
  by_sort Read _ h i = refl

pub no_call : (rest : List Lexeme) (u : Use) (l : Lexeme) (ts : List Lexeme) (s : State) (k : List Task) → rest ≡ l ∷ ts → is_same OpenParen l.sort ≡ false → is_same DoubleColon l.sort ≡ false → run rest s (Member u ∷ k) ≡ run rest s (Named u ∷ k)
no_call rest u l ts s k e h0 h1 = subst (λ w. run w s (Member u ∷ k) ≡ run w s (Named u ∷ k)) (sym e) (no_call_at u l ts s k h0 h1)

-- At a token that is no operator a right side ends.
no_operator_at : (l : Lexeme) (ts : List Lexeme) (s : State) (k : List Task) → is_operator l.sort ≡ false → run (l ∷ ts) s (AfterOperand ∷ k) ≡ run (l ∷ ts) s (Only Semicolon ∷ k)
no_operator_at l ts s k h = by_sort l.sort h where
  by_sort : (t : Sort) → is_operator t ≡ false → go_on l (after AfterOperand t) (admit t s) k (run ts) ≡ go_on l (after (Only Semicolon) t) (Some s) k (run ts)
  by_sort Plus h = absurd (cc)
  by_sort Minus h = absurd (cc)
  by_sort Star h = absurd (cc)
  by_sort Less h = absurd (cc)
  by_sort LessEqual h = absurd (cc)
  by_sort Equal h = absurd (cc)
  by_sort NotEqual h = absurd (cc)
  by_sort _ h = refl

pub no_operator : (rest : List Lexeme) (l : Lexeme) (ts : List Lexeme) (s : State) (k : List Task) → rest ≡ l ∷ ts → is_operator l.sort ≡ false → run rest s (AfterOperand ∷ k) ≡ run rest s (Only Semicolon ∷ k)
no_operator rest l ts s k e h0 = subst (λ w. run w s (AfterOperand ∷ k) ≡ run w s (Only Semicolon ∷ k)) (sym e) (no_operator_at l ts s k h0)

operator_at : (l : Lexeme) (ts : List Lexeme) (s : State) (k : List Task) → is_operator l.sort ≡ true → run (l ∷ ts) s (AfterOperand ∷ k) ≡ run ts s (AnOperand ∷ Only Semicolon ∷ k)
operator_at l ts s k h = by_sort l.sort h where
  by_sort : (t : Sort) → is_operator t ≡ true → go_on l (after AfterOperand t) (admit t s) k (run ts) ≡ run ts s (AnOperand ∷ Only Semicolon ∷ k)
  by_sort Plus h = refl
  by_sort Minus h = refl
  by_sort Star h = refl
  by_sort Less h = refl
  by_sort LessEqual h = refl
  by_sort Equal h = refl
  by_sort NotEqual h = refl
  by_sort _ h = absurd (cc)

pub operator : (rest : List Lexeme) (l : Lexeme) (ts : List Lexeme) (s : State) (k : List Task) → rest ≡ l ∷ ts → is_operator l.sort ≡ true → run rest s (AfterOperand ∷ k) ≡ run ts s (AnOperand ∷ Only Semicolon ∷ k)
operator rest l ts s k e h = subst (λ w. run w s (AfterOperand ∷ k) ≡ run ts s (AnOperand ∷ Only Semicolon ∷ k)) (sym e) (operator_at l ts s k h)

-- At a token other than "->" a name or "this" is an operand.
no_arrow_at : (l : Lexeme) (ts : List Lexeme) (s : State) (k : List Task) → is_same Arrow l.sort ≡ false → run (l ∷ ts) s (AfterPointer ∷ k) ≡ run (l ∷ ts) s (AfterOperand ∷ k)
no_arrow_at l ts s k h = by_sort l.sort h where
  by_sort : (t : Sort) → is_same Arrow t ≡ false → go_on l (after AfterPointer t) (admit t s) k (run ts) ≡ go_on l (after AfterOperand t) (admit t s) k (run ts)
  by_sort Arrow h = absurd (cc)
  by_sort _ h = refl

pub no_arrow : (rest : List Lexeme) (l : Lexeme) (ts : List Lexeme) (s : State) (k : List Task) → rest ≡ l ∷ ts → is_same Arrow l.sort ≡ false → run rest s (AfterPointer ∷ k) ≡ run rest s (AfterOperand ∷ k)
no_arrow rest l ts s k e h0 = subst (λ w. run w s (AfterPointer ∷ k) ≡ run w s (AfterOperand ∷ k)) (sym e) (no_arrow_at l ts s k h0)

-- Without "=" a declaration ends.
no_init_at : (l : Lexeme) (ts : List Lexeme) (s : State) (k : List Task) → is_same Assign l.sort ≡ false → run (l ∷ ts) s (InitEnd ∷ k) ≡ run (l ∷ ts) s (Only Semicolon ∷ k)
no_init_at l ts s k h = by_sort l.sort h where
  by_sort : (t : Sort) → is_same Assign t ≡ false → go_on l (after InitEnd t) (admit t s) k (run ts) ≡ go_on l (after (Only Semicolon) t) (Some s) k (run ts)
  by_sort Assign h = absurd (cc)
  by_sort _ h = refl

pub no_init : (rest : List Lexeme) (l : Lexeme) (ts : List Lexeme) (s : State) (k : List Task) → rest ≡ l ∷ ts → is_same Assign l.sort ≡ false → run rest s (InitEnd ∷ k) ≡ run rest s (Only Semicolon ∷ k)
no_init rest l ts s k e h0 = subst (λ w. run w s (InitEnd ∷ k) ≡ run w s (Only Semicolon ∷ k)) (sym e) (no_init_at l ts s k h0)

-- What a "return" gives before its ";".
result_begins_at : (l : Lexeme) (ts : List Lexeme) (s : State) (k : List Task) → is_same Semicolon l.sort ≡ false → run (l ∷ ts) s (ResultEnd ∷ k) ≡ run (l ∷ ts) s (AnOperand ∷ Only Semicolon ∷ k)
result_begins_at l ts s k h = by_sort l.sort h where
  by_sort : (t : Sort) → is_same Semicolon t ≡ false → go_on l (after ResultEnd t) (admit t s) k (run ts) ≡ go_on l (after AnOperand t) (admit t s) (Only Semicolon ∷ k) (run ts)
  by_sort Semicolon h = absurd (cc)
  by_sort _ h = refl

pub result_begins : (rest : List Lexeme) (l : Lexeme) (ts : List Lexeme) (s : State) (k : List Task) → rest ≡ l ∷ ts → is_same Semicolon l.sort ≡ false → run rest s (ResultEnd ∷ k) ≡ run rest s (AnOperand ∷ Only Semicolon ∷ k)
result_begins rest l ts s k e h0 = subst (λ w. run w s (ResultEnd ∷ k) ≡ run w s (AnOperand ∷ Only Semicolon ∷ k)) (sym e) (result_begins_at l ts s k h0)

-- The first argument of a call.
arguments_begin_at : (l : Lexeme) (ts : List Lexeme) (s : State) (k : List Task) → is_same CloseParen l.sort ≡ false → run (l ∷ ts) s (ArgumentsEnd ∷ k) ≡ run (l ∷ ts) s (AnOperand ∷ MoreArgumentsEnd ∷ k)
arguments_begin_at l ts s k h = by_sort l.sort h where
  by_sort : (t : Sort) → is_same CloseParen t ≡ false → go_on l (after ArgumentsEnd t) (admit t s) k (run ts) ≡ go_on l (after AnOperand t) (admit t s) (MoreArgumentsEnd ∷ k) (run ts)
  by_sort CloseParen h = absurd (cc)
  by_sort _ h = refl

pub arguments_begin : (rest : List Lexeme) (l : Lexeme) (ts : List Lexeme) (s : State) (k : List Task) → rest ≡ l ∷ ts → is_same CloseParen l.sort ≡ false → run rest s (ArgumentsEnd ∷ k) ≡ run rest s (AnOperand ∷ MoreArgumentsEnd ∷ k)
arguments_begin rest l ts s k e h0 = subst (λ w. run w s (ArgumentsEnd ∷ k) ≡ run w s (AnOperand ∷ MoreArgumentsEnd ∷ k)) (sym e) (arguments_begin_at l ts s k h0)

-- What "print" prints, where it is no type and no view.
print_operand_at : (l : Lexeme) (ts : List Lexeme) (s : State) (k : List Task) → is_same Typeid l.sort ≡ false → is_same DynamicCast l.sort ≡ false → run (l ∷ ts) s (PrintEnd ∷ k) ≡ run (l ∷ ts) s (AnOperand ∷ Only CloseParen ∷ Only Semicolon ∷ k)
print_operand_at l ts s k h i = by_sort l.sort h i where
  by_sort : (t : Sort) → is_same Typeid t ≡ false → is_same DynamicCast t ≡ false → go_on l (after PrintEnd t) (admit t s) k (run ts) ≡ go_on l (after AnOperand t) (admit t s) (Only CloseParen ∷ Only Semicolon ∷ k) (run ts)
  by_sort Typeid h i = absurd (cc)
  by_sort DynamicCast h i = absurd (cc)
  by_sort _ h i = refl

pub print_operand : (rest : List Lexeme) (l : Lexeme) (ts : List Lexeme) (s : State) (k : List Task) → rest ≡ l ∷ ts → is_same Typeid l.sort ≡ false → is_same DynamicCast l.sort ≡ false → run rest s (PrintEnd ∷ k) ≡ run rest s (AnOperand ∷ Only CloseParen ∷ Only Semicolon ∷ k)
print_operand rest l ts s k e h0 h1 = subst (λ w. run w s (PrintEnd ∷ k) ≡ run w s (AnOperand ∷ Only CloseParen ∷ Only Semicolon ∷ k)) (sym e) (print_operand_at l ts s k h0 h1)

-- A name or "this" begins a right side.
pub pointer_right : (l : Lexeme) (ts : List Lexeme) (s : State) (k : List Task) → is_pointer l.sort ≡ true → run (l ∷ ts) s (RightEnd ∷ k) ≡ run ts s (AfterPointer ∷ k)
pointer_right l ts s k h = by_sort l.sort h where
  by_sort : (t : Sort) → is_pointer t ≡ true → go_on l (after RightEnd t) (admit t s) k (run ts) ≡ run ts s (AfterPointer ∷ k)
  by_sort Name h = refl
  by_sort OwnName h = refl
  by_sort This h = refl
  by_sort _ h = absurd (cc)

-- A constant begins a right side.
pub constant_right_at : (l : Lexeme) (ts : List Lexeme) (s : State) (k : List Task) → is_constant l.sort ≡ true → run (l ∷ ts) s (RightEnd ∷ k) ≡ run (l ∷ ts) s (AConstant ∷ AfterOperand ∷ k)
constant_right_at l ts s k h = by_sort l.sort h where
  by_sort : (t : Sort) → is_constant t ≡ true → go_on l (after RightEnd t) (admit t s) k (run ts) ≡ go_on l (after AConstant t) (admit t s) (AfterOperand ∷ k) (run ts)
  by_sort Number h = refl
  by_sort Zero h = refl
  by_sort True h = refl
  by_sort False h = refl
  by_sort Minus h = refl
  by_sort _ h = absurd (cc)

pub constant_right : (rest : List Lexeme) (l : Lexeme) (ts : List Lexeme) (s : State) (k : List Task) → rest ≡ l ∷ ts → is_constant l.sort ≡ true → run rest s (RightEnd ∷ k) ≡ run rest s (AConstant ∷ AfterOperand ∷ k)
constant_right rest l ts s k e h0 = subst (λ w. run w s (RightEnd ∷ k) ≡ run w s (AConstant ∷ AfterOperand ∷ k)) (sym e) (constant_right_at l ts s k h0)

-- A constant is an operand.
constant_operand_at : (l : Lexeme) (ts : List Lexeme) (s : State) (k : List Task) → is_pointer l.sort ≡ false → run (l ∷ ts) s (AnOperand ∷ k) ≡ run (l ∷ ts) s (AConstant ∷ k)
constant_operand_at l ts s k h = by_sort l.sort h where
  by_sort : (t : Sort) → is_pointer t ≡ false → go_on l (after AnOperand t) (admit t s) k (run ts) ≡ go_on l (after AConstant t) (admit t s) k (run ts)
  by_sort Name h = absurd (cc)
  by_sort OwnName h = absurd (cc)
  by_sort This h = absurd (cc)
  by_sort _ h = refl

pub constant_operand : (rest : List Lexeme) (l : Lexeme) (ts : List Lexeme) (s : State) (k : List Task) → rest ≡ l ∷ ts → is_pointer l.sort ≡ false → run rest s (AnOperand ∷ k) ≡ run rest s (AConstant ∷ k)
constant_operand rest l ts s k e h0 = subst (λ w. run w s (AnOperand ∷ k) ≡ run w s (AConstant ∷ k)) (sym e) (constant_operand_at l ts s k h0)

pub pointer_operand : (l : Lexeme) (ts : List Lexeme) (s : State) (k : List Task) → is_pointer l.sort ≡ true → run (l ∷ ts) s (AnOperand ∷ k) ≡ run ts s k
pointer_operand l ts s k h = by_sort l.sort h where
  by_sort : (t : Sort) → is_pointer t ≡ true → go_on l (after AnOperand t) (admit t s) k (run ts) ≡ run ts s k
  by_sort Name h = refl
  by_sort OwnName h = refl
  by_sort This h = refl
  by_sort _ h = absurd (cc)

pub a_pointer : (l : Lexeme) (ts : List Lexeme) (s : State) (k : List Task) → is_pointer l.sort ≡ true → run (l ∷ ts) s (APointer ∷ k) ≡ run ts s k
a_pointer l ts s k h = by_sort l.sort h where
  by_sort : (t : Sort) → is_pointer t ≡ true → go_on l (after APointer t) (admit t s) k (run ts) ≡ run ts s k
  by_sort Name h = refl
  by_sort OwnName h = refl
  by_sort This h = refl
  by_sort _ h = absurd (cc)

pub no_pointer : (l : Lexeme) (ts : List Lexeme) (s : State) (k : List Task) → is_pointer l.sort ≡ false → run (l ∷ ts) s (APointer ∷ k) ≡ Outcome.Stopped (refusal l)
no_pointer l ts s k h = by_sort l.sort h where
  by_sort : (t : Sort) → is_pointer t ≡ false → go_on l (after APointer t) (admit t s) k (run ts) ≡ Outcome.Stopped (refusal l)
  by_sort Name h = absurd (cc)
  by_sort OwnName h = absurd (cc)
  by_sort This h = absurd (cc)
  by_sort _ h = refl

-- A place that a right side takes the address of.
pub read_place : (ts : List Lexeme) (s : State) (k : List Task) → run ts s (ReadPlaceEnd ∷ k) ≡ run ts s (APointer ∷ Only Arrow ∷ AName ∷ Named Read ∷ k)
read_place [] s k = refl
read_place (l ∷ ts) s k = by_sort l.sort where
  by_sort : (t : Sort) → go_on l (after ReadPlaceEnd t) (admit t s) k (run ts) ≡ go_on l (after APointer t) (admit t s) (Only Arrow ∷ AName ∷ Named Read ∷ k) (run ts)
  by_sort Struct = refl
  by_sort _ = refl

-- A scalar begins a declaration.
pub scalar_statement : (l : Lexeme) (ts : List Lexeme) (s : State) (k : List Task) → is_scalar_word l.sort ≡ true → run (l ∷ ts) s (StatementsEnd ∷ k) ≡ run ts s (scalar_rest l.sort ++ (InitEnd ∷ StatementsEnd ∷ k))
scalar_statement l ts s k h = by_sort l.sort h where
  by_sort : (t : Sort) → is_scalar_word t ≡ true → go_on l (after StatementsEnd t) (admit t s) k (run ts) ≡ run ts s (scalar_rest t ++ (InitEnd ∷ StatementsEnd ∷ k))
  by_sort Boolean h = refl
  by_sort Char h = refl
  by_sort Short h = refl
  by_sort Int h = refl
  by_sort Long h = refl
  by_sort Signed h = refl
  by_sort Unsigned h = refl
  by_sort _ h = absurd (cc)

-- A name begins a statement.
pub name_statement : (l : Lexeme) (ts : List Lexeme) (s : State) (k : List Task) → is_name l.sort ≡ true → run (l ∷ ts) s (StatementsEnd ∷ k) ≡ run ts s (AfterName ∷ StatementsEnd ∷ k)
name_statement l ts s k h = by_sort l.sort h where
  by_sort : (t : Sort) → is_name t ≡ true → go_on l (after StatementsEnd t) (admit t s) k (run ts) ≡ run ts s (AfterName ∷ StatementsEnd ∷ k)
  by_sort Name h = refl
  by_sort OwnName h = refl
  by_sort _ h = absurd (cc)

only_long_at : (l : Lexeme) (ts : List Lexeme) (s : State) (k : List Task) → is_same Long l.sort ≡ false → run (l ∷ ts) s (LongName ∷ k) ≡ run (l ∷ ts) s (AName ∷ k)
only_long_at l ts s k h = by_sort l.sort h where
  by_sort : (t : Sort) → is_same Long t ≡ false → go_on l (after LongName t) (admit t s) k (run ts) ≡ go_on l (after AName t) (admit t s) k (run ts)
  by_sort Long h = absurd (cc)
  by_sort _ h = refl

pub only_long : (rest : List Lexeme) (l : Lexeme) (ts : List Lexeme) (s : State) (k : List Task) → rest ≡ l ∷ ts → is_same Long l.sort ≡ false → run rest s (LongName ∷ k) ≡ run rest s (AName ∷ k)
only_long rest l ts s k e h0 = subst (λ w. run w s (LongName ∷ k) ≡ run w s (AName ∷ k)) (sym e) (only_long_at l ts s k h0)

-- A pointer that is no name is "this".
pub this_pointer : (t : Sort) → is_pointer t ≡ true → is_name t ≡ false → t ≡ This
this_pointer This h i = refl
this_pointer Name h i = absurd (cc)
this_pointer OwnName h i = absurd (cc)
this_pointer _ h i = absurd (cc)

-- A constant without a sign and a truth value is a number.
pub number_constant : (t : Sort) → is_constant t ≡ true → (t ≡ Minus → ⊥) → (t ≡ True → ⊥) → (t ≡ False → ⊥) → is_number t ≡ true
number_constant Number h a b c = refl
number_constant Zero h a b c = refl
number_constant Minus h a b c = absurd (a refl)
number_constant True h a b c = absurd (b refl)
number_constant False h a b c = absurd (c refl)
number_constant _ h a b c = absurd (cc)

pub no_constant : (l : Lexeme) (ts : List Lexeme) (s : State) (k : List Task) → is_constant l.sort ≡ false → run (l ∷ ts) s (AConstant ∷ k) ≡ Outcome.Stopped (refusal l)
no_constant l ts s k h = by_sort l.sort h where
  by_sort : (t : Sort) → is_constant t ≡ false → go_on l (after AConstant t) (admit t s) k (run ts) ≡ Outcome.Stopped (refusal l)
  by_sort Number h = absurd (cc)
  by_sort Zero h = absurd (cc)
  by_sort Minus h = absurd (cc)
  by_sort True h = absurd (cc)
  by_sort False h = absurd (cc)
  by_sort _ h = refl

-- A word of a scalar that is none of the others is "long".
pub long_word : (t : Sort) → is_scalar_word t ≡ true → (t ≡ Boolean → ⊥) → (t ≡ Char → ⊥) → (t ≡ Short → ⊥) → (t ≡ Int → ⊥) → (t ≡ Signed → ⊥) → (t ≡ Unsigned → ⊥) → t ≡ Long
long_word Long h a b c d e f = refl
long_word Boolean h a b c d e f = absurd (a refl)
long_word Char h a b c d e f = absurd (b refl)
long_word Short h a b c d e f = absurd (c refl)
long_word Int h a b c d e f = absurd (d refl)
long_word Signed h a b c d e f = absurd (e refl)
long_word Unsigned h a b c d e f = absurd (f refl)
long_word _ h a b c d e f = absurd (cc)

-- "unsigned" alone.
unsigned_alone_at : (l : Lexeme) (ts : List Lexeme) (s : State) (k : List Task) → (l.sort ≡ Char → ⊥) → (l.sort ≡ Short → ⊥) → (l.sort ≡ Int → ⊥) → (l.sort ≡ Long → ⊥) → run (l ∷ ts) s (UnsignedName ∷ k) ≡ run (l ∷ ts) s (AName ∷ k)
unsigned_alone_at l ts s k a b c d = by_sort l.sort a b c d where
  by_sort : (t : Sort) → (t ≡ Char → ⊥) → (t ≡ Short → ⊥) → (t ≡ Int → ⊥) → (t ≡ Long → ⊥) → go_on l (after UnsignedName t) (admit t s) k (run ts) ≡ go_on l (after AName t) (admit t s) k (run ts)
  by_sort Char a b c d = absurd (a refl)
  by_sort Short a b c d = absurd (b refl)
  by_sort Int a b c d = absurd (c refl)
  by_sort Long a b c d = absurd (d refl)
  by_sort _ a b c d = refl

pub unsigned_alone : (rest : List Lexeme) (l : Lexeme) (ts : List Lexeme) (s : State) (k : List Task) → rest ≡ l ∷ ts → (l.sort ≡ Char → ⊥) → (l.sort ≡ Short → ⊥) → (l.sort ≡ Int → ⊥) → (l.sort ≡ Long → ⊥) → run rest s (UnsignedName ∷ k) ≡ run rest s (AName ∷ k)
unsigned_alone rest l ts s k e a b c d = subst (λ w. run w s (UnsignedName ∷ k) ≡ run w s (AName ∷ k)) (sym e) (unsigned_alone_at l ts s k a b c d)

-- A "return" without an operand.
pub no_result : (rest : List Lexeme) (l : Lexeme) (ts : List Lexeme) (s : State) (k : List Task) → rest ≡ l ∷ ts → l.sort ≡ Semicolon → run rest s (ResultEnd ∷ k) ≡ run rest s (Only Semicolon ∷ k)
no_result rest l ts s k e h = subst (λ w. run w s (ResultEnd ∷ k) ≡ run w s (Only Semicolon ∷ k)) (sym e) (subst (λ t. go_on l (after ResultEnd t) (admit t s) k (run ts) ≡ go_on l (after (Only Semicolon) t) (Some s) k (run ts)) (sym h) refl)

-- A name may be a pointer.
pub name_pointer : (t : Sort) → is_name t ≡ true → is_pointer t ≡ true
name_pointer Name h = refl
name_pointer OwnName h = refl
name_pointer _ h = absurd (cc)
