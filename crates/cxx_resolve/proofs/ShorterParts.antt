-- What reads a part of a class leaves fewer tokens.
use Rattle.std.proofs.Common.{◌≡◌, ℕ, ◌+◌, ◌<◌, ◌≤◌, Bool, List, [], ◌∷◌, length, ap, arith, Option}
use Rattle.cxx_grammar.specs.declared.sort.Lexeme.{Lexeme}
use Rattle.cxx_hierarchy.specs.declared.records.Base.{Base}
use Rattle.cxx_hierarchy.specs.declared.records.Param.{Param}
use Rattle.cxx_hierarchy.specs.declared.records.FieldType.{FieldType}
use Rattle.cxx_hierarchy.specs.declared.records.ReturnType.{ReturnType}
use Rattle.cxx_syntax.specs.declared.tree.Constant.{Constant}
use Rattle.cxx_syntax.specs.declared.source_text.Init.{Init}
use Rattle.cxx_syntax.specs.Operands.{ConstantReads}
use Rattle.cxx_syntax.specs.Parts.{Spelled, BaseReads, a_base, a_virtual_base, an_access_base, a_virtual_access_base, an_access_virtual_base, MoreBasesRead, no_more_bases, one_more_base, BasesRead, no_bases, some_bases, FieldTypeReads, a_value_field, an_object_field, CountReads, no_count, a_count, ReturnReads, a_void_return, a_value_return, ParamReads, a_param, MoreParamsRead, no_more_params, one_more_param, ParamsRead, no_params, some_params, InitReads, a_member_init, MoreInitsRead, no_more_inits, one_more_init, InitsRead, no_inits, some_inits, VirtualReads, not_virtual, a_virtual}
use Rattle.cxx_resolve.proofs.Shorter.{one_less, value_less, constant_less}

base_less : {text : List ℕ} {default : Bool} {b : Base Spelled} {ts rest : List Lexeme} → BaseReads text default b ts rest → length rest < length ts
base_less (a_base n e) = one_less n.front
base_less (a_virtual_base v n e) = omega (arith, one_less v.front, one_less n.front)
base_less (an_access_base w n e) = omega (arith, one_less w.front, one_less n.front)
base_less (a_virtual_access_base v w n e) = omega (arith, one_less v.front, one_less w.front, one_less n.front)
base_less (an_access_virtual_base w v n e) = omega (arith, one_less w.front, one_less v.front, one_less n.front)

more_bases_less : {text : List ℕ} {default : Bool} {bs : List (Base Spelled)} {ts rest : List Lexeme} → MoreBasesRead text default bs ts rest → length rest ≤ length ts
more_bases_less no_more_bases = omega arith
more_bases_less (one_more_base k b bs) = omega (arith, one_less k.front, base_less b, more_bases_less bs)

pub bases_less : {text : List ℕ} {default : Bool} {bs : List (Base Spelled)} {ts rest : List Lexeme} → BasesRead text default bs ts rest → length rest ≤ length ts
bases_less no_bases = omega arith
bases_less (some_bases k b bs) = omega (arith, one_less k.front, base_less b, more_bases_less bs)

pub field_less : {text : List ℕ} {ty : FieldType Spelled} {ts rest : List Lexeme} → FieldTypeReads text ty ts rest → length rest < length ts
field_less (a_value_field v) = value_less v
field_less (an_object_field n e) = one_less n.front

pub count_less : {c : Option ℕ} {ts rest : List Lexeme} → CountReads c ts rest → length rest ≤ length ts
count_less no_count = omega arith
count_less (a_count o n c e) = omega (arith, one_less o.front, one_less n.front, one_less c.front)

pub return_less : {text : List ℕ} {r : ReturnType Spelled} {ts rest : List Lexeme} → ReturnReads text r ts rest → length rest < length ts
return_less (a_void_return k) = one_less k.front
return_less (a_value_return v) = value_less v

param_less : {text : List ℕ} {p : Param Spelled} {ts rest : List Lexeme} → ParamReads text p ts rest → length rest < length ts
param_less (a_param f v n e) = omega (arith, value_less v, one_less n.front)

more_params_less : {text : List ℕ} {ps : List (Param Spelled)} {ts rest : List Lexeme} → MoreParamsRead text ps ts rest → length rest ≤ length ts
more_params_less no_more_params = omega arith
more_params_less (one_more_param k p ps) = omega (arith, one_less k.front, param_less p, more_params_less ps)

pub params_less : {text : List ℕ} {ps : List (Param Spelled)} {ts rest : List Lexeme} → ParamsRead text ps ts rest → length rest ≤ length ts
params_less no_params = omega arith
params_less (some_params p ps) = omega (arith, param_less p, more_params_less ps)

init_less : {text : List ℕ} {i : Init} {ts rest : List Lexeme} → InitReads text i ts rest → length rest < length ts
init_less (a_member_init n o v z e) = omega (arith, one_less n.front, one_less o.front, constant_less v, one_less z.front)

more_inits_less : {text : List ℕ} {is : List Init} {ts rest : List Lexeme} → MoreInitsRead text is ts rest → length rest ≤ length ts
more_inits_less no_more_inits = omega arith
more_inits_less (one_more_init k i is) = omega (arith, one_less k.front, init_less i, more_inits_less is)

pub inits_less : {text : List ℕ} {is : List Init} {ts rest : List Lexeme} → InitsRead text is ts rest → length rest ≤ length ts
inits_less no_inits = omega arith
inits_less (some_inits k i is) = omega (arith, one_less k.front, init_less i, more_inits_less is)

pub virtual_less : {v : Bool} {ts rest : List Lexeme} → VirtualReads v ts rest → length rest ≤ length ts
virtual_less not_virtual = omega arith
virtual_less (a_virtual v) = omega (arith, one_less v.front)
