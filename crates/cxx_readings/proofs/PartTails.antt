-- What holds of a list and of its tails holds behind the parts of a class.
use Rattle.std.proofs.Common.{ℕ, Bool, Option, List, subst}
use Rattle.cxx_grammar.specs.declared.sort.Lexeme.{Lexeme}
use Rattle.cxx_hierarchy.specs.declared.records.Base.{Base}
use Rattle.cxx_hierarchy.specs.declared.records.Param.{Param}
use Rattle.cxx_hierarchy.specs.declared.records.FieldType.{FieldType}
use Rattle.cxx_hierarchy.specs.declared.records.ReturnType.{ReturnType}
use Rattle.cxx_syntax.specs.declared.source_text.Init.{Init}
use Rattle.cxx_syntax.specs.declared.part.ClassPart.{ClassPart}
use Rattle.cxx_syntax.specs.Parts.{Spelled, IsAccess, BaseReads, a_base, a_virtual_base, an_access_base, a_virtual_access_base, an_access_virtual_base, MoreBasesRead, no_more_bases, one_more_base, BasesRead, no_bases, some_bases, FieldTypeReads, a_value_field, an_object_field, CountReads, no_count, a_count, ReturnReads, a_void_return, a_value_return, ParamReads, a_param, MoreParamsRead, no_more_params, one_more_param, ParamsRead, no_params, some_params, InitReads, a_member_init, MoreInitsRead, no_more_inits, one_more_init, InitsRead, no_inits, some_inits, VirtualReads, not_virtual, a_virtual, PartReads, a_label, a_field, a_bit_field, a_function, a_pure_function, a_constructor, a_destructor, PartsRead, no_part, one_part}
use Rattle.cxx_readings.proofs.StatementTails.{body_tail, scalar_tail, value_tail}
use Rattle.cxx_readings.proofs.RightTails.{Falls, constant_tail, is_tail, name_tail, number_tail}

access_tail : {P : List Lexeme → Type 0} {s : Bool} {l : Lexeme} {ts rest : List Lexeme} → Falls P → IsAccess s l ts rest → P ts → P rest
access_tail {P} {l = l} {rest = rest} falls i p = falls l rest (subst P i.front p)

pub base_tail : {P : List Lexeme → Type 0} {text : List ℕ} {default : Bool} {x : Base Spelled} {ts rest : List Lexeme} → Falls P → BaseReads text default x ts rest → P ts → P rest
base_tail falls (a_base a _) p = name_tail falls a p
base_tail falls (a_virtual_base a b _) p = name_tail falls b (is_tail falls a p)
base_tail falls (an_access_base a b _) p = name_tail falls b (access_tail falls a p)
base_tail falls (a_virtual_access_base a b c _) p = name_tail falls c (access_tail falls b (is_tail falls a p))
base_tail falls (an_access_virtual_base a b c _) p = name_tail falls c (is_tail falls b (access_tail falls a p))

pub more_bases_tail : {P : List Lexeme → Type 0} {text : List ℕ} {default : Bool} {x : List (Base Spelled)} {ts rest : List Lexeme} → Falls P → MoreBasesRead text default x ts rest → P ts → P rest
more_bases_tail _ no_more_bases p = p
more_bases_tail falls (one_more_base a b c) p = more_bases_tail falls c (base_tail falls b (is_tail falls a p))

pub bases_tail : {P : List Lexeme → Type 0} {text : List ℕ} {default : Bool} {x : List (Base Spelled)} {ts rest : List Lexeme} → Falls P → BasesRead text default x ts rest → P ts → P rest
bases_tail _ no_bases p = p
bases_tail falls (some_bases a b c) p = more_bases_tail falls c (base_tail falls b (is_tail falls a p))

pub field_type_tail : {P : List Lexeme → Type 0} {text : List ℕ} {x : FieldType Spelled} {ts rest : List Lexeme} → Falls P → FieldTypeReads text x ts rest → P ts → P rest
field_type_tail falls (a_value_field a) p = value_tail falls a p
field_type_tail falls (an_object_field a _) p = name_tail falls a p

pub count_tail : {P : List Lexeme → Type 0} {x : Option ℕ} {ts rest : List Lexeme} → Falls P → CountReads x ts rest → P ts → P rest
count_tail _ no_count p = p
count_tail falls (a_count a b c _) p = is_tail falls c (number_tail falls b (is_tail falls a p))

pub return_tail : {P : List Lexeme → Type 0} {text : List ℕ} {x : ReturnType Spelled} {ts rest : List Lexeme} → Falls P → ReturnReads text x ts rest → P ts → P rest
return_tail falls (a_void_return a) p = is_tail falls a p
return_tail falls (a_value_return a) p = value_tail falls a p

pub param_tail : {P : List Lexeme → Type 0} {text : List ℕ} {x : Param Spelled} {ts rest : List Lexeme} → Falls P → ParamReads text x ts rest → P ts → P rest
param_tail falls (a_param _ b c _) p = name_tail falls c (value_tail falls b p)

pub more_params_tail : {P : List Lexeme → Type 0} {text : List ℕ} {x : List (Param Spelled)} {ts rest : List Lexeme} → Falls P → MoreParamsRead text x ts rest → P ts → P rest
more_params_tail _ no_more_params p = p
more_params_tail falls (one_more_param a b c) p = more_params_tail falls c (param_tail falls b (is_tail falls a p))

pub params_tail : {P : List Lexeme → Type 0} {text : List ℕ} {x : List (Param Spelled)} {ts rest : List Lexeme} → Falls P → ParamsRead text x ts rest → P ts → P rest
params_tail _ no_params p = p
params_tail falls (some_params a b) p = more_params_tail falls b (param_tail falls a p)

pub init_tail : {P : List Lexeme → Type 0} {text : List ℕ} {x : Init} {ts rest : List Lexeme} → Falls P → InitReads text x ts rest → P ts → P rest
init_tail falls (a_member_init a b c d _) p = is_tail falls d (constant_tail falls c (is_tail falls b (name_tail falls a p)))

pub more_inits_tail : {P : List Lexeme → Type 0} {text : List ℕ} {x : List Init} {ts rest : List Lexeme} → Falls P → MoreInitsRead text x ts rest → P ts → P rest
more_inits_tail _ no_more_inits p = p
more_inits_tail falls (one_more_init a b c) p = more_inits_tail falls c (init_tail falls b (is_tail falls a p))

pub inits_tail : {P : List Lexeme → Type 0} {text : List ℕ} {x : List Init} {ts rest : List Lexeme} → Falls P → InitsRead text x ts rest → P ts → P rest
inits_tail _ no_inits p = p
inits_tail falls (some_inits a b c) p = more_inits_tail falls c (init_tail falls b (is_tail falls a p))

pub virtual_tail : {P : List Lexeme → Type 0} {x : Bool} {ts rest : List Lexeme} → Falls P → VirtualReads x ts rest → P ts → P rest
virtual_tail _ not_virtual p = p
virtual_tail falls (a_virtual a) p = is_tail falls a p

pub class_part_tail : {P : List Lexeme → Type 0} {text : List ℕ} {is_public : Bool} {x : ClassPart} {ts rest : List Lexeme} → Falls P → PartReads text is_public x ts rest → P ts → P rest
class_part_tail falls (a_label a b) p = is_tail falls b (access_tail falls a p)
class_part_tail falls (a_field _ b c d e _ _) p = is_tail falls e (count_tail falls d (name_tail falls c (field_type_tail falls b p)))
class_part_tail falls (a_bit_field _ b c d e f _ _) p = is_tail falls f (number_tail falls e (is_tail falls d (name_tail falls c (scalar_tail falls b p))))
class_part_tail falls (a_function a _ c d e f g h _ _) p = body_tail falls h (is_tail falls g (params_tail falls f (is_tail falls e (name_tail falls d (return_tail falls c (virtual_tail falls a p))))))
class_part_tail falls (a_pure_function a _ c d e f g h i j _ _) p = is_tail falls j (is_tail falls i (is_tail falls h (is_tail falls g (params_tail falls f (is_tail falls e (name_tail falls d (return_tail falls c (is_tail falls a p))))))))
class_part_tail falls (a_constructor a b c d e _) p = body_tail falls e (inits_tail falls d (is_tail falls c (is_tail falls b (is_tail falls a p))))
class_part_tail falls (a_destructor a b c d e f _) p = body_tail falls f (is_tail falls e (is_tail falls d (is_tail falls c (is_tail falls b (virtual_tail falls a p)))))

pub class_parts_tail : {P : List Lexeme → Type 0} {text : List ℕ} {x : Bool} {y : List ClassPart} {ts rest : List Lexeme} → Falls P → PartsRead text x y ts rest → P ts → P rest
class_parts_tail _ no_part p = p
class_parts_tail falls (one_part a b) p = class_parts_tail falls b (class_part_tail falls a p)
