-- The text of what a run of the whole language tells.
use Rattle.std.specs.Prelude.{Bool, not, Option, Some, None, List, ℕ, [], ◌∷◌, ◌++◌, codes, filter, if◌then◌else◌}
use Rattle.std.specs.Option.{option_map_or}
use Rattle.std.specs.List.{flat_map}
use Rattle.std.specs.Fmt.{signed_decimal}
use Rattle.cxx_hierarchy.specs.Classes.{Classes}
use Rattle.cxx_subobject.specs.declared.locations.Location.{Location}
use Rattle.path_model.specs.declared.outs.Out.{Out}
use Rattle.path_model.specs.declared.outs.Out.TheVariants.{Number, Pointer, TypeName, Dump, Call, Built, Ending}
use Rattle.path_model.specs.Outs.{is_traced}
use Rattle.abi_sound.specs.Places.{Places}
use Rattle.abi_print.specs.LayoutTexts.{declared_class_name}
use Rattle.abi_print.specs.TableTexts.{function_text}
use Rattle.text_told.specs.Fields.{NamesPart, part_text}
use Rattle.text_told.specs.Dumps.{AreDumpedLeaves, dump_text}

abbrev pub NamesPartOrNull : Classes → Option Location → Type 0
NamesPartOrNull h None = Unit {0}
NamesPartOrNull h (Some at) = NamesPart h at

-- what is told names parts that are there
abbrev pub IsTold : Classes → Out → Type 0
IsTold h (Number z) = Unit {0}
IsTold h (Pointer at) = NamesPartOrNull h at
IsTold h (TypeName c) = Unit {0}
IsTold h (Dump n c leaves) = AreDumpedLeaves h c leaves
IsTold h (Call f at) = NamesPart h at
IsTold h (Built c at) = NamesPart h at
IsTold h (Ending c at) = NamesPart h at

-- a pointer: `null`, or the object and the place in it to which it points
abbrev pub pointer_text : Classes → Places → Option Location → List ℕ
pointer_text h l to = option_map_or (λ at. part_text h l at) to (codes "null")

-- what is told, without the line feed at its end
abbrev pub line_text : Classes → Places → Out → List ℕ
line_text h l (Number z) = signed_decimal z
line_text h l (Pointer at) = pointer_text h l at
line_text h l (TypeName c) = declared_class_name h c
line_text h l (Dump n c leaves) = dump_text h l n c leaves
line_text h l (Call f at) = codes "call " ++ function_text h f ++ codes " " ++ part_text h l at
line_text h l (Built c at) = codes "built " ++ declared_class_name h c ++ codes " " ++ part_text h l at
line_text h l (Ending c at) = codes "ending " ++ declared_class_name h c ++ codes " " ++ part_text h l at

-- the text of what is told: a line, or the lines of a dump
abbrev pub out_text : Classes → Places → Out → List ℕ
out_text h l out = line_text h l out ++ 10 ∷ []

-- what is told without a trace too
abbrev pub printed : List Out → List Out
printed outs = filter (λ out. not (is_traced out)) outs

-- what a run shows: all that it tells where it is traced, else what is printed
abbrev pub outs_to_show : Bool → List Out → List Out
outs_to_show trace outs = if trace then outs else printed outs

-- the text of what is shown, in order
abbrev pub text_of : Classes → Places → List Out → List ℕ
text_of h l outs = flat_map (out_text h l) outs
