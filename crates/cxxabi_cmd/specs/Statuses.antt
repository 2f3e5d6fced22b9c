-- What each status prints, and its code.
use Rattle.std.specs.Prelude.{ℕ, ◌++◌, ◌∷◌, [], List, codes, ◌==◌, if◌then◌else◌}
use Rattle.std.specs.Fmt.{decimal}
use Rattle.cxx_hierarchy.specs.declared.stop.Rule.{Rule}
use Rattle.cxx_hierarchy.specs.declared.stop.Rule.TheVariants.{Lex, Syntax, UnknownClass, DuplicateClass, IncompleteClass, DuplicateBase, DuplicateMember, BadInitializer, AmbiguousName, NoSuchMember, ReturnMismatch, AmbiguousCovariant, TwoFinalOverriders, Abstract, AmbiguousBase, NotBase, DowncastVirtual, NotPolymorphic, TypeMismatch, Index, LeftOut, UnknownName, BadWidth, SharedPlace}
use Rattle.cxx_hierarchy.specs.Stops.{rule_no, limit_no}
use Rattle.cxxabi_cmd.specs.declared.status.InputRule.{InputRule}
use Rattle.cxxabi_cmd.specs.declared.status.InputRule.TheVariants.{F1, F2, F3, F4, F5, F6, F7, M1, M2, M3, M4, M5, A1, A2, I1, I2}
use Rattle.cxxabi_cmd.specs.declared.status.Status.{Status}
use Rattle.cxxabi_cmd.specs.declared.status.Status.TheVariants.{Done, Refused, BadInput, Usage, Undefined, OutOfSteps, Limit, ReadFault, WriteFault, NoMemory}

-- the exit status of the process
abbrev pub exit_status : Status → ℕ
exit_status Done = 0
exit_status (Refused rule at) = 1
exit_status (BadInput rule line) = 1
exit_status Usage = 2
exit_status (Undefined number line) = 3
exit_status OutOfSteps = 4
exit_status (Limit limit) = 5
exit_status ReadFault = 6
exit_status WriteFault = 7
exit_status NoMemory = 8

-- the printed name of a refusal of the source
abbrev pub name_of_rule : Rule → List ℕ
name_of_rule Lex = codes "Lex"
name_of_rule Syntax = codes "Syntax"
name_of_rule UnknownClass = codes "UnknownClass"
name_of_rule DuplicateClass = codes "DuplicateClass"
name_of_rule IncompleteClass = codes "IncompleteClass"
name_of_rule DuplicateBase = codes "DuplicateBase"
name_of_rule DuplicateMember = codes "DuplicateMember"
name_of_rule BadInitializer = codes "BadInitializer"
name_of_rule AmbiguousName = codes "AmbiguousName"
name_of_rule NoSuchMember = codes "NoSuchMember"
name_of_rule ReturnMismatch = codes "ReturnMismatch"
name_of_rule AmbiguousCovariant = codes "AmbiguousCovariant"
name_of_rule TwoFinalOverriders = codes "TwoFinalOverriders"
name_of_rule Abstract = codes "Abstract"
name_of_rule AmbiguousBase = codes "AmbiguousBase"
name_of_rule NotBase = codes "NotBase"
name_of_rule DowncastVirtual = codes "DowncastVirtual"
name_of_rule NotPolymorphic = codes "NotPolymorphic"
name_of_rule TypeMismatch = codes "TypeMismatch"
name_of_rule Index = codes "Index"
name_of_rule LeftOut = codes "LeftOut"
name_of_rule UnknownName = codes "UnknownName"
name_of_rule BadWidth = codes "BadWidth"
name_of_rule SharedPlace = codes "SharedPlace"

-- the number of a rule on what is given besides a source: a letter and a digit
abbrev pub input_no : InputRule → List ℕ
input_no F1 = codes "F1"
input_no F2 = codes "F2"
input_no F3 = codes "F3"
input_no F4 = codes "F4"
input_no F5 = codes "F5"
input_no F6 = codes "F6"
input_no F7 = codes "F7"
input_no M1 = codes "M1"
input_no M2 = codes "M2"
input_no M3 = codes "M3"
input_no M4 = codes "M4"
input_no M5 = codes "M5"
input_no A1 = codes "A1"
input_no A2 = codes "A2"
input_no I1 = codes "I1"
input_no I2 = codes "I2"

-- the printed name of such a rule
abbrev pub name_of_input : InputRule → List ℕ
name_of_input F1 = codes "Form"
name_of_input F2 = codes "Primary"
name_of_input F3 = codes "Place"
name_of_input F4 = codes "Align"
name_of_input F5 = codes "Inside"
name_of_input F6 = codes "Overlap"
name_of_input F7 = codes "Twice"
name_of_input M1 = codes "NoSuchMember"
name_of_input M2 = codes "BitField"
name_of_input M3 = codes "NotBase"
name_of_input M4 = codes "AmbiguousBase"
name_of_input M5 = codes "VirtualBase"
name_of_input A1 = codes "Abstract"
name_of_input A2 = codes "TooLarge"
name_of_input I1 = codes "UnknownClass"
name_of_input I2 = codes "Form"

-- the line that such a refusal names, and nothing where it names none
abbrev pub line_part : ℕ → List ℕ
line_part line = if line == 0 then [] else codes " line " ++ decimal line

-- the printed name of a refusal of a run, by its number from 1 to 12
abbrev pub name_of_undefined : ℕ → List ℕ
name_of_undefined n =
    if n == 1 then codes "NullUse" else
    (if n == 2 then codes "Dangling" else
    (if n == 3 then codes "NotReady" else
    (if n == 4 then codes "OutsideView" else
    (if n == 5 then codes "Unset" else
    (if n == 6 then codes "PureCall" else
    (if n == 7 then codes "BadDowncast" else
    (if n == 8 then codes "NonVirtualDelete" else
    (if n == 9 then codes "NotHeapObject" else
    (if n == 10 then codes "NotComplete" else
    (if n == 11 then codes "MissingReturn" else
    codes "Overflow"))))))))))

-- the line that ends an answer, or nothing; steps is the budget of the run
abbrev pub status_line : Status → ℕ → List ℕ
status_line Done steps = []
status_line (Refused rule at) steps = codes "refused E" ++ decimal (rule_no rule) ++ codes " " ++ name_of_rule rule ++ codes " at " ++ decimal at ++ 10 ∷ []
status_line (BadInput rule line) steps = codes "refused " ++ input_no rule ++ codes " " ++ name_of_input rule ++ line_part line ++ 10 ∷ []
status_line Usage steps = codes "usage" ++ 10 ∷ []
status_line (Undefined number line) steps = codes "undefined U" ++ decimal number ++ codes " " ++ name_of_undefined number ++ codes " line " ++ decimal line ++ 10 ∷ []
status_line OutOfSteps steps = codes "out of steps " ++ decimal steps ++ 10 ∷ []
status_line (Limit limit) steps = codes "limit L" ++ decimal (limit_no limit) ++ 10 ∷ []
status_line ReadFault steps = []
status_line WriteFault steps = []
status_line NoMemory steps = []
