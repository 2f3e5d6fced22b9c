-- What is told of a pointer to a member: its bytes, and what a call through it runs.
use Rattle.std.specs.Prelude.{ℕ, Bool, true, false, if◌then◌else◌, Option, Some, None, List, [], ◌++◌, codes}
use Rattle.std.specs.Fmt.{decimal}
use Rattle.hex.specs.Hex.{encode_lower}
use Rattle.cxx_hierarchy.specs.declared.records.ClassId.{ClassId}
use Rattle.cxx_hierarchy.specs.Classes.{Classes}
use Rattle.cxx_subobject.specs.declared.Subobject.{Subobject}
use Rattle.cxx_subobject.specs.Subobjects.{whole_of}
use Rattle.cxx_overrider.specs.declared.FunctionId.{FunctionId}
use Rattle.cxx_overrider.specs.declared.Overrider.{Overrider}
use Rattle.cxx_overrider.specs.Functions.{is_pure}
use Rattle.cxx_overrider.specs.Virtuals.{is_virtual}
use Rattle.cxx_search.specs.Searches.{final_in}
use Rattle.abi_sound.specs.Places.{Places}
use Rattle.abi_print.specs.TableTexts.{function_text}
use Rattle.abi_memptr.specs.declared.pointers.MemberPointer.{MemberPointer}
use Rattle.abi_memptr.specs.declared.pointers.MemberPointer.TheVariants.{NullData, Data, NullFunction, Function}
use Rattle.abi_memptr.specs.declared.answers.MemberAnswer.{MemberAnswer}
use Rattle.abi_memptr.specs.declared.answers.MemberAnswer.TheVariants.{Refused, Text}
use Rattle.abi_memptr.specs.Pointers.{MemberOutcome, refused, given, next_outcome, pointer_for}
use Rattle.abi_memptr.specs.PointerBytes.{data_place, word_bytes, entry_word}

-- the place of a data member, and the bytes of the pointer
abbrev pub data_text : ℕ → List ℕ
data_text place = codes "data " ++ decimal place ++ codes "\nbytes " ++ encode_lower (word_bytes place) ++ codes "\n"

-- the first word of a pointer to a virtual function
abbrev pub virtual_entry : Classes → Places → FunctionId → Option ℕ
virtual_entry h l f = if is_virtual h f then Some (entry_word h l f) else None

-- the first word as it is told: a number where the function is virtual, else the function whose code it names
abbrev pub first_text : Classes → FunctionId → Option ℕ → List ℕ
first_text h f (Some word) = codes "function virtual " ++ decimal word
first_text h f None = codes "function code " ++ function_text h f

-- the two words of a function
abbrev pub function_line : Classes → FunctionId → Option ℕ → ℕ → List ℕ
function_line h f entry adj = first_text h f entry ++ codes " adj " ++ decimal adj ++ codes "\n"

abbrev pub run_word : Bool → List ℕ
run_word false = codes "calls "
run_word true = codes "pure "

-- the function that a call runs, or would run if it were not pure, and the place of its subobject
abbrev pub run_line : Classes → Bool → FunctionId → ℕ → List ℕ
run_line h pure f place = run_word pure ++ function_text h f ++ codes " at " ++ decimal place ++ codes "\n"

abbrev pub overrider_line : Classes → Places → ClassId → Option Overrider → List ℕ
overrider_line h l d None = []
overrider_line h l d (Some o) = run_line h (is_pure h o.function) o.function (l.place d o.at)

-- what a call on a whole object of class d runs: the final overrider where the function is virtual, else the function itself
abbrev pub call_line : Classes → Places → ClassId → FunctionId → Subobject → Bool → List ℕ
call_line h l d f s true = overrider_line h l d (final_in h (whole_of d) s f)
call_line h l d f s false = run_line h false f (l.place d s)

-- the text of a pointer to a member of class d; there is none of null
abbrev pub member_pointer_text : Classes → Places → ClassId → MemberPointer → List ℕ
member_pointer_text h l d NullData = []
member_pointer_text h l d (Data c m s) = data_text (data_place l d c m s)
member_pointer_text h l d NullFunction = []
member_pointer_text h l d (Function f s) = function_line h f (virtual_entry h l f) (l.place d s) ++ call_line h l d f s (is_virtual h f)

-- the answer of `memptr K::m@D`: the text of the pointer to the member of k as one to a member of d, or the first rule that refuses it
abbrev pub answer_of : Classes → Places → ClassId → List ℕ → ClassId → MemberOutcome (List ℕ)
answer_of h l k name d = next_outcome (pointer_for h k name d) (λ v. given (member_pointer_text h l d v))

-- what an answer says
abbrev pub said : MemberAnswer → MemberOutcome (List ℕ)
said (Refused rule) = refused rule
said (Text text) = given text.items
