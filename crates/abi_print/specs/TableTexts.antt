-- The text of a class's tables.
use Rattle.std.specs.Prelude.{ℕ, ◌+◌, ◌<◌, Option, Some, None, List, [], ◌∷◌, ◌++◌, codes, length, slice_get, ℤ, pos, ◌+ℤ◌, ◌-ℤ◌}
use Rattle.std.specs.List.{find, flat_map}
use Rattle.std.specs.Fmt.{decimal, signed_decimal}
use Rattle.cxx_hierarchy.specs.declared.records.ClassId.{ClassId}
use Rattle.cxx_hierarchy.specs.declared.records.Function.{Function}
use Rattle.cxx_hierarchy.specs.Classes.{Classes}
use Rattle.cxx_subobject.specs.declared.Root.{Root}
use Rattle.cxx_subobject.specs.declared.Root.TheVariants.{Whole, Shared}
use Rattle.cxx_subobject.specs.declared.Subobject.{Subobject}
use Rattle.cxx_subobject.specs.Subobjects.{IsSubobject, same_subobject, class_of}
use Rattle.cxx_overrider.specs.declared.FunctionId.{FunctionId}
use Rattle.cxx_overrider.specs.Functions.{declaration_of}
use Rattle.abi_slots.specs.declared.words.CodeKind.{CodeKind}
use Rattle.abi_slots.specs.declared.words.CodeKind.TheVariants.{Plain, Complete, Deleting}
use Rattle.abi_slots.specs.declared.words.ThisAdjust.{ThisAdjust}
use Rattle.abi_slots.specs.declared.words.ReturnAdjust.{ReturnAdjust}
use Rattle.abi_slots.specs.declared.words.EntryWord.{EntryWord}
use Rattle.abi_slots.specs.declared.words.EntryWord.TheVariants.{Unused, Pure, Code}
use Rattle.abi_slots.specs.declared.words.TableWord.{TableWord}
use Rattle.abi_slots.specs.declared.words.TableWord.TheVariants.{Vcall, Vbase, Top, Info, Entry}
use Rattle.abi_slots.specs.declared.words.Table.{Table}
use Rattle.abi_slots.specs.declared.words.GroupName.{GroupName}
use Rattle.abi_slots.specs.declared.words.Group.{Group}
use Rattle.abi_slots.specs.declared.words.VttWord.{VttWord}
use Rattle.abi_slots.specs.declared.words.InfoBase.{InfoBase}
use Rattle.abi_slots.specs.declared.words.TypeInfo.{TypeInfo}
use Rattle.abi_slots.specs.declared.words.TypeInfo.TheVariants.{Plain as NoBases, Single, Many}
use Rattle.abi_print.specs.LayoutTexts.{declared_class_name}
use Rattle.abi_print.specs.Texts.{PlaceOf}

-- the view of a group is a subobject of a class of the hierarchy
pub record IsViewName (h : Classes) (name : GroupName) : Type 0 where
  pub known : name.complete.0 < length h
  pub valid : IsSubobject h name.complete name.view

-- functions

abbrev pub name_behind : List ℕ → Option (Function ClassId) → List ℕ
name_behind class (Some f) = f.name
name_behind class None = 126 ∷ class

-- a function behind its class, and a destructor as `C::~C`
abbrev pub function_text : Classes → FunctionId → List ℕ
function_text h f = declared_class_name h f.class ++ codes "::" ++ name_behind (declared_class_name h f.class) (declaration_of h f)

-- words

abbrev pub vcall_text : Option ℤ → List ℕ
vcall_text None = []
vcall_text (Some bytes) = codes " vcall " ++ signed_decimal bytes

abbrev pub this_text : Option ThisAdjust → List ℕ
this_text None = []
this_text (Some adjust) = codes " this " ++ signed_decimal adjust.constant ++ vcall_text adjust.vcall

abbrev pub vbase_text : Option ℤ → List ℕ
vbase_text None = []
vbase_text (Some bytes) = codes "vbase " ++ signed_decimal bytes ++ codes " "

abbrev pub return_text : Option ReturnAdjust → List ℕ
return_text None = []
return_text (Some adjust) = codes " return " ++ vbase_text adjust.vbase ++ signed_decimal adjust.constant

abbrev pub kind_text : CodeKind → List ℕ
kind_text Plain = codes "func "
kind_text Complete = codes "complete "
kind_text Deleting = codes "deleting "

abbrev pub entry_text : Classes → EntryWord → List ℕ
entry_text h Unused = codes "unused"
entry_text h (Pure f) = codes "pure " ++ function_text h f
entry_text h (Code f kind this result) = kind_text kind ++ function_text h f ++ this_text this ++ return_text result

abbrev pub word_text : Classes → TableWord → List ℕ
word_text h (Vcall distance f) = codes "vcall " ++ signed_decimal distance ++ codes " " ++ function_text h f
word_text h (Vbase distance v) = codes "vbase " ++ signed_decimal distance ++ codes " " ++ declared_class_name h v
word_text h (Top distance) = codes "top " ++ signed_decimal distance
word_text h (Info c) = codes "typeinfo " ++ declared_class_name h c
word_text h (Entry word) = entry_text h word

-- the words of a table behind their numbers, which count from the address point; the first has this number
abbrev pub words_text : Classes → ℤ → List TableWord → List ℕ
words_text h number [] = []
words_text h number (word ∷ words) = signed_decimal number ++ codes " " ++ word_text h word ++ codes "\n" ++ words_text h (number +ℤ pos 1) words

-- groups

-- a table: the class of its subobject, and that subobject's place in the complete object
abbrev pub table_name : Classes → Table → List ℕ
table_name h table = declared_class_name h table.class ++ codes "@" ++ decimal table.place

abbrev pub table_text : Classes → Table → List ℕ
table_text h table = codes "table " ++ table_name h table ++ codes "\n" ++ words_text h (pos 0 -ℤ pos table.before) table.words

abbrev pub optional_class_name : Classes → Option ClassId → List ℕ
optional_class_name h None = []
optional_class_name h (Some c) = declared_class_name h c

abbrev pub view_text : Classes → PlaceOf → ClassId → Subobject → List ℕ
view_text h place c x = optional_class_name h (class_of x) ++ codes "@" ++ decimal (place c x) ++ codes " in " ++ declared_class_name h c

abbrev pub name_by : Classes → PlaceOf → ClassId → Root → List ClassId → List ℕ
name_by h place c Whole (d ∷ []) = declared_class_name h c
name_by h place c Whole [] = view_text h place c (record { root = Whole; path = [] })
name_by h place c Whole (d ∷ e ∷ path) = view_text h place c (record { root = Whole; path = d ∷ e ∷ path })
name_by h place c (Shared v) path = view_text h place c (record { root = Shared v; path = path })

-- a group: the class of the complete object alone where its whole is the view, else the view's class and place before it
abbrev pub group_title : Classes → PlaceOf → GroupName → List ℕ
group_title h place name = name_by h place name.complete name.view.root name.view.path

abbrev pub group_text : Classes → PlaceOf → Group → List ℕ
group_text h place group = codes "group " ++ group_title h place group.name ++ codes "\n" ++ flat_map (table_text h) group.tables

-- the VTT

-- the group of the same class's complete object that has the view of a word
abbrev pub group_of : List Group → VttWord → Option Group
group_of groups word = find (λ (group : Group). same_subobject group.name.view word.group.view) groups

abbrev pub tables_in : Option Group → List Table
tables_in None = []
tables_in (Some group) = group.tables

abbrev pub table_in : Classes → Option Table → List ℕ
table_in h None = []
table_in h (Some table) = table_name h table

-- the table to which a word of the VTT points, and its group
abbrev pub target_text : Classes → PlaceOf → List Group → VttWord → List ℕ
target_text h place groups word = table_in h (slice_get (tables_in (group_of groups word)) word.table) ++ codes " of " ++ group_title h place word.group

-- the words of the VTT behind their numbers, of which the first is this
abbrev pub targets_text : Classes → PlaceOf → List Group → ℕ → List VttWord → List ℕ
targets_text h place groups number [] = []
targets_text h place groups number (word ∷ words) = decimal number ++ codes " " ++ target_text h place groups word ++ codes "\n" ++ targets_text h place groups (number + 1) words

-- the VTT of a class, and nothing where it has none
abbrev pub vtt_text : Classes → PlaceOf → ClassId → List Group → List VttWord → List ℕ
vtt_text h place c groups [] = []
vtt_text h place c groups (word ∷ words) = codes "vtt " ++ declared_class_name h c ++ codes " " ++ decimal (length (word ∷ words)) ++ codes "\n" ++ targets_text h place groups 0 (word ∷ words)

-- type information

abbrev pub base_text : Classes → InfoBase → List ℕ
base_text h base = codes "base " ++ declared_class_name h base.class ++ codes " " ++ signed_decimal base.offset_flags ++ codes "\n"

abbrev pub info_text : Classes → TypeInfo → List ℕ
info_text h NoBases = codes " class\n"
info_text h (Single base) = codes " si " ++ declared_class_name h base ++ codes "\n"
info_text h (Many flags bases) = codes " vmi flags " ++ decimal flags ++ codes " bases " ++ decimal (length bases) ++ codes "\n" ++ flat_map (base_text h) bases

abbrev pub class_info_text : Classes → ClassId → TypeInfo → List ℕ
class_info_text h c info = codes "typeinfo " ++ declared_class_name h c ++ info_text h info

-- all together

-- the group of the whole, the VTT, and the groups of the other views
abbrev pub groups_text : Classes → PlaceOf → ClassId → List Group → List VttWord → List Group → List ℕ
groups_text h place c all vtt [] = []
groups_text h place c all vtt (group ∷ groups) = group_text h place group ++ vtt_text h place c all vtt ++ flat_map (group_text h place) groups

-- the tables of a class: its groups, of which the first is that of the whole, its VTT, and its type information
abbrev pub tables_text : Classes → PlaceOf → ClassId → List Group → List VttWord → TypeInfo → List ℕ
tables_text h place c groups vtt info = groups_text h place c groups vtt groups ++ class_info_text h c info
