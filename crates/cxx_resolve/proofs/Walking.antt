-- The equations of the walk.
use Rattle.std.proofs.Common.{◌≡◌, ℕ, Option, Some, None, Result, Ok, Err, map, ap, sym, ◌∙◌, refl}
use Rattle.cxx_hierarchy.specs.declared.records.ValueType.{ValueType}
use Rattle.cxx_hierarchy.specs.NameTables.{Text}
use Rattle.cxx_syntax.specs.declared.tree.Spot.{Spot}
use Rattle.cxx_syntax.specs.declared.tree.PointerText.{PointerText}
use Rattle.cxx_syntax.specs.declared.tree.PlaceText.{PlaceText}
use Rattle.cxx_syntax.specs.declared.tree.CallText.{CallText}
use Rattle.cxx_syntax.specs.declared.tree.Right.{Right}
use Rattle.cxx_syntax.specs.declared.tree.Operand.{Operand}
use Rattle.cxx_syntax.specs.declared.tree.BodyTree.{BodyTree, out-BodyTree, fold_out-BodyTree}
use Rattle.cxx_syntax.specs.declared.tree.Statement.{Statement, fold_out-Statement}
use Rattle.cxx_syntax.specs.declared.tree.StatementKind.{StatementKind, StatementKind-F, If', None', Some', roll-StatementKind, map-StatementKind, fold-roll-StatementKind}
use Rattle.cxx_syntax.specs.declared.tree.StatementKind.TheVariants.{rolls-Declare, rolls-Assign, rolls-Write, rolls-Copy, rolls-Call, rolls-Delete, rolls-If, rolls-While, rolls-Return, rolls-Print, rolls-PrintType, rolls-PrintView, rolls-Dump}
use Rattle.cxx_syntax.specs.declared.tree.StatementKind.TheOpen as layer
use Rattle.cxx_syntax.specs.declared.tree.StatementKind as kind
use Rattle.cxx_program.specs.declared.statement.TypedKind.{TypedKind}
use Rattle.cxx_expression.specs.declared.faults.Fault.{Fault}
use Rattle.cxx_expression.specs.declared.scene.Scene.{Scene}
use Rattle.cxx_resolve.specs.declared.draft.Draft.{Draft}
use Rattle.cxx_resolve.specs.Statements.{assign_of, write_of, copy_of, call_statement, delete_of, returned_kind, print_of, print_type_of, print_view_of, dump_of, with_scenes}
use Rattle.cxx_resolve.specs.Walks.{KindMeaning, Meaning, kind_step, statement_step, block_step, kind_meaning, statement_meaning, block_meaning, sizes, walk_all, plain, declaration, branch, loop, finished, finished_scene, in_scene}

pub block_is : (b : BodyTree) → block_meaning b ≡ record { size = sizes (map statement_meaning (out-BodyTree b).statements.items); walk = walk_all (map statement_meaning (out-BodyTree b).statements.items) }
block_is = fold_out-BodyTree KindMeaning Meaning Meaning kind_step block_step statement_step

pub statement_is : (s : Statement) → statement_meaning s ≡ record { size = (kind_meaning s.kind).size; walk = λ h e n next d. (kind_meaning s.kind).walk h e s.at s.line n next d }
statement_is = fold_out-Statement KindMeaning Meaning Meaning kind_step block_step statement_step

pub layer_is : (k : StatementKind-F StatementKind BodyTree Statement) → kind_meaning (roll-StatementKind k) ≡ kind_step (map-StatementKind StatementKind BodyTree Statement KindMeaning Meaning Meaning kind_meaning block_meaning statement_meaning k)
layer_is = fold-roll-StatementKind KindMeaning Meaning Meaning kind_step block_step statement_step

-- one equation a kind
pub declare_is : (ty : ValueType Text) (at : ℕ) (x : Spot) (init : Option Right) → kind_meaning (kind.Declare ty at x init) ≡ declaration ty at x init
declare_is ty at x init = ap kind_meaning (sym (rolls-Declare ty at x init)) ∙ layer_is (layer.Declare ty at x init)

pub assign_is : (x : Spot) (r : Right) → kind_meaning (kind.Assign x r) ≡ plain (λ h e s at. assign_of h e s at x r)
assign_is x r = ap kind_meaning (sym (rolls-Assign x r)) ∙ layer_is (layer.Assign x r)

pub write_is : (place : PlaceText) (x : Operand) → kind_meaning (kind.Write place x) ≡ plain (λ h e s at. write_of h e s at place x)
write_is place x = ap kind_meaning (sym (rolls-Write place x)) ∙ layer_is (layer.Write place x)

pub copy_is : (to source : PointerText) → kind_meaning (kind.Copy to source) ≡ plain (λ h e s at. copy_of e s at to source)
copy_is to source = ap kind_meaning (sym (rolls-Copy to source)) ∙ layer_is (layer.Copy to source)

pub call_is : (text : CallText) → kind_meaning (kind.Call text) ≡ plain (λ h e s at. call_statement h e s at text)
call_is text = ap kind_meaning (sym (rolls-Call text)) ∙ layer_is (layer.Call text)

pub delete_is : (x : PointerText) → kind_meaning (kind.Delete x) ≡ plain (λ h e s at. delete_of e s at x)
delete_is x = ap kind_meaning (sym (rolls-Delete x)) ∙ layer_is (layer.Delete x)

pub if_is : (x : Operand) (b : BodyTree) → kind_meaning (If' x b None') ≡ branch x (block_meaning b) None
if_is x b = ap kind_meaning (sym (rolls-If x b None)) ∙ layer_is (layer.If x b None)

pub if_else_is : (x : Operand) (b c : BodyTree) → kind_meaning (If' x b (Some' c)) ≡ branch x (block_meaning b) (Some (block_meaning c))
if_else_is x b c = ap kind_meaning (sym (rolls-If x b (Some c))) ∙ layer_is (layer.If x b (Some c))

pub while_is : (x : Operand) (b : BodyTree) → kind_meaning (kind.While x b) ≡ loop x (block_meaning b)
while_is x b = ap kind_meaning (sym (rolls-While x b)) ∙ layer_is (layer.While x b)

pub return_is : (x : Option Operand) → kind_meaning (kind.Return x) ≡ plain (λ h e s at. returned_kind h e s at x)
return_is x = ap kind_meaning (sym (rolls-Return x)) ∙ layer_is (layer.Return x)

pub print_is : (x : Operand) → kind_meaning (kind.Print x) ≡ plain (λ h e s at. print_of e s at x)
print_is x = ap kind_meaning (sym (rolls-Print x)) ∙ layer_is (layer.Print x)

pub print_type_is : (x : PointerText) → kind_meaning (kind.PrintType x) ≡ plain (λ h e s at. print_type_of h e s at x)
print_type_is x = ap kind_meaning (sym (rolls-PrintType x)) ∙ layer_is (layer.PrintType x)

pub print_view_is : (x : PointerText) → kind_meaning (kind.PrintView x) ≡ plain (λ h e s at. print_view_of h e s at x)
print_view_is x = ap kind_meaning (sym (rolls-PrintView x)) ∙ layer_is (layer.PrintView x)

pub dump_is : (x : PointerText) → kind_meaning (kind.Dump x) ≡ plain (λ h e s at. dump_of e s at x)
dump_is x = ap kind_meaning (sym (rolls-Dump x)) ∙ layer_is (layer.Dump x)

declared_here : (worst : Option Fault) (k : Result TypedKind Fault) (s : Scene) (line next : ℕ) (d : Draft) → finished_scene worst (with_scenes s k) line next d ≡ finished worst k line next (in_scene s d)
declared_here (Some f) k s line next d = refl
declared_here None (Err f) s line next d = refl
declared_here None (Ok k) s line next d = refl

-- a declaration that is put behind those so far, in the scene behind it
pub declared_line : (worst : Option Fault) (k : Result TypedKind Fault) (typed : Result (TypedKind × Scene) Fault) (s : Scene) (line next : ℕ) (d : Draft) →
    typed ≡ with_scenes s k → finished_scene worst typed line next d ≡ finished worst k line next (in_scene s d)
declared_line worst k typed s line next d e = ap (λ (t : Result (TypedKind × Scene) Fault). finished_scene worst t line next d) e ∙ declared_here worst k s line next d
