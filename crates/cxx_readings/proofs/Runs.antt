-- A run of the table that ends has read a source.
use Rattle.std.proofs.Common.{◌≡◌, ℕ, zero, suc, ◌+◌, ◌^◌, ◌<◌, ◌≤◌, ◌⊎◌, inl, inr, Bool, true, false, cond, nat_lt, List, [], ◌∷◌, ◌++◌, Option, Some, None, length, filter_map, flat_map, refl, sym, subst, ◌∙◌, arith}
use Rattle.cxx_text.specs.declared.token.Token.{Token}
use Rattle.cxx_text.specs.Cover.{AreTokens}
use Rattle.cxx_text.proofs.SomeTokens.{tokens_within}
use Rattle.cxx_grammar.specs.declared.sort.Sort.{Sort}
use Rattle.cxx_grammar.specs.declared.sort.Sort.TheVariants.{Struct, Main, OpenBlock, CloseBrace, End, Bad}
use Rattle.cxx_grammar.specs.declared.sort.Lexeme.{Lexeme}
use Rattle.cxx_grammar.specs.Front.{Is}
use Rattle.cxx_grammar.specs.Grammar.{In, source_form}
use Rattle.cxx_grammar.specs.Lexemes.{lexemes, source_start}
use Rattle.cxx_grammar.specs.Event.{State, at_start, sorts, admit, max_open_blocks, Event, DerivesPrefix}
use Rattle.cxx_grammar.specs.Table.{Task, Only, AName, ANumber, AConstant, AnOperand, APointer, UnsignedName, LongName, AParam, RightEnd, ReadPlaceEnd, AfterOperand, AfterPointer, Member, Named, Tail, ArgumentsEnd, MoreArgumentsEnd, InitEnd, ResultEnd, AfterName, PrintEnd, ABlock, StatementsEnd, ElseEnd, BaseAfterVirtual, BaseAfterAccess, ABase, BasesEnd, ClassTail, FieldEnd, ParamsEnd, MoreParamsEnd, AfterDeclared, AfterScalar, AfterType, AfterOwnName, AnInit, ConstructorEnd, InitsEnd, AfterVirtual, VirtualEnd, PartsEnd, AfterInt, ItemsEnd, after}
use Rattle.cxx_grammar.specs.invariants.Run.{Outcome, Done, Stopped, admits, go_on, run}
use Rattle.cxx_grammar.proofs.Prefix.{source_prefix, source_event, run_done}
use Rattle.cxx_grammar.proofs.Lexed.{ends, length-lexemes}
use Rattle.cxx_hierarchy.specs.declared.stop.Stop.{Stop}
use Rattle.cxx_syntax.specs.declared.tree.BodyTree.{BodyTree}
use Rattle.cxx_syntax.specs.declared.source_text.SourceText.{SourceText}
use Rattle.cxx_syntax.specs.declared.part.Item.{Item}
use Rattle.cxx_syntax.specs.Sources.{record_in, global_in, bodies_in, main_in, trees_in, bodies_before_main, AreItemsOf, SourceReads, a_source}
use Rattle.cxx_readings.proofs.Meanings.{Keeps, Got, Gots, all_done, one_done, NextGots}
use Rattle.cxx_readings.proofs.Fronts.{only, a_name_read, a_number_read, a_pointer_read, a_constant_read, an_operand_read, an_unsigned_read, a_long_read}
use Rattle.cxx_readings.proofs.Rights.{named, tail, member, read_place, more_arguments, some_or_no_arguments, result, after_operand, after_pointer, right_read, init}
use Rattle.cxx_readings.proofs.Statements.{after_name, print_read, statements, else_read, block}
use Rattle.cxx_readings.proofs.Parts.{base_after_virtual, base_after_access, base, bases, field_end, param, more_params, params, after_declared, after_scalar, after_type, after_own_name, init_read, inits_end, constructor_end, virtual_end, after_virtual, parts}
use Rattle.cxx_readings.proofs.Items.{class_tail, after_int, items}
use Rattle.foundation.specs.Limits.{source_limit}

-- a token keeps that a main was read
opened : (b : Bool) (s v : State) → cond b (Some (record { blocks = s.blocks + 1; main = s.main })) None ≡ Some v → Keeps s v
opened true s v e m = let same : s.main ≡ v.main = cc in sym same ∙ m
opened false s v e m = absurd (cc)

no_second : (b : Bool) (s v : State) → s.main ≡ b → cond b None (Some (record { blocks = s.blocks; main = true })) ≡ Some v → Keeps s v
no_second true s v c e m = absurd (cc)
no_second false s v c e m = absurd (cc)

admit_keeps : (t : Sort) (s v : State) → admit t s ≡ Some v → Keeps s v
admit_keeps OpenBlock s v e = opened (nat_lt s.blocks max_open_blocks) s v e
admit_keeps CloseBrace s v e = λ m. (let same : s.main ≡ v.main = cc in sym same ∙ m)
admit_keeps Main s v e = no_second s.main s v refl e
admit_keeps Struct s v e = λ m. (let same : s ≡ v = cc in subst (λ u. u.main ≡ true) same m)
admit_keeps _ s v e = λ m. (let same : s ≡ v = cc in subst (λ u. u.main ≡ true) same m)

admits_keeps : (m : Task) (t : Sort) (s v : State) → admits m t s ≡ Some v → Keeps s v
admits_keeps (Only u) t s v e = λ c. (let same : s ≡ v = cc in subst (λ w. w.main ≡ true) same c)
admits_keeps AName t s v e = admit_keeps t s v e
admits_keeps _ t s v e = admit_keeps t s v e

-- a task that takes a token
step : (text : List ℕ) (m : Task) (t : Sort) (l : Lexeme) (ts r : List Lexeme) (s v s' : State) → length (l ∷ ts) < 2 ^ 63 → l.sort ≡ t → admits m t s ≡ Some v → NextGots text (after m t) v ts s' r → Got text m s (l ∷ ts) s' r
step text (Only u) t l ts r s v s' b is a h = only text u t l ts r s v s' is h
step text AName t l ts r s v s' b is a h = a_name_read text t l ts r s v s' is h
step text ANumber t l ts r s v s' b is a h = a_number_read text t l ts r s v s' is h
step text AConstant t l ts r s v s' b is a h = a_constant_read text t l ts r s v s' is h
step text AnOperand t l ts r s v s' b is a h = an_operand_read text t l ts r s v s' is h
step text APointer t l ts r s v s' b is a h = a_pointer_read text t l ts r s v s' is h
step text UnsignedName t l ts r s v s' b is a h = an_unsigned_read text t l ts r s v s' is h
step text LongName t l ts r s v s' b is a h = a_long_read text t l ts r s v s' is h
step text AParam t l ts r s v s' b is a h = param text t l ts r s v s' is h
step text RightEnd t l ts r s v s' b is a h = right_read text t l ts r s v s' is h
step text ReadPlaceEnd t l ts r s v s' b is a h = read_place text t l ts r s v s' is h
step text AfterOperand t l ts r s v s' b is a h = after_operand text t l ts r s v s' is h
step text AfterPointer t l ts r s v s' b is a h = after_pointer text t l ts r s v s' is h
step text (Member u) t l ts r s v s' b is a h = member text u t l ts r s v s' is h
step text (Named u) t l ts r s v s' b is a h = named text u t l ts r s v s' is h
step text (Tail u) t l ts r s v s' b is a h = tail text u t l ts r s v s' is h
step text ArgumentsEnd t l ts r s v s' b is a h = some_or_no_arguments text t l ts r s v s' is h
step text MoreArgumentsEnd t l ts r s v s' b is a h = more_arguments text t l ts r s v s' is h
step text InitEnd t l ts r s v s' b is a h = init text t l ts r s v s' is h
step text ResultEnd t l ts r s v s' b is a h = result text t l ts r s v s' is h
step text AfterName t l ts r s v s' b is a h = after_name text t l ts r s v s' is h
step text PrintEnd t l ts r s v s' b is a h = print_read text t l ts r s v s' is h
step text ABlock t l ts r s v s' b is a h = block text t l ts r s v s' b is h
step text StatementsEnd t l ts r s v s' b is a h = statements text t l ts r s v s' is h
step text ElseEnd t l ts r s v s' b is a h = else_read text t l ts r s v s' is h
step text BaseAfterVirtual t l ts r s v s' b is a h = base_after_virtual text t l ts r s v s' is h
step text BaseAfterAccess t l ts r s v s' b is a h = base_after_access text t l ts r s v s' is h
step text ABase t l ts r s v s' b is a h = base text t l ts r s v s' is h
step text BasesEnd t l ts r s v s' b is a h = bases text t l ts r s v s' is h
step text ClassTail t l ts r s v s' b is a h = class_tail text t l ts r s v s' is h
step text FieldEnd t l ts r s v s' b is a h = field_end text t l ts r s v s' is h
step text ParamsEnd t l ts r s v s' b is a h = params text t l ts r s v s' is h
step text MoreParamsEnd t l ts r s v s' b is a h = more_params text t l ts r s v s' is h
step text AfterDeclared t l ts r s v s' b is a h = after_declared text t l ts r s v s' is h
step text AfterScalar t l ts r s v s' b is a h = after_scalar text t l ts r s v s' is h
step text AfterType t l ts r s v s' b is a h = after_type text t l ts r s v s' is h
step text AfterOwnName t l ts r s v s' b is a h = after_own_name text t l ts r s v s' is h
step text AnInit t l ts r s v s' b is a h = init_read text t l ts r s v s' is h
step text ConstructorEnd t l ts r s v s' b is a h = constructor_end text t l ts r s v s' b is h
step text InitsEnd t l ts r s v s' b is a h = inits_end text t l ts r s v s' b is h
step text AfterVirtual t l ts r s v s' b is a h = after_virtual text t l ts r s v s' is h
step text VirtualEnd t l ts r s v s' b is a h = virtual_end text t l ts r s v s' b is h
step text PartsEnd t l ts r s v s' b is a h = parts text t l ts r s v s' is h
step text AfterInt t l ts r s v s' b is a h = after_int text t l ts r s v s' is a h
step text ItemsEnd t l ts r s v s' b is a h = items text t l ts r s v s' is (admit_keeps t s v a) h

-- where the first tasks of a run led
record Reached (text : List ℕ) (ms k : List Task) (s : State) (ts r : List Lexeme) : Type 0 where
  state : State
  left : List Lexeme
  gots : Gots text ms s ts state left
  more : run left state k ≡ Done r
  shorter : length left ≤ length ts
  keeps : Keeps s state

-- every list of at most n lexemes
abbrev Reaches : List ℕ → ℕ → Type 0
Reaches text n = (ts : List Lexeme) (s : State) (ms k : List Task) (r : List Lexeme) → length ts ≤ n → length ts < 2 ^ 63 → run ts s (ms ++ k) ≡ Done r → Reached text ms k s ts r

reached : (text : List ℕ) (n : ℕ) → Reaches text n → (l : Lexeme) (ts : List Lexeme) (s : State) (m : Task) (ms k : List Task) (r : List Lexeme) → length ts ≤ n → length (l ∷ ts) < 2 ^ 63 →
    (o : Option (List Task)) → after m l.sort ≡ o → (p : Option State) → admits m l.sort s ≡ p → go_on l o p (ms ++ k) (run ts) ≡ Done r → Reached text (m ∷ ms) k s (l ∷ ts) r
reached text n ih l ts s m ms k r le b None a p c h = absurd (cc)
reached text n ih l ts s m ms k r le b (Some ns) a None c h = absurd (cc)
reached text n ih l ts s m ms k r le b (Some ns) a (Some v) c h =
    let f = ih ts v ns (ms ++ k) r le (omega (arith, b)) h in
    let fs = f.shorter in
    let got : Got text m s (l ∷ ts) f.state f.left = step text m l.sort l ts f.left s v f.state b refl c (subst (λ o. NextGots text o v ts f.state f.left) (sym a) f.gots) in
    let q = ih f.left f.state ms k r (omega (arith, le, fs)) (omega (arith, b, fs)) f.more in
    let qs = q.shorter in
    let k0 : Keeps s f.state = λ e. f.keeps (admits_keeps m l.sort s v c e) in
    record { state = q.state; left = q.left; gots = one_done got k0 (omega (arith, fs)) q.gots; more = q.more; shorter = omega (arith, fs, qs); keeps = λ e. q.keeps (k0 e) }

reach : (text : List ℕ) (n : ℕ) → Reaches text n
reach text n ts s [] k r le b h = record { state = s; left = ts; gots = all_done; more = h; shorter = omega arith; keeps = λ e. e }
reach text n [] s (m ∷ ms) k r le b h = absurd (cc)
reach text zero (l ∷ ts) s (m ∷ ms) k r le b h = absurd (omega (arith, le))
reach text (suc n) (l ∷ ts) s (m ∷ ms) k r le b h =
    reached text n (λ us u ns j q ke bd g. reach text n us u ns j q ke bd g) l ts s m ms k r (omega (arith, le)) b (after m l.sort) refl (admits m l.sort s) refl h

-- the source that items make
source_of : List Item → Option BodyTree → SourceText
source_of is o = record { records = filter_map record_in is; globals = filter_map global_in is; bodies = flat_map bodies_in is; main = o; main_place = length (bodies_before_main is) }

made_of : (is : List Item) (o : Option BodyTree) → trees_in o ≡ filter_map main_in is → AreItemsOf (source_of is o) is
unfolding source_of
made_of is o e = record { records = refl; globals = refl; bodies = refl; main = e; main_place = refl }

source_at : (text : List ℕ) (all r : List Lexeme) → length all < 2 ^ 63 → run all at_start (ItemsEnd ∷ []) ≡ Done r → (s : SourceText) × SourceReads text s all r
source_at text all r b h = of (reach text (length all) all at_start (ItemsEnd ∷ []) [] r (omega arith) b h) where
  left_is : (left : List Lexeme) (state : State) → run left state [] ≡ Done r → left ≡ r
  left_is left state e = let d : Done left ≡ Done r = sym (run_done left state) ∙ e in cc

  of_items : (left : List Lexeme) (state : State) → left ≡ r → Gots text (ItemsEnd ∷ []) at_start all state left → (s : SourceText) × SourceReads text s all r
  of_items left state e (one_done (is, o, a, z, hi, hz, hm, _) _ _ all_done) = (source_of is o, a_source hi (subst (Is End z a) e hz) (made_of is o hm))

  of : Reached text (ItemsEnd ∷ []) [] at_start all r → (s : SourceText) × SourceReads text s all r
  of f = of_items f.left f.state (left_is f.left f.state f.more) f.gots

-- a source that the lexemes stand for, or the first event
abbrev pub SourceOrEvent : List ℕ → List Lexeme → Type 0
SourceOrEvent text all = ((s : SourceText) × (rest : List Lexeme) × SourceReads text s all rest × DerivesPrefix source_form at_start all rest) ⊎ ((e : Stop) × Event source_form at_start all e)

pub source_or_event : (text : List ℕ) (all : List Lexeme) → length all < 2 ^ 63 → In Bad (sorts all) → SourceOrEvent text all
source_or_event text all b z = on (run all at_start (ItemsEnd ∷ [])) refl where
  on : (o : Outcome) → run all at_start (ItemsEnd ∷ []) ≡ o → SourceOrEvent text all
  on (Done r) h = let s = source_at text all r b h in inl (s.0, r, s.1, source_prefix at_start all r h)
  on (Stopped e) h = inr (e, source_event at_start all e z h)

pub some_source : (text : List ℕ) (ts : List Token) (bad : Option ℕ) → length text ≤ source_limit → AreTokens text ts bad → SourceOrEvent text (lexemes text source_start ts bad)
some_source text ts bad le c =
    let n = tokens_within text ts bad c in
    let m = length-lexemes text source_start ts bad in
    source_or_event text (lexemes text source_start ts bad) (omega (arith, le, n, m)) (ends text source_start ts bad)
