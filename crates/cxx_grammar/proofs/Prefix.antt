-- Which lists of tokens begin a form, by the table.
use Rattle.std.proofs.Common.{Result, Ok, Err, IfOk, IfErr, ◌≡◌, Bool, true, false, cond, ◌⊎◌, inl, inr, List, [], ◌∷◌, ◌++◌, Option, Some, None, refl, sym, ap, subst, ◌∙◌, append_assoc, arith}
use Rattle.std.proofs.lemmas.Grind.{common_steps}
use Rattle.cxx_grammar.specs.declared.sort.Sort.{Sort}
use Rattle.cxx_grammar.specs.declared.sort.Sort.TheVariants.{Struct, Int, Main, Name, OwnName, Number, OpenBrace, OpenBlock, CloseBrace, OpenParen, CloseParen, Semicolon, Assign, Arrow, Tilde, End, Bad}
use Rattle.cxx_grammar.specs.declared.sort.Lexeme.{Lexeme}
use Rattle.cxx_hierarchy.specs.declared.stop.Stop.{Stop}
use Rattle.cxx_hierarchy.specs.declared.stop.Stop.TheVariants as stop
use Rattle.cxx_grammar.specs.Sorts.{is_same}
use Rattle.cxx_grammar.specs.Grammar.{NonTerminal, AnyName, Symbol, tok, part, grammar, In, Derives, nothing, token, choose, Begins, block_form, source_form}
use Rattle.cxx_grammar.specs.Table.{Written, Read, Task, Only, AName, ANumber, AConstant, AnOperand, APointer, UnsignedName, LongName, AParam, RightEnd, ReadPlaceEnd, AfterOperand, AfterPointer, Member, Named, Tail, ArgumentsEnd, MoreArgumentsEnd, InitEnd, ResultEnd, AfterName, PrintEnd, ABlock, StatementsEnd, ElseEnd, BaseAfterVirtual, BaseAfterAccess, ABase, BasesEnd, ClassTail, FieldEnd, ParamsEnd, MoreParamsEnd, AfterDeclared, AfterScalar, AfterType, AfterOwnName, AnInit, ConstructorEnd, InitsEnd, AfterVirtual, VirtualEnd, PartsEnd, AfterInt, ItemsEnd, after, Line, lines, look_up}
use Rattle.cxx_grammar.specs.Event.{State, admit, passes, and_then, refusal, excess, sorts, Event, DerivesPrefix}
use Rattle.cxx_grammar.specs.Event as events
use Rattle.cxx_grammar.specs.invariants.Run.{Outcome, admits, go_on, run, Done, Stopped, Stops, TasksLead, Follows}
use Rattle.cxx_grammar.proofs.Sorts.{is_same_eq, is_same_refl}
use Rattle.cxx_grammar.proofs.Engine.{In-left}
use Rattle.cxx_grammar.proofs.Link.{Spells, reads_some, after_complete, after_sound, forms}

abbrev pub go : Option (List Task) → List Task → (List Task → Option (List Task)) → Option (List Task)
go None k next = None
go (Some ns) k next = next (ns ++ k)

-- the tasks that are left after these tokens
abbrev pub walk : List Sort → List Task → Option (List Task)
walk [] ms = Some ms
walk (t ∷ ts) [] = None
walk (t ∷ ts) (m ∷ ms) = go (after m t) ms (walk ts)

nothing_derives : (t : Sort) (ts : List Sort) → Derives [] (t ∷ ts) → ⊥
nothing_derives t ts d = elim d [ ]

pub walk_complete : (pre : List Sort) (ms : List Task) (more : List Sort) → Spells ms (pre ++ more) → (ns : List Task) × (walk pre ms ≡ Some ns) × Spells ns more
walk_complete [] ms more s = (ms, refl, s)
walk_complete (t ∷ pre) [] more (f, inl e, d) = absurd (nothing_derives t (pre ++ more) (subst (λ f. Derives f (t ∷ (pre ++ more))) e d))
walk_complete (t ∷ pre) [] more (f, inr h, d) = elim h [ ]
walk_complete (t ∷ pre) (m ∷ ms) more s =
    let r = after_complete m ms t (pre ++ more) s in
    let q = walk_complete pre (r.0 ++ ms) more r.2 in
    (q.0, ap (λ o. go o ms (walk pre)) r.1 ∙ q.1, q.2)

pub walk_sound : (pre : List Sort) (ms ns : List Task) (more : List Sort) → walk pre ms ≡ Some ns → Spells ns more → Spells ms (pre ++ more)
walk_sound [] ms ns more e s = let is : ms ≡ ns = cc in subst (λ u. Spells u more) (sym is) s
walk_sound (t ∷ pre) [] ns more e s = absurd (cc)
walk_sound (t ∷ pre) (m ∷ ms) ns more e s = on (λ ls h. walk_sound pre (ls ++ ms) ns more h s) (after m t) refl e where
  on : ((ls : List Task) → walk pre (ls ++ ms) ≡ Some ns → Spells (ls ++ ms) (pre ++ more)) → (o : Option (List Task)) → after m t ≡ o → go o ms (walk pre) ≡ Some ns → Spells (m ∷ ms) (t ∷ (pre ++ more))
  on ih None p e = absurd (cc)
  on ih (Some ls) p e = after_sound m ms ls t (pre ++ more) p (ih ls e)

-- tokens that end a task
abbrev finish : Task → List Sort
finish (Only s) = s ∷ []
finish AName = Name ∷ []
finish ANumber = Number ∷ []
finish AConstant = Number ∷ []
finish AnOperand = Name ∷ []
finish APointer = Name ∷ []
finish UnsignedName = Name ∷ []
finish LongName = Name ∷ []
finish AParam = Int ∷ Name ∷ []
finish RightEnd = Name ∷ Semicolon ∷ []
finish ReadPlaceEnd = Name ∷ Arrow ∷ Name ∷ Semicolon ∷ []
finish AfterOperand = Semicolon ∷ []
finish AfterPointer = Semicolon ∷ []
finish (Member Written) = Assign ∷ Name ∷ Semicolon ∷ []
finish (Member Read) = Semicolon ∷ []
finish (Named Written) = Assign ∷ Name ∷ Semicolon ∷ []
finish (Named Read) = Semicolon ∷ []
finish (Tail Written) = Assign ∷ Name ∷ Semicolon ∷ []
finish (Tail Read) = Semicolon ∷ []
finish ArgumentsEnd = CloseParen ∷ []
finish MoreArgumentsEnd = CloseParen ∷ []
finish InitEnd = Semicolon ∷ []
finish ResultEnd = Semicolon ∷ []
finish AfterName = Assign ∷ Name ∷ Semicolon ∷ []
finish PrintEnd = Name ∷ CloseParen ∷ Semicolon ∷ []
finish ABlock = OpenBlock ∷ CloseBrace ∷ []
finish StatementsEnd = CloseBrace ∷ []
finish ElseEnd = CloseBrace ∷ []
finish BaseAfterVirtual = Name ∷ []
finish BaseAfterAccess = Name ∷ []
finish ABase = Name ∷ []
finish BasesEnd = OpenBrace ∷ CloseBrace ∷ Semicolon ∷ []
finish ClassTail = Semicolon ∷ []
finish FieldEnd = Semicolon ∷ []
finish ParamsEnd = CloseParen ∷ []
finish MoreParamsEnd = CloseParen ∷ []
finish AfterDeclared = Semicolon ∷ []
finish AfterScalar = Semicolon ∷ []
finish AfterType = Name ∷ Semicolon ∷ []
finish AfterOwnName = Name ∷ Semicolon ∷ []
finish AnInit = Name ∷ OpenParen ∷ Number ∷ CloseParen ∷ []
finish ConstructorEnd = OpenBlock ∷ CloseBrace ∷ []
finish InitsEnd = OpenBlock ∷ CloseBrace ∷ []
finish AfterVirtual = Tilde ∷ OwnName ∷ OpenParen ∷ CloseParen ∷ OpenBlock ∷ CloseBrace ∷ []
finish VirtualEnd = OpenBlock ∷ CloseBrace ∷ []
finish PartsEnd = CloseBrace ∷ []
finish AfterInt = Name ∷ Semicolon ∷ []
finish ItemsEnd = End ∷ []

finish_ok : (m : Task) (k : List Task) → walk (finish m) (m ∷ k) ≡ Some k
finish_ok (Only s) k = rw (is_same_refl s) refl
finish_ok AName k = refl
finish_ok ANumber k = refl
finish_ok AConstant k = refl
finish_ok AnOperand k = refl
finish_ok APointer k = refl
finish_ok UnsignedName k = refl
finish_ok LongName k = refl
finish_ok AParam k = refl
finish_ok RightEnd k = refl
finish_ok ReadPlaceEnd k = refl
finish_ok AfterOperand k = refl
finish_ok AfterPointer k = refl
finish_ok (Member Written) k = refl
finish_ok (Member Read) k = refl
finish_ok (Named Written) k = refl
finish_ok (Named Read) k = refl
finish_ok (Tail Written) k = refl
finish_ok (Tail Read) k = refl
finish_ok ArgumentsEnd k = refl
finish_ok MoreArgumentsEnd k = refl
finish_ok InitEnd k = refl
finish_ok ResultEnd k = refl
finish_ok AfterName k = refl
finish_ok PrintEnd k = refl
finish_ok ABlock k = refl
finish_ok StatementsEnd k = refl
finish_ok ElseEnd k = refl
finish_ok BaseAfterVirtual k = refl
finish_ok BaseAfterAccess k = refl
finish_ok ABase k = refl
finish_ok BasesEnd k = refl
finish_ok ClassTail k = refl
finish_ok FieldEnd k = refl
finish_ok ParamsEnd k = refl
finish_ok MoreParamsEnd k = refl
finish_ok AfterDeclared k = refl
finish_ok AfterScalar k = refl
finish_ok AfterType k = refl
finish_ok AfterOwnName k = refl
finish_ok AnInit k = refl
finish_ok ConstructorEnd k = refl
finish_ok InitsEnd k = refl
finish_ok AfterVirtual k = refl
finish_ok VirtualEnd k = refl
finish_ok PartsEnd k = refl
finish_ok AfterInt k = refl
finish_ok ItemsEnd k = refl

spells_some : (ms : List Task) → (ts : List Sort) × Spells ms ts
spells_some [] = ([], ([], inl refl, nothing))
spells_some (m ∷ ms) = let r = spells_some ms in (finish m ++ r.0, walk_sound (finish m) (m ∷ ms) ms r.0 (finish_ok m ms) r.1)

-- a task that stands for one form
spells_form : (m : Task) (f : List Symbol) (ts : List Sort) → forms (m ∷ []) ≡ f ∷ [] → Spells (m ∷ []) ts → Derives f ts
spells_form m f ts e (g, i, d) = on (subst (In g) e i) where
  on : In g (f ∷ []) → Derives f ts
  on (inl q) = subst (λ u. Derives u ts) q d
  on (inr h) = elim h [ ]

form_spells : (m : Task) (f : List Symbol) (ts : List Sort) → forms (m ∷ []) ≡ f ∷ [] → Derives f ts → Spells (m ∷ []) ts
form_spells m f ts e d = let here : In f (f ∷ []) = inl refl in (f, subst (In f) (sym e) here, d)

-- what a form derives, and what is read before it is one
pub done_where : (m : Task) (f : List Symbol) (pre : List Sort) → forms (m ∷ []) ≡ f ∷ [] → Derives f pre → walk pre (m ∷ []) ≡ Some []
done_where m f pre q d =
    let e : pre ++ [] ≡ pre = grind (arith, common_steps) in
    let r = walk_complete pre (m ∷ []) [] (subst (Spells (m ∷ [])) (sym e) (form_spells m f pre q d)) in
    none_left r.0 r.1 r.2 where
      none_left : (ns : List Task) → walk pre (m ∷ []) ≡ Some ns → Spells ns [] → walk pre (m ∷ []) ≡ Some []
      none_left [] w s = w
      none_left (n ∷ ns) w s = absurd (reads_some n ns s)

not_done_where : (m n : Task) (f : List Symbol) (ns : List Task) (pre : List Sort) → forms (m ∷ []) ≡ f ∷ [] → walk pre (m ∷ []) ≡ Some (n ∷ ns) → Derives f pre → ⊥
not_done_where m n f ns pre q w d = let p : Some [] ≡ Some (n ∷ ns) = sym (done_where m f pre q d) ∙ w in absurd (cc)

-- what a form derives begins no longer list that it derives
pub no_longer : (m : Task) (f : List Symbol) (pre : List Sort) (t : Sort) (ts : List Sort) → forms (m ∷ []) ≡ f ∷ [] → Derives f pre → Begins f (pre ++ t ∷ ts) → ⊥
no_longer m f pre t ts q d b =
    let s = subst (Spells (m ∷ [])) (append_assoc pre (t ∷ ts) b.0) (form_spells m f ((pre ++ t ∷ ts) ++ b.0) q b.1) in
    let r = walk_complete pre (m ∷ []) (t ∷ (ts ++ b.0)) s in
    let e : Some [] ≡ Some r.0 = sym (done_where m f pre q d) ∙ r.1 in
    let n : r.0 ≡ [] = cc in
    left (subst (λ ns. Spells ns (t ∷ (ts ++ b.0))) n r.2) where
      left : Spells [] (t ∷ (ts ++ b.0)) → ⊥
      left (g, inl e, h) = nothing_derives t (ts ++ b.0) (subst (λ u. Derives u (t ∷ (ts ++ b.0))) e h)
      left (g, inr k, h) = elim k [ ]

pub begins_where : (m : Task) (f : List Symbol) (pre : List Sort) (ns : List Task) → forms (m ∷ []) ≡ f ∷ [] → walk pre (m ∷ []) ≡ Some ns → Begins f pre
begins_where m f pre ns q e =
    let r = spells_some ns in
    (r.0, spells_form m f (pre ++ r.0) q (walk_sound pre (m ∷ []) ns r.0 e r.1))

pub not_begins_where : (m : Task) (f : List Symbol) (pre : List Sort) → forms (m ∷ []) ≡ f ∷ [] → walk pre (m ∷ []) ≡ None → Begins f pre → ⊥
not_begins_where m f pre q e b =
    let r = walk_complete pre (m ∷ []) b.0 (form_spells m f (pre ++ b.0) q b.1) in
    let p : None ≡ Some r.0 = sym e ∙ r.1 in cc

-- no symbol is the place where the list ends
abbrev clean : List Symbol → Bool
clean [] = true
clean (tok s ∷ ss) = cond (is_same s Bad) false (clean ss)
clean (part p ∷ ss) = clean ss

abbrev all_clean : List (List Symbol) → Bool
all_clean [] = true
all_clean (f ∷ fs) = cond (clean f) (all_clean fs) false

grammar_clean : (p : NonTerminal) → all_clean (grammar p) ≡ true
grammar_clean AnyName = refl
grammar_clean _ = refl

split_cond : (b c : Bool) → cond b c false ≡ true → (b ≡ true) × (c ≡ true)
split_cond true c p = (refl, p)
split_cond false c p = absurd (cc)

clean_in : (fs : List (List Symbol)) (f : List Symbol) → all_clean fs ≡ true → In f fs → clean f ≡ true
clean_in [] f p h = elim h [ ]
clean_in (g ∷ fs) f p (inl e) = let s = split_cond (clean g) (all_clean fs) p in subst (λ u. clean u ≡ true) (sym e) s.0
clean_in (g ∷ fs) f p (inr h) = let s = split_cond (clean g) (all_clean fs) p in clean_in fs f s.1 h

clean_join : (f g : List Symbol) → clean f ≡ true → clean g ≡ true → clean (f ++ g) ≡ true
clean_join [] g p q = q
clean_join (tok s ∷ f) g p q = on (is_same s Bad) (λ h. clean_join f g h q) p where
  on : (b : Bool) → (clean f ≡ true → clean (f ++ g) ≡ true) → cond b false (clean f) ≡ true → cond b false (clean (f ++ g)) ≡ true
  on true ih p = absurd (cc)
  on false ih p = ih p
clean_join (part r ∷ f) g p q = clean_join f g p q

not_here : (s : Sort) (b : Bool) → Bad ≡ s → cond (is_same s Bad) false b ≡ true → ⊥
not_here s b e p = let q : cond (is_same Bad Bad) false b ≡ true = subst (λ u. cond (is_same u Bad) false b ≡ true) (sym e) p in absurd (cc)

later : (b c : Bool) → cond b false c ≡ true → c ≡ true
later true c p = absurd (cc)
later false c p = p

no_bad : (ss : List Symbol) (ts : List Sort) → Derives ss ts → clean ss ≡ true → In Bad ts → ⊥
no_bad ss ts nothing c h = elim h [ ]
no_bad ss ts (token {s = s} {ss = ss'} {ts = ts'} d) c (inl e) = not_here s (clean ss') e c
no_bad ss ts (token {s = s} {ss = ss'} {ts = ts'} d) c (inr h) = no_bad ss' ts' d (later (is_same s Bad) (clean ss') c) h
no_bad ss ts (choose {p = p} {ss = ss'} rhs i d) c h = no_bad (rhs ++ ss') ts d (clean_join rhs ss' (clean_in (grammar p) rhs (grammar_clean p) i) c) h

-- where reading stopped
pub data Found (st : State) (ms : List Task) (ts : List Lexeme) (e : Stop) : Type 0 where
  at_token : (pre post : List Lexeme) (l : Lexeme) (n : Task) (ns : List Task) (st' : State) → ts ≡ pre ++ l ∷ post → passes st (sorts pre) ≡ Some st' → walk (sorts pre) ms ≡ Some (n ∷ ns) → walk (sorts (pre ++ l ∷ [])) ms ≡ None → e ≡ refusal l → Found st ms ts e
  at_excess : (pre post : List Lexeme) (l : Lexeme) (ns : List Task) (st' : State) → ts ≡ pre ++ l ∷ post → passes st (sorts pre) ≡ Some st' → walk (sorts (pre ++ l ∷ [])) ms ≡ Some ns → admit l.sort st' ≡ None → e ≡ excess l → Found st ms ts e
  at_end : (ns : List Task) → walk (sorts ts) ms ≡ Some ns → Found st ms ts e

-- no task is a block's brace or the word main alone
abbrev plain_of : Task → Bool
plain_of (Only OpenBlock) = false
plain_of (Only CloseBrace) = false
plain_of (Only Main) = false
plain_of _ = true

abbrev pub plain : List Task → Bool
plain [] = true
plain (m ∷ ms) = cond (plain_of m) (plain ms) false

abbrev plain_left : Option (List Task) → Bool
plain_left None = true
plain_left (Some ns) = plain ns

abbrev all_plain : List Line → Bool
all_plain [] = true
all_plain (l ∷ ls) = cond (plain l.1) (all_plain ls) false

lines_plain : (m : Task) → all_plain (lines m) ≡ true
lines_plain (Only s) = refl
lines_plain (Member Written) = refl
lines_plain (Member Read) = refl
lines_plain (Named Written) = refl
lines_plain (Named Read) = refl
lines_plain (Tail Written) = refl
lines_plain (Tail Read) = refl
lines_plain _ = refl

look_plain : (t : Sort) (ls : List Line) → all_plain ls ≡ true → plain_left (look_up t ls) ≡ true
look_plain t [] h = refl
look_plain t (l ∷ ls) h =
    let s = split_cond (plain l.1) (all_plain ls) h in
    on (is_same l.0 t) s.0 (look_plain t ls s.1) where
      on : (b : Bool) → plain l.1 ≡ true → plain_left (look_up t ls) ≡ true → plain_left (cond b (Some l.1) (look_up t ls)) ≡ true
      on true p q = p
      on false p q = q

plain_join : (ns ms : List Task) → plain ns ≡ true → plain ms ≡ true → plain (ns ++ ms) ≡ true
plain_join [] ms p q = q
plain_join (n ∷ ns) ms p q = on (plain_of n) (λ h. plain_join ns ms h q) p where
  on : (b : Bool) → (plain ns ≡ true → plain (ns ++ ms) ≡ true) → cond b (plain ns) false ≡ true → cond b (plain (ns ++ ms)) false ≡ true
  on true ih p = ih p
  on false ih p = p

flat : (s : Sort) (st : State) → plain_of (Only s) ≡ true → admit s st ≡ Some st
flat OpenBlock st p = absurd (cc)
flat CloseBrace st p = absurd (cc)
flat Main st p = absurd (cc)
flat Struct st p = refl
flat _ st p = refl

only_same : (b : Bool) (ns : List Task) → cond b (Some []) None ≡ Some ns → b ≡ true
only_same true ns e = refl
only_same false ns e = absurd (cc)

-- a task changes the state as its token does
admits_same : (m : Task) (t : Sort) (st : State) (ns : List Task) → plain_of m ≡ true → after m t ≡ Some ns → admits m t st ≡ admit t st
admits_same (Only s) t st ns p a =
    let same : s ≡ t = is_same_eq s t (only_same (is_same s t) ns a) in
    sym (subst (λ u. admit u st ≡ Some st) same (flat s st p))
admits_same AName t st ns p a = refl
admits_same _ t st ns p a = refl

-- one token before
before : (m : Task) (ms ns : List Task) (l : Lexeme) (ts : List Lexeme) (e : Stop) (st st' : State) → after m l.sort ≡ Some ns → admit l.sort st ≡ Some st' → Found st' (ns ++ ms) ts e → Found st (m ∷ ms) (l ∷ ts) e
before m ms ns l ts e st st' a b (at_token pre post x k ks st2 s h w n q) = at_token (l ∷ pre) post x k ks st2 (ap (λ u. l ∷ u) s) (ap (λ o. and_then o (λ v. passes v (sorts pre))) b ∙ h) (ap (λ o. go o ms (walk (sorts pre))) a ∙ w) (ap (λ o. go o ms (walk (sorts (pre ++ x ∷ [])))) a ∙ n) q
before m ms ns l ts e st st' a b (at_excess pre post x ks st2 s h w o q) = at_excess (l ∷ pre) post x ks st2 (ap (λ u. l ∷ u) s) (ap (λ o. and_then o (λ v. passes v (sorts pre))) b ∙ h) (ap (λ o. go o ms (walk (sorts (pre ++ x ∷ [])))) a ∙ w) o q
before m ms ns l ts e st st' a b (at_end ks w) = at_end ks (ap (λ o. go o ms (walk (sorts ts))) a ∙ w)

pub found : (ts : List Lexeme) (st : State) (ms : List Task) (e : Stop) → plain ms ≡ true → run ts st ms ≡ Stopped e → Found st ms ts e
found [] st [] e p h = absurd (cc)
found [] st (m ∷ ms) e p h = at_end (m ∷ ms) refl
found (l ∷ ts) st [] e p h = absurd (cc)
found (l ∷ ts) st (m ∷ ms) e p h = on (λ st' ns p' k. found ts st' (ns ++ ms) e p' k) (after m l.sort) refl (admits m l.sort st) refl h where
  on : ((st' : State) (ns : List Task) → plain (ns ++ ms) ≡ true → run ts st' (ns ++ ms) ≡ Stopped e → Found st' (ns ++ ms) ts e) → (o : Option (List Task)) → after m l.sort ≡ o → (r : Option State) → admits m l.sort st ≡ r → go_on l o r ms (run ts) ≡ Stopped e → Found st (m ∷ ms) (l ∷ ts) e
  on ih None a r b h = let q : e ≡ refusal l = cc in at_token [] ts l m ms st refl refl refl (ap (λ o. go o ms (walk [])) a) q
  on ih (Some ns) a None b h =
      let hp = split_cond (plain_of m) (plain ms) p in
      let q : e ≡ excess l = cc in
      at_excess [] ts l (ns ++ ms) st refl refl (ap (λ o. go o ms (walk [])) a) (sym (admits_same m l.sort st ns hp.0 a) ∙ b) q
  on ih (Some ns) a (Some st') b h =
      let hp = split_cond (plain_of m) (plain ms) p in
      let pn : plain ns ≡ true = subst (λ o. plain_left o ≡ true) a (look_plain l.sort (lines m) (lines_plain m)) in
      before m ms ns l ts e st st' a (sym (admits_same m l.sort st ns hp.0 a) ∙ b) (ih st' ns (plain_join ns ms pn hp.1) h)

of_found : (m : Task) (f : List Symbol) (ts : List Lexeme) (st : State) (e : Stop) → forms (m ∷ []) ≡ f ∷ [] → clean f ≡ true → In Bad (sorts ts) → Found st (m ∷ []) ts e → Event f st ts e
of_found m f ts st e i c z (at_token pre post l k ns st' s h w n q) =
    events.at_token pre post l st' s h (begins_where m f (sorts pre) (k ∷ ns) i w) (not_done_where m k f ns (sorts pre) i w) (not_begins_where m f (sorts (pre ++ l ∷ [])) i n) q
of_found m f ts st e i c z (at_excess pre post l ns st' s h w o q) = events.at_excess pre post l st' s h (begins_where m f (sorts (pre ++ l ∷ [])) ns i w) o q
of_found m f ts st e i c z (at_end ns w) = let b = begins_where m f (sorts ts) ns i w in absurd (no_bad f (sorts ts ++ b.0) b.1 c (In-left Bad (sorts ts) b.0 z))

stopped : (m : Task) (f : List Symbol) (ts : List Lexeme) (st : State) (e : Stop) → plain (m ∷ []) ≡ true → forms (m ∷ []) ≡ f ∷ [] → clean f ≡ true → In Bad (sorts ts) → Stops st (m ∷ []) ts e → (e ≡ stop.NoMemory) ⊎ Event f st ts e
stopped m f ts st stop.NoMemory p i c z s = inl refl
stopped m f ts st (stop.Refused r at) p i c z s = inr (of_found m f ts st (stop.Refused r at) i c z (found ts st (m ∷ []) (stop.Refused r at) p (s (λ h. cc) [])))
stopped m f ts st (stop.Limit n) p i c z s = inr (of_found m f ts st (stop.Limit n) i c z (found ts st (m ∷ []) (stop.Limit n) p (s (λ h. cc) [])))

finished : (ts rest : List Lexeme) (st : State) (ms : List Task) → plain ms ≡ true → run ts st ms ≡ Done rest → (front : List Lexeme) × (st' : State) × (ts ≡ front ++ rest) × (walk (sorts front) ms ≡ Some []) × (passes st (sorts front) ≡ Some st')
finished [] rest st [] p h = let q : [] ≡ rest = cc in ([], st, q, refl, refl)
finished [] rest st (m ∷ ms) p h = absurd (cc)
finished (l ∷ ts) rest st [] p h = let q : l ∷ ts ≡ rest = cc in ([], st, q, refl, refl)
finished (l ∷ ts) rest st (m ∷ ms) p h = on (λ st' ns p' k. finished ts rest st' (ns ++ ms) p' k) (after m l.sort) refl (admits m l.sort st) refl h where
  on : ((st' : State) (ns : List Task) → plain (ns ++ ms) ≡ true → run ts st' (ns ++ ms) ≡ Done rest → (front : List Lexeme) × (st2 : State) × (ts ≡ front ++ rest) × (walk (sorts front) (ns ++ ms) ≡ Some []) × (passes st' (sorts front) ≡ Some st2)) → (o : Option (List Task)) → after m l.sort ≡ o → (r : Option State) → admits m l.sort st ≡ r → go_on l o r ms (run ts) ≡ Done rest
      → (front : List Lexeme) × (st2 : State) × (l ∷ ts ≡ front ++ rest) × (walk (sorts front) (m ∷ ms) ≡ Some []) × (passes st (sorts front) ≡ Some st2)
  on ih None a r b h = absurd (cc)
  on ih (Some ns) a None b h = absurd (cc)
  on ih (Some ns) a (Some st') b h =
      let hp = split_cond (plain_of m) (plain ms) p in
      let pn : plain ns ≡ true = subst (λ o. plain_left o ≡ true) a (look_plain l.sort (lines m) (lines_plain m)) in
      let r = ih st' ns (plain_join ns ms pn hp.1) h in
      (l ∷ r.0, r.1, ap (λ u. l ∷ u) r.2, ap (λ o. go o ms (walk (sorts r.0))) a ∙ r.3, ap (λ o. and_then o (λ v. passes v (sorts r.0))) (sym (admits_same m l.sort st ns hp.0 a) ∙ b) ∙ r.4)

pub run_done : (ts : List Lexeme) (st : State) → run ts st [] ≡ Done ts
run_done [] st = refl
run_done (l ∷ ts) st = refl

prefix_where : (m : Task) (f : List Symbol) (ts rest : List Lexeme) (st : State) → plain (m ∷ []) ≡ true → forms (m ∷ []) ≡ f ∷ [] → run ts st (m ∷ []) ≡ Done rest → DerivesPrefix f st ts rest
prefix_where m f ts rest st p i h =
    let r = finished ts rest st (m ∷ []) p h in
    let s = walk_sound (sorts r.0) (m ∷ []) [] [] r.3 ([], inl refl, nothing) in
    let e : sorts r.0 ++ [] ≡ sorts r.0 = grind (arith, common_steps) in
    record { prefix = r.0; after = r.1; split = r.2; derives = spells_form m f (sorts r.0) i (subst (Spells (m ∷ [])) e s); admitted = r.4 }

prefix_of : (m : Task) (f : List Symbol) (ts rest : List Lexeme) (st st' : State) → plain (m ∷ []) ≡ true → forms (m ∷ []) ≡ f ∷ [] → TasksLead st (m ∷ []) ts st' [] rest → DerivesPrefix f st ts rest
prefix_of m f ts rest st st' p i h = prefix_where m f ts rest st p i (h [] ∙ run_done rest st')

-- what reading by the table comes to, by the grammar
event_where : (m : Task) (f : List Symbol) (ts : List Lexeme) (st : State) (e : Stop) → plain (m ∷ []) ≡ true → forms (m ∷ []) ≡ f ∷ [] → clean f ≡ true → In Bad (sorts ts) → run ts st (m ∷ []) ≡ Stopped e → Event f st ts e
event_where m f ts st e p i c z h = of_found m f ts st e i c z (found ts st (m ∷ []) e p h)

pub source_prefix : (st : State) (ts rest : List Lexeme) → run ts st (ItemsEnd ∷ []) ≡ Done rest → DerivesPrefix source_form st ts rest
source_prefix st ts rest h = prefix_where ItemsEnd source_form ts rest st refl refl h

pub source_event : (st : State) (ts : List Lexeme) (e : Stop) → In Bad (sorts ts) → run ts st (ItemsEnd ∷ []) ≡ Stopped e → Event source_form st ts e
source_event st ts e z h = event_where ItemsEnd source_form ts st e refl refl refl z h

pub block_prefix : (st : State) (ts rest : List Lexeme) → run ts st (ABlock ∷ []) ≡ Done rest → DerivesPrefix block_form st ts rest
block_prefix st ts rest h = prefix_where ABlock block_form ts rest st refl refl h

pub block_event : (st : State) (ts : List Lexeme) (e : Stop) → In Bad (sorts ts) → run ts st (ABlock ∷ []) ≡ Stopped e → Event block_form st ts e
block_event st ts e z h = event_where ABlock block_form ts st e refl refl refl z h

-- a list begins with what a form derives, or it has an event
abbrev pub Either : List Symbol → State → List Lexeme → Type 0
Either f st ts = ((rest : List Lexeme) × DerivesPrefix f st ts rest) ⊎ ((e : Stop) × Event f st ts e)

pub source_either : (st : State) (ts : List Lexeme) → In Bad (sorts ts) → Either source_form st ts
source_either st ts z = on (run ts st (ItemsEnd ∷ [])) refl where
  on : (o : Outcome) → run ts st (ItemsEnd ∷ []) ≡ o → Either source_form st ts
  on (Done rest) h = inl (rest, source_prefix st ts rest h)
  on (Stopped e) h = inr (e, source_event st ts e z h)

pub block_either : (st : State) (ts : List Lexeme) → In Bad (sorts ts) → Either block_form st ts
block_either st ts z = on (run ts st (ABlock ∷ [])) refl where
  on : (o : Outcome) → run ts st (ABlock ∷ []) ≡ o → Either block_form st ts
  on (Done rest) h = inl (rest, block_prefix st ts rest h)
  on (Stopped e) h = inr (e, block_event st ts e z h)

pub block_front : (st : State) (ts rest : List Lexeme) → TasksLead st (ABlock ∷ []) ts st [] rest → DerivesPrefix block_form st ts rest
block_front st ts rest h = prefix_of ABlock block_form ts rest st st refl refl h

pub block_stop : (st : State) (ts : List Lexeme) (e : Stop) → In Bad (sorts ts) → Stops st (ABlock ∷ []) ts e → (e ≡ stop.NoMemory) ⊎ Event block_form st ts e
block_stop st ts e z h = stopped ABlock block_form ts st e refl refl refl z h

pub source_front : (st st' : State) (ts rest : List Lexeme) → TasksLead st (ItemsEnd ∷ []) ts st' [] rest → DerivesPrefix source_form st ts rest
source_front st st' ts rest h = prefix_of ItemsEnd source_form ts rest st st' refl refl h

pub source_stop : (st : State) (ts : List Lexeme) (e : Stop) → In Bad (sorts ts) → Stops st (ItemsEnd ∷ []) ts e → (e ≡ stop.NoMemory) ⊎ Event source_form st ts e
source_stop st ts e z h = stopped ItemsEnd source_form ts st e refl refl refl z h
