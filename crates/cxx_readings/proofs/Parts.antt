-- Bases and parts of a class behind the token that begins them.
use Rattle.std.proofs.Common.{◌≡◌, ℕ, ◌^◌, ◌<◌, inl, inr, min, Bool, true, false, List, [], ◌∷◌, Some, None, length, refl, ap, ◌∙◌}
use Rattle.cxx_grammar.specs.declared.sort.Sort.{Sort}
use Rattle.cxx_grammar.specs.declared.sort.Sort.TheVariants.{Public, Protected, Private, Virtual, Void, Name, OwnName, OpenBrace, OpenBlock, CloseBrace, OpenParen, CloseParen, OpenBracket, Semicolon, Colon, Comma, Star, Assign, Tilde}
use Rattle.cxx_grammar.specs.declared.sort.Lexeme.{Lexeme}
use Rattle.cxx_grammar.specs.Sorts.{is_name}
use Rattle.cxx_grammar.specs.Front.{Is, IsName}
use Rattle.cxx_grammar.specs.Event.{State}
use Rattle.cxx_grammar.specs.Table.{Task, Only, BaseAfterVirtual, BaseAfterAccess, ABase, BasesEnd, ABlock, AParam, FieldEnd, ParamsEnd, MoreParamsEnd, AfterDeclared, AfterScalar, AfterType, AfterOwnName, AnInit, ConstructorEnd, InitsEnd, AfterVirtual, VirtualEnd, PartsEnd, after}
use Rattle.cxx_grammar.specs.Lexemes.{bytes_of}
use Rattle.cxx_hierarchy.specs.declared.records.Param.{Param}
use Rattle.cxx_hierarchy.specs.declared.records.Scalar.{Scalar}
use Rattle.cxx_hierarchy.specs.declared.records.ValueType.{ValueType}
use Rattle.cxx_hierarchy.specs.declared.records.ValueType.TheVariants as value
use Rattle.cxx_hierarchy.specs.declared.records.FieldType.TheVariants as field_type
use Rattle.cxx_hierarchy.specs.declared.records.ReturnType.{ReturnType}
use Rattle.cxx_hierarchy.specs.declared.records.ReturnType.TheVariants as return_type
use Rattle.cxx_syntax.specs.Operands.{spot_of}
use Rattle.cxx_syntax.specs.Statements.{ScalarReads, ValueReads, a_scalar, a_class_pointer, IsFirst}
use Rattle.cxx_syntax.specs.declared.part.ClassPart.TheVariants as part
use Rattle.cxx_syntax.specs.Parts.{Spelled, max_count, access_of, IsAccess, base_by_token, a_base, a_virtual_base, an_access_base, a_virtual_access_base, an_access_virtual_base, no_more_bases, one_more_base, a_value_field, an_object_field, no_count, a_count, ReturnReads, a_void_return, a_value_return, ParamReads, a_param, no_more_params, one_more_param, no_params, some_params, a_member_init, no_more_inits, one_more_init, no_inits, some_inits, VirtualReads, not_virtual, a_virtual, bit_field, a_label, a_field, a_bit_field, a_function, a_pure_function, a_constructor, a_destructor, public_after, no_part, one_part}
use Rattle.cxx_readings.proofs.Meanings.{ClassEnds, APart, SomeParts, Got, Gots, all_done, one_done, NextGots, Step}
use Rattle.cxx_readings.proofs.Fronts.{here, name_here, first_here, name_first, scalar_front, value_front}
use Rattle.cxx_readings.proofs.Statements.{block_of}

pub access_here : {p : Bool} {t : Sort} {l : Lexeme} {ts : List Lexeme} → l.sort ≡ t → access_of t ≡ Some p → IsAccess p l (l ∷ ts) ts
access_here is e = record { front = refl; access = ap access_of is ∙ e }

-- bases
pub base_after_virtual : (text : List ℕ) → Step text BaseAfterVirtual
base_after_virtual text Public l ts r s v s' is (one_done n _ _ all_done) = λ default w all h. (base_by_token text n.0 true true, a_virtual_access_base h (access_here is refl) n.1 refl)
base_after_virtual text Protected l ts r s v s' is (one_done n _ _ all_done) = λ default w all h. (base_by_token text n.0 true false, a_virtual_access_base h (access_here is refl) n.1 refl)
base_after_virtual text Private l ts r s v s' is (one_done n _ _ all_done) = λ default w all h. (base_by_token text n.0 true false, a_virtual_access_base h (access_here is refl) n.1 refl)
base_after_virtual text Name l ts r s v s' is all_done = λ default w all h. (base_by_token text l true default, a_virtual_base h (name_here (ap is_name is)) refl)
base_after_virtual text OwnName l ts r s v s' is all_done = λ default w all h. (base_by_token text l true default, a_virtual_base h (name_here (ap is_name is)) refl)
base_after_virtual text _ l ts r s v s' is h = absurd h

pub base_after_access : (text : List ℕ) → Step text BaseAfterAccess
base_after_access text Virtual l ts r s v s' is (one_done n _ _ all_done) = λ default p w all h. (base_by_token text n.0 true p, an_access_virtual_base h (here is) n.1 refl)
base_after_access text Name l ts r s v s' is all_done = λ default p w all h. (base_by_token text l false p, an_access_base h (name_here (ap is_name is)) refl)
base_after_access text OwnName l ts r s v s' is all_done = λ default p w all h. (base_by_token text l false p, an_access_base h (name_here (ap is_name is)) refl)
base_after_access text _ l ts r s v s' is h = absurd h

pub base : (text : List ℕ) → Step text ABase
base text Virtual l ts r s v s' is (one_done g _ _ all_done) = λ default. g default l (l ∷ ts) (here is)
base text Public l ts r s v s' is (one_done g _ _ all_done) = λ default. g default true l (l ∷ ts) (access_here is refl)
base text Protected l ts r s v s' is (one_done g _ _ all_done) = λ default. g default false l (l ∷ ts) (access_here is refl)
base text Private l ts r s v s' is (one_done g _ _ all_done) = λ default. g default false l (l ∷ ts) (access_here is refl)
base text Name l ts r s v s' is all_done = λ default. (base_by_token text l false default, a_base (name_here (ap is_name is)) refl)
base text OwnName l ts r s v s' is all_done = λ default. (base_by_token text l false default, a_base (name_here (ap is_name is)) refl)
base text _ l ts r s v s' is h = absurd h

pub class_ends : {text : List ℕ} {l : Lexeme} {ts r : List Lexeme} {v s' : State} → l.sort ≡ OpenBrace → Gots text (PartsEnd ∷ Only Semicolon ∷ []) v ts s' r → (default : Bool) → ClassEnds text default (l ∷ ts) r
class_ends {l = l} {ts = ts} is (one_done g _ _ (one_done q _ _ all_done)) default = let x = g default in (x.0, l, x.2, q.0, ts, x.1, _, here is, x.3, x.4, q.1)

pub bases : (text : List ℕ) → Step text BasesEnd
bases text Comma l ts r s v s' is (one_done b _ _ (one_done g _ _ all_done)) = λ default. (let x = b default in let y = g default in (x.0 ∷ y.0, y.1, one_more_base (here is) x.1 y.2, y.3))
bases text OpenBrace l ts r s v s' is h = λ default. ([], l ∷ ts, no_more_bases, class_ends is h default)
bases text _ l ts r s v s' is h = absurd h

-- fields
pub field_end : (text : List ℕ) → Step text FieldEnd
field_end text OpenBracket l ts r s v s' is (one_done n _ _ (one_done c _ _ (one_done z _ _ all_done))) = (Some (min n.0.value max_count), _, z.0, a_count (here is) n.1 c.1 refl, z.1)
field_end text Semicolon l ts r s v s' is all_done = (None, l ∷ ts, l, no_count, here is)
field_end text _ l ts r s v s' is h = absurd h

-- parameters
param_of : {text : List ℕ} {l : Lexeme} {ts a b : List Lexeme} (u : ValueType Spelled) (n : Lexeme) → ValueReads text u (l ∷ ts) a → IsName n a b → (p : Param Spelled) × ParamReads text p (l ∷ ts) b
param_of {text = text} {l = l} u n h i = (record { name = bytes_of text n; ty = u; ty_at = l.at; at = n.at }, a_param first_here h i refl)

param_alone : {text : List ℕ} {l : Lexeme} {ts a left r : List Lexeme} {state s' : State} (u : ValueType Spelled) (n : Lexeme) → ValueReads text u (l ∷ ts) a → IsName n a left → Gots text [] state left s' r → (p : Param Spelled) × ParamReads text p (l ∷ ts) r
param_alone u n h i all_done = param_of u n h i

pub param : (text : List ℕ) → Step text AParam
param text t l ts r s v s' is h = let f = value_front text t [] l ts r v s' is h in param_alone f.value f.name f.reads f.named f.more

pub more_params : (text : List ℕ) → Step text MoreParamsEnd
more_params text CloseParen l ts r s v s' is all_done = ([], l ∷ ts, l, no_more_params, here is)
more_params text Comma l ts r s v s' is (one_done p _ _ (one_done g _ _ all_done)) = (p.0 ∷ g.0, g.1, g.2, one_more_param (here is) p.1 g.3, g.4)
more_params text _ l ts r s v s' is h = absurd h

params_of : {text : List ℕ} {all b r : List Lexeme} {state s' : State} (p : Param Spelled) → ParamReads text p all b → Gots text (MoreParamsEnd ∷ []) state b s' r → Got text ParamsEnd state all s' r
params_of p h (one_done g _ _ all_done) = (p ∷ g.0, g.1, g.2, some_params h g.3, g.4)

pub params : (text : List ℕ) → Step text ParamsEnd
params text CloseParen l ts r s v s' is all_done = ([], l ∷ ts, l, no_params, here is)
params text t l ts r s v s' is h = let f = value_front text t (MoreParamsEnd ∷ []) l ts r v s' is h in let p = param_of f.value f.name f.reads f.named in params_of p.0 p.1 f.more

-- functions
a_plain : {text : List ℕ} {is_public u : Bool} {x : ReturnType Spelled} {f n o : Lexeme} {all a b c d r : List Lexeme} {state s' : State} →
    VirtualReads u all a → IsFirst f a → ReturnReads text x a b → IsName n b c → Is OpenParen o c d → Gots text (ParamsEnd ∷ ABlock ∷ []) state d s' r → APart text is_public all r
a_plain {text = text} {u = u} {x = x} {f = f} {n = n} hu hf hx hn ho (one_done g _ _ (one_done t _ _ all_done)) =
    (part.Function (record { name = bytes_of text n; params = g.0; ret = x; is_virtual = u; is_pure = false; at = n.at }) f.at (Some t.0), a_function hu hf hx hn ho g.3 g.4 t.1 refl refl)

pub after_declared : (text : List ℕ) → Step text AfterDeclared
after_declared text OpenParen l ts r s v s' is h = λ is_public f n x all a hf hx hn. a_plain not_virtual hf (a_value_return hx) hn (here is) h
after_declared text t l ts r s v s' is h =
    λ is_public f n x all a hf hx hn. (let g = field_end text t l ts r s v s' is h in
    (part.Field (record { name = bytes_of text n; ty = field_type.Value x; count = g.0; width = None; width_at = 0; is_public = is_public; at = n.at }) f.at, a_field hf (a_value_field hx) hn g.3 g.4 refl refl))

pub after_scalar : (text : List ℕ) → Step text AfterScalar
after_scalar text Colon l ts r s v s' is (one_done w _ _ (one_done z _ _ all_done)) =
    λ is_public f n k all a hf hk hn. (part.Field (bit_field text n k w.0 is_public) f.at, a_bit_field hf hk hn (here is) w.1 z.1 refl refl)
after_scalar text t l ts r s v s' is h = λ is_public f n k all a hf hk hn. after_declared text t l ts r s v s' is h is_public f n (value.Number k) all a hf (a_scalar hk) hn

object_field : {text : List ℕ} {l : Lexeme} {ts r : List Lexeme} {v s' : State} → is_name l.sort ≡ true → Gots text (FieldEnd ∷ []) v ts s' r → (is_public : Bool) (n : Lexeme) (all : List Lexeme) → IsName n all (l ∷ ts) → APart text is_public all r
object_field {text = text} {l = l} is (one_done g _ _ all_done) is_public n all h =
    (part.Field (record { name = bytes_of text l; ty = field_type.Object (bytes_of text n); count = g.0; width = None; width_at = 0; is_public = is_public; at = l.at }) n.at, a_field (name_first h) (an_object_field h refl) (name_here is) g.3 g.4 refl refl)

pub after_type : (text : List ℕ) → Step text AfterType
after_type text Star l ts r s v s' is (one_done m _ _ (one_done g _ _ all_done)) =
    λ is_public n all h. g is_public n m.0 (value.Pointer (bytes_of text n)) all ts (name_first h) (a_class_pointer h (here is) refl) m.1
after_type text Name l ts r s v s' is h = object_field (ap is_name is) h
after_type text OwnName l ts r s v s' is h = object_field (ap is_name is) h
after_type text _ l ts r s v s' is h = absurd h

own_is_name : {n : Lexeme} {all ts : List Lexeme} → Is OwnName n all ts → IsName n all ts
own_is_name h = record { front = h.front; name = ap is_name h.sort }

pub after_own_name : (text : List ℕ) → Step text AfterOwnName
after_own_name text OpenParen l ts r s v s' is (one_done z _ _ (one_done g _ _ all_done)) =
    λ is_public n all h. (part.Constructor n.at g.0 g.3.0, a_constructor h (here is) z.1 g.2 g.3.1 refl)
after_own_name text t l ts r s v s' is h = λ is_public n all i. after_type text t l ts r s v s' is h is_public n all (own_is_name i)

-- initializers
pub init_read : (text : List ℕ) → Step text AnInit
init_read text Name l ts r s v s' is (one_done o _ _ (one_done c _ _ (one_done z _ _ all_done))) = (record { name = spot_of text l; value = c.0 }, a_member_init (name_here (ap is_name is)) o.1 c.1 z.1 refl)
init_read text OwnName l ts r s v s' is (one_done o _ _ (one_done c _ _ (one_done z _ _ all_done))) = (record { name = spot_of text l; value = c.0 }, a_member_init (name_here (ap is_name is)) o.1 c.1 z.1 refl)
init_read text _ l ts r s v s' is h = absurd h

-- a task that begins a block among others takes a list that a vector holds
abbrev pub LongStep : List ℕ → Task → Type 0
LongStep text m = (t : Sort) (l : Lexeme) (ts r : List Lexeme) (s v s' : State) → length (l ∷ ts) < 2 ^ 63 → l.sort ≡ t → NextGots text (after m t) v ts s' r → Got text m s (l ∷ ts) s' r

pub inits_end : (text : List ℕ) → LongStep text InitsEnd
inits_end text Comma l ts r s v s' bound is (one_done i _ _ (one_done g _ _ all_done)) = (i.0 ∷ g.0, g.1, one_more_init (here is) i.1 g.2, g.3)
inits_end text OpenBlock l ts r s v s' bound is (one_done h _ _ all_done) = ([], l ∷ ts, no_more_inits, block_of bound is h)
inits_end text _ l ts r s v s' bound is h = absurd h

pub constructor_end : (text : List ℕ) → LongStep text ConstructorEnd
constructor_end text Colon l ts r s v s' bound is (one_done i _ _ (one_done g _ _ all_done)) = (i.0 ∷ g.0, g.1, some_inits (here is) i.1 g.2, g.3)
constructor_end text OpenBlock l ts r s v s' bound is (one_done h _ _ all_done) = ([], l ∷ ts, no_inits, block_of bound is h)
constructor_end text _ l ts r s v s' bound is h = absurd h

pub virtual_end : (text : List ℕ) → LongStep text VirtualEnd
virtual_end text OpenBlock l ts r s v s' bound is (one_done h _ _ all_done) = inl (block_of bound is h)
virtual_end text Assign l ts r s v s' bound is (one_done q _ _ (one_done k _ _ all_done)) = inr (l, q.0, k.0, ts, _, here is, q.1, k.1)
virtual_end text _ l ts r s v s' bound is h = absurd h

-- a virtual function, pure or not
a_virtual_one : {text : List ℕ} {is_public : Bool} {x : ReturnType Spelled} {w f n o : Lexeme} {all a b c d r : List Lexeme} {state s' : State} →
    Is Virtual w all a → IsFirst f a → ReturnReads text x a b → IsName n b c → Is OpenParen o c d → Gots text (ParamsEnd ∷ VirtualEnd ∷ []) state d s' r → APart text is_public all r
a_virtual_one {text = text} {x = x} {f = f} {n = n} hw hf hx hn ho (one_done g _ _ (one_done (inl t) _ _ all_done)) =
    (part.Function (record { name = bytes_of text n; params = g.0; ret = x; is_virtual = true; is_pure = false; at = n.at }) f.at (Some t.0), a_function (a_virtual hw) hf hx hn ho g.3 g.4 t.1 refl refl)
a_virtual_one {text = text} {x = x} {f = f} {n = n} hw hf hx hn ho (one_done g _ _ (one_done (inr (e, q, k, i, j, he, hq, hk)) _ _ all_done)) =
    (part.Function (record { name = bytes_of text n; params = g.0; ret = x; is_virtual = true; is_pure = true; at = n.at }) f.at None, a_pure_function hw hf hx hn ho g.3 g.4 he hq hk refl refl)

virtual_value : {text : List ℕ} {l n : Lexeme} {ts a left r : List Lexeme} {state s' : State} (u : ValueType Spelled) → ValueReads text u (l ∷ ts) a → IsName n a left → Gots text (Only OpenParen ∷ ParamsEnd ∷ VirtualEnd ∷ []) state left s' r → (is_public : Bool) (w : Lexeme) (all : List Lexeme) → Is Virtual w all (l ∷ ts) → APart text is_public all r
virtual_value u hu i (one_done o _ _ g) is_public w all h = a_virtual_one h first_here (a_value_return hu) i o.1 g

pub after_virtual : (text : List ℕ) → Step text AfterVirtual
after_virtual text Void l ts r s v s' is (one_done n _ _ (one_done o _ _ g)) = λ is_public w all h. a_virtual_one h first_here (a_void_return (here is)) n.1 o.1 g
after_virtual text Tilde l ts r s v s' is (one_done n _ _ (one_done o _ _ (one_done z _ _ (one_done t _ _ all_done)))) =
    λ is_public w all h. (part.Destructor true n.0.at t.0, a_destructor (a_virtual h) (here is) n.1 o.1 z.1 t.1 refl)
after_virtual text t l ts r s v s' is h = let f = value_front text t (Only OpenParen ∷ ParamsEnd ∷ VirtualEnd ∷ []) l ts r v s' is h in virtual_value f.value f.reads f.named f.more

-- one part more
more_parts : {text : List ℕ} {all a r : List Lexeme} → ((is_public : Bool) → APart text is_public all a) → SomeParts text a r → SomeParts text all r
more_parts x g is_public = let p = x is_public in let y = g (public_after is_public p.0) in (p.0 ∷ y.0, y.1, y.2, one_part p.1 y.3, y.4)

labelled : {text : List ℕ} {all ts r : List Lexeme} {v s' : State} (p : Bool) {l : Lexeme} → IsAccess p l all ts → Gots text (Only Colon ∷ PartsEnd ∷ []) v ts s' r → SomeParts text all r
labelled p h (one_done k _ _ (one_done g _ _ all_done)) = more_parts (λ is_public. (part.Label p, a_label h k.1)) g

scalar_part : {text : List ℕ} {l n : Lexeme} {ts a left r : List Lexeme} {state s' : State} (k : Scalar) → ScalarReads k (l ∷ ts) a → IsName n a left → Gots text (AfterScalar ∷ PartsEnd ∷ []) state left s' r → SomeParts text (l ∷ ts) r
scalar_part {l = l} {n = n} {ts = ts} {a = a} k h i (one_done d _ _ (one_done g _ _ all_done)) = more_parts (λ is_public. d is_public l n k (l ∷ ts) a first_here h i) g

pub parts : (text : List ℕ) → Step text PartsEnd
parts text CloseBrace l ts r s v s' is all_done = λ is_public. ([], l ∷ ts, l, no_part, here is)
parts text Public l ts r s v s' is h = labelled true (access_here is refl) h
parts text Protected l ts r s v s' is h = labelled false (access_here is refl) h
parts text Private l ts r s v s' is h = labelled false (access_here is refl) h
parts text Name l ts r s v s' is (one_done p _ _ (one_done g _ _ all_done)) = more_parts (λ is_public. p is_public l (l ∷ ts) (name_here (ap is_name is))) g
parts text OwnName l ts r s v s' is (one_done p _ _ (one_done g _ _ all_done)) = more_parts (λ is_public. p is_public l (l ∷ ts) (here is)) g
parts text Virtual l ts r s v s' is (one_done p _ _ (one_done g _ _ all_done)) = more_parts (λ is_public. p is_public l (l ∷ ts) (here is)) g
parts text Void l ts r s v s' is (one_done n _ _ (one_done o _ _ (one_done q _ _ (one_done t _ _ (one_done g _ _ all_done))))) =
    more_parts (λ is_public. (part.Function (record { name = bytes_of text n.0; params = q.0; ret = return_type.Void; is_virtual = false; is_pure = false; at = n.0.at }) l.at (Some t.0), a_function not_virtual first_here (a_void_return (here is)) n.1 o.1 q.3 q.4 t.1 refl refl)) g
parts text Tilde l ts r s v s' is (one_done n _ _ (one_done o _ _ (one_done z _ _ (one_done t _ _ (one_done g _ _ all_done))))) =
    more_parts (λ is_public. (part.Destructor false n.0.at t.0, a_destructor not_virtual (here is) n.1 o.1 z.1 t.1 refl)) g
parts text t l ts r s v s' is h = let f = scalar_front text t (AfterScalar ∷ PartsEnd ∷ []) l ts r v s' is h in scalar_part f.scalar f.reads f.named f.more
