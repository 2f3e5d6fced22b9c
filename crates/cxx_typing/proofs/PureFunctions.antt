-- In a source that tokens spell each pure function is virtual.
use Rattle.std.proofs.Common.{◌≡◌, ⊎_elim, ℕ, Bool, true, Option, Some, None, List, map, length, refl, sym, ◌∙◌, ap, subst, slice_get}
use Rattle.std.specs.Prelude.{nat_eq}
use Rattle.foundation.proofs.Members.{Has, has_at}
use Rattle.foundation.proofs.Chosen.{from_filter_map}
use Rattle.cxx_grammar.specs.declared.sort.Lexeme.{Lexeme}
use Rattle.cxx_hierarchy.specs.declared.records.ClassId.{ClassId}
use Rattle.cxx_hierarchy.specs.declared.records.Function.{Function}
use Rattle.cxx_hierarchy.specs.declared.records.Param.{Param}
use Rattle.cxx_hierarchy.specs.Classes.{Class, Classes, class_at, functions_in}
use Rattle.cxx_hierarchy.specs.ClassPass.{Record, names_of}
use Rattle.cxx_hierarchy.specs.Hierarchies.{IsHierarchy}
use Rattle.cxx_hierarchy.specs.Resolved.{class_of_name, resolved_function, resolved_class, resolved}
use Rattle.cxx_hierarchy.proofs.Listed.{mapped}
use Rattle.cxx_overrider.specs.declared.FunctionId.{FunctionId}
use Rattle.cxx_overrider.specs.Functions.{named, signature_at, signature_in, signature_of, says_virtual_at, says_virtual_in}
use Rattle.cxx_overrider.specs.Virtuals.{is_virtual}
use Rattle.cxx_overrider.specs.Overriding.{IsVirtual}
use Rattle.cxx_overrider.proofs.MarkLemmas.{part_itself}
use Rattle.cxx_search.proofs.Virtuals.{virtual_test}
use Rattle.cxx_syntax.specs.declared.part.ClassPart.{ClassPart}
use Rattle.cxx_syntax.specs.declared.part.ClassPart.TheVariants as part
use Rattle.cxx_syntax.specs.declared.part.Item.{Item}
use Rattle.cxx_syntax.specs.declared.source_text.SourceText.{SourceText}
use Rattle.cxx_syntax.specs.Parts.{Spelled, PartReads, a_label, a_field, a_bit_field, a_function, a_pure_function, a_constructor, a_destructor, PartsRead, no_part, one_part}
use Rattle.cxx_syntax.specs.Definitions.{function_from}
use Rattle.cxx_syntax.specs.Sources.{ItemReads, a_class, a_forward, a_global, a_main, ItemsRead, no_item, one_item, record_in, SourceReads, a_source}
use Rattle.cxx_typing.specs.Scopes.{PureAreVirtual}

-- the text

-- where the function is pure, the word `virtual` stands before it
abbrev SaysSo : Function Spelled → Type 0
SaysSo f = f.is_pure ≡ true → f.is_virtual ≡ true

abbrev PartSays : ClassPart → Type 0
PartSays (part.Label p) = Unit {0}
PartSays (part.Field m ty_at) = Unit {0}
PartSays (part.Function f ty_at body) = SaysSo f
PartSays (part.Constructor at is t) = Unit {0}
PartSays (part.Destructor v at t) = Unit {0}

part_says : {text : List ℕ} {is_public : Bool} {p : ClassPart} {ts rest : List Lexeme} → PartReads text is_public p ts rest → PartSays p
part_says (a_label i k) = tt
part_says (a_field f ty n c z e at) = tt
part_says (a_bit_field f ty n o w z e at) = tt
part_says (a_function v f r n o ps z b e at) = λ pure. let body = ap (λ (g : Function Spelled). g.is_pure) e in absurd (cc)
part_says (a_pure_function v f r n o ps z w q k e at) = λ pure. ap (λ (g : Function Spelled). g.is_virtual) e
part_says (a_constructor n o z is b at) = tt
part_says (a_destructor v w n o z b at) = tt

parts_say : {text : List ℕ} {is_public : Bool} {ps : List ClassPart} {ts rest : List Lexeme} → PartsRead text is_public ps ts rest → (p : ClassPart) → Has ps p → PartSays p
parts_say no_part p has = absurd has
parts_say (one_part x xs) p has = ⊎_elim (λ same. subst PartSays same (part_says x)) (λ later. parts_say xs p later) has

function_says : (p : ClassPart) (f : Function Spelled) → function_from p ≡ Some f → PartSays p → SaysSo f
function_says (part.Label p) f e says = absurd (cc)
function_says (part.Field m ty_at) f e says = absurd (cc)
function_says (part.Function g ty_at body) f e says = let same : g ≡ f = cc in subst SaysSo same says
function_says (part.Constructor at is t) f e says = absurd (cc)
function_says (part.Destructor v at t) f e says = absurd (cc)

abbrev RecordSays : Record → Type 0
RecordSays r = (f : Function Spelled) → Has r.functions f → SaysSo f

item_says : {text : List ℕ} {i : Item} {ts rest : List Lexeme} → ItemReads text i ts rest → (r : Record) → record_in i ≡ Some r → RecordSays r
item_says {text = text} (a_class {c = c} {bases = bases} {parts = ps} {n = n} k m b o p z q e f) r is =
    let same : c ≡ r = cc in
    subst RecordSays (sym e ∙ same) (λ g has. let x = from_filter_map function_from ps g has in function_says x.0 g x.2 (parts_say p x.0 x.1))
item_says (a_forward k m q) r is = absurd (cc)
item_says (a_global f v m q e) r is = absurd (cc)
item_says (a_main w m o z b) r is = absurd (cc)

items_say : {text : List ℕ} {is : List Item} {ts rest : List Lexeme} → ItemsRead text is ts rest → (i : Item) → Has is i → (r : Record) → record_in i ≡ Some r → RecordSays r
items_say no_item i has r is = absurd has
items_say (one_item x xs) i has r is = ⊎_elim
    (λ same. item_says x r (ap record_in same ∙ is))
    (λ later. items_say xs i later r is)
    has

source_says : (text : List ℕ) (s : SourceText) (ts rest : List Lexeme) → SourceReads text s ts rest → (r : Record) → Has s.records r → RecordSays r
source_says text s _ _ (a_source {is = is} items e make) r has =
    let x = from_filter_map record_in is r (subst (λ (rs : List Record). Has rs r) make.records has) in
    items_say items x.0 x.1 r x.2

-- the classes

signed : (class : Class) (index : ℕ) (d : Function ClassId) → slice_get class.functions index ≡ Some d → signature_in (Some class) index ≡ Some (named d.name (map (λ (p : Param ClassId). p.ty) d.params))
signed class index d there = ap (λ (o : Option (Function ClassId)). signature_at o (nat_eq index (length class.functions))) there

virtual_by : (h : Classes) (f : FunctionId) (d : Function ClassId) (class : Class) → class_at h f.class ≡ Some class → slice_get class.functions f.index ≡ Some d → d.is_virtual ≡ true → IsVirtual h f
virtual_by h f d class at there says =
    let is : signature_of h f ≡ Some (named d.name (map (λ (p : Param ClassId). p.ty) d.params)) = ap (λ (o : Option Class). signature_in o f.index) at ∙ signed class f.index d there in
    record {
      signature = named d.name (map (λ (p : Param ClassId). p.ty) d.params);
      is = is;
      source = record {
        source = f;
        same = is;
        says = ap (λ (o : Option Class). says_virtual_in o f.index) at ∙ ap (λ (o : Option (Function ClassId)). says_virtual_at o class.destructor) there ∙ says;
        base = part_itself h f.class;
      };
    }

by_class : (records : List Record) → IsHierarchy (resolved records) → ((r : Record) → Has records r → RecordSays r) → (f : FunctionId) (d : Function ClassId) (o : Option Class) → class_at (resolved records) f.class ≡ o →
    slice_get (functions_in o) f.index ≡ Some d → d.is_pure ≡ true → is_virtual (resolved records) f ≡ true
by_class records keeps says f d None at there pure = absurd (cc)
by_class records keeps says f d (Some class) at there pure =
    let by = class_of_name (names_of records) in
    let r = mapped (resolved_class by) records f.class.0 class at in
    let listed : slice_get (map (resolved_function by) r.item.functions) f.index ≡ Some d = ap (λ (x : Class). slice_get x.functions f.index) (sym r.same) ∙ there in
    let g = mapped (resolved_function by) r.item.functions f.index d listed in
    let word = says r.item (has_at records f.class.0 r.item r.listed) g.item (has_at r.item.functions f.index g.item g.listed) (ap (λ (x : Function ClassId). x.is_pure) (sym g.same) ∙ pure) in
    virtual_test (resolved records) keeps f (virtual_by (resolved records) f d class at there (ap (λ (x : Function ClassId). x.is_virtual) g.same ∙ word))

pub pure_are_virtual : (text : List ℕ) (s : SourceText) (ts rest : List Lexeme) → SourceReads text s ts rest → IsHierarchy (resolved s.records) → PureAreVirtual (resolved s.records)
pure_are_virtual text s ts rest reads keeps = record {
  each = λ f d declared pure. by_class s.records keeps (source_says text s ts rest reads) f d (class_at (resolved s.records) f.class) refl declared pure;
}
