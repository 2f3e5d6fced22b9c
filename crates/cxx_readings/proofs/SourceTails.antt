-- What holds of a list and of its tails holds at each item of a source.
use Rattle.std.proofs.Common.{ℕ, Bool, List, subst}
use Rattle.cxx_grammar.specs.declared.sort.Lexeme.{Lexeme}
use Rattle.cxx_syntax.specs.declared.source_text.SourceText.{SourceText}
use Rattle.cxx_syntax.specs.declared.part.Item.{Item}
use Rattle.cxx_syntax.specs.Sources.{IsClassKey, ItemReads, a_class, a_forward, a_global, a_main, ItemsRead, no_item, one_item, SourceReads, a_source}
use Rattle.cxx_readings.proofs.PartTails.{bases_tail, class_parts_tail}
use Rattle.cxx_readings.proofs.StatementTails.{body_tail, value_tail}
use Rattle.cxx_readings.proofs.RightTails.{Falls, is_tail, name_tail}

pub key_tail : {P : List Lexeme → Type 0} {s : Bool} {l : Lexeme} {ts rest : List Lexeme} → Falls P → IsClassKey s l ts rest → P ts → P rest
key_tail {P} {l = l} {rest = rest} falls i p = falls l rest (subst P i.front p)

pub item_tail : {P : List Lexeme → Type 0} {text : List ℕ} {x : Item} {ts rest : List Lexeme} → Falls P → ItemReads text x ts rest → P ts → P rest
item_tail falls (a_class a b c d e f g _ _) p = is_tail falls g (is_tail falls f (class_parts_tail falls e (is_tail falls d (bases_tail falls c (name_tail falls b (key_tail falls a p))))))
item_tail falls (a_forward a b c) p = is_tail falls c (name_tail falls b (key_tail falls a p))
item_tail falls (a_global _ b c d _) p = is_tail falls d (name_tail falls c (value_tail falls b p))
item_tail falls (a_main a b c d e) p = body_tail falls e (is_tail falls d (is_tail falls c (is_tail falls b (is_tail falls a p))))

pub items_tail : {P : List Lexeme → Type 0} {text : List ℕ} {x : List Item} {ts rest : List Lexeme} → Falls P → ItemsRead text x ts rest → P ts → P rest
items_tail _ no_item p = p
items_tail falls (one_item a b) p = items_tail falls b (item_tail falls a p)

pub source_tail : {P : List Lexeme → Type 0} {text : List ℕ} {s : SourceText} {ts rest : List Lexeme} → Falls P → SourceReads text s ts rest → P ts → P rest
source_tail falls (a_source a b _) p = is_tail falls b (items_tail falls a p)
