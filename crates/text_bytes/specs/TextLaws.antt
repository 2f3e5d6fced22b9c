-- When what the byte machine tells has the text of what a run tells.
use Rattle.std.specs.Prelude.{◌≡◌, ℕ, Bool, Contains, List}
use Rattle.path_model.specs.declared.outs.Out.{Out}
use Rattle.path_model.specs.Values.{Objects}
use Rattle.byte_memory.specs.Store.{Store}
use Rattle.byte_shadow.specs.Shadows.{Notes}
use Rattle.byte_machine.specs.declared.heap.Opened.{Opened}
use Rattle.byte_machine.specs.declared.turn.RawOut.{RawOut}
use Rattle.agree_relation.specs.Worlds.{World, IsProgramWorld, world_classes, places_in}
use Rattle.agree_relation.specs.Words.{heap_of}
use Rattle.agree_relation.specs.Columns.{ColumnsStand}
use Rattle.agree_relation.specs.Agrees.{ReadAs, ReadsAs}
use Rattle.text_told.specs.OutTexts.{out_text, outs_to_show as shown_outs, text_of}
use Rattle.text_bytes.specs.RawTexts.{HasText, raw_text, raw_texts, raw_outs_to_show as shown_raw}
use Rattle.text_bytes.specs.Reads.{AreShownOf, HasTypedLeaves, IsToldOf}

-- a thing that the machine tells has the text of what it reads as
abbrev pub RawOutsHaveOneText : (w : World) → IsProgramWorld w → Type 0
RawOutsHaveOneText w world = (s : Objects) (memory : Store) (opened : List Opened) (heap : ℕ) (notes : Notes) (raw : RawOut) (out : Out) →
    ColumnsStand w s memory opened heap notes → HasTypedLeaves w s → ReadsAs w world.lowered.at (heap_of s.classes memory.regions) raw out →
    IsToldOf w s out → raw_text (world_classes w) (places_in w) w.numbers w.image memory opened raw ≡ out_text (world_classes w) (places_in w) out

-- what is shown of all that is told has one text, with a trace or without
abbrev pub ShownOutsHaveOneText : (w : World) → IsProgramWorld w → Type 0
ShownOutsHaveOneText w world = (s : Objects) (memory : Store) (opened : List Opened) (heap : ℕ) (notes : Notes) (trace : Bool) (told : List RawOut) (outs : List Out) →
    ColumnsStand w s memory opened heap notes → HasTypedLeaves w s → ReadAs w world.lowered.at (heap_of s.classes memory.regions) told outs →
    AreShownOf trace w s outs →
    raw_texts (world_classes w) (places_in w) w.numbers w.image memory opened (shown_raw trace told) ≡ text_of (world_classes w) (places_in w) (shown_outs trace outs)

-- each thing that the machine tells has a text
abbrev pub RawOutsHaveTexts : (w : World) → IsProgramWorld w → Type 0
RawOutsHaveTexts w world = (s : Objects) (memory : Store) (opened : List Opened) (heap : ℕ) (notes : Notes) (told : List RawOut) (outs : List Out) (raw : RawOut) →
    ColumnsStand w s memory opened heap notes → ReadAs w world.lowered.at (heap_of s.classes memory.regions) told outs → Contains told raw →
    HasText (world_classes w) opened raw
