-- The text of what a byte machine tells is that of what it reads as.
use Rattle.std.proofs.Common.{◌≡◌, ◌∙◌, ℕ, ◌+◌, Bool, true, false, Some, None, List, [], ◌∷◌, ◌++◌, ⊎_elim, inl, inr, refl, ap, subst, sym, arith}
use Rattle.std.specs.Prelude.{codes, not}
use Rattle.std.specs.Fmt.{signed_decimal}
use Rattle.foundation.proofs.Chosen.{filter_has}
use Rattle.foundation.proofs.Members.{Has, contains_from_has}
use Rattle.cxx_hierarchy.specs.declared.records.ClassId.{ClassId}
use Rattle.cxx_subobject.specs.declared.locations.Location.{Location}
use Rattle.path_model.specs.declared.outs.Out.{Out}
use Rattle.path_model.specs.declared.outs.Out.TheVariants.{Number as NumberOut, Pointer as PointerOut, TypeName as TypeNameOut, Dump as DumpOut, Call as CallOut, Built as BuiltOut, Ending as EndingOut}
use Rattle.path_model.specs.Values.{Objects}
use Rattle.byte_memory.specs.Store.{Store}
use Rattle.byte_shadow.specs.Shadows.{Notes}
use Rattle.byte_machine.specs.declared.heap.Opened.{Opened}
use Rattle.byte_machine.specs.declared.turn.RawOut.{RawOut}
use Rattle.byte_machine.specs.declared.turn.RawOut.TheVariants.{Number, Address, Class, Dump, Call, Built, Ending}
use Rattle.agree_parts.specs.Heaps.{Heap}
use Rattle.agree_parts.specs.Placed.{LieIn}
use Rattle.agree_relation.specs.Worlds.{World, IsProgramWorld, world_classes, places_in}
use Rattle.agree_relation.specs.Words.{heap_of}
use Rattle.agree_relation.specs.Frames.{PlaceNumbers}
use Rattle.agree_relation.specs.Columns.{ColumnsStand}
use Rattle.agree_relation.specs.Agrees.{LiesAt, ReadAs, ReadsAs}
use Rattle.agree_relation.proofs.Listed.{object_found}
use Rattle.agree_relation.proofs.Objects.{object_has_region}
use Rattle.abi_print.specs.LayoutTexts.{declared_class_name}
use Rattle.abi_print.specs.TableTexts.{function_text}
use Rattle.text_told.specs.Fields.{NamesPart, part_text}
use Rattle.path_model.specs.Outs.{is_traced as is_traced_out}
use Rattle.text_told.specs.OutTexts.{line_text, out_text, text_of, printed as printed_outs, outs_to_show as shown_outs}
use Rattle.text_bytes.specs.RawDumps.{address_text}
use Rattle.text_bytes.specs.RawTexts.{HasText, IsKnownObject, function_at_block, function_name_text, is_raw_traced, printed_raw_outs, raw_line, raw_text, raw_texts, raw_outs_to_show}
use Rattle.text_bytes.specs.Reads.{AreShownOf, HasTypedLeaves, IsToldOf}
use Rattle.text_bytes.proofs.Addresses.{location_read}
use Rattle.text_bytes.proofs.CallReads.{call_found}
use Rattle.text_bytes.proofs.DumpReads.{dump_read}

-- both are told in a trace alone, or neither is
traced_read : (w : World) (at : PlaceNumbers) (g : Heap) (raw : RawOut) (out : Out) → ReadsAs w at g raw out → is_raw_traced raw ≡ is_traced_out out
traced_read w at g (Number z) (NumberOut y) reads = refl
traced_read w at g (Address a) (PointerOut location) reads = refl
traced_read w at g (Class c) (TypeNameOut d) reads = refl
traced_read w at g (Dump a) (DumpOut number c leaves) reads = refl
traced_read w at g (Call block this) (CallOut f location) reads = refl
traced_read w at g (Built c this) (BuiltOut d location) reads = refl
traced_read w at g (Ending c this) (EndingOut d location) reads = refl
traced_read w at g raw out reads = absurd reads

module _ (w : World) (world : IsProgramWorld w) (s : Objects) (memory : Store) (opened : List Opened) (heap : ℕ) (notes : Notes) (columns : ColumnsStand w s memory opened heap notes) where
  -- what is told has a text
  pub text_there : (raw : RawOut) (out : Out) → ReadsAs w world.lowered.at (heap_of s.classes memory.regions) raw out → HasText (world_classes w) opened raw
  text_there (Number z) out reads = tt
  text_there (Address a) out reads = tt
  text_there (Class c) out reads = tt
  text_there (Dump a) (DumpOut number c leaves) reads =
      let region = object_has_region w s memory.regions opened heap reads.object c columns.objects reads.class in
      subst (IsKnownObject (world_classes w)) (sym (object_found w s memory.regions opened heap reads.object a c columns.objects reads.inside reads.class)) region.of.known
  text_there (Dump a) out reads = absurd reads
  text_there (Call block this) out reads = tt
  text_there (Built c this) out reads = tt
  text_there (Ending c this) out reads = tt

  pub texts_there : (told : List RawOut) (outs : List Out) → ReadAs w world.lowered.at (heap_of s.classes memory.regions) told outs → (raw : RawOut) → Has told raw → HasText (world_classes w) opened raw
  texts_there [] [] reads raw has = absurd has
  texts_there [] (out ∷ outs) reads raw has = absurd reads
  texts_there (first ∷ told) [] reads raw has = absurd reads
  texts_there (first ∷ told) (out ∷ outs) reads raw has = ⊎_elim (λ e. subst (HasText (world_classes w) opened) e (text_there first out reads.0)) (λ more. texts_there told outs reads.1 raw more) has

  class_line : (codes_before : List ℕ) (c : ℕ) (d : ClassId) (a : ℕ) (location : Location) → c ≡ d.0 → LiesAt w (heap_of s.classes memory.regions) location a → NamesPart (world_classes w) location →
      codes_before ++ declared_class_name (world_classes w) (record { 0 = c }) ++ codes " " ++ address_text opened a ≡ codes_before ++ declared_class_name (world_classes w) d ++ codes " " ++ part_text (world_classes w) (places_in w) location
  class_line before c d a location same lies names =
      ap (λ (e : ℕ). before ++ declared_class_name (world_classes w) (record { 0 = e }) ++ codes " " ++ address_text opened a) same
      ∙ ap (λ text. before ++ declared_class_name (world_classes w) d ++ codes " " ++ text) (location_read w s memory.regions opened heap columns.objects world location a lies names)

  line_read : HasTypedLeaves w s → (raw : RawOut) (out : Out) → ReadsAs w world.lowered.at (heap_of s.classes memory.regions) raw out → IsToldOf w s out →
      raw_line (world_classes w) (places_in w) w.numbers w.image memory opened raw ≡ line_text (world_classes w) (places_in w) out
  line_read typed (Number z) (NumberOut y) reads of = ap signed_decimal reads
  line_read typed (Address a) (PointerOut None) reads of = ap (address_text opened) reads
  line_read typed (Address a) (PointerOut (Some location)) reads of = location_read w s memory.regions opened heap columns.objects world location a reads of.told
  line_read typed (Class c) (TypeNameOut d) reads of = ap (λ (e : ℕ). declared_class_name (world_classes w) (record { 0 = e })) reads
  line_read typed (Dump a) (DumpOut number c leaves) reads of =
      let here : number ≡ reads.object + 1 = reads.number_is in
      let there : number ≡ of.of.object + 1 = of.of.number_is in
      let same : reads.object ≡ of.of.object = omega arith in
      dump_read w world s memory opened heap notes columns typed number c leaves a of.of (subst (λ k. LieIn (places_in w) (heap_of s.classes memory.regions) k a 1) same reads.inside)
  line_read typed (Call block this) (CallOut f location) reads of =
      let found : function_at_block w.numbers block ≡ Some f = ap (function_at_block w.numbers) reads.0 ∙ call_found w world f of.of in
      ap (λ o. codes "call " ++ function_name_text (world_classes w) o ++ codes " " ++ address_text opened this) found
      ∙ ap (λ text. codes "call " ++ function_text (world_classes w) f ++ codes " " ++ text) (location_read w s memory.regions opened heap columns.objects world location this reads.1 of.told)
  line_read typed (Built c this) (BuiltOut d location) reads of = class_line (codes "built ") c d this location reads.0 reads.1 of.told
  line_read typed (Ending c this) (EndingOut d location) reads of = class_line (codes "ending ") c d this location reads.0 reads.1 of.told
  line_read typed raw out reads of = absurd reads

  -- one text each
  pub text_read : HasTypedLeaves w s → (raw : RawOut) (out : Out) → ReadsAs w world.lowered.at (heap_of s.classes memory.regions) raw out → IsToldOf w s out →
      raw_text (world_classes w) (places_in w) w.numbers w.image memory opened raw ≡ out_text (world_classes w) (places_in w) out
  text_read typed raw out reads of = ap (λ line. line ++ 10 ∷ []) (line_read typed raw out reads of)

  -- one text of all, with the lines of a trace
  texts_read : HasTypedLeaves w s → (told : List RawOut) (outs : List Out) → ReadAs w world.lowered.at (heap_of s.classes memory.regions) told outs → ((out : Out) → Has outs out → IsToldOf w s out) →
      raw_texts (world_classes w) (places_in w) w.numbers w.image memory opened told ≡ text_of (world_classes w) (places_in w) outs
  texts_read typed [] [] reads of = refl
  texts_read typed [] (out ∷ outs) reads of = absurd reads
  texts_read typed (raw ∷ told) [] reads of = absurd reads
  texts_read typed (raw ∷ told) (out ∷ outs) reads of =
      ap (λ text. text ++ raw_texts (world_classes w) (places_in w) w.numbers w.image memory opened told) (text_read typed raw out reads.0 (of out (inl refl)))
      ∙ ap (λ text. out_text (world_classes w) (places_in w) out ++ text) (texts_read typed told outs reads.1 (λ x has. of x (inr has)))

  -- and without them
  printed_read : HasTypedLeaves w s → (told : List RawOut) (outs : List Out) → ReadAs w world.lowered.at (heap_of s.classes memory.regions) told outs → ((out : Out) → Has outs out → is_traced_out out ≡ false → IsToldOf w s out) →
      raw_texts (world_classes w) (places_in w) w.numbers w.image memory opened (printed_raw_outs told) ≡ text_of (world_classes w) (places_in w) (printed_outs outs)
  printed_read typed [] [] reads of = refl
  printed_read typed [] (out ∷ outs) reads of = absurd reads
  printed_read typed (raw ∷ told) [] reads of = absurd reads
  printed_read typed (raw ∷ told) (out ∷ outs) reads of = by_trace (printed_read typed told outs reads.1 (λ x has plain. of x (inr has) plain)) (is_traced_out out) refl
    where
      rest : List ℕ
      rest = raw_texts (world_classes w) (places_in w) w.numbers w.image memory opened (printed_raw_outs told)

      same : is_raw_traced raw ≡ is_traced_out out
      same = traced_read w world.lowered.at (heap_of s.classes memory.regions) raw out reads.0

      by_trace : rest ≡ text_of (world_classes w) (places_in w) (printed_outs outs) → (b : Bool) → is_traced_out out ≡ b →
          raw_texts (world_classes w) (places_in w) w.numbers w.image memory opened (printed_raw_outs (raw ∷ told)) ≡ text_of (world_classes w) (places_in w) (printed_outs (out ∷ outs))
      by_trace more true is = let traced : is_raw_traced raw ≡ true = same ∙ is in rw (traced, is) more
      by_trace more false is =
          let traced : is_raw_traced raw ≡ false = same ∙ is in
          rw (traced, is) (ap (λ text. text ++ rest) (text_read typed raw out reads.0 (of out (inl refl) is)) ∙ ap (λ text. out_text (world_classes w) (places_in w) out ++ text) more)

  -- one text of what is shown
  pub shown_read : HasTypedLeaves w s → (trace : Bool) (told : List RawOut) (outs : List Out) → ReadAs w world.lowered.at (heap_of s.classes memory.regions) told outs → AreShownOf trace w s outs →
      raw_texts (world_classes w) (places_in w) w.numbers w.image memory opened (raw_outs_to_show trace told) ≡ text_of (world_classes w) (places_in w) (shown_outs trace outs)
  shown_read typed true told outs reads of = texts_read typed told outs reads (λ out has. of out (contains_from_has outs out has))
  shown_read typed false told outs reads of = printed_read typed told outs reads (λ out has plain. of out (contains_from_has (printed_outs outs) out (filter_has (λ x. not (is_traced_out x)) outs out has (ap not plain))))
