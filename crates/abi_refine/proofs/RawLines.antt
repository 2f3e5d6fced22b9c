-- The lines of what a turn told, piece by piece.
use Rattle.std.proofs.Common.{◌≡◌, ◌∙◌, ℕ, ◌+◌, ◌<◌, ◌≤◌, Bool, true, false, List, [], ◌∷◌, ◌++◌, get_or, take, length, refl, ap, sym, append_assoc, add-one}
use Rattle.std.specs.Prelude.{not, ◌&&◌, if◌then◌else◌}
use Rattle.std.proofs.lemmas.List.{append-nil, take_all}
use Rattle.std.proofs.Math.Seq.{take-suc}
use Rattle.foundation.proofs.Truth.{split}
use Rattle.cxx_hierarchy.specs.Classes.{Classes}
use Rattle.byte_memory.specs.Store.{Store}
use Rattle.byte_code.specs.declared.code.ImageBytes.{ImageBytes}
use Rattle.byte_machine.specs.declared.heap.Opened.{Opened}
use Rattle.byte_machine.specs.declared.turn.RawOut.{RawOut}
use Rattle.abi_sound.specs.Places.{Places}
use Rattle.abi_slots.specs.declared.code_numbers.CodeRow.{CodeRow}
use Rattle.text_bytes.specs.RawTexts.{is_raw_traced, printed_raw_outs, raw_text, raw_texts, raw_outs_to_show}

module _ (h : Classes) (l : Places) (rows : List CodeRow) (image : ImageBytes) (memory : Store) (objects : List Opened) where
  abbrev one_text : RawOut → List ℕ
  one_text raw = raw_text h l rows image memory objects raw

  -- the text of all of these
  abbrev whole_text : List RawOut → List ℕ
  whole_text told = raw_texts h l rows image memory objects told

  -- the line of one thing behind a text, or none

  pub line_hidden : (trace : Bool) (raw : RawOut) (old : List ℕ) → (not trace && is_raw_traced raw) ≡ true → old ≡ old ++ raw_texts h l rows image memory objects (raw_outs_to_show trace (raw ∷ []))
  line_hidden true raw old e = absurd (let f : false ≡ true = e in cc (f))
  line_hidden false raw old e = sym (ap (λ q. old ++ whole_text (if not q then raw ∷ [] else [])) e ∙ append-nil old)

  pub line_shown : (trace : Bool) (raw : RawOut) (old new : List ℕ) → (not trace && is_raw_traced raw) ≡ false → new ≡ old ++ raw_text h l rows image memory objects raw → new ≡ old ++ raw_texts h l rows image memory objects (raw_outs_to_show trace (raw ∷ []))
  line_shown true raw old new e puts = puts ∙ ap (λ (t : List ℕ). old ++ t) (sym (append-nil (one_text raw)))
  line_shown false raw old new e puts = puts ∙ ap (λ (t : List ℕ). old ++ t) (sym (ap (λ q. whole_text (if not q then raw ∷ [] else [])) e ∙ append-nil (one_text raw)))

  -- some things behind others

  whole_append : (xs ys : List RawOut) → whole_text (xs ++ ys) ≡ whole_text xs ++ whole_text ys
  whole_append [] ys = refl
  whole_append (raw ∷ xs) ys = ap (λ (t : List ℕ). one_text raw ++ t) (whole_append xs ys) ∙ sym (append_assoc (one_text raw) (whole_text xs) (whole_text ys))

  printed_append : (xs ys : List RawOut) → whole_text (printed_raw_outs (xs ++ ys)) ≡ whole_text (printed_raw_outs xs) ++ whole_text (printed_raw_outs ys)
  printed_append [] ys = refl
  printed_append (raw ∷ xs) ys = split (not (is_raw_traced raw)) (λ q. whole_text (if q then raw ∷ printed_raw_outs (xs ++ ys) else printed_raw_outs (xs ++ ys)) ≡ whole_text (if q then raw ∷ printed_raw_outs xs else printed_raw_outs xs) ++ whole_text (printed_raw_outs ys))
      (λ _. ap (λ (t : List ℕ). one_text raw ++ t) (printed_append xs ys) ∙ sym (append_assoc (one_text raw) (whole_text (printed_raw_outs xs)) (whole_text (printed_raw_outs ys))))
      (λ _. printed_append xs ys)

  lines_append : (trace : Bool) (xs ys : List RawOut) → whole_text (raw_outs_to_show trace (xs ++ ys)) ≡ whole_text (raw_outs_to_show trace xs) ++ whole_text (raw_outs_to_show trace ys)
  lines_append true xs ys = whole_append xs ys
  lines_append false xs ys = printed_append xs ys

  -- before the first one
  pub lines_none : (trace : Bool) (text : List ℕ) → text ≡ [] → text ≡ raw_texts h l rows image memory objects (raw_outs_to_show trace [])
  lines_none true text empty = empty
  lines_none false text empty = empty

  -- one thing more
  pub lines_more : (trace : Bool) (text more : List ℕ) (told : List RawOut) (i : ℕ) (raw : RawOut) → i < length told → raw ≡ get_or told i raw → text ≡ raw_texts h l rows image memory objects (raw_outs_to_show trace (take i told)) → more ≡ text ++ raw_texts h l rows image memory objects (raw_outs_to_show trace (raw ∷ []))
      → more ≡ raw_texts h l rows image memory objects (raw_outs_to_show trace (take (i + 1) told))
  lines_more trace text more told i raw lt is so adds =
      let next : take i told ++ (get_or told i raw ∷ []) ≡ take (i + 1) told = rw add-one (sym (take-suc told i raw lt)) in
      let longer : take i told ++ raw ∷ [] ≡ take (i + 1) told = ap (λ (y : RawOut). take i told ++ y ∷ []) is ∙ next in
      adds
      ∙ (ap (λ (t : List ℕ). t ++ whole_text (raw_outs_to_show trace (raw ∷ []))) so
      ∙ (sym (lines_append trace (take i told) (raw ∷ [])) ∙ ap (λ (os : List RawOut). whole_text (raw_outs_to_show trace os)) longer))

  -- all
  pub lines_all : (trace : Bool) (text : List ℕ) (told : List RawOut) (i : ℕ) → length told ≤ i → text ≡ raw_texts h l rows image memory objects (raw_outs_to_show trace (take i told)) → text ≡ raw_texts h l rows image memory objects (raw_outs_to_show trace told)
  lines_all trace text told i le so = so ∙ ap (λ (os : List RawOut). whole_text (raw_outs_to_show trace os)) (take_all i told le)
