-- The edge to a base, as it is read.
use Rattle.std.proofs.Common.{◌≡◌, ℕ, ◌+◌, ◌*◌, true, false, Option, refl, ap, subst, sym, ◌∙◌}
use Rattle.std.specs.Prelude.{IsSome}
use Rattle.byte_memory.specs.Store.{Store}
use Rattle.byte_code.specs.Images.{word_at}
use Rattle.byte_code.specs.Records.{HasBaseRecord, IsTableWord}
use Rattle.byte_code.specs.declared.code.ImageBytes.{ImageBytes}
use Rattle.byte_code.specs.declared.image.InfoRecord.{InfoRecord}
use Rattle.byte_code.specs.declared.image.BaseRecord.{BaseRecord}
use Rattle.abi_dyncast.specs.declared.parts.TypedPart.{TypedPart}
use Rattle.abi_dyncast.specs.Graph.{moved, graph_of, info_at, has_virtual_flag, offset_word, distance_word, edge_by, vbase_at, record_at, base_record}
use Rattle.abi_dyncast.specs.Casts.{CanStep}

-- the base that was read
pub base_is : (image : ℕ → Option ℕ) (memory : Store) (part : TypedPart) (info : InfoRecord) (i : ℕ) (base : BaseRecord) → info ≡ info_at image part.info → CanStep image memory part i → ((r : BaseRecord) → HasBaseRecord image (info.first + 16 * i) r → base ≡ r) → base ≡ base_record image part i
base_is image memory part info i base is step read =
    let place : info.first + 16 * i ≡ record_at image part i = ap (λ (r : InfoRecord). r.first + 16 * i) is in
    read (base_record image part i) (subst (λ at. HasBaseRecord image at (base_record image part i)) (sym place) step.base)

-- the word of a virtual base, in the same image
pub word_there : (image other : ImageBytes) (memory : Store) (part : TypedPart) (i : ℕ) (base : BaseRecord) → other ≡ image → base ≡ base_record (word_at image) part i → CanStep (word_at image) memory part i → has_virtual_flag base ≡ true → IsSome (word_at other (vbase_at memory part.at base))
word_there image other memory part i base same is step v =
    subst (λ (o : ImageBytes). IsSome (word_at o (vbase_at memory part.at base))) (sym same)
    (subst (λ (b : BaseRecord). IsSome (word_at image (vbase_at memory part.at b))) (sym is) (step.word (ap has_virtual_flag (sym is) ∙ v)))

pub word_of_table : (image other : ImageBytes) (memory : Store) (part : TypedPart) (i : ℕ) (base : BaseRecord) → other ≡ image → base ≡ base_record (word_at image) part i → CanStep (word_at image) memory part i → has_virtual_flag base ≡ true → IsTableWord (word_at other) (vbase_at memory part.at base)
word_of_table image other memory part i base same is step v =
    subst (λ (o : ImageBytes). IsTableWord (word_at o) (vbase_at memory part.at base)) (sym same)
    (subst (λ (b : BaseRecord). IsTableWord (word_at image) (vbase_at memory part.at b)) (sym is) (step.table (ap has_virtual_flag (sym is) ∙ v)))

-- the part of a base that is not virtual
pub plain_part : (image : ℕ → Option ℕ) (memory : Store) (part : TypedPart) (i : ℕ) (base : BaseRecord) (far at : ℕ) → base ≡ base_record image part i → has_virtual_flag base ≡ false → far ≡ offset_word base → at ≡ moved part.at far →
    record { at = at; info = base.info } ≡ ((graph_of image memory).edge part i).part
plain_part image memory part i base far at is plain offset place =
    let make : ℕ → ℕ → TypedPart = λ a info. record { at = a; info = info } in
    let same : distance_word image memory part.at base ≡ offset_word base = rw plain refl in
    ap (λ a. make a base.info) (place ∙ ap (moved part.at) (offset ∙ sym same)) ∙ ap (λ (b : BaseRecord). (edge_by image memory part.at b).part) is
