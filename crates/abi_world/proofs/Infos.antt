-- The type information of each class names known classes.
use Rattle.std.proofs.Common.{◌≡◌, ℕ, ◌<◌, ⊎_elim, inl, pos, Some, List, [], ◌∷◌, length, map, refl, sym, subst, arith}
use Rattle.std.specs.Prelude.{slice_get, if◌then◌else◌}
use Rattle.std.proofs.lemmas.Option.{slice_get_within}
use Rattle.foundation.proofs.Truth.{split}
use Rattle.foundation.proofs.Members.{Has, has_at, from_map, contains_from_has}
use Rattle.cxx_hierarchy.specs.declared.records.ClassId.{ClassId}
use Rattle.cxx_hierarchy.specs.declared.records.Base.{Base}
use Rattle.cxx_hierarchy.specs.Classes.{Classes, bases_of}
use Rattle.cxx_hierarchy.specs.Hierarchies.{IsHierarchy}
use Rattle.abi_sound.specs.Places.{Places}
use Rattle.abi_slots.specs.declared.words.InfoBase.{InfoBase}
use Rattle.abi_slots.specs.declared.words.TypeInfo.{TypeInfo}
use Rattle.abi_slots.specs.declared.words.TypeInfo.TheVariants.{Single}
use Rattle.abi_slots.specs.Images.{info_bases}
use Rattle.abi_rtti.specs.TypeInfos.{all_bases, info_base, info_by, is_simple, type_info}
use Rattle.abi_image.specs.Conditions.{AreKnownBases, AreKnownInfos}

module _ (h : Classes) (l : Places) (keeps : IsHierarchy h) (c : ClassId) (known : c.0 < length h) where
  base_known : (base : Base ClassId) → Has (bases_of h c) base → base.class.0 < length h
  base_known base has = let low = keeps.bases c base (contains_from_has (bases_of h c) base has) in omega (arith, low, known)

  all_known : AreKnownBases (length h) (info_bases (all_bases h l c))
  all_known i base there =
      let r = from_map (info_base h l c) (bases_of h c) base (has_at (map (info_base h l c) (bases_of h c)) i base there) in
      subst (λ (b : InfoBase). b.class.0 < length h) r.2 (base_known r.0 r.1)

  -- the one simple base
  abbrev single_base : Base ClassId → InfoBase
  single_base b = record { class = b.class; offset_flags = pos 2 }

  by_one : (b : Base ClassId) → bases_of h c ≡ b ∷ [] → (base : InfoBase) → Has (single_base b ∷ []) base → base.class.0 < length h
  by_one b e base has = ⊎_elim (λ same. subst (λ (x : InfoBase). x.class.0 < length h) same (base_known b (subst (λ (bs : List (Base ClassId)). Has bs b) (sym e) (inl refl)))) (λ none. absurd none) has

  by_bases : (bases : List (Base ClassId)) → bases_of h c ≡ bases → AreKnownBases (length h) (info_bases (info_by h l c bases))
  by_bases [] e = λ i base there. absurd (cc (there))
  by_bases (b ∷ []) e = split (is_simple l c b) (λ t. AreKnownBases (length h) (info_bases (if t then Single b.class else all_bases h l c)))
      (λ _. λ i base there. by_one b e base (has_at (single_base b ∷ []) i base there))
      (λ _. all_known)
  by_bases (b ∷ d ∷ rest) e = all_known

  pub info_known : AreKnownBases (length h) (info_bases (type_info h l c))
  info_known = by_bases (bases_of h c) refl

-- so does that of all classes
pub infos_known : (h : Classes) (l : Places) → IsHierarchy h → (infos : List TypeInfo) → length infos ≡ length h → ((c : ClassId) (info : TypeInfo) → slice_get infos c.0 ≡ Some info → info ≡ type_info h l c) → AreKnownInfos (length infos) infos
infos_known h l keeps infos size are n info there =
    let c : ClassId = record { 0 = n } in
    let inside = slice_get_within infos n info there in
    subst (λ (k : ℕ). AreKnownBases k (info_bases info)) (sym size) (subst (λ (t : TypeInfo). AreKnownBases (length h) (info_bases t)) (sym (are c info there)) (info_known h l keeps c (omega (arith, size, inside))))
