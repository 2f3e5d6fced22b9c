-- Views that are kept.
use Rattle.std.proofs.Common.{◌≡◌, ◌<◌, ◌+◌, ℕ, ⊎_elim, Some, List, [], ◌∷◌, ◌++◌, length, ap, subst, sym, ◌∙◌, arith}
use Rattle.std.specs.Prelude.{slice_get}
use Rattle.std.proofs.lemmas.Option.{slice_get_within}
use Rattle.foundation.proofs.Places.{get_front, get_last, get_pushed, length_pushed}
use Rattle.cxx_hierarchy.specs.Classes.{Classes}
use Rattle.abi_sound.specs.Places.{Places}
use Rattle.abi_slots.specs.declared.words.GroupName.{GroupName}
use Rattle.abi_slots.proofs.Chains.{same_some}
use Rattle.abi_vtable.specs.declared.view.ViewParts.{ViewParts}
use Rattle.abi_vtable.specs.invariants.Parts.{IsViewParts}
use Rattle.abi_vtable.specs.invariants.Kept.{IsKeptView, AreViews, GrowsByViews}

-- the view is that of a group
pub record IsViewNamed (h : Classes) (l : Places) (name : GroupName) (x : ViewParts) : Type 0 where
  pub complete : x.complete ≡ name.complete
  pub at : x.at ≡ name.view
  pub parts : IsViewParts h l x

module _ (h : Classes) (l : Places) where
  pub kept_within : (name : GroupName) (old new items : List ViewParts) (n : ℕ) → IsKeptView h l name old new → n ≡ length old → items ≡ new → n < length items
  kept_within name old new items n kept e same =
      let size : length items ≡ length old + 1 = ap length (same ∙ kept.pushed) ∙ length_pushed old kept.view in
      omega arith

  pub kept_there : (name : GroupName) (old new items : List ViewParts) (n : ℕ) (x : ViewParts) → IsKeptView h l name old new → n ≡ length old → items ≡ new → slice_get items n ≡ Some x → IsViewNamed h l name x
  kept_there name old new items n x kept e same there =
      let last : slice_get items n ≡ Some kept.view = ap (λ xs. slice_get xs n) (same ∙ kept.pushed) ∙ ap (slice_get (old ++ kept.view ∷ [])) e ∙ get_last old kept.view in
      let one : kept.view ≡ x = same_some kept.view x (sym last ∙ there) in
      subst (λ a. IsViewNamed h l name a) one (record { complete = kept.complete; at = kept.at; parts = kept.parts })

  pub kept_grows : (name : GroupName) (old new : List ViewParts) → IsKeptView h l name old new → GrowsByViews h l old new
  kept_grows name old new kept = record {
    stays = λ i x e. ap (λ xs. slice_get xs i) kept.pushed ∙ get_front old (kept.view ∷ []) i x e;
    views = λ are. record {
      each = λ i x e. ⊎_elim (λ before. are.each i x before) (λ last. subst (λ a. IsViewParts h l a) (sym last.1) kept.parts) (get_pushed old kept.view i x (ap (λ xs. slice_get xs i) (sym kept.pushed) ∙ e));
    };
  }

  pub views_same : (old new : List ViewParts) → new ≡ old → GrowsByViews h l old new
  views_same old new same = record { stays = λ i x e. ap (λ xs. slice_get xs i) same ∙ e; views = λ are. subst (λ xs. AreViews h l xs) (sym same) are }

  pub no_views : (views : List ViewParts) → views ≡ [] → AreViews h l views
  no_views views none = subst (λ xs. AreViews h l xs) (sym none) (record { each = λ i x e. cc })

  pub views_more : (old now new : List ViewParts) → GrowsByViews h l old now → GrowsByViews h l now new → GrowsByViews h l old new
  views_more old now new first then = record { stays = λ i x e. then.stays i x (first.stays i x e); views = λ are. then.views (first.views are) }

  -- a view that was there stays there
  pub stays_there : (old new items more : List ViewParts) (n : ℕ) (x y : ViewParts) → GrowsByViews h l old new → items ≡ old → more ≡ new → slice_get items n ≡ Some x → slice_get more n ≡ Some y → x ≡ y
  stays_there old new items more n x y grows same also there later =
      same_some x y (sym (grows.stays n x (ap (λ xs. slice_get xs n) (sym same) ∙ there)) ∙ ap (λ xs. slice_get xs n) (sym also) ∙ later)

  pub still_within : (old new items more : List ViewParts) (n : ℕ) (x : ViewParts) → GrowsByViews h l old new → items ≡ old → more ≡ new → slice_get items n ≡ Some x → n < length more
  still_within old new items more n x grows same also there = slice_get_within more n x (ap (λ xs. slice_get xs n) also ∙ grows.stays n x (ap (λ xs. slice_get xs n) (sym same) ∙ there))
