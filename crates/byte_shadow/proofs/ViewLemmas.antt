-- How views go along with the list and the map.
use Rattle.std.proofs.Common.{◌≡◌, ℕ, Bool, true, false, Option, Some, refl, ◌∙◌}
use Rattle.std.specs.Prelude.{nat_eq, ◌&&◌, if◌then◌else◌, option_map}
use Rattle.std.specs.List.{find}
use Rattle.std.specs.Option.{option_or}
use Rattle.indexmap.specs.IndexMap.{get_by}
use Rattle.byte_shadow.specs.declared.note.Place.{Place}
use Rattle.byte_shadow.specs.declared.view_map.ViewMap.{ViewMap}
use Rattle.byte_shadow.specs.NearLists.{is_near_at}
use Rattle.byte_shadow.specs.Meaning.{same_place, shadow_place, wide_view, view_found, IsViewPut}

-- a view is put into the map
pub put-wide-view : (old mid new : ViewMap) (owner view : Place) → ((a c : ℕ) → view_found mid a c ≡ view_found old a c) → new.list ≡ mid.list →
    ((a c : ℕ) → get_by (same_place (shadow_place a c)) new.wide ≡ (if nat_eq owner.at a && nat_eq owner.class c then Some view else get_by (same_place (shadow_place a c)) mid.wide)) → IsViewPut old new owner view
put-wide-view old mid new owner view same list put a c =
    (λ i. option_or (put a c i) (option_map wide_view (find (is_near_at a c) (list i).items.items)))
    ∙ (chosen (nat_eq owner.at a && nat_eq owner.class c) (get_by (same_place (shadow_place a c)) mid.wide) (option_map wide_view (find (is_near_at a c) mid.list.items.items))
    ∙ (λ i. if nat_eq owner.at a && nat_eq owner.class c then Some view else same a c i))
  where
    chosen : (b : Bool) (wide short : Option Place) → option_or (if b then Some view else wide) short ≡ (if b then Some view else option_or wide short)
    chosen true wide short = refl
    chosen false wide short = refl
