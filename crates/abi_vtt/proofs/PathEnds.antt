-- Whether a path ends in a primary base, by its last two classes.
use Rattle.std.proofs.Common.{◌≡◌, ℕ, zero, suc, ◌+◌, ◌-◌, ◌<◌, ◌≤◌, Bool, false, List, [], ◌∷◌, length, get_or, refl, ap, ◌∙◌, arith}
use Rattle.cxx_hierarchy.specs.declared.records.ClassId.{ClassId}
use Rattle.abi_primary.specs.declared.Primary.{Primary}
use Rattle.abi_sound.specs.Places.{Places}
use Rattle.abi_primary.specs.PrimaryBase.{is_direct_primary}
use Rattle.abi_vtt.specs.Vtts.{ends_in_primary}

pub short_path : (l : Places) (path : List ClassId) → length path < 2 → false ≡ ends_in_primary l path
short_path l [] lt = refl
short_path l (c ∷ []) lt = refl
short_path l (c ∷ d ∷ path) lt = absurd (omega arith)

last_two : (l : Places) (path : List ClassId) (i : ℕ) (c d : ClassId) → length path ≡ i + 2 → is_direct_primary (l.primary (get_or path i c)) (get_or path (i + 1) d) ≡ ends_in_primary l path
last_two l [] i c d size = absurd (omega arith)
last_two l (b ∷ []) i c d size = absurd (omega arith)
last_two l (b ∷ e ∷ []) zero c d size = refl
last_two l (b ∷ e ∷ []) (suc i) c d size = absurd (omega arith)
last_two l (b ∷ e ∷ f ∷ path) zero c d size = absurd (omega arith)
last_two l (b ∷ e ∷ f ∷ path) (suc i) c d size =
    let next : suc i + 1 ≡ suc (i + 1) = omega arith in
    ap (λ k. is_direct_primary (l.primary (get_or (e ∷ f ∷ path) i c)) (get_or (b ∷ e ∷ f ∷ path) k d)) next ∙ last_two l (e ∷ f ∷ path) i c d (omega arith)

pub long_path : (l : Places) (path : List ClassId) (primary : Primary) (a b : ClassId) (result : Bool) → 2 ≤ length path → result ≡ is_direct_primary primary (get_or path (length path - 1) b) → primary ≡ l.primary (get_or path (length path - 2) a) → result ≡ ends_in_primary l path
long_path l path primary a b result long is found =
    let next : length path - 1 ≡ length path - 2 + 1 = omega arith in
    is
    ∙ ap (λ (p : Primary). is_direct_primary p (get_or path (length path - 1) b)) found
    ∙ ap (λ k. is_direct_primary (l.primary (get_or path (length path - 2) a)) (get_or path k b)) next
    ∙ last_two l path (length path - 2) a b (omega arith)
