-- Functions of one name have one number.
use Rattle.std.proofs.Common.{◌≡◌, ℕ, false, Some, None, List, ap, sym, ◌∙◌}
use Rattle.std.specs.Prelude.{nat_eq}
use Rattle.std.proofs.lemmas.Bool.{eqb-true, eq-eqb}
use Rattle.cxx_hierarchy.specs.Classes.{Classes}
use Rattle.cxx_overrider.specs.declared.FunctionId.{FunctionId}
use Rattle.cxx_overrider.specs.Functions.{signature_of}
use Rattle.cxx_overrider.specs.invariants.Numbers.{number_of, IsNumbering}
use Rattle.cxx_overrider.specs.Virtuals.{same_name}
use Rattle.cxx_search.proofs.Names.{signature_name, name_signature}
use Rattle.abi_slots.proofs.Names.{name_is}
use Rattle.abi_slots.proofs.Complete.{same_bool}

pub numbers_same : (h : Classes) (rows : List (List ℕ)) (count : ℕ) (f g : FunctionId) (n m : ℕ) → IsNumbering h rows count → Some n ≡ number_of rows f → Some m ≡ number_of rows g → nat_eq n m ≡ same_name h f g
numbers_same h rows count f g n m is of_f of_g = same_bool (nat_eq n m) (same_name h f g)
    (λ e.
    let one : n ≡ m = eqb-true n m e in
    let signature = is.known f n (sym of_f) in
    let same : signature_of h f ≡ signature_of h g = is.same f g n (sym of_f) (sym of_g ∙ ap (λ a. Some a) (sym one)) in
    signature_name h f g signature.0 signature.1 (sym same ∙ signature.1))
    (λ e. eq-eqb n m (is.apart f g n m (sym of_f) (sym of_g) (name_is h f g e)))

pub no_first : (h : Classes) (rows : List (List ℕ)) (count : ℕ) (f g : FunctionId) → IsNumbering h rows count → None ≡ number_of rows f → false ≡ same_name h f g
no_first h rows count f g is none = same_bool false (same_name h f g) (λ e. cc) (λ e. absurd (let named = name_signature h f g e in let r = is.numbered f named.0 named.1 in let k = r.1 in cc))

pub no_second : (h : Classes) (rows : List (List ℕ)) (count : ℕ) (f g : FunctionId) → IsNumbering h rows count → None ≡ number_of rows g → false ≡ same_name h f g
no_second h rows count f g is none = same_bool false (same_name h f g) (λ e. cc) (λ e. absurd (let named = name_signature h f g e in let r = is.numbered g named.0 named.2 in let k = r.1 in cc))
