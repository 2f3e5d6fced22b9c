use Rattle.std.proofs.Common.{Option, None, ap, sym, ◌∙◌}
use Rattle.std.specs.List.{find}
use Rattle.cxx_subobject.specs.declared.Subobject.{Subobject}
use Rattle.abi_primary.specs.PrimaryBase.{is_nearly_base, is_free_base, as_primary, choice}
use Rattle.abi_primary.proofs.PrimaryLemmas.{found, not_found}
use Rattle.abi_primary.proofs.primaries.virtual_primary.Goals as goal

pub returns-in-Some : goal.returns-in-Some
returns-in-Some c =
    let list = c.args.list.now in
    let free = is_free_base c.args.nearly.now c.args.earlier.now list in
    let f = found free list c.in-Some.n c.index-list-n.result (sym c.first_free.ensures ∙ c.in-Some.is) c.index-list-n.is in
    c.as_primary.ensures ∙ (ap (λ (s : Subobject). as_primary s.root) (sym c.index-list-n.is) ∙ sym (ap (λ (o : Option Subobject). choice o (find (is_nearly_base c.args.nearly.now) list)) f))

pub returns-in-Some-first_nearly : goal.returns-in-Some-first_nearly
returns-in-Some-first_nearly c =
    let list = c.args.list.now in
    let free = is_free_base c.args.nearly.now c.args.earlier.now list in
    let none = not_found free list (sym c.first_free.ensures ∙ c.in-None.is) in
    let f = found (is_nearly_base c.args.nearly.now) list c.in-Some-first_nearly.n c.index-list-n-in-Some-first_nearly.result (sym c.first_nearly.ensures ∙ c.in-Some-first_nearly.is) c.index-list-n-in-Some-first_nearly.is in
    c.as_primary-in-Some-first_nearly.ensures ∙ (ap (λ (s : Subobject). as_primary s.root) (sym c.index-list-n-in-Some-first_nearly.is) ∙ (sym (ap (λ (o : Option Subobject). choice None o) f) ∙ sym (ap (λ (o : Option Subobject). choice o (find (is_nearly_base c.args.nearly.now) list)) none)))

pub returns-in-None-first_nearly : goal.returns-in-None-first_nearly
returns-in-None-first_nearly c =
    let list = c.args.list.now in
    let free = is_free_base c.args.nearly.now c.args.earlier.now list in
    let none = not_found free list (sym c.first_free.ensures ∙ c.in-None.is) in
    let other = not_found (is_nearly_base c.args.nearly.now) list (sym c.first_nearly.ensures ∙ c.in-None-first_nearly.is) in
    sym (ap (λ (o : Option Subobject). choice None o) other) ∙ sym (ap (λ (o : Option Subobject). choice o (find (is_nearly_base c.args.nearly.now) list)) none)
