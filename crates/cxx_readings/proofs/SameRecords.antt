-- Parts that say the same make one record, and bodies that say the same.
use Rattle.std.proofs.Common.{◌≡◌, ℕ, Bool, List, [], ◌∷◌, ◌++◌, Option, Some, refl, ap, ◌∙◌, subst, length, ◌||◌}
use Rattle.std.specs.Prelude.{filter_map}
use Rattle.std.specs.List.{list_any, cons_option}
use Rattle.cxx_grammar.specs.declared.sort.Lexeme.{Lexeme}
use Rattle.cxx_grammar.specs.Lexemes.{bytes_of}
use Rattle.cxx_hierarchy.specs.declared.records.Base.{Base}
use Rattle.cxx_hierarchy.specs.declared.records.Member.{Member}
use Rattle.cxx_hierarchy.specs.declared.records.Function.{Function}
use Rattle.cxx_hierarchy.specs.declared.records.PartAt.{PartAt}
use Rattle.cxx_hierarchy.specs.declared.records.PartKind.TheVariants as kind
use Rattle.cxx_hierarchy.specs.declared.records.Destructor.{Destructor}
use Rattle.cxx_hierarchy.specs.declared.records.Destructor.TheVariants as destructor
use Rattle.cxx_hierarchy.specs.declared.records.ClassRec.{ClassRec}
use Rattle.cxx_syntax.specs.declared.source_text.Body.{Body}
use Rattle.cxx_syntax.specs.declared.source_text.BodyOwner.TheVariants as owner
use Rattle.cxx_syntax.specs.declared.part.ClassPart.{ClassPart}
use Rattle.cxx_syntax.specs.Parts.{Spelled}
use Rattle.cxx_syntax.specs.Definitions.{member_from, function_from, members_among, functions_among, given_by_parts, part_at, order_of, is_constructor_part, destructor_after, last_destructor, destructor_among, entry, record_of, body_at, bodies_of}
use Rattle.cxx_syntax.specs.SameSources.{SameBodies, no_bodies, more_bodies}
use Rattle.cxx_readings.proofs.SameParts.{SamePart, same_label, same_field, same_pure, same_function, same_constructor, same_destructor, SameParts, no_parts, more_parts}

-- what is read of each part
filtered : {X : Type 0} (f : ClassPart → Option X) → ((p q : ClassPart) → SamePart p q → f p ≡ f q) → {ps qs : List ClassPart} → SameParts ps qs → filter_map f ps ≡ filter_map f qs
filtered f h no_parts = refl
filtered f h (more_parts {p = p} {q = q} {ps = ps} {qs = qs} s ss) = ap (λ o. cons_option o (filter_map f ps)) (h p q s) ∙ ap (λ xs. cons_option (f q) xs) (filtered f h ss)

member_same : (p q : ClassPart) → SamePart p q → member_from p ≡ member_from q
member_same p q same_label = refl
member_same p q same_field = refl
member_same p q same_pure = refl
member_same p q (same_function s) = refl
member_same p q (same_constructor s) = refl
member_same p q (same_destructor s) = refl

function_same : (p q : ClassPart) → SamePart p q → function_from p ≡ function_from q
function_same p q same_label = refl
function_same p q same_field = refl
function_same p q same_pure = refl
function_same p q (same_function s) = refl
function_same p q (same_constructor s) = refl
function_same p q (same_destructor s) = refl

members_same : {ps qs : List ClassPart} → SameParts ps qs → members_among ps ≡ members_among qs
members_same s = filtered member_from member_same s

functions_same : {ps qs : List ClassPart} → SameParts ps qs → functions_among ps ≡ functions_among qs
functions_same s = filtered function_from function_same s

parts_join : {ps qs us vs : List ClassPart} → SameParts ps qs → SameParts us vs → SameParts (ps ++ us) (qs ++ vs)
parts_join no_parts t = t
parts_join (more_parts s ss) t = more_parts s (parts_join ss t)

one_more : {ps qs : List ClassPart} {p q : ClassPart} → SameParts ps qs → SamePart p q → SameParts (ps ++ p ∷ []) (qs ++ q ∷ [])
one_more s t = parts_join s (more_parts t no_parts)

-- the order of the parts
at_same : {bs cs : List ClassPart} {p q : ClassPart} → SameParts bs cs → SamePart p q → part_at bs p ≡ part_at cs q
at_same s same_label = refl
at_same s (same_field {m = m} {at = at}) = ap (λ ms. entry kind.Member (length ms) (Some at) m.at) (members_same s)
at_same s (same_pure {f = f} {at = at}) = ap (λ fs. entry kind.Function (length fs) (Some at) f.at) (functions_same s)
at_same s (same_function {f = f} {at = at} b) = ap (λ fs. entry kind.Function (length fs) (Some at) f.at) (functions_same s)
at_same s (same_constructor b) = refl
at_same s (same_destructor b) = refl

turns_same : {bs cs ps qs : List ClassPart} → SameParts bs cs → SameParts ps qs → given_by_parts part_at bs ps ≡ given_by_parts part_at cs qs
turns_same s no_parts = refl
turns_same {bs = bs} {cs = cs} s (more_parts {p = p} {q = q} {ps = ps} {qs = qs} t ts) =
    ap (λ xs. xs ++ given_by_parts part_at (bs ++ p ∷ []) ps) (at_same s t) ∙ ap (λ xs. part_at cs q ++ xs) (turns_same (one_more s t) ts)

-- constructors and destructors
constructor_same : {p q : ClassPart} → SamePart p q → is_constructor_part p ≡ is_constructor_part q
constructor_same same_label = refl
constructor_same same_field = refl
constructor_same same_pure = refl
constructor_same (same_function s) = refl
constructor_same (same_constructor s) = refl
constructor_same (same_destructor s) = refl

any_same : {ps qs : List ClassPart} → SameParts ps qs → list_any is_constructor_part ps ≡ list_any is_constructor_part qs
any_same no_parts = refl
any_same (more_parts {q = q} {ps = ps} s ss) = ap (λ b. b || list_any is_constructor_part ps) (constructor_same s) ∙ ap (λ b. is_constructor_part q || b) (any_same ss)

after_same : (d : Destructor) {p q : ClassPart} → SamePart p q → destructor_after d p ≡ destructor_after d q
after_same d same_label = refl
after_same d same_field = refl
after_same d same_pure = refl
after_same d (same_function s) = refl
after_same d (same_constructor s) = refl
after_same d (same_destructor s) = refl

last_same : (d : Destructor) {ps qs : List ClassPart} → SameParts ps qs → last_destructor d ps ≡ last_destructor d qs
last_same d no_parts = refl
last_same d (more_parts {p = p} {q = q} {ps = ps} s ss) = ap (λ e. last_destructor e ps) (after_same d s) ∙ last_same (destructor_after d q) ss

-- the record of a class
abbrev record_with : List ℕ → Lexeme → List (Base Spelled) → List (Member Spelled) → List (Function Spelled) → List PartAt → Bool → Destructor → ClassRec Spelled
record_with text n bs ms fs os c d = record { name = bytes_of text n; at = n.at; bases = bs; members = ms; functions = fs; order = os; has_constructor = c; destructor = d }

pub record_same : (text : List ℕ) {n m : Lexeme} {bs cs : List (Base Spelled)} {ps qs : List ClassPart} → n ≡ m → bs ≡ cs → SameParts ps qs → record_of text n bs ps ≡ record_of text m cs qs
record_same text {n = n} {m = m} {bs = bs} {cs = cs} {ps = ps} {qs = qs} e f s =
    ap (λ l. record_with text l bs (members_among ps) (functions_among ps) (order_of ps) (list_any is_constructor_part ps) (destructor_among ps)) e ∙
    (ap (λ b. record_with text m b (members_among ps) (functions_among ps) (order_of ps) (list_any is_constructor_part ps) (destructor_among ps)) f ∙
    (ap (λ ms. record_with text m cs ms (functions_among ps) (order_of ps) (list_any is_constructor_part ps) (destructor_among ps)) (members_same s) ∙
    (ap (λ fs. record_with text m cs (members_among qs) fs (order_of ps) (list_any is_constructor_part ps) (destructor_among ps)) (functions_same s) ∙
    (ap (λ os. record_with text m cs (members_among qs) (functions_among qs) os (list_any is_constructor_part ps) (destructor_among ps)) (turns_same no_parts s) ∙
    (ap (λ c. record_with text m cs (members_among qs) (functions_among qs) (order_of qs) c (destructor_among ps)) (any_same s) ∙
    ap (λ d. record_with text m cs (members_among qs) (functions_among qs) (order_of qs) (list_any is_constructor_part qs) d) (last_same destructor.Implicit s))))))

-- the bodies
pub bodies_join : {ks ls ms ns : List Body} → SameBodies ks ls → SameBodies ms ns → SameBodies (ks ++ ms) (ls ++ ns)
bodies_join no_bodies t = t
bodies_join (more_bodies c o i b s) t = more_bodies c o i b (bodies_join s t)

body_at_same : (class : Spelled) {bs cs : List ClassPart} {p q : ClassPart} → SameParts bs cs → SamePart p q → SameBodies (body_at class bs p) (body_at class cs q)
body_at_same class s same_label = no_bodies
body_at_same class s same_field = no_bodies
body_at_same class s same_pure = no_bodies
body_at_same class s (same_function b) = more_bodies refl (ap (λ fs. owner.Function (length fs)) (functions_same s)) refl b no_bodies
body_at_same class s (same_constructor b) = more_bodies refl refl refl b no_bodies
body_at_same class s (same_destructor b) = more_bodies refl refl refl b no_bodies

turns_bodies : (class : Spelled) {bs cs ps qs : List ClassPart} → SameParts bs cs → SameParts ps qs → SameBodies (given_by_parts (body_at class) bs ps) (given_by_parts (body_at class) cs qs)
turns_bodies class s no_parts = no_bodies
turns_bodies class s (more_parts t ts) = bodies_join (body_at_same class s t) (turns_bodies class (one_more s t) ts)

pub bodies_same : (text : List ℕ) {n m : Lexeme} {ps qs : List ClassPart} → n ≡ m → SameParts ps qs → SameBodies (bodies_of (bytes_of text n) ps) (bodies_of (bytes_of text m) qs)
bodies_same text {n = n} {ps = ps} {qs = qs} e s = subst (λ l. SameBodies (bodies_of (bytes_of text n) ps) (bodies_of (bytes_of text l) qs)) e (turns_bodies (bytes_of text n) no_parts s)
