-- Lists that are read in a loop.
use Rattle.std.proofs.Common.{◌≡◌, ℕ, Bool, List, [], ◌∷◌, ◌++◌, append_assoc, append-nil, refl}
use Rattle.cxx_grammar.specs.declared.sort.Lexeme.{Lexeme}
use Rattle.cxx_grammar.specs.Front.{Is}
use Rattle.cxx_grammar.specs.declared.sort.Sort.TheVariants.{Colon, Comma}
use Rattle.cxx_hierarchy.specs.declared.records.Base.{Base}
use Rattle.cxx_hierarchy.specs.declared.records.Param.{Param}
use Rattle.cxx_syntax.specs.declared.source_text.Init.{Init}
use Rattle.cxx_syntax.specs.declared.part.ClassPart.{ClassPart}
use Rattle.cxx_syntax.specs.declared.part.Item.{Item}
use Rattle.cxx_syntax.specs.Parts.{Spelled, BaseReads, MoreBasesRead, BasesRead, some_bases, one_more_base, no_more_bases, ParamReads, MoreParamsRead, ParamsRead, some_params, one_more_param, no_more_params, InitReads, MoreInitsRead, InitsRead, some_inits, one_more_init, no_more_inits, PartReads, PartsRead, public_after, one_part, no_part}
use Rattle.cxx_syntax.specs.Sources.{ItemReads, ItemsRead, one_item, no_item}

-- the bases so far, whatever follows
abbrev pub BasesSoFar : List ℕ → Bool → Lexeme → List Lexeme → List Lexeme → List (Base Spelled) → Type 0
BasesSoFar text d colon rest left items = (bs : List (Base Spelled)) (r : List Lexeme) → MoreBasesRead text d bs left r → BasesRead text d (items ++ bs) (colon ∷ rest) r

pub first_base : (text : List ℕ) (d : Bool) (colon : Lexeme) (rest left : List Lexeme) (b : Base Spelled) (items : List (Base Spelled)) → items ≡ [] ++ b ∷ [] →
    colon.sort ≡ Colon → BaseReads text d b rest left → BasesSoFar text d colon rest left items
first_base text d colon rest left b items e c h bs r m = rw e (some_bases (record { front = refl; sort = c }) h m)

pub next_base : (text : List ℕ) (d : Bool) (colon k : Lexeme) (rest left a more : List Lexeme) (b : Base Spelled) (items items' : List (Base Spelled)) → items' ≡ items ++ b ∷ [] →
    BasesSoFar text d colon rest left items → Is Comma k left a → BaseReads text d b a more → BasesSoFar text d colon rest more items'
next_base text d colon k rest left a more b items items' e so_far i h bs r m = rw (e, append_assoc) (so_far (b ∷ bs) r (one_more_base i h m))

pub all_bases : (text : List ℕ) (d : Bool) (colon : Lexeme) (rest left : List Lexeme) (items : List (Base Spelled)) → BasesSoFar text d colon rest left items → BasesRead text d items (colon ∷ rest) left
all_bases text d colon rest left items so_far = let e : items ++ [] ≡ items = append-nil items in rw e at (so_far [] left no_more_bases)

-- the parameters so far, whatever follows
abbrev pub ParamsSoFar : List ℕ → List Lexeme → List Lexeme → List (Param Spelled) → Type 0
ParamsSoFar text rest left items = (ps : List (Param Spelled)) (r : List Lexeme) → MoreParamsRead text ps left r → ParamsRead text (items ++ ps) rest r

pub first_param : (text : List ℕ) (rest left : List Lexeme) (p : Param Spelled) (items : List (Param Spelled)) → items ≡ [] ++ p ∷ [] → ParamReads text p rest left → ParamsSoFar text rest left items
first_param text rest left p items e h ps r m = rw e (some_params h m)

pub next_param : (text : List ℕ) (k : Lexeme) (rest left a more : List Lexeme) (p : Param Spelled) (items items' : List (Param Spelled)) → items' ≡ items ++ p ∷ [] →
    ParamsSoFar text rest left items → Is Comma k left a → ParamReads text p a more → ParamsSoFar text rest more items'
next_param text k rest left a more p items items' e so_far i h ps r m = rw (e, append_assoc) (so_far (p ∷ ps) r (one_more_param i h m))

pub all_params : (text : List ℕ) (rest left : List Lexeme) (items : List (Param Spelled)) → ParamsSoFar text rest left items → ParamsRead text items rest left
all_params text rest left items so_far = let e : items ++ [] ≡ items = append-nil items in rw e at (so_far [] left no_more_params)

-- the initializers so far, whatever follows
abbrev pub InitsSoFar : List ℕ → List Lexeme → List Lexeme → List Init → Type 0
InitsSoFar text rest left items = (is : List Init) (r : List Lexeme) → MoreInitsRead text is left r → InitsRead text (items ++ is) rest r

pub first_init : (text : List ℕ) (k : Lexeme) (rest a left : List Lexeme) (i : Init) (items : List Init) → items ≡ [] ++ i ∷ [] → Is Colon k rest a → InitReads text i a left → InitsSoFar text rest left items
first_init text k rest a left i items e c h is r m = rw e (some_inits c h m)

pub next_init : (text : List ℕ) (k : Lexeme) (rest left a more : List Lexeme) (i : Init) (items items' : List Init) → items' ≡ items ++ i ∷ [] →
    InitsSoFar text rest left items → Is Comma k left a → InitReads text i a more → InitsSoFar text rest more items'
next_init text k rest left a more i items items' e so_far c h is r m = rw (e, append_assoc) (so_far (i ∷ is) r (one_more_init c h m))

pub all_inits : (text : List ℕ) (rest left : List Lexeme) (items : List Init) → InitsSoFar text rest left items → InitsRead text items rest left
all_inits text rest left items so_far = let e : items ++ [] ≡ items = append-nil items in rw e at (so_far [] left no_more_inits)

-- the parts so far, whatever follows
abbrev pub PartsSoFar : List ℕ → Bool → List Lexeme → Bool → List Lexeme → List ClassPart → Type 0
PartsSoFar text d rest is_public left done = (ps : List ClassPart) (r : List Lexeme) → PartsRead text is_public ps left r → PartsRead text d (done ++ ps) rest r

pub next_part : (text : List ℕ) (d : Bool) (rest : List Lexeme) (is_public : Bool) (left more : List Lexeme) (done : List ClassPart) (p : ClassPart) → PartsSoFar text d rest is_public left done →
    PartReads text is_public p left more → PartsSoFar text d rest (public_after is_public p) more (done ++ p ∷ [])
next_part text d rest is_public left more done p so_far h ps r m = rw append_assoc (so_far (p ∷ ps) r (one_part h m))

pub all_parts : (text : List ℕ) (d : Bool) (rest : List Lexeme) (is_public : Bool) (left : List Lexeme) (done : List ClassPart) → PartsSoFar text d rest is_public left done → PartsRead text d done rest left
all_parts text d rest is_public left done so_far = let e : done ++ [] ≡ done = append-nil done in rw e at (so_far [] left no_part)

-- the items so far, whatever follows
abbrev pub ItemsSoFar : List ℕ → List Lexeme → List Lexeme → List Item → Type 0
ItemsSoFar text rest left done = (is : List Item) (r : List Lexeme) → ItemsRead text is left r → ItemsRead text (done ++ is) rest r

pub next_item : (text : List ℕ) (rest left more : List Lexeme) (done : List Item) (i : Item) → ItemsSoFar text rest left done → ItemReads text i left more → ItemsSoFar text rest more (done ++ i ∷ [])
next_item text rest left more done i so_far h is r m = rw append_assoc (so_far (i ∷ is) r (one_item h m))

pub all_items : (text : List ℕ) (rest left : List Lexeme) (done : List Item) → ItemsSoFar text rest left done → ItemsRead text done rest left
all_items text rest left done so_far = let e : done ++ [] ≡ done = append-nil done in rw e at (so_far [] left no_item)
