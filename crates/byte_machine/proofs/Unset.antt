-- Unset registers behind others.
use Rattle.std.proofs.Common.{◌≡◌, ℕ, ◌-◌, ◌≤◌, None, Option, List, [], ◌++◌, take, drop, length, replicate, ap, sym, ◌∙◌, arith, append-nil, take_all}
use Rattle.std.proofs.lemmas.List.{drop-replicate, length-replicate}

-- behind so many, as they are copied
pub unset_rest : (size count : ℕ) (unset copied : List (Option ℕ)) → copied ≡ unset → unset ≡ replicate size None → take (length copied - count) (drop count copied) ≡ replicate (size - count) None
unset_rest size count unset copied same is =
    let all : List (Option ℕ) = replicate size None in
    let long : length all ≡ size = length-replicate size None in
    let short : length (replicate {A = Option ℕ} (size - count) None) ≡ size - count = length-replicate (size - count) None in
    ap (λ xs. take (length xs - count) (drop count xs)) (same ∙ is)
    ∙ (ap (take (length all - count)) (drop-replicate count size None) ∙ take_all (length all - count) (replicate (size - count) None) (omega arith))

-- behind all of them there is none
pub no_rest : (size : ℕ) (front : List (Option ℕ)) → size ≤ length front → front ≡ front ++ replicate (size - length front) None
no_rest size front less =
    let nothing : size - length front ≡ 0 = omega arith in
    sym (append-nil front) ∙ ap (λ n. front ++ replicate n None) (sym nothing)
