-- The text of an array, with places counted from the start of its region.
use Rattle.std.specs.Prelude.{ℕ, ◌++◌, nat_eq, if◌then◌else◌, List, [], codes, reverse}
use Rattle.std.specs.List.{flat_map, range_with_len}
use Rattle.std.specs.Fmt.{decimal}
use Rattle.std.specs.Int.{to_le_bytes, w64}
use Rattle.hex.specs.Hex.{encode_lower}
use Rattle.abi_cookie.specs.Cookies.{array_bytes}
use Rattle.abi_cookie.specs.Arrays.{element_at}

-- the bytes of the region and of its cookie
abbrev pub sizes_text : ℕ → ℕ → ℕ → List ℕ
sizes_text size cookie n = codes "region " ++ decimal (array_bytes size cookie n) ++ codes "\ncookie " ++ decimal cookie ++ codes "\n"

-- the 8 bytes of the count, in the order of their addresses
abbrev pub count_text : ℕ → List ℕ
count_text n = codes "count " ++ encode_lower (to_le_bytes w64 n) ++ codes "\n"

-- an element, and its place
abbrev pub element_text : ℕ → ℕ → ℕ → List ℕ
element_text size cookie i = codes "element " ++ decimal i ++ codes " at " ++ decimal (element_at cookie size i) ++ codes "\n"

-- an element that is ended, and its place
abbrev pub end_text : ℕ → ℕ → ℕ → List ℕ
end_text size cookie i = codes "end " ++ decimal i ++ codes " at " ++ decimal (element_at cookie size i) ++ codes "\n"

-- what is told of n elements of this size: the bytes, the count behind a cookie, the elements in their order, and those that are ended
-- in theirs
abbrev pub array_text : ℕ → ℕ → ℕ → List ℕ
array_text size cookie n =
    sizes_text size cookie n
    ++ (if nat_eq cookie 0 then [] else count_text n)
    ++ flat_map (element_text size cookie) (range_with_len 0 n)
    ++ (if nat_eq cookie 0 then [] else flat_map (end_text size cookie) (reverse (range_with_len 0 n)))
