-- The source that a command treats, as it was read or made.
use Rattle.std.proofs.Common.{◌≡◌, ℕ, zero, suc, ◌+◌, ◌<◌, ◌≤◌, Option, Some, None, Result, Ok, Err, List, [], ◌∷◌, take, drop, length, refl, sym, ◌∙◌, ap, subst, arith}
use Rattle.std.specs.Prelude.{IfOk, IfSome, OnOk}
use Rattle.std.specs.Prelude.{if◌then◌else◌}
use Rattle.std.specs.List.{count_by}
use Rattle.std.proofs.lemmas.List.{length-take}
use Rattle.std.proofs.lemmas.List.Sums.{count_by-le-length}
use Rattle.foundation.specs.Limits.{source_limit}
use Rattle.foundation.proofs.Truth.{split}
use Rattle.cxx_text.specs.Bytes.{is_line_end}
use Rattle.cxxabi_input.specs.Division.{ends_inside, line_count}
use Rattle.cxxabi_words.specs.declared.command.Command.{Command}
use Rattle.cxxabi_words.specs.declared.command.Command.TheVariants.{Check, Run, Layout, LayoutOf, Tables, TablesOf, Paths, Gen, Array, MemberPointer, Inspect, Foreign}
use Rattle.cxxabi_streams.specs.declared.reading.ReadStop.{ReadStop}
use Rattle.cxxabi_input.proofs.PartSizes.{parts_within}
use Rattle.cxxabi_cmd.specs.Commands.{ReadsSource, input_of, divided_input}
use Rattle.cxxabi_cmd.specs.invariants.Replies.{IsReadToLimit}

-- a front that is shorter than was asked for is the whole
whole_read : (n : ℕ) (bytes all : List ℕ) → bytes ≡ take n all → length bytes < n → bytes ≡ all
whole_read zero bytes all same short = absurd (omega arith)
whole_read (suc n) bytes [] same short = same
whole_read (suc n) [] (b ∷ all) same short = absurd (cc)
whole_read (suc n) (a ∷ bytes) (b ∷ all) same short =
    let head : a ≡ b = cc in
    let tail : bytes ≡ take n all = cc in
    rw (head, whole_read n bytes all tail (omega arith)) refl

-- the bytes up to one past the limit
taken_read : (bytes all : List ℕ) → bytes ≡ take (source_limit + 1) all → IsReadToLimit bytes all
taken_read bytes all same = record {
  whole = λ short. whole_read (source_limit + 1) bytes all same (omega (arith, short));
  more = λ long. let size : length bytes ≡ length (take (source_limit + 1) all) = ap length same in omega (arith, long, size, length-take (source_limit + 1) all);
}

-- all bytes
pub all_read : (bytes all : List ℕ) → bytes ≡ all → IsReadToLimit bytes all
all_read bytes all same = record { whole = λ short. same; more = λ long. subst (λ (b : List ℕ). source_limit < length b) same long }

-- a command that makes no source of its own reads one
pub reads_given : (c : Command) → ((n : ℕ) → c ≡ Gen n → ⊥) → ReadsSource c × ((given : List ℕ) → input_of c given ≡ given)
reads_given Check other = (tt, λ given. refl)
reads_given (Run steps trace) other = (tt, λ given. refl)
reads_given Layout other = (tt, λ given. refl)
reads_given (LayoutOf name) other = (tt, λ given. refl)
reads_given Tables other = (tt, λ given. refl)
reads_given (TablesOf name) other = (tt, λ given. refl)
reads_given (Paths steps) other = (tt, λ given. refl)
reads_given (Array name n) other = (tt, λ given. refl)
reads_given (MemberPointer named) other = (tt, λ given. refl)
reads_given Inspect other = (tt, λ given. refl)
reads_given (Foreign steps) other = (tt, λ given. refl)
reads_given (Gen n) other = absurd (other n refl)

-- what was read where the source tells its bytes
pub given_read : {V : Type 0} (items : V → List ℕ) (r : Result V ReadStop) (c : Command) (remaining : Option (List ℕ)) → ((n : ℕ) → c ≡ Gen n → ⊥) → IfOk r (λ text. IfSome remaining (λ bytes. items text ≡ take (source_limit + 1) bytes)) →
    IfOk r (λ text. (given : List ℕ) → (ReadsSource c → remaining ≡ Some given) → IsReadToLimit (items text) (input_of c given))
given_read items (Ok text) c remaining other read = λ given told.
    let own = reads_given c other in
    let bytes : items text ≡ take (source_limit + 1) given = subst (λ (o : Option (List ℕ)). IfSome o (λ bytes. items text ≡ take (source_limit + 1) bytes)) (told own.0) read in
    subst (λ (all : List ℕ). IsReadToLimit (items text) all) (sym (own.1 given)) (taken_read (items text) given bytes)
given_read items (Err stop) c remaining other read = read

pub left_read : {V : Type 0} (r : Result V ReadStop) (c : Command) (before after : Option (List ℕ)) → IfOk r (λ text. IfSome before (λ bytes. after ≡ Some (drop (source_limit + 1) bytes))) →
    OnOk r (ReadsSource c → IfSome before (λ bytes. after ≡ Some (drop (source_limit + 1) bytes)))
left_read (Ok text) c before after left = λ reads. left
left_read (Err stop) c before after left = left

-- two parts, and that they are those of others
abbrev pub some_parts : List ℕ → List ℕ → Option (List ℕ × List ℕ)
some_parts front text = Some (front, text)

abbrev front_in : Option (List ℕ × List ℕ) → List ℕ
front_in None = []
front_in (Some parts) = parts.0

abbrev text_in : Option (List ℕ × List ℕ) → List ℕ
text_in None = []
text_in (Some parts) = parts.1

pub parts_are : (front text other more : List ℕ) → some_parts front text ≡ some_parts other more → (front ≡ other) × (text ≡ more)
parts_are front text other more same = (ap front_in same, ap text_in same)

-- the parts of an input are not longer than it
whole_part : (input front text : List ℕ) → some_parts [] input ≡ some_parts front text → length front + length text ≤ length input
whole_part input front text parts =
    let are = parts_are [] input front text parts in
    let none = ap length are.0 in
    let size = ap length are.1 in
    omega (arith, none, size)

pub parts_short : (c : Command) (input front text : List ℕ) → divided_input c input ≡ Some (front, text) → length front + length text ≤ length input
parts_short Check input front text parts = whole_part input front text parts
parts_short (Run steps trace) input front text parts = whole_part input front text parts
parts_short Layout input front text parts = whole_part input front text parts
parts_short (LayoutOf name) input front text parts = whole_part input front text parts
parts_short Tables input front text parts = whole_part input front text parts
parts_short (TablesOf name) input front text parts = whole_part input front text parts
parts_short (Paths steps) input front text parts = whole_part input front text parts
parts_short (Gen n) input front text parts = whole_part input front text parts
parts_short (Array name n) input front text parts = whole_part input front text parts
parts_short (MemberPointer named) input front text parts = whole_part input front text parts
parts_short Inspect input front text parts = parts_within input front text parts
parts_short (Foreign steps) input front text parts = parts_within input front text parts

-- an input has not more lines than bytes, and one
pub few_lines : (input : List ℕ) → line_count input ≤ length input + 1
unfolding line_count
few_lines input =
    let ends = count_by-le-length is_line_end input in
    split (ends_inside input) (λ b. count_by is_line_end input + (if b then 1 else 0) ≤ length input + 1) (λ inside. omega (arith, ends)) (λ outside. omega (arith, ends))
