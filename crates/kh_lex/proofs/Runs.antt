-- A longest run that begins a text, as it is and as it is measured.
use Rattle.std.proofs.lemmas.Bool.Decides.{nat_tests}
use Rattle.std.proofs.Common.{◌≡◌, ℕ, ◌+◌, ◌<◌, Bool, true, false, cond, List, [], ◌∷◌, ◌++◌, length, take, drop, refl, arith, slice_index}
use Rattle.std.proofs.Math.Seq.{take-append_seam}
use Rattle.std.proofs.lemmas.Bool.{and_parts}
use Rattle.std.proofs.lemmas.List.Folds.{length-prefix_len}
use Rattle.std.proofs.lemmas.List.Sums.{AllPass-from_list_all}
use Rattle.std.specs.List.{AllPass, list_all, prefix_len, take_while}
use Rattle.kh_lex.specs.Cuts.{IsLongestRun, begins_with}

-- bytes of a sort, with a rest that does not begin with another, are measured whole
prefix_len-append : (is : ℕ → Bool) (bytes rest : List ℕ) → list_all is bytes ≡ true → begins_with is rest ≡ false
    → prefix_len is (bytes ++ rest) ≡ length bytes
prefix_len-append is [] [] all longest = refl
prefix_len-append is [] (byte ∷ rest) all longest = rw longest refl
prefix_len-append is (byte ∷ bytes) rest all longest =
    let parts = and_parts (is byte) (list_all is bytes) all in
    rw (parts.0, prefix_len-append is bytes rest parts.1 longest) (omega arith)

-- a run is taken whole
pub take_while-run : (is : ℕ → Bool) (bytes rest : List ℕ) → IsLongestRun is bytes rest → take_while is (bytes ++ rest) ≡ bytes
take_while-run is bytes rest run = rw (prefix_len-append is bytes rest run.all run.longest) (take-append_seam bytes rest)

pub prefix_len-run : (is : ℕ → Bool) (bytes rest : List ℕ) → IsLongestRun is bytes rest → prefix_len is (bytes ++ rest) ≡ length bytes
prefix_len-run is bytes rest run = prefix_len-append is bytes rest run.all run.longest

-- the first byte of a run is the first of the text, and of the sort
pub is-first : (is : ℕ → Bool) (bytes rest : List ℕ) → IsLongestRun is bytes rest → is (slice_index (bytes ++ rest) 0) ≡ true
is-first is [] rest run = let some = run.some in absurd (omega arith)
is-first is (byte ∷ bytes) rest run = (and_parts (is byte) (list_all is bytes) run.all).0

-- what is measured is of the sort, and what is behind it does not go on
list_all-take_while : (is : ℕ → Bool) (text : List ℕ)
    → (list_all is (take (prefix_len is text) text) ≡ true) × (begins_with is (drop (prefix_len is text) text) ≡ false)
list_all-take_while is [] = (refl, refl)
list_all-take_while is (byte ∷ bytes) = go (is byte) refl (list_all-take_while is bytes)
  where
    go : (one : Bool) → is byte ≡ one → (list_all is (take (prefix_len is bytes) bytes) ≡ true) × (begins_with is (drop (prefix_len is bytes) bytes) ≡ false)
        → (list_all is (take (cond one (1 + prefix_len is bytes) 0) (byte ∷ bytes)) ≡ true)
        × (begins_with is (drop (cond one (1 + prefix_len is bytes) 0) (byte ∷ bytes)) ≡ false)
    go one same rest = grind (arith, nat_tests)

-- so all that is taken is of the sort
pub take_while_passes : (is : ℕ → Bool) (text : List ℕ) → AllPass is (take_while is text)
take_while_passes is text = AllPass-from_list_all is (take_while is text) (list_all-take_while is text).0

-- a text whose first byte is of the sort begins with a run
pub IsLongestRun-take_while : (is : ℕ → Bool) (text : List ℕ) → 0 < length text → is (slice_index text 0) ≡ true
    → IsLongestRun is (take_while is text) (drop (prefix_len is text) text)
IsLongestRun-take_while is [] some first = absurd (omega arith)
IsLongestRun-take_while is (byte ∷ bytes) some first = record {
  some = let size = length-prefix_len is (byte ∷ bytes) in omega (arith, size, positive);
  all = (list_all-take_while is (byte ∷ bytes)).0;
  longest = (list_all-take_while is (byte ∷ bytes)).1;
}
  where
    positive : 0 < prefix_len is (byte ∷ bytes)
    positive = rw first (omega arith)
