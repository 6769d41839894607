-- The degrees of a complex whose matrices the entries of columns denote, by their distance from the least one.
use Rattle.std.proofs.lemmas.Bool.Decides.{nat_tests}
use Rattle.std.proofs.Common.{◌≡◌, ℕ, ◌<◌, ◌≤◌, ◌∙◌, List, [], ℤ, pos, ◌+ℤ◌, ◌-ℤ◌, length, map, get_or, ap, sym, arith, Bool}
use Rattle.std.specs.Prelude.{slice_index_or}
use Rattle.std.proofs.Math.ListN as plain
use Rattle.std.proofs.lemmas.Bool.Decides.{leb_tells}
use Rattle.std.proofs.lemmas.Int.{ints}
use Rattle.std.proofs.lemmas.List.{get_or_past, length-map}
use Rattle.std.proofs.lemmas.List.FromFn.{length-map-range_with_len, get_or-map-range_with_len}
use Rattle.kh_types.specs.Complex.{Degree, empty_degree, degree_number, degree_from, degree_of}
use Rattle.sparse_block.specs.Entries.{Entry}
use Rattle.sparse_block.specs.Complexes.{degree_from_lists, degrees_from, complex_from}

pub length-degrees_from : (alive : List (List Bool)) (columns : List (List (List Entry)))
    → length (degrees_from alive columns) ≡ length alive
length-degrees_from alive columns = length-map-range_with_len (degree_from_lists alive columns) 0 (length alive)

-- past the end there are no places
degree-past : (alive : List (List Bool)) (columns : List (List (List Entry))) (k : ℕ) → length alive ≤ k
    → degree_from_lists alive columns k ≡ empty_degree
degree-past alive columns k past = grind (arith, nat_tests, get_or_past)

pub degree-within : (alive : List (List Bool)) (columns : List (List (List Entry))) (k : ℕ) (d : Degree) → k < length alive
    → get_or (degrees_from alive columns) k d ≡ degree_from_lists alive columns k
degree-within alive columns k d within = grind (arith, nat_tests, get_or-map-range_with_len)

pub degree_number-from : (low : ℤ) (alive : List (List Bool)) (columns : List (List (List Entry))) (k : ℕ)
    → degree_number (complex_from low alive columns) k ≡ degree_from_lists alive columns k
degree_number-from low alive columns k = grind (arith, nat_tests, leb_tells, get_or_past, length-degrees_from, degree-past, degree-within)

pub degree_of-at : (low i : ℤ) (alive : List (List Bool)) (columns : List (List (List Entry))) (k : ℕ) → i ≡ low +ℤ pos k
    → degree_of (complex_from low alive columns) i ≡ degree_from_lists alive columns k
degree_of-at low i alive columns k is_distance =
    let distance : i -ℤ low ≡ pos k = omega (arith, ints) in
    ap (degree_from (complex_from low alive columns)) distance ∙ degree_number-from low alive columns k

-- lists of the same lengths
pub length-at : {X Y : Type 0} (xs : List (List X)) (ys : List (List Y)) (k : ℕ) → map length xs ≡ map length ys
    → length (slice_index_or xs k []) ≡ length (slice_index_or ys k [])
length-at xs ys k same =
    sym (plain.get_or-map length xs k []) ∙ ap (λ (ns : List ℕ). slice_index_or ns k 0) same ∙ plain.get_or-map length ys k []

pub length-same : {X Y : Type 0} (xs : List (List X)) (ys : List (List Y)) → map length xs ≡ map length ys → length xs ≡ length ys
length-same xs ys same = sym (length-map xs length) ∙ ap length same ∙ length-map ys length
