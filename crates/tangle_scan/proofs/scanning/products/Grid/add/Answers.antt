use Rattle.std.proofs.Common.{◌≡◌, ◌∙◌, ℕ, ℤ, ◌+◌, ◌<◌, length, refl, sym, ap, ap₂, arith, true, false, to_z, of_z}
use mir.Syntax.{w32}
use Rattle.std.specs.Prelude.{slice_index, slice_set}
use Rattle.std.proofs.lemmas.Int.{ints}
use Rattle.std.proofs.lemmas.List.{get_or_read}
use Rattle.tangle_scan.specs.Grids.{is_in, place_in}
use Rattle.tangle_scan.proofs.GridLemmas.{dims_by, number-added, number_at-outside, place_in-below}
use Rattle.tangle_scan.proofs.scanning.products.Grid.add.Goals as goal

pub returns-then-is_in : goal.returns-then-is_in
returns-then-is_in c =
    let old = c.args.self.now in
    let n = old.crossings in
    let numbers = old.numbers.items in
    let same_i : to_z w32 (of_z w32 c.args.i) ≡ c.args.i = omega (arith, ints) in
    let same_j : to_z w32 (of_z w32 c.args.j) ≡ c.args.j = omega (arith, ints) in
    let here : is_in n c.args.i c.args.j ≡ true =
    sym (ap₂ (λ (i j : ℤ). is_in n i j) same_i same_j) ∙ sym c.if-is_in.ensures in
    let below : place_in n c.args.i c.args.j < length numbers =
    omega (arith, place_in-below n c.args.i c.args.j here, old.full, old.numbers.ok.0) in
    let at : c.place_in-place.result ≡ place_in n c.args.i c.args.j =
    c.place_in-place.ensures.place ∙ ap₂ (λ (i j : ℤ). place_in n i j) same_i same_j in
    let read : c.index_mut.result.now ≡ slice_index numbers (place_in n c.args.i c.args.j) =
    get_or_read numbers c.place_in-place.result c.index_mut.result.now (omega (arith, at, below)) c.index_mut.ensures.value 0
    ∙ ap (slice_index numbers) at in
    record {
      crossings = refl;
      numbers = λ k l there.
          ap₂ (λ (place number : ℕ). dims_by n (slice_set numbers place (number + c.args.number)) k l) at read
          ∙ number-added n numbers c.args.i c.args.j c.args.number k l here there below;
    }

pub returns-else-is_in : goal.returns-else-is_in
returns-else-is_in c =
    let old = c.args.self.now in
    let n = old.crossings in
    let same_i : to_z w32 (of_z w32 c.args.i) ≡ c.args.i = omega (arith, ints) in
    let same_j : to_z w32 (of_z w32 c.args.j) ≡ c.args.j = omega (arith, ints) in
    let outside : is_in n c.args.i c.args.j ≡ false =
    sym (ap₂ (λ (i j : ℤ). is_in n i j) same_i same_j) ∙ sym c.if-is_in.ensures in
    record {
      crossings = refl;
      numbers = λ k l there. omega (arith, number_at-outside n c.args.i c.args.j c.args.number k l outside there);
    }
