-- Lines that are exchanged, emptied, and rid of their entries at a place, in memory, as loops do it one by one. Where one more of
-- the named lines is put in its place, each line is one that was named so far or is as it was. A place that dies in memory dies
-- in its list. To cross out a place, only the lines that the entries of the line across name are visited. No entry comes twice,
-- so the line that the next entry names has lost nothing yet; it loses its entry at the place. In the end the lines that were not
-- named had no entry there, so all lines are without it.
use Rattle.std.proofs.lemmas.Bool.Decides.{nat_tests}
use Rattle.std.proofs.Common.{◌≡◌, ℕ, zero, suc, ◌+◌, ◌<◌, ◌∙◌, ◌⊎◌, inl, inr, List, [], ◌∷◌, ◌++◌, length, map, get_or, set, take, refl, ap, ap₂, sym, subst, arith, append_assoc, Bool, false}
use Rattle.std.specs.Prelude.{slice_index_or, All}
use Rattle.std.specs.Global.{Vec}
use Rattle.std.specs.List.{Contains}
use Rattle.std.specs.Vec.{with_item}
use Rattle.std.proofs.Math.ListN as plain
use Rattle.std.proofs.lemmas.Bool.Decides.{eqb_tells}
use Rattle.std.proofs.lemmas.List.{get_or-map, get_or-set_other, get_or-set_same, length-map, length-set, map-set, take-append-le, take_all}
use Rattle.std.proofs.lemmas.List.Elements.{All-contains, Contains-append_right}
use Rattle.std.proofs.lemmas.List.FromFn.{fill_by_all}
use Rattle.smallvec.specs.SmallVec.{SmallVec}
use Rattle.sparse_block.specs.Changes.{PlacedLine, placed, places_of}
use Rattle.sparse_block.specs.Clearing.{AreExchanged, with_dead, without}
use Rattle.sparse_block.specs.Entries.{Entry, AreEntries, value_at}
use Rattle.sparse_block.specs.Inside.{entries_in, lists_in}
use Rattle.sparse_block.proofs.AscendingLemmas.{entries-ascend}
use Rattle.sparse_block.proofs.EntryLemmas.{IsNew, value_at-more, value_at-new}
use Rattle.sparse_block.proofs.LineLemmas.{items}
use Rattle.sparse_block.proofs.RemovalLemmas.{without-none}

-- lists that have the same elements at all places
pub list-same : {X : Type 0} (xs ys : List X) (d : X) → length xs ≡ length ys
    → ((k : ℕ) → k < length ys → get_or xs k d ≡ get_or ys k d) → xs ≡ ys
list-same {X} xs ys d size same =
    fill_by_all (λ (k : ℕ). get_or ys k d) xs (length ys) d size same
    ∙ sym (fill_by_all (λ (k : ℕ). get_or ys k d) ys (length ys) d refl (λ k within. refl))

-- lines are exchanged one by one

contains-cons : {X : Type 0} (x : X) (xs : List X) (y : X) → Contains (x ∷ xs) y → (x ≡ y) ⊎ Contains xs y
contains-cons x xs y has3 = grind (arith, nat_tests)

contains-later : {X : Type 0} (x : X) (xs : List X) (y : X) → Contains xs y → Contains (x ∷ xs) y
contains-later x xs y (k, below, is) = (suc k, omega arith, is)

pub exchanged-more : (line : PlacedLine) (done : List PlacedLine) (initial before after : List (List Entry))
    → line.place < length before → AreExchanged done initial before → after ≡ set before line.place line.entries
    → AreExchanged (line ∷ done) initial after
exchanged-more line done initial before after within so_far put =
    record {
      size = ap length put ∙ length-set before line.place line.entries ∙ so_far.size;
      each = λ place.
          elim (eqb_tells place line.place) [
            | inl here ↦
                let is : line ≡ placed place (slice_index_or after place []) =
                ap₂ placed (sym here.1)
                (sym (
                ap₂ (λ (lines : List (List Entry)) (place : ℕ). slice_index_or lines place []) put here.1
                ∙ get_or-set_same before line.place line.entries [] within
                )) in
                inl (0, omega arith, is)
            | inr other ↦
                let same : slice_index_or after place [] ≡ slice_index_or before place [] =
                ap (λ (lines : List (List Entry)). slice_index_or lines place []) put
                ∙ get_or-set_other before line.place place line.entries [] other.1 in
                elim (so_far.each place) [
                  | inl named ↦
                      inl (contains-later line done (placed place (slice_index_or after place []))
                      (subst (λ (entries : List Entry). Contains done (placed place entries)) (sym same) named))
                  | inr kept ↦
                      inr (
                        (λ has.
                            elim (contains-cons line.place (places_of done) place has) [
                              | inl is ↦ absurd (other.1 (sym is))
                              | inr later ↦ kept.0 later
                            ]),
                        same ∙ kept.1,
                      )
                ]
          ];
    }

-- a vector that was written over by as many elements
pub taken-whole : {X : Type 0} (n : ℕ) (xs ys : List X) → length xs ≡ n → take n (xs ++ ys) ≡ xs
taken-whole n xs ys size = take-append-le n xs ys (omega (arith, size)) ∙ take_all n xs (omega (arith, size))

abbrev pub places : Vec Bool → List Bool
places degree = degree.items

pub lists_in-dead : (alive : List (Vec Bool)) (k place : ℕ) (d : Vec Bool) → k < length alive
    → lists_in (set alive k (with_item (slice_index_or alive k d) place false)) ≡ with_dead k place (lists_in alive)
lists_in-dead alive k place d within = grind (arith, nat_tests, map-set, get_or-map)

-- one line more is put in its place in memory

module _ (named left rest done : List PlacedLine) (line : PlacedLine) (initial lines : List (SmallVec Entry)) (place : ℕ)
    (entries : SmallVec Entry) (within : All (λ line. line.place < length initial) named) (size : length lines ≡ length initial)
    (parts : named ≡ left ++ done) (last : left ≡ rest ++ line ∷ []) (is_line : placed place entries.items ≡ line) where
  in_order : named ≡ rest ++ line ∷ done
  in_order = parts ∙ ap (λ (xs : List PlacedLine). xs ++ done) last ∙ append_assoc rest (line ∷ []) done

  line-within : line.place < length lines
  line-within =
      let has : Contains (rest ++ line ∷ done) line = Contains-append_right rest (line ∷ done) line (0, omega arith, refl) in
      let line_within : line.place < length initial =
      All-contains (λ (line : PlacedLine). line.place < length initial) (rest ++ line ∷ done) line
      (subst (λ (xs : List PlacedLine). All (λ line. line.place < length initial) xs) in_order within) has in
      omega (arith, line_within, size)

  pub exchanged-within : place < length lines
  exchanged-within = omega (arith, line-within, ap (λ (line : PlacedLine). line.place) is_line)

  pub exchanged-step : (after : List (List Entry)) → AreExchanged done (entries_in initial) (entries_in lines)
      → after ≡ set (entries_in lines) place entries.items
      → (later : List PlacedLine) × (named ≡ rest ++ later) × AreExchanged later (entries_in initial) after
  exchanged-step after so_far put = (
    line ∷ done,
    in_order,
    exchanged-more line done (entries_in initial) (entries_in lines) after
        (omega (arith, line-within, length-map lines items)) so_far
        (put ∙ ap (λ (line : PlacedLine). set (entries_in lines) line.place line.entries) is_line),
  )

-- the entries at a place are taken out of lines one by one

abbrev left_at : ℕ → ℕ → List Entry → List Entry
left_at place zero line = line
left_at place (suc value) line = without place line

-- the lines that the entries name have lost their entry at the place
pub record AreRemoved (place : ℕ) (entries : List Entry) (before after : List (List Entry)) : Type 0 where
  pub size : length after ≡ length before
  pub each : (other : ℕ)
      → slice_index_or after other [] ≡ left_at place (value_at entries other) (slice_index_or before other [])

left_at-some : (place value : ℕ) (line : List Entry) → 0 < value → left_at place value line ≡ without place line
left_at-some place value line some = grind (arith, nat_tests)

module _ (p place k : ℕ) (entries : List Entry) (e d : Entry) (initial before : List (List Entry))
    (are : AreEntries p (length initial) entries) (within : k < length entries) (is_next : e ≡ get_or entries k d)
    (so_far : AreRemoved place (take k entries) initial before) where
  is_new : IsNew k entries e
  is_new = value_at-new p 0 (length initial) k entries e d (entries-ascend p (length initial) entries are) within is_next

  pub place-next : e.place < length before
  place-next = grind (arith, nat_tests)

  line-next : slice_index_or before e.place [] ≡ slice_index_or initial e.place []
  line-next =
      so_far.each e.place ∙ ap (λ (value : ℕ). left_at place value (slice_index_or initial e.place [])) is_new.before

  -- the line that the next entry names has lost nothing yet
  pub next-entries : (q size : ℕ) → All (AreEntries q size) initial → AreEntries q size (slice_index_or before e.place [])
  next-entries q size all =
      subst (AreEntries q size) (sym line-next) (all e.place [] (omega (arith, place-next, so_far.size)))

  pub removed-more : (after : List (List Entry)) → after ≡ set before e.place (without place (slice_index_or before e.place []))
      → AreRemoved place (take (k + 1) entries) initial after
  removed-more after put =
      let next : k + 1 ≡ suc k = omega arith in
      let some : 0 < value_at (take (suc k) entries) e.place =
      omega (arith, is_new.after, (subst (λ (e : Entry). 0 < e.value) (sym is_next) (are.values k d within).0)) in
      let lost : List Entry = without place (slice_index_or before e.place []) in
      record {
        size = ap length put ∙ length-set before e.place lost ∙ so_far.size;
        each = λ other.
            ap (λ (lines : List (List Entry)). slice_index_or lines other []) put
            ∙ elim (eqb_tells other e.place) [
              | inl here ↦
                  ap (λ (other : ℕ). slice_index_or (set before e.place lost) other []) here.1
                  ∙ get_or-set_same before e.place lost [] place-next ∙ ap (without place) line-next
                  ∙ sym (left_at-some place (value_at (take (suc k) entries) e.place) (slice_index_or initial e.place []) some)
                  ∙ ap₂
                  (λ (n other : ℕ). left_at place (value_at (take n entries) other) (slice_index_or initial other []))
                  (sym next) (sym here.1)
              | inr away ↦
                  get_or-set_other before e.place other lost [] away.1 ∙ so_far.each other
                  ∙ ap (λ (value : ℕ). left_at place value (slice_index_or initial other []))
                  (sym (value_at-more k other entries e d within is_next (λ same. away.1 (sym same))))
                  ∙ ap (λ (n : ℕ). left_at place (value_at (take n entries) other) (slice_index_or initial other [])) (sym next)
            ];
      }

pub removed-all : (p size place : ℕ) (entries : List Entry) (before after : List (List Entry))
    → AreRemoved place entries before after → All (AreEntries p size) before
    → ((other : ℕ) → value_at entries other ≡ 0 → value_at (slice_index_or before other []) place ≡ 0)
    → after ≡ map (without place) before
removed-all p size place entries before after removed are others =
    list-same after (map (without place) before) []
    (removed.size ∙ sym (length-map before (without place)))
    (λ other other_within.
    removed.each other
    ∙ at other (omega (arith, other_within, length-map before (without place))) (value_at entries other) refl
    ∙ sym (plain.get_or-map (without place) before other []))
  where
    at : (other : ℕ) → other < length before → (value : ℕ) → value_at entries other ≡ value
        → left_at place value (slice_index_or before other []) ≡ without place (slice_index_or before other [])
    at other within zero is_value =
        sym (without-none p size place (slice_index_or before other []) (are other [] within) (others other is_value))
    at other within (suc value) is_value = refl
