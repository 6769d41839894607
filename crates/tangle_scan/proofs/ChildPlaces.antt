-- New objects stand in the order of their origins: where those of one object, with one smoothing, begin.
-- All origins are those of the objects before this one, its own with the 0-smoothing, its own with the 1-smoothing, and those of the objects
-- behind it. So a successor stands where these begin, as many places further as its label says.
use Rattle.std.proofs.Common.{◌≡◌, ℕ, zero, suc, ◌+◌, ◌-◌, ◌^◌, ◌<◌, ◌∙◌, List, [], ◌∷◌, ◌++◌, get_or, length, map, take, refl, sym, subst, ap, ap₂, arith, Bool, true, false, cond, append_assoc}
use Rattle.std.specs.Prelude.{nat_eq, Option}
use Rattle.std.specs.List.{filter, flat_map, range_with_len}
use Rattle.std.proofs.lemmas.List.{get_or-append-add, get_or_append_left, length-append, map_push, take_more}
use Rattle.std.proofs.lemmas.List.Concat.{flat_map-append}
use Rattle.std.proofs.lemmas.List.Elements.{filter-append}
use Rattle.std.proofs.lemmas.List.FromFn.{map-range_with_len_more, get_or-map-range_with_len, get_or-range_with_len, length-map-range_with_len, length-range_with_len}
use Rattle.kh_types.proofs.Ranges.{range_around, range_more}
use Rattle.added_crossing_laws.specs.Codes.{closed_at}
use Rattle.scan_laws.specs.Scans.{pairs_of}
use Rattle.scan_laws.specs.Adding.{Origin, origin_of, origins_of, origins_with}
use Rattle.crossing_maps.specs.declared.splitting.Split.{Split}
use Rattle.tangle_scan.specs.declared.adding.Adding.{Adding}
use Rattle.tangle_scan.specs.declared.adding.children.Child.{Child}
use Rattle.tangle_scan.specs.declared.adding.Successors.{Successors}
use Rattle.tangle_scan.specs.Additions.{HasSuccessors, IsSplitAt, MaySucceed, StandsAt, SucceedTo, all_origins, code_in, done_in, objects_in, origin_in, origins_to, scan_in}
use Rattle.tangle_scan.specs.Held.{is_alive_at}
use Rattle.tangle_scan.proofs.ZippedLists.{zip-at}

pub append-none : {A : Type 0} (xs : List A) → xs ++ [] ≡ xs
append-none [] = refl
append-none (x ∷ xs) = ap (λ ys. x ∷ ys) (append-none xs)

module _ (adding : Adding) where
  abbrev from : ℕ → List Origin
  from = origins_of (code_in adding) (scan_in adding)

  abbrev with : ℕ → ℕ → List Origin
  with place smoothing = origins_with (code_in adding) (scan_in adding) place smoothing

  abbrev alive : ℕ → Bool
  alive = is_alive_at (objects_in adding)

  -- an object more
  pub origins-alive : (place : ℕ) → alive place ≡ true
      → origins_to adding (place + 1) ≡ (origins_to adding place ++ with place 0) ++ with place 1
  origins-alive place is =
      ap (λ xs. flat_map from (filter alive xs)) (range_more 0 place place (omega arith))
      ∙ ap (flat_map from) (filter-append alive (range_with_len 0 place) (place ∷ []))
      ∙ flat_map-append from (filter alive (range_with_len 0 place)) (filter alive (place ∷ []))
      ∙ ap (λ b. origins_to adding place ++ flat_map from (cond b (place ∷ []) [])) is
      ∙ ap (λ xs. origins_to adding place ++ xs) (append-none (from place) ∙ ap (λ xs. with place 0 ++ xs) (append-none (with place 1)))
      ∙ sym (append_assoc (origins_to adding place) (with place 0) (with place 1))

  pub origins-dead : (place : ℕ) → alive place ≡ false → origins_to adding (place + 1) ≡ origins_to adding place
  origins-dead place is =
      ap (λ xs. flat_map from (filter alive xs)) (range_more 0 place place (omega arith))
      ∙ ap (flat_map from) (filter-append alive (range_with_len 0 place) (place ∷ []))
      ∙ ap (λ b. flat_map from (filter alive (range_with_len 0 place) ++ cond b (place ∷ []) [])) is
      ∙ ap (flat_map from) (append-none (filter alive (range_with_len 0 place)))

  -- all of them are those before an object, its own, and those behind
  abbrev later : ℕ → List Origin
  later place = flat_map from (filter alive (range_with_len (place + 1) (length (objects_in adding) - (place + 1))))

  origins-around : (place : ℕ) → place < length (objects_in adding) → alive place ≡ true
      → all_origins adding ≡ origins_to adding place ++ (with place 0 ++ (with place 1 ++ later place))
  origins-around place within is =
      let n = length (objects_in adding) in
      let rest = range_with_len (place + 1) (n - (place + 1)) in
      let front = range_with_len 0 place in
      ap (λ xs. flat_map from (filter alive xs)) (range_around 0 n place place within (omega arith))
      ∙ ap (flat_map from) (filter-append alive front (place ∷ rest))
      ∙ flat_map-append from (filter alive front) (filter alive (place ∷ rest))
      ∙ ap (λ b. origins_to adding place ++ flat_map from (cond b (place ∷ filter alive rest) (filter alive rest))) is
      ∙ ap (λ xs. origins_to adding place ++ (xs ++ later place)) (ap (λ xs. with place 0 ++ xs) (append-none (with place 1)))
      ∙ ap (λ xs. origins_to adding place ++ xs) (append_assoc (with place 0) (with place 1) (later place))

  abbrev labels : ℕ → ℕ → ℕ
  labels place smoothing = 2 ^ length (closed_at (code_in adding) (done_in adding) smoothing (pairs_of (scan_in adding) place))

  length-with : (place smoothing : ℕ) → length (with place smoothing) ≡ labels place smoothing
  length-with place smoothing = length-map-range_with_len (origin_of place smoothing) 0 (labels place smoothing)

  in-list : (before own behind : List Origin) (k : ℕ) (origin : Origin) → k < length own → get_or own k (origin_of 0 0 0) ≡ origin
      → all_origins adding ≡ before ++ (own ++ behind) → StandsAt adding origin (length before + k)
  in-list before own behind k origin within there is = record {
    within = omega (arith, ap length is, length-append before (own ++ behind), length-append own behind, within);
    there = ap (λ xs. get_or xs (length before + k) (origin_of 0 0 0)) is
        ∙ get_or-append-add before (own ++ behind) k (origin_of 0 0 0) ∙ get_or_append_left own behind (origin_of 0 0 0) k within ∙ there;
  }

  own-there : (place smoothing label : ℕ) → label < labels place smoothing
      → get_or (with place smoothing) label (origin_of 0 0 0) ≡ origin_of place smoothing label
  own-there place smoothing label below =
      get_or-map-range_with_len (origin_of place smoothing) 0 (labels place smoothing) label label (origin_of 0 0 0) below (omega arith)

  pub zero-stands : (place label : ℕ) (s : Successors) → place < length (objects_in adding) → HasSuccessors adding place s
      → label < 2 ^ length s.zero.closed.items → StandsAt adding (origin_of place 0 label) (s.first + label)
  zero-stands place label s within has below =
      let few : label < labels place 0 = subst (λ (xs : List ℕ). label < 2 ^ length xs) has.zero.made.circles below in
      subst (λ n. StandsAt adding (origin_of place 0 label) (n + label)) (sym has.first)
      (in-list (origins_to adding place) (with place 0) (with place 1 ++ later place) label (origin_of place 0 label)
      (omega (arith, few, length-with place 0)) (own-there place 0 label few) (origins-around place within has.alive))

  pub one-stands : (place label : ℕ) (s : Successors) → place < length (objects_in adding) → HasSuccessors adding place s
      → label < 2 ^ length s.one.closed.items → StandsAt adding (origin_of place 1 label) (s.second + label)
  one-stands place label s within has below =
      let few : label < labels place 1 = subst (λ (xs : List ℕ). label < 2 ^ length xs) has.one.made.circles below in
      let before = origins_to adding place ++ with place 0 in
      let long : length before ≡ s.second =
      length-append (origins_to adding place) (with place 0) ∙ ap₂ (λ m n. m + n) (sym has.first) (length-with place 0)
      ∙ ap (λ (xs : List ℕ). s.first + 2 ^ length xs) (sym has.zero.made.circles) ∙ sym has.second in
      subst (λ n. StandsAt adding (origin_of place 1 label) (n + label)) long
      (in-list before (with place 1) (later place) label (origin_of place 1 label) (omega (arith, few, length-with place 1))
      (own-there place 1 label few)
      (origins-around place within has.alive ∙ sym (append_assoc (origins_to adding place) (with place 0) (with place 1 ++ later place))))

  -- the successors of the object at a place
  pub succeeded : (place : ℕ) (list : List (Option Successors)) (d : Option Successors) → place < length (objects_in adding)
      → SucceedTo adding (length (objects_in adding)) list → MaySucceed adding place (get_or list place d)
  succeeded place list d within all =
      let n = length (objects_in adding) in
      subst (λ k. MaySucceed adding k (get_or list place d)) (get_or-range_with_len 0 n place 0 within ∙ omega arith)
      (zip-at (MaySucceed adding) (range_with_len 0 n) list place 0 d all (omega (arith, within, length-range_with_len 0 n)))

  -- by the smoothing
  pub chosen-split : (place e : ℕ) (s : Successors) → e < 2 → HasSuccessors adding place s
      → IsSplitAt adding place e (cond (nat_eq e 0) s.zero s.one)
  chosen-split place zero s below has = has.zero
  chosen-split place (suc zero) s below has = has.one
  chosen-split place (suc (suc e)) s below has = absurd (omega (arith, below))

  pub chosen-stands : (place e label : ℕ) (s : Successors) → place < length (objects_in adding) → e < 2 → HasSuccessors adding place s
      → label < 2 ^ length (cond (nat_eq e 0) s.zero s.one).closed.items
      → StandsAt adding (origin_of place e label) (cond (nat_eq e 0) s.first s.second + label)
  chosen-stands place zero label s within below has few = zero-stands place label s within has few
  chosen-stands place (suc zero) label s within below has few = one-stands place label s within has few
  chosen-stands place (suc (suc e)) label s within below has few = absurd (omega (arith, below))

  -- the origins of an object with a smoothing, by what the smoothing makes of it
  pub origins-split : (place e : ℕ) (split : Split) → IsSplitAt adding place e split
      → map (origin_of place e) (range_with_len 0 (2 ^ length split.closed.items)) ≡ with place e
  origins-split place e split at =
      ap (λ (xs : List ℕ). map (origin_of place e) (range_with_len 0 (2 ^ length xs))) at.made.circles

-- one more behind a list
pub labels-more : {A : Type 0} (f : ℕ → A) (front : List A) (k : ℕ)
    → (front ++ map f (range_with_len 0 k)) ++ f k ∷ [] ≡ front ++ map f (range_with_len 0 (k + 1))
labels-more f front k =
    append_assoc front (map f (range_with_len 0 k)) (f k ∷ [])
    ∙ ap (λ xs. front ++ xs) (sym (map-range_with_len_more f 0 k k (omega arith)))

pub heads-more : {A B : Type 0} (f : ℕ → List B) (head : A → ℕ) (xs : List A) (k : ℕ) (d : A) → k < length xs
    → flat_map f (map head (take k xs)) ++ f (head (get_or xs k d)) ≡ flat_map f (map head (take (k + 1) xs))
heads-more f head xs k d within =
    let one = get_or xs k d in
    sym (ap (λ ys. flat_map f (map head ys)) (take_more xs k d within)
    ∙ ap (flat_map f) (map_push head (take k xs) one)
    ∙ flat_map-append f (map head (take k xs)) (head one ∷ [])
    ∙ ap (λ ys. flat_map f (map head (take k xs)) ++ ys) (append-none (f (head one))))

pub origin-same : (child : Child) (object smoothing label : ℕ) → child.parent ≡ object → child.side.smoothing ≡ smoothing
    → child.label ≡ label → origin_in child ≡ origin_of object smoothing label
origin-same child object smoothing label same_object same_smoothing same_label =
    ap (λ o. origin_of o child.side.smoothing child.label) same_object
    ∙ ap₂ (λ e l. origin_of object e l) same_smoothing same_label
