-- The last items of lists: of two lists together, of a map, and of the lists made of the items of a list.
use Rattle.std.proofs.Common.{◌≡◌, ◌∙◌, ℕ, ◌+◌, ◌<◌, List, [], ◌∷◌, ◌++◌, length, get_or, map, take, refl, sym, ap, true, false, true≢false}
use Rattle.std.specs.Prelude.{Option, None, Some}
use Rattle.std.specs.List.{flat_map, last_or}
use Rattle.std.specs.Option.{is_some, option_map}
use Rattle.std.proofs.lemmas.Grind.{flat_map-append}
use Rattle.std.proofs.lemmas.List.{append-nil, take_more}

-- a list that begins with an item has a last one
is_some-last : {X : Type 0} (x : X) (xs : List X) → is_some (last_or (Some x) xs) ≡ true
is_some-last x [] = refl
is_some-last x (y ∷ ys) = is_some-last y ys

-- a list that has a last item does not need what stood before it
last-own : {X : Type 0} (first : Option X) (xs : List X) → is_some (last_or None xs) ≡ true → last_or first xs ≡ last_or None xs
last-own first [] ends = absurd (true≢false (sym ends))
last-own first (x ∷ xs) ends = refl

-- a list without a last item leaves what stood before it
last-before : {X : Type 0} (first : Option X) (xs : List X) → is_some (last_or None xs) ≡ false → last_or first xs ≡ first
last-before first [] blank = refl
last-before first (x ∷ xs) blank = absurd (true≢false (sym (is_some-last x xs) ∙ blank))

-- the last item of two lists is that of the second, or else that of the first
last-append : {X : Type 0} (first : Option X) (xs ys : List X) → last_or first (xs ++ ys) ≡ last_or (last_or first xs) ys
last-append first [] ys = refl
last-append first (x ∷ xs) ys = last-append (Some x) xs ys

-- of the lists that the items of a list give, one after another
module _ {X Y : Type 0} (f : X → List Y) (xs : List X) (m n : ℕ) (d : X) (last : Option Y) (next : m ≡ n + 1) (below : n < length xs)
    (is : last ≡ last_or None (f (get_or xs n d))) where
  -- the list of one item more stands behind those of the items before it
  last-more : last_or None (flat_map f (take m xs)) ≡ last_or (last_or None (flat_map f (take n xs))) (f (get_or xs n d))
  last-more =
      let front = take n xs in
      let x = get_or xs n d in
      ap (λ m. last_or None (flat_map f (take m xs))) next ∙ ap (λ xs. last_or None (flat_map f xs)) (take_more xs n d below)
      ∙ ap (last_or None) (flat_map-append f front (x ∷ []) ∙ ap (λ ys. flat_map f front ++ ys) (append-nil (f x)))
      ∙ last-append None (flat_map f front) (f x)

  -- if that list has a last item, it is the last of all
  pub last-here : is_some last ≡ true → last_or None (flat_map f (take m xs)) ≡ last
  last-here ends = last-more ∙ last-own (last_or None (flat_map f (take n xs))) (f (get_or xs n d)) (sym (ap is_some is) ∙ ends) ∙ sym is

  -- else the last of all is that of the lists before it
  pub last-earlier : is_some last ≡ false → last_or None (flat_map f (take m xs)) ≡ last_or None (flat_map f (take n xs))
  last-earlier blank =
      last-more ∙ last-before (last_or None (flat_map f (take n xs))) (f (get_or xs n d)) (sym (ap is_some is) ∙ blank)

-- the last of the images, or else the image of what stood before, is the image of the last item or of what stood before
last_or-map : {X Y : Type 0} (f : X → Y) (first : Option X) (xs : List X)
    → last_or (option_map f first) (map f xs) ≡ option_map f (last_or first xs)
last_or-map f first [] = refl
last_or-map f first (x ∷ xs) = last_or-map f (Some x) xs

-- the image of a last item is the last of the images
pub last-map : {X Y : Type 0} (f : X → Y) (last : Option X) (xs : List X) → last ≡ last_or None xs
    → option_map f last ≡ last_or None (map f xs)
last-map f last xs is = ap (option_map f) is ∙ sym (last_or-map f None xs)
