-- Two lists, compared place by place.
use Rattle.std.proofs.Common.{◌≡◌, ℕ, ◌+◌, ◌<◌, ◌≤◌, List, [], ◌∷◌, ◌++◌, length, get_or, refl, ap, subst, arith}
use Prim.Native.Nat.{zero, suc}
use Rattle.std.proofs.Math.ListN.{set}
use Rattle.std.specs.List.{AllZip}

-- R holds of the first k items of two lists, and the others are as they were
abbrev pub ZipTo : {A : Type 0} → (A → A → Type 0) → ℕ → List A → List A → Type 0
ZipTo R zero xs ys = ys ≡ xs
ZipTo R (suc k) [] ys = ys ≡ []
ZipTo R (suc k) (x ∷ xs) [] = ⊥
ZipTo R (suc k) (x ∷ xs) (y ∷ ys) = R x y × ZipTo R k xs ys

zip_next : {A : Type 0} (R : A → A → Type 0) (k : ℕ) (xs ys : List A) (y d : A) → ZipTo R k xs ys → k < length xs → R (get_or xs k d) y
    → ZipTo R (suc k) xs (set ys k y)
zip_next R zero [] ys y d h lt r = absurd (omega arith)
zip_next R zero (x ∷ xs) [] y d h lt r = absurd (cc)
zip_next R zero (x ∷ xs) (z ∷ ys) y d h lt r = (r, cc)
zip_next R (suc k) [] ys y d h lt r = absurd (omega arith)
zip_next R (suc k) (x ∷ xs) [] y d h lt r = h
zip_next R (suc k) (x ∷ xs) (z ∷ ys) y d h lt r = (h.0, zip_next R k xs ys y d h.1 (omega arith) r)

-- the item at k is still as it was
pub zip_rest : {A : Type 0} (R : A → A → Type 0) (k : ℕ) (xs ys : List A) (d : A) → ZipTo R k xs ys → get_or ys k d ≡ get_or xs k d
zip_rest R zero xs ys d h = ap (λ zs. get_or zs zero d) h
zip_rest R (suc k) [] ys d h = ap (λ zs. get_or zs (suc k) d) h
zip_rest R (suc k) (x ∷ xs) [] d h = absurd h
zip_rest R (suc k) (x ∷ xs) (y ∷ ys) d h = zip_rest R k xs ys d h.1

-- one place more
pub zip_more : {A : Type 0} (R : A → A → Type 0) (k : ℕ) (xs ys : List A) (y d : A) → ZipTo R k xs ys → k < length xs → R (get_or ys k d) y
    → ZipTo R (k + 1) xs (set ys k y)
zip_more R k xs ys y d h lt r =
    let e : suc k ≡ k + 1 = omega arith in
    subst (λ n. ZipTo R n xs (set ys k y)) e (zip_next R k xs ys y d h lt (subst (λ x. R x y) (zip_rest R k xs ys d h) r))

-- all places
pub zip_whole : {A : Type 0} (R : A → A → Type 0) (k : ℕ) (xs ys : List A) → ZipTo R k xs ys → length xs ≤ k → AllZip R xs ys
zip_whole R zero [] [] h le = tt
zip_whole R zero [] (y ∷ ys) h le = absurd (cc)
zip_whole R zero (x ∷ xs) ys h le = absurd (omega arith)
zip_whole R (suc k) [] [] h le = tt
zip_whole R (suc k) [] (y ∷ ys) h le = absurd (cc)
zip_whole R (suc k) (x ∷ xs) [] h le = h
zip_whole R (suc k) (x ∷ xs) (y ∷ ys) h le = (h.0, zip_whole R k xs ys h.1 (omega arith))

module _ {A B : Type 0} (R : A → B → Type 0) where
  -- one item more in each
  pub zip_push : (xs : List A) (ys : List B) (x : A) (y : B) → AllZip R xs ys → R x y → AllZip R (xs ++ x ∷ []) (ys ++ y ∷ [])
  zip_push [] [] x y h r = (r, tt)
  zip_push [] (z ∷ ys) x y h r = absurd h
  zip_push (w ∷ xs) [] x y h r = absurd h
  zip_push (w ∷ xs) (z ∷ ys) x y h r = (h.0, zip_push xs ys x y h.1 r)

  zip_nothing : (xs : List A) (x : A) (ys : List B) → AllZip R (xs ++ x ∷ []) ys → ys ≡ [] → ⊥
  zip_nothing [] x [] h e = h
  zip_nothing [] x (y ∷ ys) h e = cc
  zip_nothing (w ∷ xs) x [] h e = h
  zip_nothing (w ∷ xs) x (y ∷ ys) h e = cc

  -- the last of each
  pub zip_last : (xs : List A) (x : A) (ys : List B) (y : B) → AllZip R (xs ++ x ∷ []) (ys ++ y ∷ []) → AllZip R xs ys × R x y
  zip_last [] x [] y h = (tt, h.0)
  zip_last [] x (z ∷ []) y h = absurd h.1
  zip_last [] x (z ∷ w ∷ ys) y h = absurd h.1
  zip_last (w ∷ []) x [] y h = absurd h.1
  zip_last (w ∷ v ∷ xs) x [] y h = absurd h.1
  zip_last (w ∷ xs) x (z ∷ ys) y h = let rest = zip_last xs x ys y h.1 in ((h.0, rest.0), rest.1)

  -- of a list with a last item the other has one too
  pub zip_ends : (xs : List A) (x : A) (ys : List B) → AllZip R (xs ++ x ∷ []) ys
      → (front : List B) × (y : B) × (ys ≡ front ++ y ∷ []) × AllZip R xs front × R x y
  zip_ends [] x [] h = absurd h
  zip_ends [] x (y ∷ []) h = ([], y, refl, tt, h.0)
  zip_ends [] x (y ∷ z ∷ ys) h = absurd h.1
  zip_ends (w ∷ xs) x [] h = absurd h
  zip_ends (w ∷ xs) x (y ∷ ys) h = let rest = zip_ends xs x ys h.1 in (y ∷ rest.0, rest.1, ap (λ zs. y ∷ zs) rest.2, (h.0, rest.3), rest.4)

  pub zip_size : (xs : List A) (ys : List B) → AllZip R xs ys → length ys ≡ length xs
  zip_size [] [] h = refl
  zip_size [] (y ∷ ys) h = absurd h
  zip_size (x ∷ xs) [] h = absurd h
  zip_size (x ∷ xs) (y ∷ ys) h = ap suc (zip_size xs ys h.1)

  -- at one place
  pub zip_at : (xs : List A) (ys : List B) (k : ℕ) (d : A) (e : B) → AllZip R xs ys → k < length xs → R (get_or xs k d) (get_or ys k e)
  zip_at [] ys k d e h lt = absurd (omega arith)
  zip_at (x ∷ xs) [] k d e h lt = absurd h
  zip_at (x ∷ xs) (y ∷ ys) zero d e h lt = h.0
  zip_at (x ∷ xs) (y ∷ ys) (suc k) d e h lt = zip_at xs ys k d e h.1 (omega arith)

  -- another item at one place
  pub zip_set : (xs : List A) (ys : List B) (k : ℕ) (d : A) (y : B) → AllZip R xs ys → R (get_or xs k d) y → AllZip R xs (set ys k y)
  zip_set [] [] k d y h r = tt
  zip_set [] (z ∷ ys) k d y h r = absurd h
  zip_set (x ∷ xs) [] k d y h r = absurd h
  zip_set (x ∷ xs) (z ∷ ys) zero d y h r = (r, h.1)
  zip_set (x ∷ xs) (z ∷ ys) (suc k) d y h r = (h.0, zip_set xs ys k d y h.1 r)
