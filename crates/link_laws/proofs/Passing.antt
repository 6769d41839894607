-- The first and the last of the numbers of a range that pass a test.
use Rattle.std.proofs.Common.{◌≡◌, ℕ, ◌⊎◌, inl, inr, zero, suc, ◌+◌, ◌-◌, ◌<◌, ◌≤◌, ◌∙◌, ℤ, pos, List, [], ◌∷◌, length, map, get_or, refl, subst, ap, sym, arith, Bool, true, false, cond}
use Rattle.std.specs.List.{filter, range_with_len}
use Rattle.std.proofs.lemmas.Bool.{cases_Bool, cases_eq}

-- the last of a longer list is the last
last-more : (x : ℤ) (ys : List ℤ) → 0 < length ys → get_or (x ∷ ys) (length (x ∷ ys) - 1) (pos 0) ≡ get_or ys (length ys - 1) (pos 0)
last-more x [] some = absurd (omega (arith, some))
last-more x (y ∷ ys) some =
    ap (λ (n : ℕ). get_or (x ∷ y ∷ ys) n (pos 0)) (less (suc (length ys)))
    ∙ ap (λ (n : ℕ). get_or (y ∷ ys) n (pos 0)) (sym (less (length ys)))
  where
    less : (n : ℕ) → suc n - 1 ≡ n
    less n = omega arith

module _ (test : ℤ → Bool) (f : ℕ → ℤ) where
  -- those of m numbers from a on that pass
  abbrev pub passing : ℕ → ℕ → List ℤ
  passing a m = filter test (map f (range_with_len a m))

  abbrev pub NonePasses : ℕ → ℕ → Type 0
  NonePasses a m = (l : ℕ) → a ≤ l → l < a + m → test (f l) ≡ false

  pub record IsFirstOf (a m : ℕ) : Type 0 where
    pub place : ℕ
    pub from : a ≤ place
    pub below : place < a + m
    pub is : get_or (passing a m) 0 (pos 0) ≡ f place
    pub passes : test (f place) ≡ true
    pub before : (l : ℕ) → a ≤ l → l < place → test (f l) ≡ false

  pub record IsLastOf (a m : ℕ) : Type 0 where
    pub place : ℕ
    pub from : a ≤ place
    pub below : place < a + m
    pub some : 0 < length (passing a m)
    pub is : get_or (passing a m) (length (passing a m) - 1) (pos 0) ≡ f place
    pub passes : test (f place) ≡ true
    pub after : (l : ℕ) → place < l → l < a + m → test (f l) ≡ false

  none-more : (a m : ℕ) → test (f a) ≡ false → NonePasses (a + 1) m → NonePasses a (suc m)
  none-more a m fails none l from below = elim (cases_eq l a) [
    | inl same ↦ subst (λ (k : ℕ). test (f k) ≡ false) (sym same) fails
    | inr differ ↦ none l (omega (arith, from, differ)) (omega (arith, below))
  ]

  passing-yes : (a m : ℕ) → test (f a) ≡ true → passing a (suc m) ≡ f a ∷ passing (a + 1) m
  passing-yes a m passes = ap (λ (b : Bool). cond b (f a ∷ passing (a + 1) m) (passing (a + 1) m)) passes

  passing-no : (a m : ℕ) → test (f a) ≡ false → passing a (suc m) ≡ passing (a + 1) m
  passing-no a m fails = ap (λ (b : Bool). cond b (f a ∷ passing (a + 1) m) (passing (a + 1) m)) fails

  pub passing-none : (a m : ℕ) → NonePasses a m → passing a m ≡ []
  passing-none a zero none = refl
  passing-none a (suc m) none =
      passing-no a m (none a (omega arith) (omega arith))
      ∙ passing-none (a + 1) m (λ l from below. none l (omega (arith, from)) (omega (arith, below)))

  pub first-passing : (a m : ℕ) → IsFirstOf a m ⊎ NonePasses a m
  first-passing a zero = inr (λ l from below. absurd (omega (arith, from, below)))
  first-passing a (suc m) = elim (cases_Bool (test (f a))) [
    | inl passes ↦
        inl (record {
          place = a;
          from = omega arith;
          below = omega arith;
          is = ap (λ (xs : List ℤ). get_or xs 0 (pos 0)) (passing-yes a m passes);
          passes = passes;
          before = λ l from below. absurd (omega (arith, from, below));
        })
    | inr fails ↦ elim (first-passing (a + 1) m) [
      | inl found ↦
          inl (record {
            place = found.place;
            from = omega (arith, found.from);
            below = omega (arith, found.below);
            is = ap (λ (xs : List ℤ). get_or xs 0 (pos 0)) (passing-no a m fails) ∙ found.is;
            passes = found.passes;
            before = λ l from below. elim (cases_eq l a) [
              | inl same ↦ subst (λ (k : ℕ). test (f k) ≡ false) (sym same) fails
              | inr differ ↦ found.before l (omega (arith, from, differ)) below
            ];
          })
      | inr none ↦ inr (none-more a m fails none)
    ]
  ]

  abbrev last_of : List ℤ → ℤ
  last_of xs = get_or xs (length xs - 1) (pos 0)

  pub last-passing : (a m : ℕ) → IsLastOf a m ⊎ NonePasses a m
  last-passing a zero = inr (λ l from below. absurd (omega (arith, from, below)))
  last-passing a (suc m) = elim (last-passing (a + 1) m) [
    | inl found ↦
        let same : (length (passing (a + 1) m) ≤ length (passing a (suc m))) × (last_of (passing a (suc m)) ≡ last_of (passing (a + 1) m)) =
        elim (cases_Bool (test (f a))) [
          | inl passes ↦
              let longer = ap length (passing-yes a m passes) in
              (omega (arith, longer), ap last_of (passing-yes a m passes) ∙ last-more (f a) (passing (a + 1) m) found.some)
          | inr fails ↦ let shorter = ap length (passing-no a m fails) in (omega (arith, shorter), ap last_of (passing-no a m fails))
        ] in
        inl (record {
          place = found.place;
          from = omega (arith, found.from);
          below = omega (arith, found.below);
          some = omega (arith, found.some, same.0);
          is = same.1 ∙ found.is;
          passes = found.passes;
          after = λ l past below. found.after l past (omega (arith, below));
        })
    | inr none ↦ elim (cases_Bool (test (f a))) [
      | inl passes ↦
          let only : passing a (suc m) ≡ f a ∷ [] =
          passing-yes a m passes ∙ ap (λ (xs : List ℤ). f a ∷ xs) (passing-none (a + 1) m none) in
          let one = ap length only in
          inl (record {
            place = a;
            from = omega arith;
            below = omega arith;
            some = omega (arith, one);
            is = ap last_of only;
            passes = passes;
            after = λ l past below. none l (omega (arith, past)) (omega (arith, below));
          })
      | inr fails ↦ inr (none-more a m fails none)
    ]
  ]
