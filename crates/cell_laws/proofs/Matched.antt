-- Sums over ranges and lists whose places correspond.
use Rattle.std.proofs.lemmas.Bool.Decides.{nat_tests}
use Rattle.std.proofs.Common.{◌≡◌, ℕ, ◌⊎◌, inl, inr, ◌<◌, ◌≤◌, ◌∙◌, List, [], ◌∷◌, length, get_or, refl, sym, ap, arith, cond}
use Rattle.std.specs.Prelude.{nat_eq}
use Rattle.std.specs.List.{Contains, range_with_len, sum_by}
use Rattle.std.proofs.lemmas.Bool.{eq-eqb, ne_eqb}
use Rattle.std.proofs.lemmas.List.{get_or_default}
use Rattle.kh_types.proofs.ListSums.{sum_by-places, sum_by-range_alike, sum_by-single, sum_by-turned}
use Rattle.cell_laws.specs.Alike.{AreListed, AreMatched, HasNoDoubles}
use Rattle.cell_laws.proofs.Tables.{StandsAt, stands_or_past}

-- numbers below m that correspond to those below n
pub record ArePaired (m n : ℕ) (there back : ℕ → ℕ) : Type 0 where
  pub there_below : (l : ℕ) → l < m → there l < n
  pub back_below : (k : ℕ) → k < n → back k < m
  pub back_there : (l : ℕ) → l < m → back (there l) ≡ l
  pub there_back : (k : ℕ) → k < n → there (back k) ≡ k

pub sum_by-paired : (m n : ℕ) (there back : ℕ → ℕ) (f : ℕ → ℕ) → ArePaired m n there back
    → sum_by f (range_with_len 0 m) ≡ sum_by (λ k. f (back k)) (range_with_len 0 n)
sum_by-paired m n there back f are =
    let one = λ (l k : ℕ). cond (nat_eq k (there l)) (f l) 0 in
    sum_by-range_alike f (λ l. sum_by (one l) (range_with_len 0 n)) 0 m
    (λ l from below. sym (sum_by-single (one l) 0 n (there l) (omega arith) (omega (arith, are.there_below l (omega (arith, below))))
    (λ k k_from k_below other. ap (λ b. cond b (f l) 0) (ne_eqb k (there l) other))
    ∙ ap (λ b. cond b (f l) 0) (eq-eqb (there l) (there l) refl)))
    ∙ sum_by-turned one (range_with_len 0 m) (range_with_len 0 n)
    ∙ sum_by-range_alike (λ k. sum_by (λ l. one l k) (range_with_len 0 m)) (λ k. f (back k)) 0 n
    (λ k from below. sum_by-single (λ l. one l k) 0 m (back k) (omega arith) (omega (arith, are.back_below k (omega (arith, below))))
    (λ l l_from l_below other. ap (λ b. cond b (f l) 0)
    (ne_eqb k (there l) (λ is. other (sym (ap back is ∙ are.back_there l (omega (arith, l_below)))))))
    ∙ ap (λ b. cond b (f (back k)) 0) (eq-eqb k (there (back k)) (sym (are.there_back k (omega (arith, below))))))

-- the places of lists without doubles whose elements correspond
pub place-once : {A : Type 0} (xs : List A) (k l : ℕ) (d : A) → HasNoDoubles xs → k < length xs → l < length xs
    → get_or xs k d ≡ get_or xs l d → k ≡ l
place-once xs k l d once k_below l_below same = grind (arith, nat_tests)

-- the place of an element's partner, and 0 past the end
partner_place : {A B : Type 0} (to : A → B) (xs : List A) (ys : List B) → ((x : A) → Contains xs x → Contains ys (to x)) → ℕ → ℕ
partner_place to xs ys there k = elim (stands_or_past xs k) [
  | inl s ↦ (there s.element s.has).0
  | inr past ↦ 0
]

record HasPartner {A B : Type 0} (to : A → B) (xs : List A) (ys : List B) (k place : ℕ) : Type 0 where
  within : place < length ys
  reads : (d : A) (e : B) → get_or ys place e ≡ to (get_or xs k d)

partner : {A B : Type 0} (to : A → B) (xs : List A) (ys : List B) (there : (x : A) → Contains xs x → Contains ys (to x)) (k : ℕ)
    → k < length xs → HasPartner to xs ys k (partner_place to xs ys there k)
unfolding partner_place
partner {A} {B} to xs ys there k below = by (stands_or_past xs k)
  where
    by : (s : StandsAt xs k ⊎ (length xs ≤ k)) → HasPartner to xs ys k (elim s [ inl s ↦ (there s.element s.has).0 | inr past ↦ 0 ])
    by s = grind (arith, nat_tests, get_or_default)

paired-lists : {A B : Type 0} (to : A → B) (back : B → A) (first : List A) (second : List B) (d : A) (e : B)
    → (are : AreMatched to back first second)
    → ArePaired (length second) (length first) (partner_place back second first are.back_there) (partner_place to first second are.there)
paired-lists to back first second d e are =
    let home = λ (l : ℕ) (below : l < length second). partner back second first are.back_there l below in
    let away = λ (k : ℕ) (below : k < length first). partner to first second are.there k below in
    let tau = partner_place to first second are.there in
    let sigma = partner_place back second first are.back_there in
    record {
      there_below = λ l below. (home l below).within;
      back_below = λ k below. (away k below).within;
      back_there = λ l below.
          let at = home l below in
          place-once second (tau (sigma l)) l e are.second_once (away (sigma l) at.within).within below
          ((away (sigma l) at.within).reads d e ∙ ap to (at.reads e d)
          ∙ are.to_back (get_or second l e) (l, below, get_or_default second l (get_or second l e) e below));
      there_back = λ k below.
          let at = away k below in
          place-once first (sigma (tau k)) k d are.first_once (home (tau k) at.within).within below
          ((home (tau k) at.within).reads e d ∙ ap back (at.reads d e)
          ∙ are.back_to (get_or first k d) (k, below, get_or_default first k (get_or first k d) d below));
    }

sums-matched : {A B : Type 0} (to : A → B) (back : B → A) (first : List A) (second : List B) → AreMatched to back first second
    → (f : B → ℕ) → sum_by f second ≡ sum_by (λ x. f (to x)) first
sums-matched to back [] [] are f = refl
sums-matched to back (x ∷ xs) [] are f = absurd (omega (arith, (are.there x (0, omega arith, refl)).1))
sums-matched to back [] (y ∷ ys) are f = absurd (omega (arith, (are.back_there y (0, omega arith, refl)).1))
sums-matched to back (x ∷ xs) (y ∷ ys) are f =
    let tau = partner_place to (x ∷ xs) (y ∷ ys) are.there in
    sum_by-places f (y ∷ ys) y
    ∙ sum_by-paired (length (y ∷ ys)) (length (x ∷ xs)) (partner_place back (y ∷ ys) (x ∷ xs) are.back_there) tau
    (λ l. f (get_or (y ∷ ys) l y)) (paired-lists to back (x ∷ xs) (y ∷ ys) x y are)
    ∙ sum_by-range_alike (λ k. f (get_or (y ∷ ys) (tau k) y)) (λ k. f (to (get_or (x ∷ xs) k x))) 0 (length (x ∷ xs))
    (λ k from below. ap f ((partner to (x ∷ xs) (y ∷ ys) are.there k (omega (arith, below))).reads x y))
    ∙ sym (sum_by-places (λ x. f (to x)) (x ∷ xs) x)

pub AreListed-matched : {A B : Type 0} (to : A → B) (back : B → A) (first : List A) (second : List B) → AreMatched to back first second
    → AreListed to first second
AreListed-matched to back first second are =
    record {
      there = are.there;
      back = λ y has. (back y, are.back_there y has, are.to_back y has);
      sums = sums-matched to back first second are;
    }
