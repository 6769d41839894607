-- Codes with the same survivors have the same last page: the quantum degrees up to which something lasts are the same ones, whichever
-- code's greatest degree they are listed to; and so they have one s.
use Rattle.std.proofs.Common.{◌≡◌, ℕ, ◌+◌, ◌-◌, ◌∙◌, ℤ, pos, ◌+ℤ◌, List, [], ◌∷◌, length, map, get_or, refl, sym, ap, ap₂, arith, Bool, false, IsTrue}
use Rattle.std.specs.Int.{int_div_euclid}
use Rattle.std.specs.List.{filter}
use Rattle.std.specs.Prelude.{nat_lt}
use Rattle.std.proofs.Math.Path.{fun_ext}
use Rattle.std.proofs.lemmas.Bool.{le-ltb}
use Rattle.kh_types.specs.Acceptance.{accepted}
use Rattle.kh_types.specs.Code.{Code}
use Rattle.kh_types.specs.Residues.{HasInverses}
use Rattle.kh_types.specs.Table.{IsWithin, from_minus}
use Rattle.link_laws.specs.CodeSurvivors.{code_survivors}
use Rattle.link_laws.specs.LastPages.{greatest_degree, lasting_degrees, lasting_of, s, s_max, s_min}
use Rattle.link_laws.specs.Links.{AreOneLink}
use Rattle.link_laws.proofs.LastDegrees.{lasting-outside}
use Rattle.link_laws.proofs.Paths.{link-accepted, survivors-link}
use Rattle.link_laws.proofs.Tables.{shown-wider}

-- of the integers from -n to n the same ones pass a test with a greater n, where none beyond passes
passing-wider : (test : ℤ → Bool) (n d : ℕ) → ((j : ℤ) → (IsWithin n j → ⊥) → test j ≡ false)
    → filter test (from_minus (n + d)) ≡ filter test (from_minus n)
passing-wider test n d none =
    ap (filter test) (sym (map-own (from_minus (n + d)))) ∙ shown-wider test (λ j. j) n d none ∙ ap (filter test) (map-own (from_minus n))
  where
    map-own : (xs : List ℤ) → map (λ j. j) xs ≡ xs
    map-own [] = refl
    map-own (x ∷ xs) = ap (λ (ys : List ℤ). x ∷ ys) (map-own xs)

-- whether something lasts up to a quantum degree
abbrev lasts : ℕ → Code → ℤ → Bool
lasts p code j = nat_lt 0 (lasting_of p code (pos 0) j)

lasts-outside : (p : ℕ) (code : Code) → HasInverses p → IsTrue (accepted code) → (j : ℤ) → (IsWithin (greatest_degree code) j → ⊥)
    → lasts p code j ≡ false
lasts-outside p code field holds j outside =
    let none = lasting-outside p code field holds (pos 0) j outside in
    le-ltb 0 (lasting_of p code (pos 0) j) (omega (arith, none))

module _ (p : ℕ) (code new : Code) (field : HasInverses p) (holds : IsTrue (accepted code)) (new_holds : IsTrue (accepted new))
    (same : (i t : ℤ) → code_survivors p 1 new i t ≡ code_survivors p 1 code i t) where
  lasting-same : (i j : ℤ) → lasting_of p new i j ≡ lasting_of p code i j
  lasting-same i j = ap₂ (λ (m n : ℕ). m - n) (same i j) (same i (j +ℤ pos 1))

  degrees-same : lasting_degrees p new ≡ lasting_degrees p code
  degrees-same =
      let m = greatest_degree new in
      let n = greatest_degree code in
      sym (passing-wider (lasts p new) m n (lasts-outside p new field new_holds))
      ∙ ap₂ (λ (f : ℤ → Bool) (k : ℕ). filter f (from_minus k)) (fun_ext (λ j. ap (nat_lt 0) (lasting-same (pos 0) j))) (turned m n)
      ∙ passing-wider (lasts p code) n m (lasts-outside p code field holds)
    where
      turned : (m n : ℕ) → m + n ≡ n + m
      turned m n = omega arith

  s_min-same : s_min p new ≡ s_min p code
  s_min-same = ap (λ (js : List ℤ). get_or js 0 (pos 0)) degrees-same

  s_max-same : s_max p new ≡ s_max p code
  s_max-same = ap (λ (js : List ℤ). get_or js (length js - 1) (pos 0)) degrees-same

  s-same : s p new ≡ s p code
  s-same = ap₂ (λ (a b : ℤ). int_div_euclid (a +ℤ b) (pos 2)) s_min-same s_max-same

-- so have all diagrams of a link
pub lasting-link : (p : ℕ) (first last : Code) → HasInverses p → AreOneLink first last → (i j : ℤ)
    → lasting_of p last i j ≡ lasting_of p first i j
lasting-link p first last field link =
    lasting-same p first last field link.first_accepted (link-accepted first last link) (survivors-link p 1 first last field link)

pub s_min-link : (p : ℕ) (first last : Code) → HasInverses p → AreOneLink first last → s_min p last ≡ s_min p first
s_min-link p first last field link =
    s_min-same p first last field link.first_accepted (link-accepted first last link) (survivors-link p 1 first last field link)

pub s_max-link : (p : ℕ) (first last : Code) → HasInverses p → AreOneLink first last → s_max p last ≡ s_max p first
s_max-link p first last field link =
    s_max-same p first last field link.first_accepted (link-accepted first last link) (survivors-link p 1 first last field link)

pub s-link : (p : ℕ) (first last : Code) → HasInverses p → AreOneLink first last → s p last ≡ s p first
s-link p first last field link =
    s-same p first last field link.first_accepted (link-accepted first last link) (survivors-link p 1 first last field link)
