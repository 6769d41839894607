-- Codes that lead to one another over others: all of them have what each change keeps, the survivors, so the dimensions, and the state sum.
use Rattle.std.proofs.Common.{◌≡◌, ℕ, ◌-◌, inl, inr, ◌∙◌, ℤ, pos, ◌+ℤ◌, List, [], ◌∷◌, ◌++◌, refl, sym, subst, ap, ap₂, IsTrue}
use Rattle.kh_types.specs.Acceptance.{accepted}
use Rattle.kh_types.specs.Code.{Code}
use Rattle.kh_types.specs.Residues.{HasInverses}
use Rattle.kh_types.specs.StateSum.{state_sum}
use Rattle.kh_types.specs.Table.{dimension}
use Rattle.link_laws.specs.CodeSurvivors.{code_survivors}
use Rattle.link_laws.specs.Links.{AreNeighbours, AreOneLink, IsLinkChange, LeadsTo}
use Rattle.link_laws.proofs.AtZero.{survivors-zero}
use Rattle.link_laws.proofs.Changes.{sum-change, survivors-change}

near-back : (first second : Code) → AreNeighbours first second → AreNeighbours second first
near-back first second near = record {
  first_accepted = near.second_accepted;
  second_accepted = near.first_accepted;
  change = elim near.change [ inl change ↦ inr change | inr change ↦ inl change ];
}

pub path-onward : (first : Code) (codes : List Code) (middle : Code) (more : List Code) (last : Code) → LeadsTo first codes middle
    → LeadsTo middle more last → LeadsTo first (codes ++ more) last
path-onward first [] middle more last same onward = subst (λ (code : Code). LeadsTo code more last) (sym same) onward
path-onward first (next ∷ rest) middle more last (near, path) onward = (near, path-onward next rest middle more last path onward)

path-back : (first : Code) (codes : List Code) (last : Code) → LeadsTo first codes last → (back : List Code) × LeadsTo last back first
path-back first [] last same = ([], sym same)
path-back first (next ∷ rest) last (near, path) =
    let back = path-back next rest last path in
    (back.0 ++ first ∷ [], path-onward last back.0 next (first ∷ []) first back.1 (near-back first next near, refl))

accepted-path : (first : Code) (codes : List Code) (last : Code) → LeadsTo first codes last → IsTrue (accepted first)
    → IsTrue (accepted last)
accepted-path first [] last same holds = subst (λ (code : Code). IsTrue (accepted code)) same holds
accepted-path first (next ∷ rest) last (near, path) holds = accepted-path next rest last path near.second_accepted

-- what each change keeps is one for all codes of a path
kept-neighbour : {X : Type 0} (value : Code → X)
    → ((old new : Code) → IsTrue (accepted old) → IsTrue (accepted new) → IsLinkChange old new → value new ≡ value old)
    → (first second : Code) → AreNeighbours first second → value second ≡ value first
kept-neighbour value kept first second near = elim near.change [
  | inl change ↦ kept first second near.first_accepted near.second_accepted change
  | inr change ↦ sym (kept second first near.second_accepted near.first_accepted change)
]

kept-path : {X : Type 0} (value : Code → X)
    → ((old new : Code) → IsTrue (accepted old) → IsTrue (accepted new) → IsLinkChange old new → value new ≡ value old)
    → (first : Code) (codes : List Code) (last : Code) → LeadsTo first codes last → value last ≡ value first
kept-path value kept first [] last same = ap value (sym same)
kept-path value kept first (next ∷ rest) last (near, path) =
    kept-path value kept next rest last path ∙ kept-neighbour value kept first next near

pub kept-link : {X : Type 0} (value : Code → X)
    → ((old new : Code) → IsTrue (accepted old) → IsTrue (accepted new) → IsLinkChange old new → value new ≡ value old)
    → (first last : Code) → AreOneLink first last → value last ≡ value first
kept-link value kept first last link = kept-path value kept first link.codes last link.path

pub link-accepted : (first last : Code) → AreOneLink first last → IsTrue (accepted last)
link-accepted first last link = accepted-path first link.codes last link.path link.first_accepted

pub link-own : (code : Code) → IsTrue (accepted code) → AreOneLink code code
link-own code holds = record { first_accepted = holds; codes = []; path = refl }

pub link-back : (first last : Code) → AreOneLink first last → AreOneLink last first
link-back first last link =
    let back = path-back first link.codes last link.path in
    record { first_accepted = link-accepted first last link; codes = back.0; path = back.1 }

pub link-onward : (first middle last : Code) → AreOneLink first middle → AreOneLink middle last → AreOneLink first last
link-onward first middle last link more = record {
  first_accepted = link.first_accepted;
  codes = link.codes ++ more.codes;
  path = path-onward first link.codes middle more.codes last link.path more.path;
}

pub link-change : (old new : Code) → IsTrue (accepted old) → IsTrue (accepted new) → IsLinkChange old new → AreOneLink old new
link-change old new holds new_holds change = record {
  first_accepted = holds;
  codes = new ∷ [];
  path = (record { first_accepted = holds; second_accepted = new_holds; change = inl change }, refl);
}

pub survivors-link : (p h : ℕ) (first last : Code) → HasInverses p → AreOneLink first last → (i t : ℤ)
    → code_survivors p h last i t ≡ code_survivors p h first i t
survivors-link p h first last field link i t =
    kept-link (λ (code : Code). code_survivors p h code i t) (survivors-change p h field i t) first last link

-- where h is 0 what survives from j on, less what does from j + 1 on, is the dimension at j
pub dimension-link : (p : ℕ) (first last : Code) → HasInverses p → AreOneLink first last → (i j : ℤ)
    → dimension p last i j ≡ dimension p first i j
dimension-link p first last field link i j =
    sym (survivors-zero p last i j field (link-accepted first last link))
    ∙ ap₂ (λ (m n : ℕ). m - n) (survivors-link p 0 first last field link i j) (survivors-link p 0 first last field link i (j +ℤ pos 1))
    ∙ survivors-zero p first i j field link.first_accepted

pub sum-link : (first last : Code) (e : ℤ) → AreOneLink first last → state_sum last e ≡ state_sum first e
sum-link first last e link = kept-link (λ (code : Code). state_sum code e) (sum-change e) first last link
