-- Pages follow one another by the rules, and no others do. The definition makes the next page by searches; the rules speak of the
-- least crossing that is not drawn, the leftmost strand that leads on, and the leftmost two neighbours that are partners. A
-- search finds the first number that passes, or none passes, so both say the same. What follows by one of the three rules is the
-- next page, and nothing follows the last page; so by induction the pages behind a page are determined. Conversely the next page
-- follows by a rule, or the page stays as it is; as the steps of an accepted code come to a last page, they make a whole list of
-- pages. So there are all pages of its drawing and no others, and the last one has the slices of the code, before those of its
-- loops.
use Rattle.std.proofs.lemmas.Bool.Decides.{nat_tests}
use Rattle.std.proofs.Common.{◌≡◌, ℕ, zero, suc, ◌⊎◌, inl, inr, ◌+◌, ◌-◌, ◌*◌, ◌/◌, ◌<◌, ◌≤◌, ◌∙◌, List, [], ◌∷◌, length, refl, sym, ap, ap₂, subst, arith, ◌++◌, Bool, true, false, cond, not, IsTrue, eq-eqb, eqb-true}
use Rattle.std.specs.Prelude.{get_or, Some, None}
use Rattle.std.specs.List.{find, range_with_len}
use Rattle.std.proofs.lemmas.Bool.{both_ways, cases_Bool, cases_eq, ne_eqb}
use Rattle.kh_types.specs.Acceptance.{accepted}
use Rattle.kh_types.specs.Code.{Code}
use Rattle.kh_types.specs.Darts.{partner_at}
use Rattle.kh_types.proofs.Lists.{find-none}
use Rattle.morse_drawing.specs.DartRows.{IsIn}
use Rattle.morse_drawing.specs.Pages.{Page, are_paired, blank_page, by_crossing, by_pair, by_row, is_in, leading, leads_on, loop_slices, next_page, next_page_by, page_of, paired, pages_on, slices_of, undrawn}
use Rattle.morse_drawing.specs.PageRules.{ArePages, ArePagesBehind, Follows, IsLastPage, IsLeastUndrawn, IsLeftmostLeading, IsLeftmostPair, LeadsOn, last_page}
use Rattle.morse_drawing.proofs.PageEnds.{IsDrawn-page_of, IsWholeSphere-accepted}
use Rattle.morse_drawing.proofs.PageLemmas.{in-true, is-in, not-in, true-in}

-- a search finds the first number that passes

pub record IsFirst (p : ℕ → Bool) (a n k : ℕ) : Type 0 where
  pub from : a ≤ k
  pub below : k < a + n
  pub passes : p k ≡ true
  pub earlier : (x : ℕ) → a ≤ x → x < k → p x ≡ false

first-found : (p : ℕ → Bool) (a n k : ℕ) → IsFirst p a n k → find p (range_with_len a n) ≡ Some k
first-found p a zero k is = absurd (omega (arith, is.from, is.below))
first-found p a (suc n) k is = elim (cases_eq a k) [
  | inl same ↦
      ap (λ b. cond b (Some a) (find p (range_with_len (a + 1) n))) (ap p same ∙ is.passes) ∙ ap (λ x. Some x) same
  | inr apart ↦
      ap (λ b. cond b (Some a) (find p (range_with_len (a + 1) n))) (is.earlier a (omega arith) (omega (arith, is.from, apart)))
      ∙ first-found p (a + 1) n k
      (record {
        from = omega (arith, is.from, apart);
        below = omega (arith, is.below);
        passes = is.passes;
        earlier = λ x from below. is.earlier x (omega (arith, from)) below;
      })
]

-- or there is none
searched : (p : ℕ → Bool) (a n : ℕ)
    → ((k : ℕ) × IsFirst p a n k) ⊎ ((x : ℕ) → a ≤ x → x < a + n → p x ≡ false)
searched p a zero = inr (λ x from below. absurd (omega (arith, from, below)))
searched p a (suc n) = elim (cases_Bool (p a)) [
  | inl here ↦
      inl (a, record { from = omega arith; below = omega arith; passes = here; earlier = λ x from below. absurd (omega (arith, from, below)) })
  | inr away ↦ elim (searched p (a + 1) n) [
    | inl found ↦
        inl (
          found.0,
          record {
            from = omega (arith, found.1.from);
            below = omega (arith, found.1.below);
            passes = found.1.passes;
            earlier = λ x from below. elim (cases_eq x a) [
              | inl same ↦ ap p same ∙ away
              | inr apart ↦ found.1.earlier x (omega (arith, from, apart)) below
            ];
          },
        )
    | inr none ↦ inr (λ x from below. elim (cases_eq x a) [
      | inl same ↦ ap p same ∙ away
      | inr apart ↦ none x (omega (arith, from, apart)) (omega (arith, below))
    ])
  ]
]

-- tests, and what they say

not_in : (x : ℕ) (xs : List ℕ) → ¬ IsIn x xs → not (is_in xs x) ≡ true
not_in x xs none = elim (cases_Bool (is_in xs x)) [
  | inl holds ↦ absurd (none (in-true x xs holds))
  | inr fails ↦ ap not fails
]

fails_in : (x : ℕ) (xs : List ℕ) → ¬ (¬ IsIn x xs) → not (is_in xs x) ≡ false
fails_in x xs nearly = elim (cases_Bool (is_in xs x)) [
  | inl holds ↦ ap not holds
  | inr away ↦ absurd (nearly (not-in x xs (ap not away)))
]

-- the searches of the definition

least-undrawn : (n : ℕ) (page : Page) (c : ℕ) → IsLeastUndrawn n page c → undrawn n page.drawn ≡ Some c
least-undrawn n page c is =
    first-found (λ x. not (is_in page.drawn x)) 0 n c
    (record {
      from = omega arith;
      below = omega (arith, is.below);
      passes = not_in c page.drawn is.not_drawn;
      earlier = λ x from below. ap not (true-in x page.drawn (is.least x below));
    })

leading-is : (partner : ℕ → ℕ) (page : Page) (place : ℕ) → IsLeftmostLeading partner page place → leading partner page.drawn page.row ≡ Some place
leading-is partner page place is =
    first-found (leads_on partner page.drawn page.row) 0 (length page.row) place
    (record {
      from = omega arith;
      below = omega (arith, is.within);
      passes = not_in (partner (get_or page.row place 0) / 4) page.drawn is.leads;
      earlier = λ x from below. fails_in (partner (get_or page.row x 0) / 4) page.drawn (is.leftmost x below);
    })

leading-none : (partner : ℕ → ℕ) (page : Page) → ((place : ℕ) → place < length page.row → ¬ LeadsOn partner page place)
    → leading partner page.drawn page.row ≡ None
leading-none partner page none =
    find-none (leads_on partner page.drawn page.row) 0 (length page.row)
    (λ place from below. fails_in (partner (get_or page.row place 0) / 4) page.drawn (none place (omega (arith, below))))

paired-is : (partner : ℕ → ℕ) (page : Page) (place : ℕ) → IsLeftmostPair partner page place → paired partner page.row ≡ Some place
paired-is partner page place is =
    first-found (are_paired partner page.row) 0 (length page.row - 1) place
    (record {
      from = omega arith;
      below = omega (arith, is.within);
      passes = eq-eqb (partner (get_or page.row place 0)) (get_or page.row (place + 1) 0) is.partners;
      earlier = λ x from below. ne_eqb (partner (get_or page.row x 0)) (get_or page.row (x + 1) 0) (is.leftmost x below);
    })

row-step : (n : ℕ) (partner : ℕ → ℕ) (page : Page) (row : List ℕ) → 0 < length row
    → next_page_by n partner page row ≡ by_row partner page (leading partner page.drawn page.row)
row-step n partner page row some = grind (arith, nat_tests)

-- what follows by a rule is the next page
pub follows-next : (n : ℕ) (partner : ℕ → ℕ) (page next : Page) → Follows n partner page next → next ≡ next_page n partner page
follows-next n partner page next (inl begins) = grind (arith, nat_tests, least-undrawn n page begins.crossing begins.least)
follows-next n partner page next (inr (inl meets)) =
    meets.made
    ∙ ap (by_row partner page) (sym (leading-is partner page meets.place meets.leading))
    ∙ sym (row-step n partner page page.row (omega (arith, meets.leading.within)))
follows-next n partner page next (inr (inr ends)) =
    ends.made
    ∙ ap (by_pair page) (sym (paired-is partner page ends.place ends.pair))
    ∙ ap (by_row partner page) (sym (leading-none partner page ends.none_leads))
    ∙ sym (row-step n partner page page.row (omega (arith, ends.pair.within)))

-- nothing follows the last page
none-follows : (n : ℕ) (partner : ℕ → ℕ) (page next : Page) → IsLastPage n page → ¬ Follows n partner page next
none-follows n partner page next last (inl begins) = begins.least.not_drawn (last.all begins.crossing begins.least.below)
none-follows n partner page next last (inr (inl meets)) = absurd (omega (arith, meets.leading.within, ap length last.row))
none-follows n partner page next last (inr (inr ends)) = absurd (omega (arith, ends.pair.within, ap length last.row))

-- there are no other pages
pub pages-one : (n : ℕ) (partner : ℕ → ℕ) (page : Page) (pages others : List Page) → ArePagesBehind n partner page pages
    → ArePagesBehind n partner page others → pages ≡ others
pages-one n partner page [] [] first second = refl
pages-one n partner page [] (next ∷ later) first second = absurd (none-follows n partner page next first second.0)
pages-one n partner page (next ∷ later) [] first second = absurd (none-follows n partner page next second first.0)
pages-one n partner page (next ∷ later) (other ∷ others) first second =
    let same : next ≡ other = follows-next n partner page next first.0 ∙ sym (follows-next n partner page other second.0) in
    let rest = pages-one n partner next later others first.1 (subst (λ (p : Page). ArePagesBehind n partner p others) (sym same) second.1) in
    ap₂ (λ p ps. p ∷ ps) same rest

-- the next page follows by a rule, or the page stays as it is
pub next-follows : (n : ℕ) (partner : ℕ → ℕ) (page : Page)
    → Follows n partner page (next_page n partner page) ⊎ (next_page n partner page ≡ page)
next-follows n partner page = by page.row refl
  where
    by : (row : List ℕ) → page.row ≡ row → Follows n partner page (next_page n partner page) ⊎ (next_page n partner page ≡ page)
    by [] row_is = elim (searched (λ x. not (is_in page.drawn x)) 0 n) [
      | inl found ↦
          inl
          (inl
          (record {
            crossing = found.0;
            row = row_is;
            least = record {
              below = omega (arith, found.1.below);
              not_drawn = not-in found.0 page.drawn found.1.passes;
              least = λ x below. is-in x page.drawn (found.1.earlier x (omega arith) below);
            };
            made = ap (next_page_by n partner page) row_is ∙ ap (by_crossing page) (first-found (λ x. not (is_in page.drawn x)) 0 n found.0 found.1);
          }))
      | inr none ↦ inr (ap (next_page_by n partner page) row_is ∙ ap (by_crossing page) (find-none (λ x. not (is_in page.drawn x)) 0 n none))
    ]
    by (dart ∷ darts) row_is =
        let step : next_page n partner page ≡ by_row partner page (leading partner page.drawn page.row) =
        row-step n partner page page.row (omega (arith, ap length row_is)) in
        elim (searched (leads_on partner page.drawn page.row) 0 (length page.row)) [
          | inl found ↦
              inl
              (inr
              (inl
              (record {
                place = found.0;
                leading = record {
                  within = omega (arith, found.1.below);
                  leads = not-in (partner (get_or page.row found.0 0) / 4) page.drawn found.1.passes;
                  leftmost = λ x below leads. leads (is-in (partner (get_or page.row x 0) / 4) page.drawn
                      (found.1.earlier x (omega arith) below));
                };
                made = step
                    ∙ ap (by_row partner page) (first-found (leads_on partner page.drawn page.row) 0 (length page.row) found.0 found.1);
              })))
          | inr none ↦
              let on_row : next_page n partner page ≡ by_pair page (paired partner page.row) =
              step ∙ ap (by_row partner page) (find-none (leads_on partner page.drawn page.row) 0 (length page.row) none) in
              elim (searched (are_paired partner page.row) 0 (length page.row - 1)) [
                | inl found ↦
                    inl
                    (inr
                    (inr
                    (record {
                      place = found.0;
                      none_leads = λ x below leads.
                          leads (is-in (partner (get_or page.row x 0) / 4) page.drawn (none x (omega arith) (omega (arith, below))));
                      pair = record {
                        within = omega (arith, found.1.below);
                        partners = eqb-true (partner (get_or page.row found.0 0)) (get_or page.row (found.0 + 1) 0) found.1.passes;
                        leftmost = λ x below same.
                            both_ways (are_paired partner page.row x) (found.1.earlier x (omega arith) below)
                            (eq-eqb (partner (get_or page.row x 0)) (get_or page.row (x + 1) 0) same);
                      };
                      made = on_row
                          ∙ ap (by_pair page) (first-found (are_paired partner page.row) 0 (length page.row - 1) found.0 found.1);
                    })))
                | inr no_pair ↦
                    inr (on_row ∙ ap (by_pair page) (find-none (are_paired partner page.row) 0 (length page.row - 1) no_pair))
              ]
        ]

-- where some steps lead to a last page, there are all pages, and it is the last of them
pages-all : (n : ℕ) (partner : ℕ → ℕ) (count : ℕ) (page : Page) → IsLastPage n (pages_on n partner count page)
    → (pages : List Page) × ArePagesBehind n partner page pages × (last_page page pages ≡ pages_on n partner count page)
pages-all n partner zero page last = ([], last, refl)
pages-all n partner (suc count) page last =
    let rest = pages-all n partner count (next_page n partner page) last in
    elim (next-follows n partner page) [
      | inl follows ↦ (next_page n partner page ∷ rest.0, (follows, rest.1), rest.2)
      | inr same ↦
          let here = pages-all n partner count page (subst (λ (p : Page). IsLastPage n (pages_on n partner count p)) same last) in
          (here.0, here.1, here.2 ∙ ap (pages_on n partner count) (sym same))
    ]

pub pages-drawn : (code : Code) → IsTrue (accepted code)
    → (pages : List Page) × ArePages code pages × (last_page blank_page pages ≡ page_of (length code.crossings) (partner_at code.crossings))
pages-drawn code is =
    pages-all (length code.crossings) (partner_at code.crossings) (5 * length code.crossings) blank_page
    (IsDrawn-page_of (length code.crossings) (partner_at code.crossings) (IsWholeSphere-accepted code is)).finished

pub pages-only : (code : Code) (pages others : List Page) → ArePages code pages → ArePages code others → pages ≡ others
pages-only code pages others = pages-one (length code.crossings) (partner_at code.crossings) blank_page pages others

pub slices-last : (code : Code) (pages : List Page) → IsTrue (accepted code) → ArePages code pages
    → slices_of code ≡ (last_page blank_page pages).slices ++ loop_slices code.loops
slices-last code pages is are =
    let drawn = pages-drawn code is in
    let same = pages-only code pages drawn.0 are drawn.1 in
    ap (λ (page : Page). page.slices ++ loop_slices code.loops) (sym drawn.2 ∙ ap (last_page blank_page) (sym same))
