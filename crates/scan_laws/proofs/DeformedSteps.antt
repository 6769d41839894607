-- The steps of the two scans with h = 1, checked by computing, and the two last steps of the trefoil's, which eliminate entries of the
-- least gap.
use Rattle.std.proofs.Common.{◌≡◌, ◌∙◌, ℕ, ℤ, pos, ◌-ℤ◌, List, [], ◌∷◌, inl, refl, ap₂}
use Rattle.kh_types.specs.Code.{Code}
use Rattle.kh_types.specs.Directions.{minus_count, plus_count}
use Rattle.kh_types.specs.Residues.{HasInverses}
use Rattle.kh_types.specs.WorkedCodes.{hopf_link, slots_with, trefoil}
use Rattle.prime_field.specs.SmallFields.{field-small_prime}
use Rattle.plain_matrix.proofs.FieldInverses.{inverses-field}
use Rattle.cell_laws.specs.Shortest.{HaveGap}
use Rattle.cell_laws.proofs.NoDoubles.{once-range}
use Rattle.order_laws.specs.Orders.{listed_by}
use Rattle.order_laws.proofs.Reordered.{own-order}
use Rattle.scan_laws.specs.DeformedWorked.{between_pages, deformed_1, deformed_2, deformed_3, deformed_4, deformed_5, deformed_done, deformed_hopf_scans, deformed_left_1, deformed_left_2, deformed_scans, deformed_two, first_page, last_page}
use Rattle.scan_laws.specs.LevelSteps.{IsEndOfLevelScan, IsEndOfFilteredScan, IsLevelStep, IsFilteredReached, IsFilteredStep, level_of}
use Rattle.scan_laws.specs.Scans.{Scan, first_scan}
use Rattle.scan_laws.specs.Steps.{Follow}
use Rattle.scan_laws.specs.Worked.{hopf_crossings, hopf_left_3, hopf_left_4, hopf_one, hopf_packed, one_done, two_done, two_left}
use Rattle.scan_laws.proofs.Checked.{AllAllowed, AllPass, Move, OnLevel, Passes, adding, eliminating, eliminating-passed, level-checked, level_last-checked, gap-checked, last-checked, packing}
use Rattle.scan_laws.proofs.LastMaps.{gap-last, objects_of}
use Rattle.scan_laws.proofs.Leading.{leads-more}
use Rattle.scan_laws.proofs.Levels.{shortest-levels}
use Rattle.scan_laws.proofs.TrefoilSteps.{trefoil-accepted}
use Rattle.scan_laws.proofs.WholeSurvivors.{cancels-opposed, reached-level, stands-reached}

two_inverses : HasInverses 2
two_inverses = inverses-field 2 (field-small_prime 2 (inl refl))

abbrev deformed_moves : List (Move × Scan)
deformed_moves =
    (adding, one_done)
    ∷ (adding, two_done)
    ∷ (eliminating 0 2 1, two_left)
    ∷ (adding, deformed_done)
    ∷ (eliminating 0 4 1, deformed_1)
    ∷ (eliminating 1 5 1, deformed_2)
    ∷ (eliminating 6 10 1, deformed_3)
    ∷ (eliminating 7 11 1, deformed_4)
    ∷ (eliminating 12 15 1, deformed_5)
    ∷ (eliminating 13 17 1, first_page)
    ∷ []

deformed-level : AllAllowed OnLevel first_scan deformed_moves
deformed-level = (tt, (tt, (refl, (tt, (refl, (refl, (refl, (refl, (refl, (refl, tt))))))))))

deformed-passes : AllPass 2 1 1 trefoil first_scan deformed_moves
deformed-passes = (
  (refl, refl, refl, refl),
  (
    (refl, refl, refl, refl),
    (
      (refl, refl, refl, refl, refl),
      (
        (refl, refl, refl, refl),
        (
          (refl, refl, refl, refl, refl),
          (
            (refl, refl, refl, refl, refl),
            (
              (refl, refl, refl, refl, refl),
              (
                (refl, refl, refl, refl, refl),
                (
                  (refl, refl, refl, refl, refl),
                  ((refl, refl, refl, refl, refl), tt),
                ),
              ),
            ),
          ),
        ),
      ),
    ),
  ),
)

pub deformed-steps : Follow (IsLevelStep 2 1 1 trefoil) first_scan deformed_scans
deformed-steps = level-checked 2 1 1 trefoil first_scan deformed_moves (once-range 0 1) deformed-level deformed-passes

pub deformed-page : IsEndOfLevelScan 2 1 1 trefoil trefoil.crossings first_page
deformed-page =
    record {
      order = own-order trefoil.crossings;
      reached = record { later = deformed_scans; steps = deformed-steps; last = refl };
      last = level_last-checked 2 1 1 trefoil first_page refl refl;
    }

-- an entry of the least gap
module _ (scan next : Scan) (tail head : ℕ) (gap : ℤ)
    (reached : IsFilteredReached 2 1 1 trefoil (plus_count trefoil.crossings) (minus_count trefoil.crossings) scan)
    (done : scan.done ≡ 3) (passes : Passes 2 1 1 trefoil scan (eliminating tail head 1) next)
    (rise : level_of (scan.object head) -ℤ level_of (scan.object tail) ≡ gap) (least : HaveGap (objects_of 2 scan) gap) where
  abbrev plus : ℕ
  plus = plus_count trefoil.crossings

  abbrev minus : ℕ
  minus = minus_count trefoil.crossings

  next-page : IsFilteredReached 2 1 1 trefoil (plus_count trefoil.crossings) (minus_count trefoil.crossings) next
  next-page =
      let cancels = cancels-opposed 2 1 1 refl trefoil plus minus two_inverses trefoil-accepted in
      let stands = stands-reached 2 1 1 refl trefoil plus minus two_inverses trefoil-accepted scan reached in
      let made = eliminating-passed 2 1 1 trefoil scan tail head 1 next stands.of.once passes in
      leads-more (IsFilteredStep 2 1 1 trefoil plus minus) first_scan scan next reached
      (IsFilteredStep.short (record {
        less = made.0;
        shortest = shortest-levels 2 1 1 trefoil plus minus scan next
            (record { field = two_inverses; cancels = cancels; accepted_is = trefoil-accepted; of = stands.of; less = made.0 }) gap
            (gap-last 2 1 1 trefoil plus minus two_inverses cancels trefoil-accepted scan stands.of stands.filtered done gap least)
            (ap₂ (λ a b. level_of (scan.object b) -ℤ level_of (scan.object a)) made.1 made.2 ∙ rise);
      }))

between-reached : IsFilteredReached 2 1 1 trefoil (plus_count trefoil.crossings) (minus_count trefoil.crossings) between_pages
between-reached =
    next-page first_page between_pages 2 8 (pos 2)
    (reached-level 2 1 1 trefoil (plus_count trefoil.crossings) (minus_count trefoil.crossings) first_page deformed-page.reached) refl
    (refl, refl, refl, refl, refl) refl (gap-checked 2 first_page (pos 2) refl)

pub last-end : IsEndOfFilteredScan 2 1 1 trefoil trefoil.crossings last_page
last-end =
    record {
      order = own-order trefoil.crossings;
      reached = next-page between_pages last_page 3 9 (pos 2) between-reached refl
          (refl, refl, refl, refl, refl) refl (gap-checked 2 between_pages (pos 2) refl);
      last = last-checked 2 1 1 trefoil last_page refl refl;
    }

-- the Hopf link over three elements, where -1 is 2
abbrev code : Code
code = listed_by hopf_link hopf_crossings

abbrev hopf_moves : List (Move × Scan)
hopf_moves =
    (adding, hopf_one)
    ∷ (adding, deformed_two)
    ∷ (eliminating 0 4 1, deformed_left_1)
    ∷ (eliminating 1 5 1, deformed_left_2)
    ∷ (eliminating 6 9 2, hopf_left_3)
    ∷ (eliminating 7 11 2, hopf_left_4)
    ∷ (packing, hopf_packed)
    ∷ []

hopf-passes : AllPass 3 1 2 code first_scan hopf_moves
hopf-passes = (
  (refl, refl, refl, refl),
  (
    (refl, refl, refl, refl),
    (
      (refl, refl, refl, refl, refl),
      (
        (refl, refl, refl, refl, refl),
        (
          (refl, refl, refl, refl, refl),
          (
            (refl, refl, refl, refl, refl),
            ((refl, refl, refl, refl), tt),
          ),
        ),
      ),
    ),
  ),
)

pub deformed-hopf : Follow (IsLevelStep 3 1 2 code) first_scan deformed_hopf_scans
deformed-hopf =
    level-checked 3 1 2 code first_scan hopf_moves (once-range 0 1) (tt, (tt, (refl, (refl, (refl, (refl, (tt, tt))))))) hopf-passes

pub deformed_hopf-end : IsEndOfFilteredScan 3 1 2 hopf_link hopf_crossings hopf_packed
deformed_hopf-end =
    record {
      order = (slots_with 4 1 3 2 ∷ [], [], refl, ([], [], refl, refl));
      reached = reached-level 3 1 2 code (plus_count hopf_link.crossings) (minus_count hopf_link.crossings) hopf_packed
          (record { later = deformed_hopf_scans; steps = deformed-hopf; last = refl });
      last = last-checked 3 1 2 code hopf_packed refl refl;
    }
