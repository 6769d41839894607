-- Two scans with h = 1: that of the trefoil over two elements, and that of the Hopf link over three, with its crossings the other way
-- round. They have the objects of the plain scans, and more maps behind the last crossing.
use Rattle.std.specs.Prelude.{List, [], ◌∷◌}
use Rattle.scan_laws.specs.Scans.{Scan}
use Rattle.scan_laws.specs.Worked.{hopf_left_3, hopf_left_4, hopf_one, hopf_packed, hopf_with, one_done, three_with, two_done, two_left}

-- behind the third crossing there are also coefficients of h: from 1 to 7, 2 to 8, 3 to 5, 9 to 11 and 13, and 10 and 12 to 14
abbrev pub deformed_done : Scan
deformed_done =
    three_with (0 ∷ 1 ∷ 2 ∷ 3 ∷ 4 ∷ 5 ∷ 6 ∷ 7 ∷ 8 ∷ 9 ∷ 10 ∷ 11 ∷ 12 ∷ 13 ∷ 14 ∷ 15 ∷ 16 ∷ 17 ∷ [])
    ((0, 4) ∷ (0, 7) ∷ (0, 8) ∷ (1, 5) ∷ (1, 7) ∷ (1, 9) ∷ (2, 5) ∷ (2, 8) ∷ (2, 9) ∷ (3, 5) ∷ (6, 10) ∷ (6, 12)
    ∷ (7, 11) ∷ (7, 13) ∷ (8, 11) ∷ (8, 13) ∷ (9, 11) ∷ (9, 13)
    ∷ (10, 14) ∷ (10, 15) ∷ (10, 16) ∷ (11, 17) ∷ (12, 14) ∷ (12, 15) ∷ (12, 16) ∷ (13, 17) ∷ [])

-- entries between objects of one level are eliminated: from 0 to 4, 1 to 5, 6 to 10, 7 to 11, 12 to 15 and 13 to 17
abbrev pub deformed_1 : Scan
deformed_1 =
    three_with (1 ∷ 2 ∷ 3 ∷ 5 ∷ 6 ∷ 7 ∷ 8 ∷ 9 ∷ 10 ∷ 11 ∷ 12 ∷ 13 ∷ 14 ∷ 15 ∷ 16 ∷ 17 ∷ [])
    ((1, 5) ∷ (1, 7) ∷ (1, 9) ∷ (2, 5) ∷ (2, 8) ∷ (2, 9) ∷ (3, 5) ∷ (6, 10) ∷ (6, 12)
    ∷ (7, 11) ∷ (7, 13) ∷ (8, 11) ∷ (8, 13) ∷ (9, 11) ∷ (9, 13)
    ∷ (10, 14) ∷ (10, 15) ∷ (10, 16) ∷ (11, 17) ∷ (12, 14) ∷ (12, 15) ∷ (12, 16) ∷ (13, 17) ∷ [])

abbrev pub deformed_2 : Scan
deformed_2 =
    three_with (2 ∷ 3 ∷ 6 ∷ 7 ∷ 8 ∷ 9 ∷ 10 ∷ 11 ∷ 12 ∷ 13 ∷ 14 ∷ 15 ∷ 16 ∷ 17 ∷ [])
    ((2, 7) ∷ (2, 8) ∷ (3, 7) ∷ (3, 9) ∷ (6, 10) ∷ (6, 12) ∷ (7, 11) ∷ (7, 13) ∷ (8, 11) ∷ (8, 13) ∷ (9, 11) ∷ (9, 13)
    ∷ (10, 14) ∷ (10, 15) ∷ (10, 16) ∷ (11, 17) ∷ (12, 14) ∷ (12, 15) ∷ (12, 16) ∷ (13, 17) ∷ [])

abbrev pub deformed_3 : Scan
deformed_3 =
    three_with (2 ∷ 3 ∷ 7 ∷ 8 ∷ 9 ∷ 11 ∷ 12 ∷ 13 ∷ 14 ∷ 15 ∷ 16 ∷ 17 ∷ [])
    ((2, 7) ∷ (2, 8) ∷ (3, 7) ∷ (3, 9) ∷ (7, 11) ∷ (7, 13) ∷ (8, 11) ∷ (8, 13) ∷ (9, 11) ∷ (9, 13)
    ∷ (11, 17) ∷ (12, 14) ∷ (12, 15) ∷ (12, 16) ∷ (13, 17) ∷ [])

abbrev pub deformed_4 : Scan
deformed_4 =
    three_with (2 ∷ 3 ∷ 8 ∷ 9 ∷ 12 ∷ 13 ∷ 14 ∷ 15 ∷ 16 ∷ 17 ∷ [])
    ((2, 8) ∷ (3, 9) ∷ (12, 14) ∷ (12, 15) ∷ (12, 16) ∷ (13, 17) ∷ [])

abbrev pub deformed_5 : Scan
deformed_5 = three_with (2 ∷ 3 ∷ 8 ∷ 9 ∷ 13 ∷ 14 ∷ 16 ∷ 17 ∷ []) ((2, 8) ∷ (3, 9) ∷ (13, 17) ∷ [])

-- now two entries are left, each to an object two levels up
abbrev pub first_page : Scan
first_page = three_with (2 ∷ 3 ∷ 8 ∷ 9 ∷ 14 ∷ 16 ∷ []) ((2, 8) ∷ (3, 9) ∷ [])

abbrev pub deformed_scans : List Scan
deformed_scans =
    one_done ∷ two_done ∷ two_left ∷ deformed_done ∷ deformed_1 ∷ deformed_2 ∷ deformed_3 ∷ deformed_4 ∷ deformed_5 ∷ first_page ∷ []

-- without the one, and without both
abbrev pub between_pages : Scan
between_pages = three_with (3 ∷ 9 ∷ 14 ∷ 16 ∷ []) ((3, 9) ∷ [])

abbrev pub last_page : Scan
last_page = three_with (14 ∷ 16 ∷ []) []

-- of the Hopf link there are also coefficients from 3 to 5 and 7, and from 4 and 6 to 8; those from 0 to 4, 1 to 5 and 6 to 9 are
-- eliminated, and then it goes on as the plain scan does
abbrev pub deformed_two : Scan
deformed_two =
    hopf_with (0 ∷ 1 ∷ 2 ∷ 3 ∷ 4 ∷ 5 ∷ 6 ∷ 7 ∷ 8 ∷ 9 ∷ 10 ∷ 11 ∷ [])
    ((0, 4) ∷ (0, 6) ∷ (1, 5) ∷ (1, 7) ∷ (2, 5) ∷ (2, 7) ∷ (3, 5) ∷ (3, 7) ∷ (4, 9) ∷ (4, 10) ∷ (5, 11) ∷ (6, 8) ∷ [])
    ((4, 8) ∷ (6, 9) ∷ (6, 10) ∷ (7, 11) ∷ [])

abbrev pub deformed_left_1 : Scan
deformed_left_1 =
    hopf_with (1 ∷ 2 ∷ 3 ∷ 5 ∷ 6 ∷ 7 ∷ 8 ∷ 9 ∷ 10 ∷ 11 ∷ [])
    ((1, 5) ∷ (1, 7) ∷ (2, 5) ∷ (2, 7) ∷ (3, 5) ∷ (3, 7) ∷ (5, 11) ∷ (6, 8) ∷ []) ((6, 9) ∷ (6, 10) ∷ (7, 11) ∷ [])

abbrev pub deformed_left_2 : Scan
deformed_left_2 = hopf_with (2 ∷ 3 ∷ 6 ∷ 7 ∷ 8 ∷ 9 ∷ 10 ∷ 11 ∷ []) ((6, 8) ∷ []) ((6, 9) ∷ (6, 10) ∷ (7, 11) ∷ [])

abbrev pub deformed_hopf_scans : List Scan
deformed_hopf_scans =
    hopf_one ∷ deformed_two ∷ deformed_left_1 ∷ deformed_left_2 ∷ hopf_left_3 ∷ hopf_left_4 ∷ hopf_packed ∷ []
