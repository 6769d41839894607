-- Whether lists of terms have one sum, as a test: how often each power of q occurs with plus and with minus.
use Rattle.std.specs.Prelude.{ℕ, ◌+◌, ℤ, List, [], ◌∷◌, ◌++◌, map, nat_eq, Bool, not, ◌&&◌, ◌||◌, if◌then◌else◌}
use Rattle.std.specs.List.{list_all}
use Rattle.std.specs.Str.{bytes_eq}
use Rattle.std.specs.Ordering.{int_eq}
use Rattle.gluing_laws.specs.Slides.{triangle_before, triangle_after, InsideTerm, inside_terms, is_slidable}

-- how often a power of q occurs with plus and with minus at a way in which the ends are joined
pub record Tally : Type 0 where
  pub joined : List ℕ
  pub shift : ℤ
  pub plus : ℕ
  pub minus : ℕ

abbrev pub is_counted_by : InsideTerm → Tally → Bool
is_counted_by term tally = bytes_eq term.joined tally.joined && int_eq term.shift tally.shift

abbrev pub zero_or_one : Bool → ℕ
zero_or_one b = if b then 1 else 0

-- a tally with one term more
abbrev pub counted_at : InsideTerm → Tally → Tally
counted_at term tally = record {
  joined = tally.joined;
  shift = tally.shift;
  plus = tally.plus + zero_or_one (not term.is_minus);
  minus = tally.minus + zero_or_one term.is_minus;
}

-- tallies with one term more
abbrev pub counted : InsideTerm → List Tally → List Tally
counted term [] =
    record { joined = term.joined; shift = term.shift; plus = zero_or_one (not term.is_minus); minus = zero_or_one term.is_minus } ∷ []
counted term (tally ∷ tallies) =
    if is_counted_by term tally then counted_at term tally ∷ tallies else tally ∷ counted term tallies

abbrev pub tallies_of : List InsideTerm → List Tally
tallies_of [] = []
tallies_of (term ∷ terms) = counted term (tallies_of terms)

-- the term with the other sign
abbrev pub opposite : InsideTerm → InsideTerm
opposite term = record { is_minus = not term.is_minus; joined = term.joined; shift = term.shift }

-- whether terms cancel: each power of q occurs as often with plus as with minus
abbrev pub is_balanced : List InsideTerm → Bool
is_balanced terms = list_all (λ tally. nat_eq tally.plus tally.minus) (tallies_of terms)

-- whether two lists of terms have one sum: the first and the opposites of the second cancel
abbrev pub have_one_sum : List InsideTerm → List InsideTerm → Bool
have_one_sum terms others = is_balanced (terms ++ map opposite others)

-- whether the triangle at three slots, if it is one of a third Reidemeister move, has one sum before and after
abbrev pub slide_keeps_sum : ℕ → ℕ → ℕ → Bool
slide_keeps_sum p q r = not (is_slidable p q r) || have_one_sum (inside_terms (triangle_before p q r)) (inside_terms (triangle_after p q r))
