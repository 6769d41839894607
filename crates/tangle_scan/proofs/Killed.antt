-- Objects of which one is not there any more: what else they are stays, and the places of those that are left.
-- A mark changes one field of one object. So a list of what another field says is the same as before, and with it all that objects have to
-- keep; and of two marks the second reads what the first left. The places of the objects that are there are the numbers from 0 on that pass
-- a test: after both marks the test is the one before and that neither is met, so the places are those before without these two.
use Rattle.std.proofs.Common.{◌≡◌, ◌≢◌, ℕ, inl, inr, ◌<◌, ◌∙◌, List, [], ◌∷◌, get_or, set, length, map, refl, sym, subst, ap, arith, Bool, true, false, cond, not, ◌&&◌}
use Rattle.std.specs.Prelude.{nat_eq, All}
use Rattle.std.specs.List.{Contains, filter, range_with_len}
use Rattle.std.proofs.lemmas.Bool.{and_left, and_right, cases_eq, cases_lt, eq-eqb, false≢true, ne_eqb}
use Rattle.std.proofs.lemmas.List.{get_or-map, get_or-set_other, get_or-set_same, get_or_past, length-map, length-set, map-set, set-get_or}
use Rattle.std.proofs.lemmas.List.Elements.{All-cons, All-contains, All-get_or, All-map, All-nil, All-set}
use Rattle.kh_types.proofs.Lists.{Contains-filter, Contains-range}
use Rattle.cell_laws.specs.Alike.{HasNoDoubles}
use Rattle.cell_laws.proofs.Members.{Contains-first, Contains-kept, Contains-later}
use Rattle.cell_laws.proofs.NoDoubles.{once-range, once-filter}
use Rattle.scan_laws.proofs.Possible.{others}
use Rattle.tangle_scan.specs.declared.complex.Entry.{Entry}
use Rattle.tangle_scan.specs.declared.complex.Object.{Object}
use Rattle.tangle_scan.specs.Held.{alive_places, is_alive_at}
use Rattle.tangle_scan.specs.Eliminations.{HasHead, IsKilled, killed}

abbrev life : Object → Bool
life object = object.is_alive

some-object : (objects : List Object) (x : ℕ) → x < length objects → Object
some-object [] x within = absurd (omega (arith, within))
some-object (object ∷ objects) x within = object

pub alive-within : (objects : List Object) (x : ℕ) → is_alive_at objects x ≡ true → x < length objects
alive-within objects x alive = elim (cases_lt x (length objects)) [
  | inl within ↦ within
  | inr past ↦
      absurd (false≢true (sym (get_or_past (map life objects) x false (omega (arith, past, length-map objects life))) ∙ alive))
]

-- what does not depend on being there stays
pub killed-map : {B : Type 0} (f : Object → B) → ((object : Object) → f (killed object) ≡ f object) → (x : ℕ) (old new : List Object)
    → x < length old → IsKilled x old new → map f new ≡ map f old
killed-map f same x old new within is =
    let d = some-object old x within in
    let object = get_or old x d in
    ap (map f) (is d) ∙ map-set f old x (killed object)
    ∙ ap (set (map f old) x) (same object ∙ sym (get_or-map f old x d (f d) within)) ∙ set-get_or (map f old) x (f d)

pub killed-all : (P : Object → Type 0) → ((object : Object) → P object → P (killed object)) → (x : ℕ) (old new : List Object)
    → x < length old → IsKilled x old new → All P old → All P new
killed-all P keeps x old new within is all =
    let d = some-object old x within in
    let object = get_or old x d in
    subst (λ (objects : List Object). All P objects) (sym (is d))
    (All-set P old x (killed object) (keeps object (All-get_or P old x d within all)) all)

pub killed-size : (x : ℕ) (old new : List Object) → x < length old → IsKilled x old new → length new ≡ length old
killed-size x old new within is =
    let d = some-object old x within in ap length (is d) ∙ length-set old x (killed (get_or old x d))

pub killed-gone : (x : ℕ) (old new : List Object) → x < length old → IsKilled x old new → is_alive_at new x ≡ false
killed-gone x old new within is =
    let d = some-object old x within in
    ap (λ (objects : List Object). get_or (map life objects) x false) (is d)
    ∙ ap (λ (bs : List Bool). get_or bs x false) (map-set life old x (killed (get_or old x d)))
    ∙ get_or-set_same (map life old) x false false (omega (arith, within, length-map old life))

pub killed-others : (x z : ℕ) (old new : List Object) → x < length old → IsKilled x old new → z ≢ x
    → is_alive_at new z ≡ is_alive_at old z
killed-others x z old new within is other =
    let d = some-object old x within in
    ap (λ (objects : List Object). get_or (map life objects) z false) (is d)
    ∙ ap (λ (bs : List Bool). get_or bs z false) (map-set life old x (killed (get_or old x d)))
    ∙ get_or-set_other (map life old) x z false false other

-- two of them are not there any more
pub record TwoKilled (tail head : ℕ) (old new : List Object) : Type 0 where
  pub size : length new ≡ length old
  pub tail_gone : is_alive_at new tail ≡ false
  pub head_gone : is_alive_at new head ≡ false
  pub others : (z : ℕ) → z ≢ tail → z ≢ head → is_alive_at new z ≡ is_alive_at old z

pub two-killed : (tail head : ℕ) (old middle new : List Object) → tail < length old → head < length old → tail ≢ head
    → IsKilled tail old middle → IsKilled head middle new → TwoKilled tail head old new
two-killed tail head old middle new tail_within head_within differ first second =
    let size = killed-size tail old middle tail_within first in
    let within : head < length middle = omega (arith, head_within, size) in
    record {
      size = killed-size head middle new within second ∙ size;
      tail_gone = killed-others head tail middle new within second differ ∙ killed-gone tail old middle tail_within first;
      head_gone = killed-gone head middle new within second;
      others = λ z no_tail no_head.
          killed-others head z middle new within second no_head ∙ killed-others tail z old middle tail_within first no_tail;
    }

-- what is left was there, and is neither of the two
pub record IsLeft (tail head : ℕ) (old : List Object) (z : ℕ) : Type 0 where
  pub alive : is_alive_at old z ≡ true
  pub no_tail : z ≢ tail
  pub no_head : z ≢ head

pub is-left : (tail head : ℕ) (old new : List Object) (z : ℕ) → TwoKilled tail head old new → is_alive_at new z ≡ true
    → IsLeft tail head old z
is-left tail head old new z two alive =
    let no_tail : z ≢ tail = λ same. false≢true (sym two.tail_gone ∙ ap (is_alive_at new) (sym same) ∙ alive) in
    let no_head : z ≢ head = λ same. false≢true (sym two.head_gone ∙ ap (is_alive_at new) (sym same) ∙ alive) in
    record { alive = sym (two.others z no_tail no_head) ∙ alive; no_tail = no_tail; no_head = no_head }

-- the places

filter-step : (p : ℕ → Bool) (b : Bool) (x : ℕ) (ys zs : List ℕ) → ys ≡ filter p zs
    → cond (b && p x) (x ∷ ys) ys ≡ filter p (cond b (x ∷ zs) zs)
filter-step p true x ys zs same = ap (λ (ws : List ℕ). cond (p x) (x ∷ ws) ws) same
filter-step p false x ys zs same = same

filter-both : (p q r : ℕ → Bool) (xs : List ℕ) → ((x : ℕ) → r x ≡ (q x && p x)) → filter r xs ≡ filter p (filter q xs)
filter-both p q r [] both = refl
filter-both p q r (x ∷ xs) both =
    ap (λ b. cond b (x ∷ filter r xs) (filter r xs)) (both x)
    ∙ filter-step p (q x) x (filter r xs) (filter q xs) (filter-both p q r xs both)

both-tests : (tail head : ℕ) (old new : List Object) (z : ℕ) → TwoKilled tail head old new
    → is_alive_at new z ≡ (is_alive_at old z && (not (nat_eq z tail) && not (nat_eq z head)))
both-tests tail head old new z two = elim (cases_eq z tail) [
  | inl same ↦
      ap (is_alive_at new) same ∙ two.tail_gone
      ∙ sym (and_right (is_alive_at old z) (not (nat_eq z tail) && not (nat_eq z head))
      (and_left (not (nat_eq z tail)) (not (nat_eq z head)) (ap not (eq-eqb z tail same))))
  | inr no_tail ↦ elim (cases_eq z head) [
    | inl same ↦
        ap (is_alive_at new) same ∙ two.head_gone
        ∙ sym (and_right (is_alive_at old z) (not (nat_eq z tail) && not (nat_eq z head))
        (and_right (not (nat_eq z tail)) (not (nat_eq z head)) (ap not (eq-eqb z head same))))
    | inr no_head ↦
        two.others z no_tail no_head ∙ sym (with_true (is_alive_at old z))
        ∙ ap (λ b. is_alive_at old z && (not b && true)) (sym (ne_eqb z tail no_tail))
        ∙ ap (λ b. is_alive_at old z && (not (nat_eq z tail) && not b)) (sym (ne_eqb z head no_head))
  ]
]
  where
    with_true : (b : Bool) → (b && true) ≡ b
    with_true true = refl
    with_true false = refl

pub places-left : (tail head : ℕ) (old new : List Object) → TwoKilled tail head old new
    → alive_places new ≡ others (alive_places old) tail head
places-left tail head old new two =
    ap (λ n. filter (is_alive_at new) (range_with_len 0 n)) two.size
    ∙ filter-both (λ z. not (nat_eq z tail) && not (nat_eq z head)) (is_alive_at old) (is_alive_at new) (range_with_len 0 (length old))
    (λ z. both-tests tail head old new z two)

pub place-alive : (objects : List Object) (x : ℕ) → is_alive_at objects x ≡ true → Contains (alive_places objects) x
place-alive objects x alive =
    Contains-filter (is_alive_at objects) (range_with_len 0 (length objects)) x alive
    (Contains-range (length objects) x (alive-within objects x alive))

pub alive-place : (objects : List Object) (x : ℕ) → Contains (alive_places objects) x → is_alive_at objects x ≡ true
alive-place objects x has = (Contains-kept (is_alive_at objects) (range_with_len 0 (length objects)) x has).1

pub places-once : (objects : List Object) → HasNoDoubles (alive_places objects)
places-once objects = once-filter (is_alive_at objects) (range_with_len 0 (length objects)) (once-range 0 (length objects))

-- a fact of all heads of a column

pub all-heads : (P : ℕ → Type 0) (column : List Entry) (y : ℕ) → All (λ (e : Entry). P e.head) column → HasHead column y → P y
all-heads P column y all has = All-contains P (map (λ (e : Entry). e.head) column) y (All-map P (λ (e : Entry). e.head) column all) has

pub heads-all : (P : ℕ → Type 0) (column : List Entry) → ((y : ℕ) → HasHead column y → P y) → All (λ (e : Entry). P e.head) column
heads-all P [] each = All-nil (λ (e : Entry). P e.head)
heads-all P (e ∷ column) each =
    All-cons (λ (f : Entry). P f.head) e column (each e.head (Contains-first e.head (map (λ (f : Entry). f.head) column)))
    (heads-all P column (λ y has. each y (Contains-later e.head y (map (λ (f : Entry). f.head) column) has)))
