-- The labels behind an edge are the numbers whose bits a merge or a split makes of those before it. The circles a and b, a below
-- b, are the two that become one; the bits of all others go with their circles. In a merge the bit at a becomes the sum of both
-- bits: with two ones there is no such label, else one, made by taking the bit at b out and adding it at a. In a split the two
-- bits add up to one more than the bit before: if that was 1, both are 1; if it was 0, one of the two is. What the lists hold has
-- such bits, and what has such bits is in the lists, since bits that agree off a and b and on them are those of one number. The
-- lists ascend.
use Rattle.std.proofs.lemmas.Bool.Decides.{nat_tests}
use Rattle.std.proofs.Common.{◌≡◌, ◌≢◌, ℕ, zero, suc, ◌+◌, ◌*◌, ◌^◌, ◌<◌, ◌≤◌, ◌∙◌, ◌⊎◌, inl, inr, List, [], ◌∷◌, refl, sym, ap, subst, arith}
use Rattle.std.specs.Prelude.{nat_eq, if◌then◌else◌}
use Rattle.std.specs.List.{Contains}
use Rattle.std.specs.List.Sorted.{IsStrictlyIncreasing}
use Rattle.std.proofs.lemmas.Bool.{cases_eq}
use Rattle.std.proofs.Math.Pow.{pow-lt}
use Rattle.kh_types.specs.Bits.{bit}
use Rattle.kh_types.proofs.QuantumDegrees.{bit-le}
use Rattle.circle_smoothing.specs.Edges.{renumbered}
use Rattle.kh_types.proofs.EdgeBits.{bit-set_other, bit-set_there, set-within}
use Rattle.cube_signs.specs.Heads.{merged_labels, split_labels, with_gap, without_bit}
use Rattle.cube_signs.proofs.LabelBits.{AgreeOff, gap-below, gap-low, gap-renumbered, gap-there, one-number, renumbered-other, two-number, without-below, without-low, without-renumbered}
use Rattle.square_laws.proofs.TouchedCircles.{one_in, two_in}

-- a merge of a and b: the bit at a becomes the sum of both
pub record IsMerged (size a b label head : ℕ) : Type 0 where
  pub agree : AgreeOff (size + 1) a b label head
  pub there : bit head a ≡ bit label a + bit label b
  pub small : head < 2 ^ size

-- a split of a into a and b: the sum of both becomes one more than the bit at a
pub record IsParted (size a b label head : ℕ) : Type 0 where
  pub agree : AgreeOff (size + 1) a b head label
  pub sum : bit head a + bit head b ≡ bit label a + 1
  pub small : head < 2 ^ (size + 1)

-- a bit, or none, is set where there is none
record IsRaised (number place more size : ℕ) : Type 0 where
  there : bit (number + 2 ^ place * more) place ≡ bit number place + more
  others : (k : ℕ) → k ≢ place → bit (number + 2 ^ place * more) k ≡ bit number k
  small : number + 2 ^ place * more < 2 ^ size

raised : (number place more size : ℕ) → bit number place + more ≤ 1 → place < size → number < 2 ^ size → IsRaised number place more size
raised number place zero size room within small =
    let e : number + 2 ^ place * zero ≡ number = omega arith in
    record {
      there = ap (λ n. bit n place) e ∙ omega arith;
      others = λ k other. ap (λ n. bit n k) e;
      small = omega (arith, small);
    }
raised number place (suc zero) size room within small =
    let e : number + 2 ^ place * suc zero ≡ number + 2 ^ place = omega arith in
    let none : bit number place ≡ 0 = omega (arith, room) in
    record {
      there = ap (λ n. bit n place) e ∙ bit-set_there number place none ∙ omega (arith, none);
      others = λ k other. ap (λ n. bit n k) e ∙ bit-set_other number place none k other;
      small = omega (arith, set-within number place size within small none);
    }
raised number place (suc (suc more)) size room within small = absurd (omega (arith, room))

-- the one label behind a merge

abbrev merged : ℕ → ℕ → ℕ → ℕ
merged a b label = without_bit b label + 2 ^ a * bit label b

IsMerged-merged : (size a b label : ℕ) → a < b → b ≤ size → label < 2 ^ (size + 1) → bit label a + bit label b ≤ 1
    → IsMerged size a b label (merged a b label)
IsMerged-merged size a b label order within small room =
    let base = without_bit b label in
    let at_a = without-low b label a order in
    let raise = raised base a (bit label b) size (omega (arith, at_a, room)) (omega (arith, order, within))
    (without-below b label size within small) in
    record {
      agree = record {
        at = λ k below not_a not_b. sym (raise.others (renumbered a b k) (renumbered-other a b k order not_a not_b)
            ∙ without-renumbered a b label k not_b);
      };
      there = raise.there ∙ ap (λ n. n + bit label b) at_a;
      small = raise.small;
    }

merged_list : (a b label : ℕ) → ((bit label a ≡ 1) × (bit label b ≡ 1) × (merged_labels a b label ≡ []))
    ⊎ ((bit label a + bit label b ≤ 1) × (merged_labels a b label ≡ merged a b label ∷ []))
merged_list a b label = grind (arith, nat_tests)

contains_first : (xs rest : List ℕ) (x y : ℕ) → xs ≡ y ∷ rest → x ≡ y → Contains xs x
contains_first xs rest x y is same = rw is (0, omega arith, sym same)

contains_second : (xs rest : List ℕ) (x y z : ℕ) → xs ≡ z ∷ y ∷ rest → x ≡ y → Contains xs x
contains_second xs rest x y z is same = rw is (1, omega arith, sym same)

-- the labels behind a merge

pub Contains-merged : (size a b label head : ℕ) → a < b → b ≤ size → label < 2 ^ (size + 1) → IsMerged size a b label head
    → Contains (merged_labels a b label) head
Contains-merged size a b label head order within small is = elim (merged_list a b label) [
  | inl none ↦ absurd (omega (arith, none.0, none.1, is.there, bit-le head a))
  | inr one ↦
      let made = IsMerged-merged size a b label order within small one.0 in
      contains_first (merged_labels a b label) [] head (merged a b label) one.1
      (one-number size a b label head (merged a b label) order is.agree made.agree is.small made.small (is.there ∙ sym made.there))
]

pub IsMerged-contains : (size a b label head : ℕ) → a < b → b ≤ size → label < 2 ^ (size + 1) → Contains (merged_labels a b label) head
    → IsMerged size a b label head
IsMerged-contains size a b label head order within small has = elim (merged_list a b label) [
  | inl none ↦ absurd (none_in head (subst (λ xs. Contains xs head) none.2 has))
  | inr one ↦
      subst (λ h. IsMerged size a b label h) (sym (one_in head (merged a b label) (subst (λ xs. Contains xs head) one.1 has)))
      (IsMerged-merged size a b label order within small one.0)
]
  where
    none_in : (x : ℕ) → Contains [] x → ⊥
    none_in x (k, below, is) = omega (arith, below)

-- the two labels behind a split: with v- on b, and on a as before; and with v- on a alone

abbrev both : ℕ → ℕ → ℕ
both b label = with_gap b label + 2 ^ b

abbrev first : ℕ → ℕ → ℕ → ℕ
first a b label = with_gap b label + 2 ^ a

-- the labels of a and b are x and y, and the others are as before
record IsAt (size a b label head x y : ℕ) : Type 0 where
  agree : AgreeOff (size + 1) a b head label
  at_a : bit head a ≡ x
  at_b : bit head b ≡ y
  small : head < 2 ^ (size + 1)

IsAt-both : (size a b label : ℕ) → a < b → b ≤ size → label < 2 ^ size → IsAt size a b label (both b label) (bit label a) 1
IsAt-both size a b label order within small =
    let gap = with_gap b label in
    let none = gap-there b label in
    record {
      agree = record { at = λ k below not_a not_b. bit-set_other gap b none k not_b ∙ gap-renumbered a b label k not_b };
      at_a = bit-set_other gap b none a (omega (arith, order)) ∙ gap-low b label a order;
      at_b = bit-set_there gap b none;
      small = set-within gap b (size + 1) (omega (arith, within)) (gap-below b label size within small) none;
    }

IsAt-first : (size a b label : ℕ) → a < b → b ≤ size → label < 2 ^ size → bit label a ≡ 0 → IsAt size a b label (first a b label) 1 0
IsAt-first size a b label order within small plus =
    let gap = with_gap b label in
    let none : bit gap a ≡ 0 = gap-low b label a order ∙ plus in
    record {
      agree = record { at = λ k below not_a not_b. bit-set_other gap a none k not_a ∙ gap-renumbered a b label k not_b };
      at_a = bit-set_there gap a none;
      at_b = bit-set_other gap a none b (omega (arith, order)) ∙ gap-there b label;
      small = set-within gap a (size + 1) (omega (arith, order, within)) (gap-below b label size within small) none;
    }

IsAt-same : (size a b label head other x y : ℕ) → IsAt size a b label head x y → IsAt size a b label other x y → head ≡ other
IsAt-same size a b label head other x y is too = grind (arith, nat_tests, two-number)

IsParted-at : (size a b label head x y : ℕ) → IsAt size a b label head x y → x + y ≡ bit label a + 1 → IsParted size a b label head
IsParted-at size a b label head x y is sum = grind (arith, nat_tests)

one_or_two : (x m n : ℕ) → x ≤ 1
    → ((x ≡ 1) × ((if nat_eq x 1 then n ∷ [] else m ∷ n ∷ []) ≡ n ∷ []))
    ⊎ ((x ≡ 0) × ((if nat_eq x 1 then n ∷ [] else m ∷ n ∷ []) ≡ m ∷ n ∷ []))
one_or_two x m n small = grind (arith, nat_tests)

split_list : (a b label : ℕ) → ((bit label a ≡ 1) × (split_labels a b label ≡ both b label ∷ []))
    ⊎ ((bit label a ≡ 0) × (split_labels a b label ≡ first a b label ∷ both b label ∷ []))
split_list a b label = one_or_two (bit label a) (with_gap b label + 2 ^ a) (with_gap b label + 2 ^ b) (bit-le label a)

-- the labels behind a split

pub Contains-parted : (size a b label head : ℕ) → a < b → b ≤ size → label < 2 ^ size → IsParted size a b label head
    → Contains (split_labels a b label) head
Contains-parted size a b label head order within small is =
    let made = IsAt-both size a b label order within small in
    let list = split_labels a b label in
    let at : (x y : ℕ) → bit head a ≡ x → bit head b ≡ y → IsAt size a b label head x y =
    λ x y at_a at_b. record { agree = is.agree; at_a = at_a; at_b = at_b; small = is.small } in
    elim (split_list a b label) [
      | inl one ↦
          contains_first list [] head (both b label) one.1
          (IsAt-same size a b label head (both b label) (bit label a) 1
          (at (bit label a) 1 (omega (arith, one.0, is.sum, bit-le head a, bit-le head b))
          (omega (arith, one.0, is.sum, bit-le head a, bit-le head b))) made)
      | inr two ↦ elim (either (bit head a) (bit head b) (omega (arith, two.0, is.sum))) [
        | inl on_a ↦
            contains_first list (both b label ∷ []) head (first a b label) two.1
            (IsAt-same size a b label head (first a b label) 1 0 (at 1 0 on_a.0 on_a.1)
            (IsAt-first size a b label order within small two.0))
        | inr on_b ↦
            contains_second list [] head (both b label) (first a b label) two.1
            (IsAt-same size a b label head (both b label) (bit label a) 1 (at (bit label a) 1 (on_b.0 ∙ sym two.0) on_b.1) made)
      ]
    ]
  where
    either : (x y : ℕ) → x + y ≡ 1 → ((x ≡ 1) × (y ≡ 0)) ⊎ ((x ≡ 0) × (y ≡ 1))
    either x y sum = grind arith

pub IsParted-contains : (size a b label head : ℕ) → a < b → b ≤ size → label < 2 ^ size → Contains (split_labels a b label) head
    → IsParted size a b label head
IsParted-contains size a b label head order within small has =
    let on_both : IsParted size a b label (both b label) =
    IsParted-at size a b label (both b label) (bit label a) 1 (IsAt-both size a b label order within small) refl in
    let is : (h : ℕ) → head ≡ h → IsParted size a b label h → IsParted size a b label head =
    λ h same parted. subst (λ n. IsParted size a b label n) (sym same) parted in
    elim (split_list a b label) [
      | inl one ↦ is (both b label) (one_in head (both b label) (subst (λ xs. Contains xs head) one.1 has)) on_both
      | inr two ↦ elim (two_in head (first a b label) (both b label) (subst (λ xs. Contains xs head) two.1 has)) [
        | inl same ↦
            is (first a b label) same
            (IsParted-at size a b label (first a b label) 1 0 (IsAt-first size a b label order within small two.0) (omega (arith, two.0)))
        | inr same ↦ is (both b label) same on_both
      ]
    ]

-- the lists ascend

pub increasing-merged : (a b label : ℕ) → IsStrictlyIncreasing (merged_labels a b label)
increasing-merged a b label = grind (arith, nat_tests)

pub increasing-split : (a b label : ℕ) → a < b → IsStrictlyIncreasing (split_labels a b label)
increasing-split a b label order = grind (arith, nat_tests, split_list, cases_eq, pow-lt)
