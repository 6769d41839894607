-- Tests that agree.
use Rattle.std.proofs.Common.{◌≡◌, ◌≢◌, ℕ, ◌+◌, ◌∙◌, sym, refl, ap, arith, Bool, true, not, ◌||◌}
use Rattle.std.specs.Prelude.{nat_eq}
use Rattle.std.proofs.lemmas.Bool.{both_ways, eq-eqb, ne_eqb}
use Rattle.std.proofs.lemmas.Bool.Decides.{nat_tests}
use Rattle.kh_types.specs.Edges.{is_other}

-- two tests are one where each passes with the other
pub agree : (a b : Bool) → (a ≡ true → b ≡ true) → (b ≡ true → a ≡ true) → a ≡ b
agree a b forth back = grind (arith, nat_tests)

-- two tests of equality are one where each equality gives the other
pub nat_eq-iff : (x y z w : ℕ) → (x ≡ y → z ≡ w) → (z ≡ w → x ≡ y) → nat_eq x y ≡ nat_eq z w
nat_eq-iff x y z w forth back = grind (arith, nat_tests)

pub nat_eq-plus : (n x y : ℕ) → nat_eq (n + x) (n + y) ≡ nat_eq x y
nat_eq-plus n x y = grind (arith, nat_tests)

pub nat_eq-turned : (x y : ℕ) → nat_eq x y ≡ nat_eq y x
nat_eq-turned x y = grind (arith, nat_tests)

-- the others than a number
pub other-passes : (z y : ℕ) → y ≢ z → is_other z y ≡ true
other-passes z y other = ap not (ne_eqb y z other)

pub other-differs : (z y : ℕ) → is_other z y ≡ true → y ≢ z
other-differs z y passes same = both_ways true (sym passes ∙ ap not (eq-eqb y z same)) refl

pub twice-not : (b : Bool) → not (not b) ≡ b
twice-not b = grind (arith, nat_tests)

-- a test that passes unless another does
pub unless-forth : (k e : Bool) → (not k || e) ≡ true → k ≡ true → e ≡ true
unless-forth k e passes is = grind (arith, nat_tests)
