-- One exchange of images: where two classes become one, or one stays one, its parts still have a genus.
--
-- The classes of two numbers become one, or were one. Their parts of one kind become one too, and those of the other kind become one or
-- part in two. The faces, the parts of both kinds and the classes are counted before and after: in each case the sums of Euler's formula
-- change by an even number that the genus takes up.
use Rattle.std.proofs.Common.{◌≡◌, ◌≢◌, ℕ, ◌⊎◌, inl, inr, ◌+◌, ◌*◌, ◌<◌, ◌∙◌, List, sym, ap, subst, arith, Bool, true, eq-eqb}
use Rattle.std.specs.Prelude.{slice_index, min, max}
use Rattle.std.proofs.lemmas.Bool.{cases_eq, false_from_ne_true, eqb-true}
use Rattle.std.proofs.lemmas.Bool.Decides.{nat_tests}
use Rattle.kh_types.specs.Classes.{merged, joined, is_least, IsNamed}
use Rattle.kh_types.specs.Permutations.{AreJoined}
use Rattle.kh_types.proofs.ClassLemmas.{slice_index-joined, merged-both, merged-first}
use Rattle.kh_types.proofs.JoinedClasses.{joined-together, max-fixed}
use Rattle.kh_types.proofs.RangeCounts.{counted}
use Rattle.genus_laws.specs.Orbits.{is_in, count_in, parts_in, size_in, HaveWholeGenus}
use Rattle.genus_laws.proofs.PartCounts.{AreFiner, parts_in-joined, count_in-one, count_in-other}

-- the classes of two numbers become one; so do their parts of one kind, and of another kind too, or else one part becomes two
pub record IsStep (n : ℕ) (before after old_g new_g old_h new_h : List ℕ) (x y : ℕ) : Type 0 where
  pub x_below : x < n
  pub y_below : y < n
  pub named : IsNamed n before
  pub one : after ≡ joined before (x, y)
  pub old_g_named : IsNamed n old_g
  pub new_g_named : IsNamed n new_g
  pub old_h_named : IsNamed n old_h
  pub old_g_finer : AreFiner n old_g before
  pub new_g_finer : AreFiner n new_g after
  pub old_h_finer : AreFiner n old_h before
  pub h_joined : AreJoined old_h new_h x y
  pub g_joined : AreJoined old_g new_g x y ⊎ (AreJoined new_g old_g x y × (slice_index before x ≡ slice_index before y))

-- the faces in a class
abbrev pub faces_of : ℕ → List ℕ → List ℕ → List ℕ → List ℕ → ℕ → ℕ
faces_of n classes f g h name = parts_in n classes name f + (parts_in n classes name g + parts_in n classes name h)

-- each class has a genus
abbrev pub HaveGenus : ℕ → List ℕ → List ℕ → List ℕ → List ℕ → Type 0
HaveGenus n classes f g h =
    (name : ℕ) → name < n → slice_index classes name ≡ name → HaveWholeGenus (faces_of n classes f g h name) (size_in n classes name)

-- parts that are finer than classes are finer than these when two of them have become one
AreFiner-joined : (n : ℕ) (parts classes : List ℕ) (x y : ℕ) → IsNamed n parts → IsNamed n classes → AreFiner n parts classes
    → AreFiner n parts (joined classes (x, y))
AreFiner-joined n parts classes x y parts_named named finer z below =
    let part_below : slice_index parts z < n = omega (arith, parts_named.least z below, below) in
    slice_index-joined classes (x, y) (slice_index parts z) (omega (arith, named.size, part_below))
    ∙ ap (λ c. merged (slice_index classes x) (slice_index classes y) c) (finer z below)
    ∙ sym (slice_index-joined classes (x, y) z (omega (arith, named.size, below)))

-- a name of a class after two have become one
not_greater : (a b class name : ℕ) → a ≢ b → (name ≡ max a b → class ≡ name) → merged a b class ≡ name → name ≢ max a b
not_greater a b class name apart own is = grind (arith, nat_tests)

was_name : (a b class name : ℕ) → merged a b class ≡ name → name ≢ min a b → class ≡ name
was_name a b class name is other = grind (arith, nat_tests)

-- the two numbers were in one class
HaveGenus-together : (n : ℕ) (before after f old_g new_g old_h new_h : List ℕ) (x y : ℕ)
    → IsStep n before after old_g new_g old_h new_h x y → slice_index before x ≡ slice_index before y
    → HaveGenus n before f old_g old_h → HaveGenus n after f new_g new_h
HaveGenus-together n before after f old_g new_g old_h new_h x y step together have =
    let same : after ≡ before = step.one ∙ joined-together before (x, y) together in
    let finer : AreFiner n new_g before = subst (λ (cs : List ℕ). AreFiner n new_g cs) same step.new_g_finer in
    subst (λ (cs : List ℕ). HaveGenus n cs f new_g new_h) (sym same)
    (λ name below own.
    let was = have name below own in
    let d = counted (is_in before name x) in
    let e_h : parts_in n before name old_h ≡ parts_in n before name new_h + d =
    parts_in-joined n before old_h new_h x y name step.old_h_named step.x_below step.y_below step.h_joined step.old_h_finer together in
    let e = was.formula in
    elim step.g_joined [
      | inl merge ↦
          let e_g : parts_in n before name old_g ≡ parts_in n before name new_g + d =
          parts_in-joined n before old_g new_g x y name step.old_g_named step.x_below step.y_below merge step.old_g_finer together in
          record {
            genus = was.genus + d;
            formula = more (parts_in n before name f) (parts_in n before name old_g) (parts_in n before name new_g)
                (parts_in n before name old_h) (parts_in n before name new_h) d was.genus (size_in n before name) e_g e_h e;
          }
      | inr split ↦
          let e_g : parts_in n before name new_g ≡ parts_in n before name old_g + d =
          parts_in-joined n before new_g old_g x y name step.new_g_named step.x_below step.y_below split.0 finer together in
          record {
            genus = was.genus;
            formula = as_many (parts_in n before name f) (parts_in n before name old_g) (parts_in n before name new_g)
                (parts_in n before name old_h) (parts_in n before name new_h) d was.genus (size_in n before name) e_g e_h e;
          }
    ])
  where
    more : (f g1 g h1 h d genus size : ℕ) → g1 ≡ g + d → h1 ≡ h + d → f + (g1 + h1) + 2 * genus ≡ size + 2
        → f + (g + h) + 2 * (genus + d) ≡ size + 2
    more f g1 g h1 h d genus size is_g is_h e = omega (arith, is_g, is_h, e)

    as_many : (f g1 g h1 h d genus size : ℕ) → g ≡ g1 + d → h1 ≡ h + d → f + (g1 + h1) + 2 * genus ≡ size + 2
        → f + (g + h) + 2 * genus ≡ size + 2
    as_many f g1 g h1 h d genus size is_g is_h e = omega (arith, is_g, is_h, e)

-- they were in two, which become one
HaveGenus-apart : (n : ℕ) (before after f old_g new_g old_h new_h : List ℕ) (x y : ℕ)
    → IsStep n before after old_g new_g old_h new_h x y → AreJoined old_g new_g x y → slice_index before x ≢ slice_index before y
    → HaveGenus n before f old_g old_h → HaveGenus n after f new_g new_h
HaveGenus-apart n before after f old_g new_g old_h new_h x y step merge apart have =
    let one = joined before (x, y) in
    let a = slice_index before x in
    let b = slice_index before y in
    let named = step.named in
    let size = named.size in
    let at : (z : ℕ) → z < n → slice_index one z ≡ merged a b (slice_index before z) =
    λ z below. slice_index-joined before (x, y) z (omega (arith, size, below)) in
    let together : slice_index one x ≡ slice_index one y =
    at x step.x_below ∙ merged-both a b ∙ sym (at y step.y_below) in
    let x_in : slice_index one x ≡ min a b = at x step.x_below ∙ merged-first a b in
    subst (λ (cs : List ℕ). HaveGenus n cs f new_g new_h) (sym step.one)
    (λ name below own.
    let d = counted (is_in one name x) in
    let e_g : parts_in n one name old_g ≡ parts_in n one name new_g + d =
    parts_in-joined n one old_g new_g x y name step.old_g_named step.x_below step.y_below merge
    (AreFiner-joined n old_g before x y step.old_g_named named step.old_g_finer) together in
    let e_h : parts_in n one name old_h ≡ parts_in n one name new_h + d =
    parts_in-joined n one old_h new_h x y name step.old_h_named step.x_below step.y_below step.h_joined
    (AreFiner-joined n old_h before x y step.old_h_named named step.old_h_finer) together in
    elim (cases_eq name (min a b)) [
      | inl is ↦
          let first = have a (omega (arith, named.least x step.x_below, step.x_below)) (named.own x step.x_below) in
          let second = have b (omega (arith, named.least y step.y_below, step.y_below)) (named.own y step.y_below) in
          let split = λ (test : ℕ → Bool).
          ap (λ k. count_in n one k test) is ∙ count_in-one n before x y test size apart in
          let d_is : d ≡ 1 = ap counted (eq-eqb (slice_index one x) name (x_in ∙ sym is)) in
          record {
            genus = first.genus + second.genus;
            formula = both (parts_in n one name f) (parts_in n one name old_g) (parts_in n one name new_g)
                (parts_in n one name old_h) (parts_in n one name new_h) (size_in n one name) d
                (parts_in n before a f) (parts_in n before a old_g) (parts_in n before a old_h) (size_in n before a)
                (parts_in n before b f) (parts_in n before b old_g) (parts_in n before b old_h) (size_in n before b)
                first.genus second.genus e_g e_h d_is
                (split (is_least f)) (split (is_least old_g)) (split (is_least old_h)) (split (λ z. true))
                first.formula second.formula;
          }
      | inr other ↦
          let is_name = sym (at name below) ∙ own in
          let own_max : name ≡ max a b → slice_index before name ≡ name =
          λ is_max. ap (λ z. slice_index before z) is_max ∙ max-fixed (λ z. slice_index before z) a b
          (named.own x step.x_below) (named.own y step.y_below) ∙ sym is_max in
          let not_max : name ≢ max a b = not_greater a b (slice_index before name) name apart own_max is_name in
          let was = have name below (was_name a b (slice_index before name) name is_name other) in
          let stays = λ (test : ℕ → Bool). count_in-other n before x y name test size other not_max in
          let d_is : d ≡ 0 =
          ap counted (false_from_ne_true (is_in one name x)
          (λ inside. other (sym (eqb-true (slice_index one x) name inside) ∙ x_in))) in
          record {
            genus = was.genus;
            formula = alike (parts_in n one name f) (parts_in n one name old_g) (parts_in n one name new_g)
                (parts_in n one name old_h) (parts_in n one name new_h) (size_in n one name) d
                (parts_in n before name f) (parts_in n before name old_g) (parts_in n before name old_h) (size_in n before name)
                was.genus e_g e_h d_is (stays (is_least f)) (stays (is_least old_g)) (stays (is_least old_h)) (stays (λ z. true))
                was.formula;
          }
    ])
  where
    both : (f g1 g h1 h s d fa ga ha sa fb gb hb sb genus genus_too : ℕ) → g1 ≡ g + d → h1 ≡ h + d → d ≡ 1
        → f ≡ fa + fb → g1 ≡ ga + gb → h1 ≡ ha + hb → s ≡ sa + sb
        → fa + (ga + ha) + 2 * genus ≡ sa + 2 → fb + (gb + hb) + 2 * genus_too ≡ sb + 2
        → f + (g + h) + 2 * (genus + genus_too) ≡ s + 2
    both f g1 g h1 h s d fa ga ha sa fb gb hb sb genus genus_too is_g is_h is_d e1 e2 e3 e4 e5 e6 =
        omega (arith, is_g, is_h, is_d, e1, e2, e3, e4, e5, e6)

    alike : (f g1 g h1 h s d fa ga ha sa genus : ℕ) → g1 ≡ g + d → h1 ≡ h + d → d ≡ 0
        → f ≡ fa → g1 ≡ ga → h1 ≡ ha → s ≡ sa → fa + (ga + ha) + 2 * genus ≡ sa + 2 → f + (g + h) + 2 * genus ≡ s + 2
    alike f g1 g h1 h s d fa ga ha sa genus is_g is_h is_d e1 e2 e3 e4 e5 =
        omega (arith, is_g, is_h, is_d, e1, e2, e3, e4, e5)

pub HaveGenus-step : (n : ℕ) (before after f old_g new_g old_h new_h : List ℕ) (x y : ℕ)
    → IsStep n before after old_g new_g old_h new_h x y
    → HaveGenus n before f old_g old_h → HaveGenus n after f new_g new_h
HaveGenus-step n before after f old_g new_g old_h new_h x y step have =
    elim (cases_eq (slice_index before x) (slice_index before y)) [
      | inl together ↦ HaveGenus-together n before after f old_g new_g old_h new_h x y step together have
      | inr apart ↦ elim step.g_joined [
        | inl merge ↦ HaveGenus-apart n before after f old_g new_g old_h new_h x y step merge apart have
        | inr split ↦ absurd (apart split.1)
      ]
    ]
