-- Links from open dart to open dart round a face, before and after one more arc.
use Rattle.std.proofs.lemmas.Bool.Decides.{nat_tests}
use Rattle.std.proofs.Common.{arith}
use Rattle.std.proofs.Common.{◌≡◌, ◌≢◌, ℕ, ◌*◌, ◌<◌, ◌∙◌, List, [], ◌∷◌, ◌++◌, sym, ap}
use Rattle.std.specs.List.{AllByRecursion}
use Rattle.kh_types.specs.Darts.{turned, face_step}
use Rattle.kh_types.proofs.Lists.{AllByRecursion-append, AllByRecursion-weaker}
use Rattle.face_walk.specs.AddedArcs.{HasArcMore}
use Rattle.morse_drawing.specs.DartRows.{IsWay, IsLink, AreLinked}

-- ways

way_append : (f : ℕ → ℕ) (x y z : ℕ) (bs cs : List ℕ) → IsWay f x bs y → IsWay f y cs z → IsWay f x (bs ++ y ∷ cs) z
way_append f x y z [] cs one two = (one, two)
way_append f x y z (b ∷ bs) cs one two = (one.0, way_append f b y z bs cs one.1 two)

way_moved : (f g : ℕ → ℕ) (x w y : ℕ) (bs : List ℕ) → g w ≡ f x → AllByRecursion (λ z. g z ≡ f z) bs → IsWay f x bs y → IsWay g w bs y
way_moved f g x w y [] start same way = start ∙ way
way_moved f g x w y (b ∷ bs) start same way = (start ∙ way.0, way_moved f g b b y bs same.0 same.1 way.1)

-- what one step keeps, a way keeps
way_keeps : (h f : ℕ → ℕ) (m x y : ℕ) (bs : List ℕ) → ((z : ℕ) → z < m → h (f z) ≡ h z) → x < m → AllByRecursion (λ z. z < m) bs
    → IsWay f x bs y → h y ≡ h x
way_keeps h f m x y [] keeps below bs_below way = ap h (sym way) ∙ keeps x below
way_keeps h f m x y (b ∷ bs) keeps below bs_below way = grind (arith, nat_tests, way_keeps h f m b y bs keeps bs_below.0 bs_below.1 way.1)

-- links

-- a link to a dart that has an arc, and one from there
pub IsLink-through : (n : ℕ) (partner : ℕ → ℕ) (x y z : ℕ) → y < 4 * n → partner y ≢ y → IsLink n partner x y → IsLink n partner y z
    → IsLink n partner x z
IsLink-through n partner x y z below is_closed one two = record {
  between = one.between ++ y ∷ two.between;
  way = way_append (face_step partner) x y z one.between two.between one.way two.way;
  closed = AllByRecursion-append (λ z. (z < 4 * n) × (partner z ≢ z)) one.between (y ∷ two.between) one.closed
      ((below, is_closed), two.closed);
}

-- with one more arc, the link of a dart that makes the same step as another did before
pub IsLink-moved : (n : ℕ) (before after : ℕ → ℕ) (dart other x w y : ℕ) → HasArcMore (4 * n) before after dart other
    → face_step after w ≡ face_step before x → IsLink n before x y → IsLink n after w y
IsLink-moved n before after dart other x w y more start link =
    let not_dart : (z : ℕ) → before z ≢ z → z ≢ dart = λ z is_closed same. is_closed (ap before same ∙ more.dart_open ∙ sym same) in
    let not_other : (z : ℕ) → before z ≢ z → z ≢ other = λ z is_closed same. is_closed (ap before same ∙ more.other_open ∙ sym same) in
    record {
      between = link.between;
      way = way_moved (face_step before) (face_step after) x w y link.between start
          (AllByRecursion-weaker (λ z. (z < 4 * n) × (before z ≢ z)) (λ z. face_step after z ≡ face_step before z) link.between
          (λ z holds. ap turned (more.others z holds.0 (not_dart z holds.1) (not_other z holds.1))) link.closed) link.way;
      closed = AllByRecursion-weaker (λ z. (z < 4 * n) × (before z ≢ z)) (λ z. (z < 4 * n) × (after z ≢ z)) link.between
          (λ z holds. (
            holds.0,
            λ same. holds.1 (sym (more.others z holds.0 (not_dart z holds.1) (not_other z holds.1)) ∙ same),
          )) link.closed;
    }

-- lists of links

pub AreLinked-cut : (n : ℕ) (partner : ℕ → ℕ) (left x right : ℕ) (bs cs : List ℕ) → AreLinked n partner left (bs ++ x ∷ cs) right
    → AreLinked n partner left bs x × AreLinked n partner x cs right
AreLinked-cut n partner left x right [] cs linked = linked
AreLinked-cut n partner left x right (b ∷ bs) cs linked = grind (arith, nat_tests, AreLinked-cut n partner b x right bs cs linked.1)

pub AreLinked-append : (n : ℕ) (partner : ℕ → ℕ) (left x right : ℕ) (bs cs : List ℕ) → AreLinked n partner left bs x
    → AreLinked n partner x cs right → AreLinked n partner left (bs ++ x ∷ cs) right
AreLinked-append n partner left x right [] cs one two = (one, two)
AreLinked-append n partner left x right (b ∷ bs) cs one two = (one.0, AreLinked-append n partner b x right bs cs one.1 two)

-- a list of links that begins further to the right
pub AreLinked-from : (n : ℕ) (partner : ℕ → ℕ) (left right further : ℕ) (bs : List ℕ) → right < 4 * n → partner right ≢ right
    → IsLink n partner further right → AreLinked n partner left bs right → AreLinked n partner left bs further
AreLinked-from n partner left right further [] below is_closed more linked =
    IsLink-through n partner further right left below is_closed more linked
AreLinked-from n partner left right further (b ∷ bs) below is_closed more linked =
    (linked.0, AreLinked-from n partner b right further bs below is_closed more linked.1)

-- with one more arc, where the list has neither of its darts
pub AreLinked-moved : (n : ℕ) (before after : ℕ → ℕ) (dart other left right w : ℕ) (bs : List ℕ)
    → HasArcMore (4 * n) before after dart other → face_step after w ≡ face_step before right
    → AllByRecursion (λ z. (z < 4 * n) × ((z ≢ dart) × (z ≢ other))) bs
    → AreLinked n before left bs right → AreLinked n after left bs w
AreLinked-moved n before after dart other left right w [] more start beside linked =
    IsLink-moved n before after dart other right w left more start linked
AreLinked-moved n before after dart other left right w (b ∷ bs) more start beside linked = (
  IsLink-moved n before after dart other b b left more (ap turned (more.others b beside.0.0 beside.0.1.0 beside.0.1.1)) linked.0,
  AreLinked-moved n before after dart other b right w bs more start beside.1 linked.1,
)

-- what face steps keep, links keep
IsLink-keeps : (h : ℕ → ℕ) (n : ℕ) (partner : ℕ → ℕ) (x y : ℕ) → ((z : ℕ) → z < 4 * n → h (face_step partner z) ≡ h z) → x < 4 * n
    → IsLink n partner x y → h y ≡ h x
IsLink-keeps h n partner x y keeps below link =
    way_keeps h (face_step partner) (4 * n) x y link.between keeps below
    (AllByRecursion-weaker (λ z. (z < 4 * n) × (partner z ≢ z)) (λ z. z < 4 * n) link.between (λ z holds. holds.0) link.closed) link.way

pub AreLinked-keeps : (h : ℕ → ℕ) (n : ℕ) (partner : ℕ → ℕ) (left right : ℕ) (bs : List ℕ)
    → ((z : ℕ) → z < 4 * n → h (face_step partner z) ≡ h z) → right < 4 * n → AllByRecursion (λ z. z < 4 * n) bs
    → AreLinked n partner left bs right → AllByRecursion (λ z. h z ≡ h left) bs × (h right ≡ h left)
AreLinked-keeps h n partner left right [] keeps below bs_below linked =
    (tt, sym (IsLink-keeps h n partner right left keeps below linked))
AreLinked-keeps h n partner left right (b ∷ bs) keeps below bs_below linked =
    let first = sym (IsLink-keeps h n partner b left keeps bs_below.0 linked.0) in
    let rest = AreLinked-keeps h n partner b right bs keeps below bs_below.1 linked.1 in
    ((first, AllByRecursion-weaker (λ z. h z ≡ h b) (λ z. h z ≡ h left) bs (λ z same. same ∙ first) rest.0), rest.1 ∙ first)
