-- Steps between diagrams of known links, as data; and links told apart by one dimension.
use Rattle.std.proofs.Common.{◌≡◌, ℕ, List, [], ◌∷◌, negsuc, Bool, false, refl, inl, arith}
use Rattle.kh_types.specs.Acceptance.{accepted, first_fault}
use Rattle.kh_types.specs.Residues.{HasInverses}
use Rattle.kh_types.specs.Table.{dimension}
use Rattle.kh_types.specs.WorkedCodes.{curl, one_loop, slots_with, trefoil}
use Rattle.prime_field.specs.SmallFields.{field-two}
use Rattle.plain_matrix.proofs.FieldInverses.{inverses-field}
use Rattle.diagram_moves.specs.Moved.{moved}
use Rattle.link_algebra.specs.Mirrors.{mirror_of}
use Rattle.link_laws.specs.Links.{AreOneLink, HasOtherOrder, kink_dropped, crossings_reordered, strand_slid}
use Rattle.link_laws.specs.WorkedLinks.{circle_before, circle_behind, kinked_trefoil, turned_trefoil_list}
use Rattle.link_laws.proofs.Paths.{dimension-link, link-change}

pub curl-loop : AreOneLink curl one_loop
unfolding accepted first_fault moved
curl-loop = link-change curl one_loop refl refl (kink_dropped 1 refl)

-- a crossing of the trefoil, which is negative
abbrev negative : ℕ → ℕ → ℕ → ℕ → List ℕ × Bool
negative i j k l = (slots_with i j k l, false)

trefoil-order : HasOtherOrder trefoil turned_trefoil_list
trefoil-order =
    record {
      order = (
        negative 1 4 2 5 ∷ negative 3 6 4 1 ∷ [],
        [],
        refl,
        ([], negative 3 6 4 1 ∷ [], refl, ([], [], refl, refl)),
      );
      loops = refl;
    }

pub trefoils-one : AreOneLink kinked_trefoil turned_trefoil_list
unfolding accepted first_fault moved
trefoils-one =
    record {
      first_accepted = refl;
      codes = trefoil ∷ turned_trefoil_list ∷ [];
      path = (
        record { first_accepted = refl; second_accepted = refl; change = inl (kink_dropped 4 refl) },
        (record { first_accepted = refl; second_accepted = refl; change = inl (crossings_reordered trefoil-order) }, refl),
      );
    }

pub circles-one : AreOneLink circle_before circle_behind
unfolding accepted first_fault moved
circles-one = link-change circle_before circle_behind refl refl (strand_slid 1 2 3 refl)

field : HasInverses 2
field = inverses-field 2 field-two

pub trefoil-knotted : AreOneLink trefoil one_loop → ⊥
trefoil-knotted link =
    let none : dimension 2 one_loop (negsuc 2) (negsuc 8) ≡ 0 = refl in
    let one : dimension 2 trefoil (negsuc 2) (negsuc 8) ≡ 1 = refl in
    absurd (omega (arith, dimension-link 2 trefoil one_loop field link (negsuc 2) (negsuc 8), none, one))

pub trefoil-chiral : AreOneLink trefoil (mirror_of trefoil) → ⊥
trefoil-chiral link =
    let none : dimension 2 (mirror_of trefoil) (negsuc 2) (negsuc 8) ≡ 0 = refl in
    let one : dimension 2 trefoil (negsuc 2) (negsuc 8) ≡ 1 = refl in
    absurd (omega (arith, dimension-link 2 trefoil (mirror_of trefoil) field link (negsuc 2) (negsuc 8), none, one))
