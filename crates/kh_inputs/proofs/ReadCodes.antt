-- The crossings of a code that is read from a text have four slots each.
use Rattle.std.proofs.Common.{◌≡◌, ◌∙◌, ℕ, ◌+◌, ℤ, pos, neg_ℤ, Bool, true, false, cond, List, [], ◌∷◌, length, map, refl, sym, subst, Ok}
use Rattle.std.specs.Prelude.{All}
use Rattle.std.specs.List.{AllByRecursion}
use Rattle.std.specs.Ordering.{int_eq}
use Rattle.std.proofs.lemmas.List.{length-map}
use Rattle.std.proofs.lemmas.List.Elements.{All-from_recursion, recursion_from_All}
use Rattle.kh_types.specs.Code.{Code}
use Rattle.kh_types.specs.RawCodes.{arc_named}
use Rattle.kh_types.proofs.RangeImages.{all-map_range}
use Rattle.code_passes.specs.Labels.{listed_number}
use Rattle.code_passes.specs.Passes.{Pass, all_passes, pass_of, slots_between, slots_by_passes}
use Rattle.pd_code.specs.Items.{crossings_among}
use Rattle.pd_code.specs.declared.item.Item.{Item}
use Rattle.pd_code.specs.declared.item.Item.TheVariants.{Crossing, Loop}
use Rattle.gauss_code.specs.Codes.{listed_code}
use Rattle.gauss_code.specs.Listings.{Body, crossing_count, groups_of}
use Rattle.gauss_code.specs.Faults as gauss_faults
use Rattle.kh_inputs.specs.declared.input.InputForm.{InputForm}
use Rattle.kh_inputs.specs.declared.input.InputForm.TheVariants as forms
use Rattle.kh_inputs.specs.Inputs.{input_form, IsCodeRead, IsReadAs}

-- slots are four
abbrev pub AreFour : List ℕ → Type 0
AreFour slots = length slots ≡ 4

-- of a PD text
pd-four : (items : List Item) → AllByRecursion AreFour (crossings_among items)
pd-four [] = tt
pd-four (Crossing i j k l ∷ items) = (refl, pd-four items)
pd-four (Loop n ∷ items) = pd-four items

-- of a signed Gauss text
cond-four : (b : Bool) (xs ys : List ℕ) → AreFour xs → AreFour ys → AreFour (cond b xs ys)
cond-four true xs ys first second = first
cond-four false xs ys first second = second

slots_between-four : (under over : Pass) (sign : ℤ) → AreFour (slots_between under over sign)
slots_between-four under over sign =
    cond-four (int_eq sign (pos 1)) (under.enters ∷ over.leaves ∷ under.leaves ∷ over.enters ∷ [])
    (under.enters ∷ over.enters ∷ under.leaves ∷ over.leaves ∷ []) refl refl

gauss-four : (body : Body) (signs : List ℤ) → AllByRecursion AreFour (listed_code body signs).crossings
gauss-four body signs =
    let passes = all_passes 1 (groups_of body) in
    all-map_range AreFour (slots_by_passes passes signs) 0 (crossing_count body)
    (λ k below. slots_between-four (pass_of passes (neg_ℤ (pos (k + 1)))) (pass_of passes (pos (k + 1))) (listed_number signs k))

-- of a JSON text
json-four : (quadruples : List (List ℕ)) → AllByRecursion AreFour quadruples → AllByRecursion AreFour (map (map arc_named) quadruples)
json-four [] four = tt
json-four (numbers ∷ quadruples) (one, four) = (length-map numbers arc_named ∙ one, json-four quadruples four)

-- of each of them
read-four : (form : InputForm) (bytes : List ℕ) (code : Code) → IsReadAs form bytes (Ok code) → AllByRecursion AreFour code.crossings
read-four forms.Pd bytes code read =
    subst (λ (c : Code). AllByRecursion AreFour c.crossings) (sym read.same) (pd-four read.items)
read-four forms.Gauss bytes code read =
    subst (λ (c : Code). AllByRecursion AreFour c.crossings) (sym read.same)
    (gauss-four read.listing.body (gauss_faults.signs_of read.listing))
read-four forms.Json bytes code read =
    subst (AllByRecursion AreFour) (sym read.arcs) (json-four read.quadruples (recursion_from_All AreFour read.quadruples read.fours))

pub four_slots-read : (bytes : List ℕ) (code : Code) → IsCodeRead bytes (Ok code) → All (λ slots. length slots ≡ 4) code.crossings
four_slots-read bytes code read = All-from_recursion AreFour code.crossings (read-four (input_form bytes) bytes code read)
