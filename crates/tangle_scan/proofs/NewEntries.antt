-- One entry more in a new column.
-- A column is known by the list of its targets, to which each push adds one, whether or not the entry has terms. An entry has the coefficients
-- of the theorem: along an old map those that `added_map` makes, where the smoothings are equal, and along a saddle those of `saddle_map`.
use Rattle.std.proofs.Common.{◌≡◌, ◌≢◌, ℕ, ◌+◌, ◌*◌, ◌^◌, ◌<◌, ◌∙◌, List, [], ◌∷◌, ◌++◌, get_or, length, map, take, refl, sym, subst, ap, ap₂, true, false, cond}
use Rattle.std.specs.Prelude.{nat_eq, ◌&&◌}
use Rattle.std.specs.List.{filter, flat_map, range_with_len}
use Rattle.std.specs.Result.{OnOk}
use Rattle.std.specs.Prelude.{Result}
use Rattle.std.proofs.lemmas.Bool.{eq-eqb, ne_eqb}
use Rattle.std.proofs.lemmas.Result.{IfOk-weaker}
use Rattle.std.proofs.lemmas.List.Elements.{filter-append}
use Rattle.kh_types.proofs.Residues.{same-equal}
use Rattle.surface_laws.specs.Surfaces.{value}
use Rattle.dotted_maps.specs.declared.term.Term.{Term}
use Rattle.added_crossing_laws.specs.Entries.{saddle_surface}
use Rattle.tangle_maps.specs.Sums.{AreReduced, HaveDotsBelow}
use Rattle.crossing_maps.specs.NewTerms.{AreAddedTerms, AreSaddleTerms, sets_behind}
use Rattle.crossing_maps.specs.declared.splitting.Split.{Split}
use Rattle.scan_laws.specs.Scans.{pairs_of}
use Rattle.scan_laws.specs.Adding.{Origin, added_coefficient, new_coefficient, origin_of, origins_with, saddle_coefficient, sign_at}
use Rattle.tangle_scan.specs.declared.adding.Adding.{Adding}
use Rattle.tangle_scan.specs.declared.adding.children.Child.{Child}
use Rattle.tangle_scan.specs.declared.complex.Entry.{Entry}
use Rattle.tangle_scan.specs.Additions.{HasEntriesTo, IsEntryTo, IsSplitAt, StandsAt, code_in, done_in, has_terms, head_of, objects_in, origin_in, saddle_targets, scan_in, sets_from, targets_along}
use Rattle.tangle_scan.specs.Held.{is_alive_at, terms_between}
use Rattle.tangle_scan.proofs.ZippedLists.{zip-push}
use Rattle.tangle_scan.proofs.ChildPlaces.{append-none, heads-more, labels-more, origin-same, origins-split}

pub entries-pushed : (p : ℕ) (adding : Adding) (from to : Origin) (targets : List Origin) (column more : List Entry) (entry : Entry)
    → HasEntriesTo p adding from targets column → IsEntryTo p adding from to entry
    → more ≡ column ++ filter has_terms (entry ∷ []) → HasEntriesTo p adding from (targets ++ to ∷ []) more
entries-pushed p adding from to targets column more entry has is made = record {
  all = has.all ++ entry ∷ [];
  each = zip-push (IsEntryTo p adding from) targets to has.all entry has.each is;
  kept = made ∙ ap (λ xs. xs ++ filter has_terms (entry ∷ [])) has.kept ∙ sym (filter-append has_terms has.all (entry ∷ []));
}

pub entry-on-ok : {T E : Type 0} (r : Result T E) (p : ℕ) (adding : Adding) (from to : Origin) (targets : List Origin)
    (column more : List Entry) (entry : Entry) → HasEntriesTo p adding from targets column → IsEntryTo p adding from to entry
    → OnOk r (more ≡ column ++ filter has_terms (entry ∷ [])) → OnOk r (HasEntriesTo p adding from (targets ++ to ∷ []) more)
entry-on-ok r p adding from to targets column more entry has is made =
    IfOk-weaker r (λ u. more ≡ column ++ filter has_terms (entry ∷ [])) (λ u. HasEntriesTo p adding from (targets ++ to ∷ []) more)
    (λ u there. entries-pushed p adding from to targets column more entry has is there) made

pub no-entries : (p : ℕ) (adding : Adding) (from : Origin) → HasEntriesTo p adding from [] []
no-entries p adding from = record { all = []; each = tt; kept = refl }

-- along an old map
pub entry-added : (p : ℕ) (adding : Adding) (from to : Origin) (m n : List (ℕ × ℕ)) (old : List Term) (entry : Entry)
    → m ≡ pairs_of (scan_in adding) from.object → n ≡ pairs_of (scan_in adding) to.object
    → old ≡ terms_between adding.complex.now from.object to.object → from.smoothing ≡ to.smoothing → StandsAt adding to entry.head
    → AreReduced p entry.terms.items
    → AreAddedTerms p (code_in adding) (done_in adding) from.smoothing m n from.label to.label old entry.terms.items
    → IsEntryTo p adding from to entry
entry-added p adding from to m n old entry same_m same_n same_old smoothing stands reduced added =
    let code = code_in adding in
    let k = done_in adding in
    let scan = scan_in adding in
    let first = pairs_of scan from.object in
    let second = pairs_of scan to.object in
    let terms = terms_between adding.complex.now from.object to.object in
    let there =
    subst (λ (xs : List (ℕ × ℕ)). AreAddedTerms p code k from.smoothing first xs from.label to.label terms entry.terms.items) same_n
    (subst (λ (xs : List (ℕ × ℕ)). AreAddedTerms p code k from.smoothing xs n from.label to.label terms entry.terms.items) same_m
    (subst (λ (ts : List Term). AreAddedTerms p code k from.smoothing m n from.label to.label ts entry.terms.items) same_old added)) in
    record {
      head = stands;
      reduced = reduced;
      dots = subst (λ e. HaveDotsBelow (sets_behind code k from.smoothing e first second) entry.terms.items) smoothing there.dots;
      terms = λ kept below.
          there.coefficients kept
          (subst (λ e. kept < sets_behind code k from.smoothing e first second) (sym smoothing) below)
          ∙ same-equal p (added_coefficient 0 0 code scan from to kept) (new_coefficient p 0 0 code scan from to kept)
          (sym (ap
          (λ b.
          cond b (added_coefficient 0 0 code scan from to kept)
          (cond (nat_eq from.object to.object && nat_eq from.smoothing 0) (saddle_coefficient p 0 0 code scan from to kept) 0))
          (eq-eqb from.smoothing to.smoothing smoothing)));
    }

-- along the saddle of an old object
pub entry-saddled : (p : ℕ) (adding : Adding) (from to : Origin) (m : List (ℕ × ℕ)) (sign degree : ℕ) (entry : Entry)
    → m ≡ pairs_of (scan_in adding) from.object → from.object ≡ to.object → from.smoothing ≡ 0 → to.smoothing ≡ 1
    → sign ≡ sign_at p degree → degree ≡ ((scan_in adding).object from.object).degree → StandsAt adding to entry.head
    → AreReduced p entry.terms.items
    → AreSaddleTerms p sign (code_in adding) (done_in adding) m from.label to.label entry.terms.items
    → IsEntryTo p adding from to entry
entry-saddled p adding from to m sign degree entry same_m same_object zero one same_sign same_degree stands reduced saddle =
    let code = code_in adding in
    let k = done_in adding in
    let scan = scan_in adding in
    let first = pairs_of scan from.object in
    let second = pairs_of scan to.object in
    let there =
    subst (λ (xs : List (ℕ × ℕ)). AreSaddleTerms p sign code k xs from.label to.label entry.terms.items) same_m saddle in
    let sets : sets_from adding from to ≡ sets_behind code k 0 1 first first =
    ap₂ (λ e f. sets_behind code k e f first second) zero one
    ∙ ap (λ o. sets_behind code k 0 1 first (pairs_of scan o)) (sym same_object) in
    let signs : sign ≡ sign_at p (scan.object from.object).degree = same_sign ∙ ap (sign_at p) same_degree in
    record {
      head = stands;
      reduced = reduced;
      dots = subst (λ n. HaveDotsBelow n entry.terms.items) (sym sets) there.dots;
      terms = λ kept below.
          there.coefficients kept (subst (λ n. kept < n) sets below)
          ∙ same-equal p (sign * value 0 0 (saddle_surface code k first from.label to.label kept)) (new_coefficient p 0 0 code scan from to kept)
          (ap (λ s. s * value 0 0 (saddle_surface code k first from.label to.label kept)) signs
          ∙ sym (ap₂
          (λ b c. cond b (added_coefficient 0 0 code scan from to kept) (cond c (saddle_coefficient p 0 0 code scan from to kept) 0))
          (apart from.smoothing to.smoothing zero one)
          (ap₂ (λ b c. b && c) (eq-eqb from.object to.object same_object) (eq-eqb from.smoothing 0 zero))));
    }
  where
    apart : (e f : ℕ) → e ≡ 0 → f ≡ 1 → nat_eq e f ≡ false
    apart e f zero one = ap₂ (λ a b. nat_eq a b) zero one

-- labels one after the other
pub entries-more : (p : ℕ) (adding : Adding) (from : Origin) (targets : List Origin) (object smoothing label : ℕ) (to : Child)
    (column : List Entry) → to.parent ≡ object → to.side.smoothing ≡ smoothing → to.label ≡ label
    → HasEntriesTo p adding from ((targets ++ map (origin_of object smoothing) (range_with_len 0 label)) ++ origin_in to ∷ []) column
    → HasEntriesTo p adding from (targets ++ map (origin_of object smoothing) (range_with_len 0 (label + 1))) column
entries-more p adding from targets object smoothing label to column same_object same_smoothing same_label has =
    subst (λ xs. HasEntriesTo p adding from xs column) (labels-more (origin_of object smoothing) targets label)
    (subst
    (λ w. HasEntriesTo p adding from ((targets ++ map (origin_of object smoothing) (range_with_len 0 label)) ++ w ∷ []) column)
    (origin-same to object smoothing label same_object same_smoothing same_label) has)

pub entries-all : (p : ℕ) (adding : Adding) (from : Origin) (targets : List Origin) (object smoothing label : ℕ) (split : Split)
    (column : List Entry) → IsSplitAt adding object smoothing split → label ≡ 2 ^ length split.closed.items
    → HasEntriesTo p adding from (targets ++ map (origin_of object smoothing) (range_with_len 0 label)) column
    → HasEntriesTo p adding from (targets ++ origins_with (code_in adding) (scan_in adding) object smoothing) column
entries-all p adding from targets object smoothing label split column at all has =
    subst (λ xs. HasEntriesTo p adding from (targets ++ xs) column) (origins-split adding object smoothing split at)
    (subst (λ n. HasEntriesTo p adding from (targets ++ map (origin_of object smoothing) (range_with_len 0 n)) column) all has)

pub entries-none : (p : ℕ) (adding : Adding) (from : Origin) (targets : List Origin) (column : List Entry)
    → HasEntriesTo p adding from targets column → HasEntriesTo p adding from (targets ++ []) column
entries-none p adding from targets column has = subst (λ xs. HasEntriesTo p adding from xs column) (sym (append-none targets)) has

-- along an old map to an object that is not there, or is
pub along-dead : (p : ℕ) (adding : Adding) (from : Origin) (targets : List Origin) (column : List Entry) (smoothing head : ℕ)
    → is_alive_at (objects_in adding) head ≡ false → HasEntriesTo p adding from targets column
    → HasEntriesTo p adding from (targets ++ targets_along adding smoothing head) column
along-dead p adding from targets column smoothing head dead has =
    subst
    (λ b. HasEntriesTo p adding from (targets ++ cond b (origins_with (code_in adding) (scan_in adding) head smoothing) []) column)
    (sym dead) (entries-none p adding from targets column has)

pub along-alive : {T E : Type 0} (r : Result T E) (p : ℕ) (adding : Adding) (from : Origin) (targets : List Origin) (column : List Entry)
    (smoothing head place : ℕ) → is_alive_at (objects_in adding) place ≡ true → place ≡ head
    → OnOk r (HasEntriesTo p adding from (targets ++ origins_with (code_in adding) (scan_in adding) place smoothing) column)
    → OnOk r (HasEntriesTo p adding from (targets ++ targets_along adding smoothing head) column)
along-alive r p adding from targets column smoothing head place alive same made =
    subst (λ x. OnOk r (HasEntriesTo p adding from (targets ++ targets_along adding smoothing x) column)) same
    (subst
    (λ b.
    OnOk r
    (HasEntriesTo p adding from (targets ++ cond b (origins_with (code_in adding) (scan_in adding) place smoothing) []) column))
    (sym alive) made)

pub entries-next : (p : ℕ) (adding : Adding) (from : Origin) (f : ℕ → List Origin) (entries : List Entry) (k : ℕ) (entry : Entry)
    (column : List Entry) → k < length entries → entry ≡ get_or entries k entry
    → HasEntriesTo p adding from (flat_map f (map head_of (take k entries)) ++ f entry.head) column
    → HasEntriesTo p adding from (flat_map f (map head_of (take (k + 1) entries))) column
entries-next p adding from f entries k entry column within is has =
    subst (λ xs. HasEntriesTo p adding from xs column) (heads-more f head_of entries k entry within)
    (subst (λ (e : Entry). HasEntriesTo p adding from (flat_map f (map head_of (take k entries)) ++ f e.head) column) is has)

-- saddles, where there are any
pub saddles-zero : {T E : Type 0} (r : Result T E) (p : ℕ) (adding : Adding) (from : Origin) (targets : List Origin) (column : List Entry)
    (place : ℕ) → from.smoothing ≡ 0 → from.object ≡ place
    → OnOk r (HasEntriesTo p adding from (targets ++ origins_with (code_in adding) (scan_in adding) place 1) column)
    → OnOk r (HasEntriesTo p adding from (targets ++ saddle_targets adding from) column)
saddles-zero r p adding from targets column place zero same made =
    subst
    (λ b.
    OnOk r
    (HasEntriesTo p adding from (targets ++ cond b (origins_with (code_in adding) (scan_in adding) from.object 1) []) column))
    (sym (eq-eqb from.smoothing 0 zero))
    (subst
    (λ x. OnOk r (HasEntriesTo p adding from (targets ++ origins_with (code_in adding) (scan_in adding) x 1) column))
    (sym same) made)

pub saddles-one : (p : ℕ) (adding : Adding) (from : Origin) (targets : List Origin) (column : List Entry) → from.smoothing ≢ 0
    → HasEntriesTo p adding from targets column → HasEntriesTo p adding from (targets ++ saddle_targets adding from) column
saddles-one p adding from targets column one has =
    subst
    (λ b. HasEntriesTo p adding from (targets ++ cond b (origins_with (code_in adding) (scan_in adding) from.object 1) []) column)
    (sym (ne_eqb from.smoothing 0 one)) (entries-none p adding from targets column has)
