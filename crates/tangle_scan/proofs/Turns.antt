-- Columns cleared one after another. Each is cleared, or as it was and none of those that were named so far: a second visit finds no entry
-- to the pivot's head, and leaves the column as it is.
use Rattle.std.proofs.Common.{◌≡◌, ◌≢◌, ℕ, inl, inr, ◌+◌, ◌<◌, ◌∙◌, List, [], ◌∷◌, ◌++◌, get_or, set, take, length, map, refl, sym, subst, ap, arith}
use Rattle.std.specs.List.{Contains}
use Rattle.std.specs.Global.{Vec}
use Rattle.std.proofs.lemmas.Bool.{cases_eq}
use Rattle.std.proofs.lemmas.List.{get_or-map, get_or-set_other, get_or-set_same, length-map, length-set, map-set, take_more}
use Rattle.std.proofs.lemmas.List.Elements.{Contains-push_cases}
use Rattle.tangle_scan.specs.declared.clearing.turns.Turn.{Turn}
use Rattle.tangle_scan.specs.declared.complex.Entry.{Entry}
use Rattle.tangle_scan.specs.declared.complex.Object.{Object}
use Rattle.tangle_scan.specs.Held.{IsColumn}
use Rattle.tangle_scan.specs.Eliminations.{AreCleared, AreColumns, AreMore, HasHead, IsCleared, IsClearStep, IsClearedOr, IsNoted, column_in}
use Rattle.tangle_scan.proofs.NotedRows.{noted-kept}

abbrev pub entries : Vec Entry → List Entry
entries column = column.items

pub column-here : (columns : List (Vec Entry)) (x : ℕ) (column : Vec Entry) → x < length columns
    → column_in (set columns x column) x ≡ column.items
column-here columns x column within =
    ap (λ (xs : List (List Entry)). get_or xs x []) (map-set entries columns x column)
    ∙ get_or-set_same (map entries columns) x column.items [] (omega (arith, within, length-map columns entries))

pub column-other : (columns : List (Vec Entry)) (x z : ℕ) (column : Vec Entry) → z ≢ x
    → column_in (set columns x column) z ≡ column_in columns z
column-other columns x z column other =
    ap (λ (xs : List (List Entry)). get_or xs z []) (map-set entries columns x column)
    ∙ get_or-set_other (map entries columns) x z column.items [] other

pub column-at : (columns : List (Vec Entry)) (x : ℕ) (d : Vec Entry) → x < length columns → column_in columns x ≡ (get_or columns x d).items
column-at columns x d within = get_or-map entries columns x d [] within

-- one column that changed, among the others
pub columns-set : (p : ℕ) (objects : List Object) (columns : List (Vec Entry)) (old new : List (Vec ℕ)) (x : ℕ) (column : Vec Entry)
    → AreColumns p objects columns old → x < length columns → IsColumn p (length objects) column.items → AreMore old new
    → IsNoted objects new x column.items → AreColumns p objects (set columns x column) new
columns-set p objects columns old new x column are within is more noted =
    record {
      size = length-set columns x column ∙ are.size;
      rows_size = more.size ∙ are.rows_size;
      each = λ z below. elim (cases_eq z x) [
        | inl same ↦
            subst (λ (w : ℕ). IsColumn p (length objects) (column_in (set columns x column) w)) (sym same)
            (subst (IsColumn p (length objects)) (sym (column-here columns x column within)) is)
        | inr other ↦ subst (IsColumn p (length objects)) (sym (column-other columns x z column other)) (are.each z below)
      ];
      noted = λ z below. elim (cases_eq z x) [
        | inl same ↦
            subst (λ (w : ℕ). IsNoted objects new w (column_in (set columns x column) w)) (sym same)
            (subst (IsNoted objects new x) (sym (column-here columns x column within)) noted)
        | inr other ↦
            subst (IsNoted objects new z) (sym (column-other columns x z column other))
            (noted-kept objects old new z (column_in columns z) (column_in columns z) more (λ y has. has) (are.noted z below))
      ];
    }

pub step-set : (p : ℕ) (turn : Turn) (columns : List (Vec Entry)) (x : ℕ) (column : Vec Entry) → x < length columns
    → IsCleared p turn x (column_in columns x) column.items
    → ((HasHead (column_in columns x) turn.pivot.head → ⊥) → column.items ≡ column_in columns x)
    → IsClearStep p turn x columns (set columns x column)
step-set p turn columns x column within cleared idle =
    let here = column-here columns x column within in
    record {
      cleared = λ below. subst (IsCleared p turn x (column_in columns x)) (sym here) cleared;
      idle = λ none. here ∙ idle none;
      others = λ z other. column-other columns x z column other;
    }

pub step-none : (p : ℕ) (turn : Turn) (columns : List (Vec Entry)) (x : ℕ) → length columns ≡ length turn.objects.now
    → (x < length columns → ⊥) → IsClearStep p turn x columns columns
step-none p turn columns x size past =
    record { cleared = λ below. absurd (past (omega (arith, below, size))); idle = λ none. refl; others = λ z other. refl }

pub cleared-start : (p : ℕ) (turn : Turn) (columns : List (Vec Entry)) → AreCleared p turn [] columns columns
cleared-start p turn columns x below = inr (refl, λ has. omega (arith, has.1))

pub cleared-more : (p : ℕ) (turn : Turn) (named : List ℕ) (k x : ℕ) (old middle new : List (Vec Entry)) → k < length named
    → x ≡ get_or named k x → AreCleared p turn (take k named) old middle → IsClearStep p turn x middle new
    → AreCleared p turn (take (k + 1) named) old new
cleared-more p turn named k x old middle new within is before step z below = elim (cases_eq z x) [
  | inl same ↦ subst (λ (w : ℕ). IsClearedOr p turn (take (k + 1) named) w (column_in old w) (column_in new w)) (sym same)
      (inl (here (subst (λ (w : ℕ). w < length turn.objects.now) same below)))
  | inr other ↦
      let stays = step.others z other in
      elim (before z below) [
        | inl cleared ↦ inl (subst (IsCleared p turn z (column_in old z)) (sym stays) cleared)
        | inr kept ↦
            inr (
              stays ∙ kept.0,
              λ has. elim (Contains-push_cases (take k named) x z
                  (subst (λ (xs : List ℕ). Contains xs z)
                  (take_more named k x within ∙ ap (λ (y : ℕ). take k named ++ y ∷ []) (sym is)) has)) [
                    | inl earlier ↦ kept.1 earlier
                    | inr now ↦ other (sym now)
                  ],
            )
      ]
]
  where
    here : x < length turn.objects.now → IsCleared p turn x (column_in old x) (column_in new x)
    here x_below = elim (before x x_below) [
      | inl cleared ↦ subst (IsCleared p turn x (column_in old x)) (sym (step.idle cleared.gone)) cleared
      | inr kept ↦
          subst (λ (column : List Entry). IsCleared p turn x column (column_in new x)) kept.0 (step.cleared x_below)
    ]
