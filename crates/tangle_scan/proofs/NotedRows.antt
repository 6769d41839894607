-- What naming a column in a row, and taking the names out of one, make of the rows.
use Rattle.std.proofs.Common.{◌≡◌, ◌≢◌, ℕ, ◌⊎◌, inl, inr, ◌+◌, ◌<◌, ◌∙◌, List, [], ◌∷◌, ◌++◌, get_or, set, take, length, map, refl, sym, subst, ap, arith, Bool, true, false}
use Rattle.std.specs.List.{Contains}
use Rattle.std.specs.Global.{Vec}
use Rattle.std.proofs.lemmas.Bool.{cases_Bool, cases_eq}
use Rattle.std.proofs.lemmas.List.{get_or-map, get_or-set_other, get_or-set_same, length-map, length-set, map-append, map-set, take_more}
use Rattle.std.proofs.lemmas.List.Elements.{Contains-append_left, Contains-push, Contains-push_cases}
use Rattle.dotted_maps.specs.declared.term.Term.{Term}
use Rattle.tangle_scan.specs.declared.complex.Entry.{Entry}
use Rattle.tangle_scan.specs.declared.complex.Object.{Object}
use Rattle.tangle_scan.specs.Held.{is_alive_at}
use Rattle.tangle_scan.specs.Eliminations.{AreMore, HasHead, HasHeadsOf, IsChanged, IsNoted, named_in}

abbrev pub names : Vec ℕ → List ℕ
names row = row.items

pub named-here : (rows : List (Vec ℕ)) (y : ℕ) (row : Vec ℕ) → y < length rows → named_in (set rows y row) y ≡ row.items
named-here rows y row within =
    ap (λ (xs : List (List ℕ)). get_or xs y []) (map-set names rows y row)
    ∙ get_or-set_same (map names rows) y row.items [] (omega (arith, within, length-map rows names))

pub named-other : (rows : List (Vec ℕ)) (y z : ℕ) (row : Vec ℕ) → z ≢ y → named_in (set rows y row) z ≡ named_in rows z
named-other rows y z row other =
    ap (λ (xs : List (List ℕ)). get_or xs z []) (map-set names rows y row)
    ∙ get_or-set_other (map names rows) y z row.items [] other

pub named-at : (rows : List (Vec ℕ)) (y : ℕ) (d : Vec ℕ) → y < length rows → named_in rows y ≡ (get_or rows y d).items
named-at rows y d within = get_or-map names rows y d [] within

-- one name more
pub noted-there : (rows : List (Vec ℕ)) (y x : ℕ) (row : Vec ℕ) → y < length rows → row.items ≡ named_in rows y ++ x ∷ []
    → Contains (named_in (set rows y row) y) x
noted-there rows y x row within is =
    subst (λ (xs : List ℕ). Contains xs x) (sym (named-here rows y row within ∙ is)) (Contains-push (named_in rows y) x)

pub more-noted : (rows : List (Vec ℕ)) (y x : ℕ) (row : Vec ℕ) → y < length rows → row.items ≡ named_in rows y ++ x ∷ []
    → AreMore rows (set rows y row)
more-noted rows y x row within is =
    record {
      size = length-set rows y row;
      kept = λ z w has. elim (cases_eq z y) [
        | inl same ↦
            subst (λ (v : ℕ). Contains (named_in (set rows y row) v) w) (sym same)
            (subst (λ (xs : List ℕ). Contains xs w) (sym (named-here rows y row within ∙ is))
            (Contains-append_left (named_in rows y) (x ∷ []) w (subst (λ (v : ℕ). Contains (named_in rows v) w) same has)))
        | inr other ↦ subst (λ (xs : List ℕ). Contains xs w) (sym (named-other rows y z row other)) has
      ];
    }

pub more-same : (rows : List (Vec ℕ)) → AreMore rows rows
more-same rows = record { size = refl; kept = λ y x has. has }

pub more-both : (first second third : List (Vec ℕ)) → AreMore first second → AreMore second third → AreMore first third
more-both first second third more rest =
    record { size = rest.size ∙ more.size; kept = λ y x has. rest.kept y x (more.kept y x has) }

-- a column stays noted where rows name more, and it has no new head
pub noted-kept : (objects : List Object) (old new : List (Vec ℕ)) (x : ℕ) (before after : List Entry) → AreMore old new
    → HasHeadsOf before after → IsNoted objects old x before → IsNoted objects new x after
noted-kept objects old new x before after more heads noted y alive has = more.kept y x (noted y alive (heads y has))

-- heads noted one by one
pub heads-more : (column : List Entry) (k : ℕ) (entry : Entry) (y : ℕ) → k < length column → entry ≡ get_or column k entry
    → HasHead (take (k + 1) column) y → HasHead (take k column) y ⊎ (entry.head ≡ y)
heads-more column k entry y within is has =
    Contains-push_cases (map (λ (e : Entry). e.head) (take k column)) entry.head y
    (subst (λ (zs : List ℕ). Contains zs y)
    (ap (map (λ (e : Entry). e.head))
    (take_more column k entry within ∙ ap (λ (e : Entry). take k column ++ e ∷ []) (sym is))
    ∙ map-append (λ (e : Entry). e.head) (take k column) (entry ∷ [])) has)

-- a column that changed at y, and is noted there if its heads are not the same
pub noted-if : (Next : List Term → List Term → Type 0) (objects : List Object) (old new : List (Vec ℕ)) (p x y : ℕ)
    (before after : List Entry) (is_new : Bool) → IsChanged Next (Unit {0}) p y before after → (is_new ≡ false → HasHeadsOf before after)
    → (is_new ≡ true → Contains (named_in new y) x) → AreMore old new → IsNoted objects old x before → IsNoted objects new x after
noted-if Next objects old new p x y before after is_new changed same there more noted z alive has = elim (cases_Bool is_new) [
  | inr fails ↦ more.kept z x (noted z alive (same fails z has))
  | inl passes ↦ elim (changed.heads z has) [
    | inl earlier ↦ more.kept z x (noted z alive earlier)
    | inr now ↦ subst (λ (v : ℕ). Contains (named_in new v) x) (sym now.0) (there passes)
  ]
]

-- a change that happens, if something holds
pub changed-if : (Next : List Term → List Term → Type 0) (MayBe : Type 0) (p y : ℕ) (old new : List Entry) → MayBe
    → IsChanged Next (Unit {0}) p y old new → IsChanged (λ first second. MayBe → Next first second) MayBe p y old new
changed-if Next MayBe p y old new holds is =
    record {
      here = λ again. is.here;
      others = is.others;
      heads = λ z has. elim (is.heads z has) [ inl before ↦ inl before | inr now ↦ inr (now.0, holds) ];
      column = is.column;
    }

-- whether the object at a place is there, as it is read
pub alive-read : (objects : List Object) (x : ℕ) (object : Object) → x < length objects → object ≡ get_or objects x object
    → is_alive_at objects x ≡ object.is_alive
alive-read objects x object within is =
    get_or-map (λ (o : Object). o.is_alive) objects x object false within ∙ ap (λ (o : Object). o.is_alive) (sym is)
