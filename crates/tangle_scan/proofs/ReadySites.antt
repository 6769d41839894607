-- The site of a front's next crossing.
use Rattle.std.proofs.Common.{◌≡◌, ℕ, ◌+◌, ◌<◌, ◌∙◌, List, [], length, sym, subst, ap₂}
use Rattle.std.specs.Prelude.{slice_index_or}
use Rattle.kh_types.specs.Code.{Code}
use Rattle.added_crossing_laws.specs.Codes.{points_at, step_at}
use Rattle.added_crossing_laws.specs.Steps.{near}
use Rattle.tangle_maps.specs.declared.pairing.TheConstants.{POINTS}
use Rattle.crossing_maps.specs.ListedPlaces.{IsArcs}
use Rattle.crossing_maps.specs.Partners.{HasArcsBelow}
use Rattle.crossing_maps.specs.Sites.{IsPlace}
use Rattle.crossing_maps.proofs.PlaceLaws.{near-arcs, opened-arcs, slots-below}
use Rattle.tangle_scan.specs.declared.adding.Adding.{Adding}
use Rattle.tangle_scan.specs.declared.complex.Front.{Front}
use Rattle.tangle_scan.specs.Additions.{IsNextFront, IsReady, code_in, done_in}
use Rattle.tangle_scan.specs.Held.{IsComplexAt, IsFront}

pub place-of : (front : Front) → IsFront front → front.done < length front.diagram.crossings → IsPlace front.diagram front.done
place-of front is more = record { twice = is.twice; crossing = more; fits = is.fits }

pub ready-made : (p : ℕ) (adding : Adding) (next : Front) → IsFront adding.front.now → done_in adding < length (code_in adding).crossings
    → IsNextFront adding.front.now next → IsComplexAt p adding.front.now adding.complex.now
    → adding.site.opened.now ≡ adding.front.now.opened.items → adding.site.near.now ≡ near (step_at (code_in adding) (done_in adding))
    → adding.site.next.now ≡ next.opened.items
    → adding.site.crossing.now ≡ slice_index_or (code_in adding).crossings (done_in adding) [] → IsReady adding
ready-made p adding next front more behind complex opened around after crossing =
    let code = code_in adding in
    let k = done_in adding in
    let place = place-of adding.front.now front more in
    let before : adding.site.opened.now ≡ (points_at code k).opened = opened ∙ front.open_arcs in
    let open_next : adding.site.next.now ≡ (points_at code (k + 1)).opened =
    after ∙ behind.there.open_arcs ∙ ap₂ (λ (c : Code) (n : ℕ). (points_at c n).opened) behind.diagram behind.done in
    record {
      front = front;
      objects = complex.objects;
      place = place;
      site = record { before = before; here = around; behind = open_next; crossing = crossing };
      opened = opened;
      arcs = record {
        opened = subst (λ (xs : List ℕ). IsArcs POINTS xs) (sym before) (opened-arcs code k k place);
        near = subst (λ (xs : List ℕ). IsArcs POINTS xs) (sym around) (near-arcs code k place);
        next = subst (λ (xs : List ℕ). IsArcs POINTS xs) (sym open_next) (opened-arcs code k (k + 1) place);
        crossing = subst (λ (xs : List ℕ). HasArcsBelow POINTS xs) (sym crossing) (λ slot below. slots-below code k place slot below);
      };
    }
