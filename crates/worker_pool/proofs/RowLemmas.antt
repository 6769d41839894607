-- Rows of seats that gain or lose one each.
use Rattle.std.proofs.Common.{◌≡◌, ℕ, ◌+◌, ◌<◌, List, [], ◌∷◌, ◌++◌, length, map, take, drop, get_or, All, sym, ap, subst, arith, append_assoc, length-append, ◌∙◌}
use Rattle.std.specs.Prelude.{reverse}
use Rattle.std.specs.Global.{Vec}
use Rattle.std.specs.List.{AllZip}
use Rattle.std.proofs.lemmas.List.Elements.{All-push, AllZip-get_or, length_all_zip}
use Rattle.std.proofs.lemmas.List.{drop_all, map-append, reverse-append}
use Rattle.std.proofs.Math.ListN.{set, get_or-append}
use Rattle.std.proofs.Math.Seq.{get_or-append_seam, take-append_seam}
use Rattle.version_lock.specs.Calls.{LockFacts, SeatFacts, IsSeatOf}
use Rattle.worker_pool.specs.Rows.{AreSeated, EndsAt, Gains, IsOneSeatOf, IsRowOf, Loses}
use Rattle.worker_pool.proofs.Zips.{zip_at, zip_set, zip_push, zip_last, zip_ends}

-- what a slice of all items wrote
pub written : {A : Type 0} (n : ℕ) (xs ys : List A) → n ≡ length ys → length xs ≡ length ys → take n (xs ++ drop (length xs) ys) ≡ xs
written n xs ys e size =
    let f : n ≡ length xs = omega arith in
    let none : drop (length xs) ys ≡ [] = drop_all (length xs) ys (omega arith) in
    rw none (rw f (take-append_seam xs []))

-- of the origins one more, where the values have one less
pub origins_more : {A O : Type 0} (origin : A → O) (origins more whole : List O) (values rest : List A) (value : A)
    → origins ++ reverse (map origin values) ≡ whole → values ≡ rest ++ value ∷ [] → more ≡ origins ++ origin value ∷ []
    → more ++ reverse (map origin rest) ≡ whole
origins_more origin origins more whole values rest value h e f =
    ap (λ (front : List _). front ++ reverse (map origin rest)) f
    ∙ append_assoc origins (origin value ∷ []) (reverse (map origin rest))
    ∙ sym (ap (λ (back : List _). origins ++ back)
    (ap (λ (xs : List _). reverse (map origin xs)) e ∙ ap reverse (map-append origin rest (value ∷ []))
    ∙ reverse-append (map origin rest) (origin value ∷ [])))
    ∙ h

-- the origins of all are those of the first, and that of the last
pub origins_push : {A O : Type 0} (origin_of : A → O) (all front : List A) (last : A) (origin : O) → all ≡ front ++ last ∷ []
    → origin_of last ≡ origin → map origin_of all ≡ map origin_of front ++ origin ∷ []
origins_push origin_of all front last origin e is =
    ap (map origin_of) e ∙ map-append origin_of front (last ∷ []) ∙ ap (λ (o : _). map origin_of front ++ o ∷ []) is

seats_more : {O : Type 0} (n : ℕ) (locks : List (LockFacts O)) (lock : LockFacts O) → All (λ l. l.seats ≡ n) locks → lock.seats ≡ n
    → All (λ l. l.seats ≡ n) (locks ++ lock ∷ [])
seats_more n locks lock h e = All-push (λ l. l.seats ≡ n) locks lock h e

module _ {O E : Type 0} where
  -- the seat of a row at one place
  pub seat_there : (locks : List (LockFacts O)) (row : List (SeatFacts O E)) (k : ℕ) (lock : LockFacts O) (seat : SeatFacts O E)
      → IsRowOf locks row → k < length locks → lock ≡ get_or locks k lock → IsOneSeatOf lock (get_or row k seat)
  seat_there locks row k lock seat h lt e = subst (λ l. IsOneSeatOf l (get_or row k seat)) (sym e) (zip_at IsOneSeatOf locks row k lock seat h lt)

  -- a row with the seat at one place replaced by one of the same lock with the same share
  pub row_set : (locks : List (LockFacts O)) (row : List (SeatFacts O E)) (k : ℕ) (lock : LockFacts O) (seat after : SeatFacts O E)
      → IsRowOf locks row → k < length locks → lock ≡ get_or locks k lock → IsSeatOf lock after → after.share ≡ (get_or row k seat).share
      → IsRowOf locks (set row k after)
  row_set locks row k lock seat after h lt e belongs share =
      let one = seat_there locks row k lock seat h lt e in
      zip_set IsOneSeatOf locks row k lock after h (subst (λ l. IsOneSeatOf l after) e record { belongs = belongs; share = share ∙ one.share })

  gained : (locks : List (LockFacts O)) (lock : LockFacts O) (xs ys : List (Vec (SeatFacts O E))) → AllZip (Gains lock) xs ys
      → All (λ row. IsRowOf locks row.items) xs → All (λ row. IsRowOf (locks ++ lock ∷ []) row.items) ys
  gained locks lock xs ys z h k d lt =
      let size = length_all_zip (Gains lock) xs ys z in
      let below : k < length xs = omega arith in
      let one = AllZip-get_or (Gains lock) xs ys k d d z below in
      subst (λ row. IsRowOf (locks ++ lock ∷ []) row) (sym one.gained) (zip_push IsOneSeatOf locks (get_or xs k d).items lock one.seat (h k d below) one.is_one)

  lost : (locks : List (LockFacts O)) (lock : LockFacts O) (xs ys : List (Vec (SeatFacts O E))) → AllZip (Loses lock) xs ys
      → All (λ row. IsRowOf (locks ++ lock ∷ []) row.items) xs → All (λ row. IsRowOf locks row.items) ys
  lost locks lock xs ys z h k d lt =
      let size = length_all_zip (Loses lock) xs ys z in
      let below : k < length xs = omega arith in
      let one = AllZip-get_or (Loses lock) xs ys k d d z below in
      (zip_last IsOneSeatOf locks lock (get_or ys k d).items one.seat (subst (λ row. IsRowOf (locks ++ lock ∷ []) row) one.gained (h k d below))).0

  -- of rows at these locks and one more, each ends at that one
  pub ending : (locks : List (LockFacts O)) (lock : LockFacts O) (rows : List (Vec (SeatFacts O E)))
      → All (λ row. IsRowOf (locks ++ lock ∷ []) row.items) rows → All (EndsAt lock) rows
  ending locks lock rows h k d lt =
      let t = zip_ends IsOneSeatOf locks lock (get_or rows k d).items (h k d lt) in record { front = t.0; seat = t.1; is_one = t.4; parts = t.2 }

  -- a lock more, at which each row has gained a seat
  pub seated_more : (locks : List (LockFacts O)) (lock : LockFacts O) (kept : List (SeatFacts O E)) (seat : SeatFacts O E)
      (xs ys : List (Vec (SeatFacts O E))) → AreSeated locks kept xs → AllZip (Gains lock) xs ys → IsOneSeatOf lock seat → lock.seats ≡ length xs + 1
      → AreSeated (locks ++ lock ∷ []) (kept ++ seat ∷ []) ys
  seated_more locks lock kept seat xs ys h z one e =
      let size = length_all_zip (Gains lock) xs ys z in record {
        caller = zip_push IsOneSeatOf locks kept lock seat h.caller one;
        workers = gained locks lock xs ys z h.workers;
        seats = subst (λ n. All (λ l. l.seats ≡ n + 1) (locks ++ lock ∷ [])) size (seats_more (length xs + 1) locks lock h.seats e);
      }

  pub seated_after_deal : (locks all : List (LockFacts O)) (lock : LockFacts O) (kept both : List (SeatFacts O E)) (seat : SeatFacts O E)
      (xs now ys : List (Vec (SeatFacts O E))) (n : ℕ) → AreSeated locks kept xs → now ≡ xs → length now ≡ n → AllZip (Gains lock) now ys
      → IsOneSeatOf lock seat → lock.seats ≡ length xs + 1 → all ≡ locks ++ lock ∷ [] → both ≡ kept ++ seat ∷ []
      → AreSeated all both (take n (ys ++ drop (length ys) xs))
  seated_after_deal locks all lock kept both seat xs now ys n h same size z one e f k =
      let whole = subst (λ zs. AllZip (Gains lock) zs ys) same z in
      let long = length_all_zip (Gains lock) xs ys whole in
      let count = ap length same in
      rw (f, k, written n ys xs (omega arith) (omega arith)) (seated_more locks lock kept seat xs ys h whole one e)

  -- the last of many locks, with the caller's seat there
  pub record IsLast (locks : List (LockFacts O)) (lock : LockFacts O) (kept : List (SeatFacts O E)) (seat : SeatFacts O E)
      (rows : List (Vec (SeatFacts O E))) : Type 0 where
    pub one : IsOneSeatOf lock seat
    pub caller : IsRowOf locks kept
    pub ends : All (EndsAt lock) rows
    pub workers : All (λ row. IsRowOf (locks ++ lock ∷ []) row.items) rows
    pub seats : lock.seats ≡ length rows + 1
    pub others : All (λ l. l.seats ≡ length rows + 1) locks

  pub last_of : (all locks : List (LockFacts O)) (lock : LockFacts O) (both kept : List (SeatFacts O E)) (seat : SeatFacts O E)
      (rows : List (Vec (SeatFacts O E))) → AreSeated all both rows → all ≡ locks ++ lock ∷ [] → both ≡ kept ++ seat ∷ []
      → IsLast locks lock kept seat rows
  last_of all locks lock both kept seat rows h e f =
      let here = subst (λ ls. All (λ l. l.seats ≡ length rows + 1) ls) e h.seats in
      let pair = zip_last IsOneSeatOf locks lock kept seat (subst (λ row. IsRowOf (locks ++ lock ∷ []) row) f (subst (λ ls. IsRowOf ls both) e h.caller)) in
      let workers = subst (λ ls. All (λ row. IsRowOf ls row.items) rows) e h.workers in
      record {
        one = pair.1;
        caller = pair.0;
        ends = ending locks lock rows workers;
        workers = workers;
        seats = subst (λ l. l.seats ≡ length rows + 1) (get_or-append_seam locks lock [] lock) (here (length locks) lock (omega (arith, length-append locks (lock ∷ []))));
        others = λ k d lt. subst (λ l. l.seats ≡ length rows + 1) (get_or-append locks (lock ∷ []) d k lt)
            (here k d (omega (arith, lt, length-append locks (lock ∷ []))));
      }

  -- a lock less, at which each row has lost its seat
  pub seated_fewer : (locks : List (LockFacts O)) (lock : LockFacts O) (kept : List (SeatFacts O E)) (seat : SeatFacts O E)
      (xs ys : List (Vec (SeatFacts O E))) → IsLast locks lock kept seat xs → AllZip (Loses lock) xs ys → AreSeated locks kept ys
  seated_fewer locks lock kept seat xs ys h z =
      let size = length_all_zip (Loses lock) xs ys z in record {
        caller = h.caller;
        workers = lost locks lock xs ys z h.workers;
        seats = subst (λ n. All (λ l. l.seats ≡ n + 1) locks) size h.others;
      }

  pub seated_after_gather : (locks : List (LockFacts O)) (lock : LockFacts O) (kept : List (SeatFacts O E)) (seat : SeatFacts O E)
      (xs now ys : List (Vec (SeatFacts O E))) (n : ℕ) → IsLast locks lock kept seat xs → now ≡ xs → length now ≡ n → AllZip (Loses lock) now ys
      → AreSeated locks kept (take n (ys ++ drop (length ys) xs))
  seated_after_gather locks lock kept seat xs now ys n h same size z =
      let whole = subst (λ zs. AllZip (Loses lock) zs ys) same z in
      let long = length_all_zip (Loses lock) xs ys whole in
      let count = ap length same in
      rw (written n ys xs (omega arith) (omega arith)) (seated_fewer locks lock kept seat xs ys h whole)

  pub seated_after_work : (locks : List (LockFacts O)) (kept : List (SeatFacts O E)) (xs now ys : List (Vec (SeatFacts O E))) (n : ℕ)
      → AreSeated locks kept xs → now ≡ xs → length now ≡ n → length ys ≡ length now → All (λ row. IsRowOf locks row.items) ys
      → AreSeated locks kept (take n (ys ++ drop (length ys) xs))
  seated_after_work locks kept xs now ys n h same size long rows =
      let count = ap length same in
      rw (written n ys xs (omega arith) (omega arith)) record {
        caller = h.caller;
        workers = rows;
        seats = subst (λ k. All (λ l. l.seats ≡ k + 1) locks) (sym (long ∙ count)) h.seats;
      }
