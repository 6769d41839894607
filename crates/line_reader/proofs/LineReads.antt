-- How far a source is read for a line.
use Rattle.std.proofs.Common.{◌≡◌, ◌≢◌, ◌⊎◌, ◌||◌, Bool, true, false, inl, inr, ℕ, ◌+◌, ◌≤◌, ◌<◌, List, [], ◌∷◌, ◌++◌, length, refl, sym, subst, ap, ◌∙◌, append_assoc, append-nil, Option, None, Some, arith}
use Rattle.std.proofs.lemmas.Bool.Decides.{nat_tests}
use Rattle.std.proofs.lemmas.List.{length-append}
use Rattle.std.proofs.lemmas.List.Folds.{list_any-append}
use Rattle.std.specs.List.{list_any}
use Rattle.std.specs.Io.KnownBytes.{Consumes}
use Rattle.kh_io.proofs.KnownBytes.{Consumes-trans}
use Rattle.kh_io.specs.declared.limits.TheConstants.{READ_BYTES}
use Rattle.kh_lex.specs.Lines.{HasNoLineFeed, is_line_feed}
use Rattle.line_reader.specs.Advances.{IsAdvanced, IsNextByte, IsReadForLine, IsTakenFrom}
use Rattle.line_reader.proofs.Taken.{Consumes-none, IsAdvanced-trans, given-trans}

-- a source is read for a line, of which this part was taken, and each read gave a byte or more
pub record IsPartRead {S : Type 0} (left : S → Option (List ℕ)) (reads : S → ℕ) (before now : List ℕ) (first source : S) (part : List ℕ) : Type 0 where
  pub taken : IsAdvanced before now (left first) (left source) part
  pub count : reads source ≤ reads first + length taken.given
  pub read : (source ≡ first) ⊎ IsReadForLine before now (left first) (left source) (reads first) (reads source)

-- so many bytes, one at most, were taken behind it: of the buffered ones, or, where there were none, of one read
pub record IsOneTaken {S : Type 0} (left : S → Option (List ℕ)) (reads : S → ℕ) (now next : List ℕ) (source later : S) (bytes : List ℕ) : Type 0 where
  pub taken : IsAdvanced now next (left source) (left later) bytes
  pub one : length bytes ≤ 1
  pub unread : now ≢ [] → later ≡ source
  pub buffered : now ≢ [] → now ≡ bytes ++ next
  pub size : length next < READ_BYTES
  pub reads_one : reads later ≤ reads source + 1

-- the next byte was taken
pub IsOneTaken-byte : {S U : Type 0} (left : S → Option (List ℕ)) (reads : S → ℕ) (now next : List ℕ) (source later : S) (found : Option ℕ) (byte : ℕ)
    → found ≡ Some byte → IsNextByte now next (left source) (left later) found → (now ≢ [] → later ≡ source)
    → (now ≢ [] → U × IsTakenFrom now next found) → length next < READ_BYTES → reads later ≤ reads source + 1
    → IsOneTaken left reads now next source later (byte ∷ [])
IsOneTaken-byte left reads now next source later found byte is taken unread buffered size reads_one = record {
  taken = subst (IsNextByte now next (left source) (left later)) is taken;
  one = omega arith;
  unread = unread;
  buffered = λ some. subst (IsTakenFrom now next) is (buffered some).1;
  size = size;
  reads_one = reads_one;
}

-- there was none
pub IsOneTaken-none : {S U : Type 0} (left : S → Option (List ℕ)) (reads : S → ℕ) (now next : List ℕ) (source later : S)
    → IsAdvanced now next (left source) (left later) [] → (now ≢ [] → later ≡ source)
    → (now ≢ [] → U × (now ≡ []) × (next ≡ [])) → length next < READ_BYTES → reads later ≤ reads source + 1
    → IsOneTaken left reads now next source later []
IsOneTaken-none left reads now next source later taken unread buffered size reads_one = record {
  taken = taken;
  one = omega arith;
  unread = unread;
  buffered = λ some. absurd (some (buffered some).1);
  size = size;
  reads_one = reads_one;
}

-- the source failed
pub IsOneTaken-failed : {S V : Type 0} (left : S → Option (List ℕ)) (reads : S → ℕ) (now next : List ℕ) (source later : S)
    → IsAdvanced now next (left source) (left later) [] → (now ≢ [] → later ≡ source)
    → (now ≢ [] → (false ≡ true) × V) → length next < READ_BYTES → reads later ≤ reads source + 1
    → IsOneTaken left reads now next source later []
IsOneTaken-failed left reads now next source later taken unread buffered size reads_one = record {
  taken = taken;
  one = omega arith;
  unread = unread;
  buffered = λ some. let wrong : false ≡ true = (buffered some).0 in cc;
  size = size;
  reads_one = reads_one;
}

-- nothing is taken yet
pub IsPartRead-none : {S : Type 0} (left : S → Option (List ℕ)) (reads : S → ℕ) (before : List ℕ) (first : S)
    → IsPartRead left reads before before first first []
IsPartRead-none left reads before first = record {
  taken = record {
    given = [];
    consumed = Consumes-none (left first);
    same = append-nil before;
  };
  count = omega arith;
  read = inl refl;
}

-- bytes that were buffered are taken
IsReadForLine-buffered : {S : Type 0} (left : S → Option (List ℕ)) (reads : S → ℕ) (before now next : List ℕ) (first source later : S) (bytes : List ℕ)
    → later ≡ source → now ≡ bytes ++ next
    → (source ≡ first) ⊎ IsReadForLine before now (left first) (left source) (reads first) (reads source)
    → (later ≡ first) ⊎ IsReadForLine before next (left first) (left later) (reads first) (reads later)
IsReadForLine-buffered left reads before now next first source later bytes same is (inl none) = inl (same ∙ none)
IsReadForLine-buffered left reads before now next first source later bytes same is (inr read) = inr (record {
  earlier = read.earlier;
  last = read.last;
  consumed = subst (λ s. Consumes (left first) (left s) (read.earlier ++ read.last)) (sym same) read.consumed;
  none = read.none;
  rest = (read.rest.0 ++ bytes, read.rest.1 ∙ ap (λ l. read.rest.0 ++ l) is ∙ sym (append_assoc read.rest.0 bytes next));
  size = read.size;
  reads = subst (λ s. reads s ≤ reads first + (length read.earlier + 1)) (sym same) read.reads;
})

-- nothing was buffered, and the source is read once
IsReadForLine-once : {S : Type 0} (left : S → Option (List ℕ)) (reads : S → ℕ) (before next : List ℕ) (first source later : S) (part bytes : List ℕ)
    → HasNoLineFeed part → IsPartRead left reads before [] first source part → IsOneTaken left reads [] next source later bytes
    → IsReadForLine before next (left first) (left later) (reads first) (reads later)
IsReadForLine-once left reads before next first source later part bytes none begun more =
    let n = ap length more.taken.same in
    let m = length-append bytes next in
    let one = more.one in
    let size = more.size in
    let count = begun.count in
    let reads_one = more.reads_one in
    record {
      earlier = begun.taken.given;
      last = more.taken.given;
      consumed = Consumes-trans (left first) (left source) (left later) begun.taken.given more.taken.given begun.taken.consumed more.taken.consumed;
      none = subst HasNoLineFeed (sym (begun.taken.same ∙ append-nil part)) none;
      rest = (bytes, more.taken.same);
      size = omega (arith, n, m, one, size);
      reads = omega (arith, count, reads_one);
    }

-- how far the source is read when one byte more was taken, or none
pub IsReadForLine-more : {S : Type 0} (left : S → Option (List ℕ)) (reads : S → ℕ) (before now next : List ℕ) (first source later : S) (part bytes : List ℕ)
    → HasNoLineFeed part → IsPartRead left reads before now first source part → IsOneTaken left reads now next source later bytes
    → (later ≡ first) ⊎ IsReadForLine before next (left first) (left later) (reads first) (reads later)
IsReadForLine-more left reads before [] next first source later part bytes none begun more =
    inr (IsReadForLine-once left reads before next first source later part bytes none begun more)
IsReadForLine-more left reads before (x ∷ xs) next first source later part bytes none begun more =
    IsReadForLine-buffered left reads before (x ∷ xs) next first source later bytes (more.unread (λ is. cc)) (more.buffered (λ is. cc)) begun.read

-- and then it is a part with one byte more
pub IsPartRead-byte : {S : Type 0} (left : S → Option (List ℕ)) (reads : S → ℕ) (before now next : List ℕ) (first source later : S) (part : List ℕ) (byte : ℕ)
    → HasNoLineFeed part → IsPartRead left reads before now first source part → IsOneTaken left reads now next source later (byte ∷ [])
    → IsPartRead left reads before next first later (part ++ byte ∷ [])
IsPartRead-byte left reads before [] next first source later part byte none begun more =
    let both = IsAdvanced-trans before [] next (left first) (left source) (left later) part (byte ∷ []) begun.taken more.taken in
    let n = ap length more.taken.same in
    let k = ap length (given-trans before [] next (left first) (left source) (left later) part (byte ∷ []) begun.taken more.taken) in
    let m = length-append begun.taken.given more.taken.given in
    let count = begun.count in
    let reads_one = more.reads_one in
    let counted : reads later ≤ reads first + length both.given = omega (arith, n, k, m, count, reads_one) in
    record {
      taken = both;
      count = counted;
      read = IsReadForLine-more left reads before [] next first source later part (byte ∷ []) none begun more;
    }
IsPartRead-byte left reads before (x ∷ xs) next first source later part byte none begun more =
    let same = more.unread (λ is. cc) in
    let alone : IsAdvanced (x ∷ xs) next (left source) (left later) (byte ∷ []) = record {
      given = [];
      consumed = subst (λ s. Consumes (left source) (left s) []) (sym same) (Consumes-none (left source));
      same = append-nil (x ∷ xs) ∙ more.buffered (λ is. cc);
    } in
    let both = IsAdvanced-trans before (x ∷ xs) next (left first) (left source) (left later) part (byte ∷ []) begun.taken alone in
    let k = ap length (given-trans before (x ∷ xs) next (left first) (left source) (left later) part (byte ∷ []) begun.taken alone) in
    let m = length-append begun.taken.given [] in
    let count = begun.count in
    let counted : reads source ≤ reads first + length both.given = omega (arith, k, m, count) in
    record {
      taken = both;
      count = subst (λ s. reads s ≤ reads first + length both.given) (sym same) counted;
      read = IsReadForLine-more left reads before (x ∷ xs) next first source later part (byte ∷ []) none begun more;
    }

-- where a line feed was buffered the source is not read
pub unread_before-feed : {S : Type 0} (left : S → Option (List ℕ)) (reads : S → ℕ) (before next : List ℕ) (first later : S)
    → (later ≡ first) ⊎ IsReadForLine before next (left first) (left later) (reads first) (reads later) → ¬ HasNoLineFeed before → later ≡ first
unread_before-feed left reads before next first later (inl same) some = same
unread_before-feed left reads before next first later (inr read) some =
    let both = sym (list_any-append is_line_feed before read.earlier) ∙ read.none in
    absurd (some (left_false (list_any is_line_feed before) (list_any is_line_feed read.earlier) both))
  where
    left_false : (a b : Bool) → (a || b) ≡ false → a ≡ false
    left_false false b is = refl
    left_false true b is = is
