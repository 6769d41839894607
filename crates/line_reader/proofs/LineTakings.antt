-- The parts of a line, as they are taken byte by byte.
use Rattle.std.proofs.Common.{◌≡◌, ℕ, false, List, [], ◌∷◌, ◌++◌, append-nil, ap, subst, ◌∙◌, ◌||◌, codes, Option, Some, arith}
use Rattle.std.proofs.lemmas.Bool.Decides.{nat_tests}
use Rattle.std.proofs.lemmas.List.Folds.{list_any-append}
use Rattle.std.specs.List.{list_any}
use Rattle.kh_lex.specs.Lines.{HasNoLineFeed, is_line_feed}
use Rattle.line_reader.specs.Advances.{IsAdvanced, IsLineTaken, IsNextByte, IsStopped}
use Rattle.line_reader.specs.Lines.{Kept, kept}
use Rattle.line_reader.specs.declared.reading.LineStop.{LineStop}
use Rattle.line_reader.specs.declared.reading.LineStop.TheVariants.{Fault, NoMemory}
use Rattle.line_reader.proofs.Taken.{IsAdvanced-trans}

-- bytes without a line feed, and one that is none behind them
pub HasNoLineFeed-push : (part : List ℕ) (byte : ℕ) → HasNoLineFeed part → is_line_feed byte ≡ false → HasNoLineFeed (part ++ byte ∷ [])
HasNoLineFeed-push part byte none other = list_any-append is_line_feed part (byte ∷ []) ∙ go
  where
    go : (list_any is_line_feed part || (is_line_feed byte || false)) ≡ false
    go = grind (arith, nat_tests)

-- a line that was begun is taken with what is behind it
pub IsLineTaken-of : (a b c : List ℕ) (x y z : Option (List ℕ)) (part behind : List ℕ) (found : Kept) → found ≡ kept part
    → HasNoLineFeed part → IsAdvanced a b x y part → IsAdvanced b c y z behind → IsLineTaken a c x z behind found
IsLineTaken-of a b c x y z part behind found is none begun next = record {
  line = part;
  kept_of = is;
  whole = none;
  taken = IsAdvanced-trans a b c x y z part behind begun next;
}

-- a line feed ends it
pub IsLineTaken-feed : (a b c : List ℕ) (x y z : Option (List ℕ)) (part : List ℕ) (found : Kept) (next : Option ℕ) (byte : ℕ) → found ≡ kept part
    → HasNoLineFeed part → IsAdvanced a b x y part → next ≡ Some byte → byte ≡ 10 → IsNextByte b c y z next
    → IsLineTaken a c x z (codes "\n") found
IsLineTaken-feed a b c x y z part found next byte kept none begun some feed taken =
    let is : next ≡ Some 10 = some ∙ ap Some feed in
    IsLineTaken-of a b c x y z part (10 ∷ []) found kept none begun (subst (IsNextByte b c y z) is taken)

-- another byte is one more of it
pub IsAdvanced-byte : (a b c : List ℕ) (x y z : Option (List ℕ)) (part : List ℕ) (next : Option ℕ) (byte : ℕ) → IsAdvanced a b x y part
    → next ≡ Some byte → IsNextByte b c y z next → IsAdvanced a c x z (part ++ byte ∷ [])
IsAdvanced-byte a b c x y z part next byte begun some taken =
    IsAdvanced-trans a b c x y z part (byte ∷ []) begun (subst (IsNextByte b c y z) some taken)

-- and there it may stop for want of memory
pub IsStopped-byte : (a b c : List ℕ) (x y z : Option (List ℕ)) (part : List ℕ) (next : Option ℕ) (byte : ℕ) (stop : LineStop) → HasNoLineFeed part
    → IsAdvanced a b x y part → next ≡ Some byte → is_line_feed byte ≡ false → IsNextByte b c y z next → stop ≡ NoMemory
    → IsStopped a c x z stop
IsStopped-byte a b c x y z part next byte stop none begun some other taken memory = record {
  part = part ++ byte ∷ [];
  whole = HasNoLineFeed-push part byte none other;
  taken = IsAdvanced-byte a b c x y z part next byte begun some taken;
  emptied = λ fault. cc;
  long = λ limit. cc;
}

-- or where the source fails
pub IsStopped-fault : (a b c : List ℕ) (x y z : Option (List ℕ)) (part : List ℕ) (stop : LineStop) → HasNoLineFeed part → IsAdvanced a b x y part
    → IsAdvanced b c y z [] → c ≡ [] → stop ≡ Fault → IsStopped a c x z stop
IsStopped-fault a b c x y z part stop none begun failed emptied is = record {
  part = part;
  whole = none;
  taken = subst (IsAdvanced a c x z) (append-nil part) (IsAdvanced-trans a b c x y z part [] begun failed);
  emptied = λ fault. emptied;
  long = λ limit. cc;
}
