-- A frame tells its reply, whatever stands behind it.
use Rattle.std.proofs.Common.{◌≡◌, ℕ, zero, suc, ◌^◌, ◌<◌, List, [], ◌∷◌, ◌++◌, length, refl, sym, ap, ap₂, ◌∙◌, append_assoc, codes, arith}
use Rattle.std.proofs.lemmas.Fmt.{decimal_injective, decimal_is_IsNumeral}
use Rattle.std.proofs.lemmas.List.{append_cancel_left}
use Rattle.std.proofs.lemmas.Str.Parse.{digit_from_value}
use Rattle.std.specs.Fmt.{decimal}
use Rattle.std.specs.Str.Parse.{AllDigits}
use Rattle.kh_runs.specs.Replies.{Reply, reply_of}
use Rattle.kh_runs.specs.Statuses.{status_number}
use Rattle.kh_runs.specs.declared.status.Status.{Status}
use Rattle.kh_runs.specs.declared.status.Status.TheVariants.{Done, CodeRefused, Usage, ReadFault, WriteFault, NoMemory, Limit, MoveRefused}
use Rattle.line_answers.specs.Frames.{IsSmallFrame, frame}

abbrev head : List ℕ → ℕ
head [] = 0
head (byte ∷ bytes) = byte

abbrev tail : List ℕ → List ℕ
tail [] = []
tail (byte ∷ bytes) = bytes

-- digits end at a byte that is none
digits-end : (first second : List ℕ) (mark : ℕ) (rest other : List ℕ) → mark < 48 → AllDigits 10 first → AllDigits 10 second
    → first ++ (mark ∷ rest) ≡ second ++ (mark ∷ other) → (first ≡ second) × (rest ≡ other)
digits-end [] [] mark rest other low a b same = (refl, ap tail same)
digits-end [] (digit ∷ second) mark rest other low a b same =
    let is : mark ≡ digit = ap head same in absurd (omega (arith, is, low, digit_from_value digit b.0))
digits-end (digit ∷ first) [] mark rest other low a b same =
    let is : digit ≡ mark = ap head same in absurd (omega (arith, is, low, digit_from_value digit a.0))
digits-end (x ∷ first) (y ∷ second) mark rest other low a b same =
    let later = digits-end first second mark rest other low a.1 b.1 (ap tail same) in
    (ap₂ (λ (z : ℕ) (l : List ℕ). z ∷ l) (ap head same) later.0, later.1)

-- a number ends at such a byte too, and is told
number-end : (n m mark : ℕ) (rest other : List ℕ) → mark < 48 → n < 2 ^ 64 → m < 2 ^ 64
    → decimal n ++ (mark ∷ rest) ≡ decimal m ++ (mark ∷ other) → (n ≡ m) × (rest ≡ other)
number-end n m mark rest other low small other_small same =
    let parts = digits-end (decimal n) (decimal m) mark rest other low (decimal_is_IsNumeral n small).0.1 (decimal_is_IsNumeral m other_small).0.1 same in
    (decimal_injective n m small other_small parts.0, parts.1)

-- lists that are as long begin with the same where they go on
same-fronts : (first second rest other : List ℕ) → length first ≡ length second → first ++ rest ≡ second ++ other → (first ≡ second) × (rest ≡ other)
same-fronts [] [] rest other long same = (refl, same)
same-fronts [] (y ∷ second) rest other long same = absurd (omega (arith, long))
same-fronts (x ∷ first) [] rest other long same = absurd (omega (arith, long))
same-fronts (x ∷ first) (y ∷ second) rest other long same =
    let later = same-fronts first second rest other (omega (arith, long)) (ap tail same) in
    (ap₂ (λ (z : ℕ) (l : List ℕ). z ∷ l) (ap head same) later.0, later.1)

-- the status of a number
abbrev numbered_status : ℕ → Status
numbered_status zero = Done
numbered_status (suc zero) = CodeRefused
numbered_status (suc (suc zero)) = Usage
numbered_status (suc (suc (suc zero))) = ReadFault
numbered_status (suc (suc (suc (suc zero)))) = WriteFault
numbered_status (suc (suc (suc (suc (suc zero))))) = NoMemory
numbered_status (suc (suc (suc (suc (suc (suc zero)))))) = Limit
numbered_status _ = MoveRefused

status-number : (status : Status) → numbered_status (status_number status) ≡ status
status-number Done = refl
status-number CodeRefused = refl
status-number Usage = refl
status-number ReadFault = refl
status-number WriteFault = refl
status-number NoMemory = refl
status-number Limit = refl
status-number MoveRefused = refl

few-statuses : (status : Status) → status_number status < 2 ^ 64
few-statuses Done = omega arith
few-statuses CodeRefused = omega arith
few-statuses Usage = omega arith
few-statuses ReadFault = omega arith
few-statuses WriteFault = omega arith
few-statuses NoMemory = omega arith
few-statuses Limit = omega arith
few-statuses MoveRefused = omega arith

-- what is behind the word of a frame's status
behind-status : (reply other : Reply) (more others : List ℕ) → length reply.text < 2 ^ 64 → length other.text < 2 ^ 64
    → decimal (status_number reply.status) ++ (codes " bytes " ++ (decimal (length reply.text) ++ (codes "\n" ++ (reply.text ++ more))))
    ≡ decimal (status_number other.status) ++ (codes " bytes " ++ (decimal (length other.text) ++ (codes "\n" ++ (other.text ++ others))))
    → (reply ≡ other) × (more ≡ others)
behind-status reply other more others short also_short same =
    let status = number-end (status_number reply.status) (status_number other.status) 32 _ _ (omega arith) (few-statuses reply.status) (few-statuses other.status) same in
    let size = number-end (length reply.text) (length other.text) 10 _ _ (omega arith) short also_short (append_cancel_left (codes "bytes ") _ _ status.1) in
    let text = same-fronts reply.text other.text more others size.0 size.1 in
    let one : reply.status ≡ other.status = sym (status-number reply.status) ∙ ap numbered_status status.0 ∙ status-number other.status in
    (ap₂ (λ (s : Status) (t : List ℕ). reply_of s t) one text.0, text.1)

-- what follows a frame, grouped to the right
frame-more : (number field : ℕ) (reply : Reply) (more : List ℕ) → frame number field reply ++ more
    ≡ codes "code " ++ (decimal number ++ (codes " field " ++ (decimal field ++ (codes " status " ++ (decimal (status_number reply.status)
    ++ (codes " bytes " ++ (decimal (length reply.text) ++ (codes "\n" ++ (reply.text ++ more)))))))))
frame-more number field reply more =
    rw (append_assoc, append_assoc, append_assoc, append_assoc, append_assoc, append_assoc, append_assoc, append_assoc, append_assoc) refl

-- a frame, with anything behind it, tells its number, its field and its reply
pub frame-tells : (number field : ℕ) (reply : Reply) (more : List ℕ) (number' field' : ℕ) (reply' : Reply) (more' : List ℕ)
    → IsSmallFrame number field reply → IsSmallFrame number' field' reply' → frame number field reply ++ more ≡ frame number' field' reply' ++ more'
    → (number ≡ number') × (field ≡ field') × (reply ≡ reply') × (more ≡ more')
frame-tells number field reply more number' field' reply' more' small small' same =
    let parts = sym (frame-more number field reply more) ∙ same ∙ frame-more number' field' reply' more' in
    let line = number-end number number' 32 _ _ (omega arith) small.few_lines small'.few_lines (append_cancel_left (codes "code ") _ _ parts) in
    let over = number-end field field' 32 _ _ (omega arith) small.few_elements small'.few_elements (append_cancel_left (codes "field ") _ _ line.1) in
    let last = behind-status reply reply' more more' small.size small'.size (append_cancel_left (codes "status ") _ _ over.1) in
    (line.0, over.0, last.0, last.1)
