use Rattle.std.proofs.Common.{◌≡◌, ◌<◌, ◌≤◌, ◌↔◌, List, ℕ, ◌++◌, length, take, Result, Err, refl, arith}
use Rattle.std.proofs.lemmas.Grind.{common_steps}
use Rattle.std.proofs.lemmas.Result.{err_from_is_err_and}
use Rattle.kh_io.specs.declared.transfer.ReadStop.{ReadStop}
use Rattle.kh_io.specs.declared.transfer.ReadStop.TheVariants.{ByteLimit, NoMemory}
use Rattle.kh_io.proofs.KnownBytes.{Consumes-trans}
use Rattle.kh_io.proofs.transfer.read_most.Goals as goal

-- out of memory is another answer than too many bytes, and comes where there are not
within_limit : {T : Type 0} (most : ℕ) (result : Result T ReadStop) (stop : ReadStop) (bytes : List ℕ) → result ≡ Err stop
    → stop ≡ NoMemory → length bytes ≤ most → (result ≡ Err ByteLimit) ↔ (most < length bytes)
within_limit most result stop bytes is_stop memory few = ((λ limit. cc), (λ many. grind arith))

pub returns-then-len-count-clause-taken : goal.returns-then-len-count-clause-taken
returns-then-len-count-clause-taken g c = (
  c.reading.bytes.items ++ take c.in_ok-count.count c.read.new.buffer,
  Consumes-trans _ _ _ _ _ c.reading.invariant.taken c.in_ok-count.ensures.bytes.0,
  ((λ _. grind (arith, common_steps)), (λ _. refl)),
)

pub returns-in_err-extend_from_slice-clause-taken : goal.returns-in_err-extend_from_slice-clause-taken
returns-in_err-extend_from_slice-clause-taken g c =
    let stop = err_from_is_err_and c.from_residual-in_err-extend_from_slice.result c.from_residual-in_err-extend_from_slice.ensures.1 in
    let bytes = c.reading.bytes.items ++ take c.in_ok-count.count c.read.new.buffer in (
      bytes,
      Consumes-trans _ _ _ _ _ c.reading.invariant.taken c.in_ok-count.ensures.bytes.0,
      within_limit _ _ _ bytes stop.1 stop.2 (grind (arith, common_steps)),
    )
