-- What becomes of the bytes that a writer holds where only a prefix of some bytes may have been written.
use Rattle.std.specs.Prelude.{ℕ, List, take}
use Rattle.std.specs.declared.option.Option.{Option}
use Rattle.std.specs.Io.KnownBytes.{Appends}

-- known bytes have grown by a prefix of these, and by nothing else
pub record AppendsPrefix (before after : Option (List ℕ)) (bytes : List ℕ) : Type 0 where
  pub count : ℕ
  pub written : Appends before after (take count bytes)
