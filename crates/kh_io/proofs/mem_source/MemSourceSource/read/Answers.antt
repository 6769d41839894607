use Rattle.std.proofs.Common.{◌≡◌, ◌<◌, ◌+◌, ◌∙◌, ap, min, length, take, drop, ℕ, ◌-◌, List, [], ◌++◌, arith, take-append-drop}
use Rattle.std.proofs.lemmas.Grind.{common_steps}
use Rattle.std.proofs.lemmas.List.{take_rest}
use Rattle.std.proofs.Math.Seq.{drop-drop}
use Rattle.kh_io.proofs.mem_source.MemSourceSource.read.Goals as goal

-- from a place on, the bytes are those that a read gives and those that are left then
prefix_given : (bytes given : List ℕ) (at n : ℕ) → given ≡ take n (take (length bytes - at) (drop at bytes))
    → drop at bytes ≡ given ++ drop (at + n) bytes
prefix_given bytes given at n is =
    let taken : given ≡ take n (drop at bytes) = is ∙ ap (take n) (take_rest bytes at) in
    rw (taken, ← drop-drop n at bytes, take-append-drop)

-- a read that gives none where it might give some is at the end
end_given : (bytes : List ℕ) (at n piece room : ℕ) → 0 < piece → 0 < room
    → n ≡ min piece (min (length (take (length bytes - at) (drop at bytes))) room) → n ≡ 0 → drop (at + n) bytes ≡ []
end_given bytes at n piece room some space given none = grind (arith, common_steps)

pub returns-clause-bytes : goal.returns-clause-bytes
returns-clause-bytes c =
    let bytes = c.deref-2.result.now in
    let at = c.self.inside.at in
    let given = c.copy_prefix-count.ensures in
    rw (← c.self.view_is, ← c.deref-2.ensures.value)
    (prefix_given bytes _ at _ given.prefix, λ none space. end_given bytes at _ _ _ c.self.invariant.some c.requires given.count none)
