use Rattle.std.proofs.Common.{◌≡◌, ◌+◌, ◌∷◌, length, pos, take}
use Rattle.stores.specs.Filled.{over}
use Rattle.changes.specs.Encoding.{changes}
use Rattle.changes.proofs.layout.ChangeLayout.write.Given as goal

-- the changes of the variables so far stand behind the stay and the number of changes
abbrev pub invariant-loop-v : goal.invariant-loop-v
invariant-loop-v l =
    let values = l.offer.values.now in
    let olds = take (length values) l.self.last in
    let told = changes 0 (take l.v values) olds in
    (l.at ≡ 2 + length told) × (l.free ≡ over (l.offer.stay ∷ pos (length (changes 0 values olds)) ∷ told) l.fn.free)
