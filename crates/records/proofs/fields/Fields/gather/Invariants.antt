use Rattle.std.proofs.Common.{◌≡◌, ◌-◌, length}
use Rattle.records.specs.Told.{cursor}
use Rattle.records.proofs.Gathering.{Reading}
use Rattle.records.proofs.fields.Fields.gather.Given as goal

abbrev pub invariant-loop-field : goal.invariant-loop-field
invariant-loop-field g l =
    let first = l.initial.self in
    Reading (record { read = g.G.Gathered.read; of = g.G.Gathered.sum_of first.at }) first.bytes.now (cursor first) (cursor l.self) (g.G.Gathered.told l.sum) × (l.self.bytes ≡ first.bytes)

abbrev pub decreases-loop-field : goal.decreases-loop-field
decreases-loop-field g l = length l.initial.self.bytes.now - l.self.at.byte
