use Rattle.std.proofs.Common.{arith}
use Rattle.records.proofs.FirstFields.{one_kept, none_kept}
use Rattle.records.proofs.kept.Kept.keep.Goals as goal
use Rattle.records.proofs.kept.Kept.keep.Goals.{then-i-room, else-i-room}

pub returns : goal.returns
returns g c =
    let old = c.args.self.now in
    let told = c.room.ensures in
    elim c.if-i-room.branch [
      | then-i-room w ↦ simp (w.self-is, one_kept old.values old.count c.args.value told.values (omega (arith, w.if-i-room.true, told.room)), one_kept old.places old.count c.args.place told.places (omega (arith, w.if-i-room.true, told.room)))
      | else-i-room w ↦ simp (w.self-is, none_kept old.values old.count c.args.value told.values (omega (arith, w.if-i-room.false, told.room)), none_kept old.places old.count c.args.place told.places (omega (arith, w.if-i-room.false, told.room)))
    ]
