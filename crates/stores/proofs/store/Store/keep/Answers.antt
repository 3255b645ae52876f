use Rattle.std.proofs.Common.{◌≡◌, ◌+◌, ◌++◌, take}
use Rattle.runs.specs.Offers.{told}
use Rattle.stores.specs.Filled.{written_by}
use Rattle.stores.proofs.WrittenState.{Taken, as_many, cells_written, filled_more, filled_written, lawful_written}
use Rattle.stores.proofs.store.Store.keep.Goals as goal

pub invariant_of-self-3 : goal.invariant_of-self-3
invariant_of-self-3 g c =
    let r = c.args.self.now in
    let k = g.L.Layout.coding in
    let t : Taken k r.head r.cells.now c.args.need (told c.args.offer) = record { lawful = c.requires.lawful; needs = c.requires.need; within = r.within; room = c.requires.room } in
    let front = c.split_at_mut-front.ensures.front in
    let written : c.split_at_mut-front.result.0.now ++ c.keep.new.free ≡ written_by k r.head r.cells.now (told c.args.offer) = rw (c.keep.ensures.cells, c.split_at_mut-front.ensures.back, front) (cells_written t) in
    let tells = rw front at c.keep.ensures.states in
    let kept : g.L.Layout.kept c.keep.new.self r.head.shape (r.head.count + 1) (take (r.head.used + c.args.need) (c.split_at_mut-front.result.0.now ++ c.keep.new.free)) = rw (written, filled_more t) (rw front at c.keep.ensures.kept) in
    record { within = rw (written, as_many t) c.requires.room; kept = kept; lawful = rw written (lawful_written t tells r.lawful); exact = rw written (filled_written t tells r.exact) }
