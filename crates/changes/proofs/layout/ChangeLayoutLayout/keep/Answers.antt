use Rattle.std.proofs.Common.{ap, ◌∙◌}
use Rattle.runs.specs.Offers.{told}
use Rattle.stores.specs.Filled.{over}
use Rattle.stores.proofs.LawfulStates.{lawful_width}
use Rattle.changes.specs.Encoding.{change_largest, encoded}
use Rattle.changes.specs.Kept.{waypoint_at}
use Rattle.changes.proofs.KeptState.{kept_more, states_grown}
use Rattle.changes.proofs.LastValues.{last_kept}
use Rattle.changes.proofs.layout.ChangeLayoutLayout.keep.Goals as goal

pub write-requires-clause-room : goal.write-requires-clause-room
write-requires-clause-room c =
    let f = c.args.filled in
    let o = told c.args.offer in
    let kept = last_kept f.head.shape f.head.count f.cells.now c.args.self.now.last o.values (lawful_width f.head.shape change_largest o c.requires.lawful) c.requires.kept.1 in
    rw kept c.requires.room

pub returns-clause-cells : goal.returns-clause-cells
returns-clause-cells c =
    let f = c.args.filled in
    let o = told c.args.offer in
    let kept = last_kept f.head.shape f.head.count f.cells.now c.args.self.now.last o.values (lawful_width f.head.shape change_largest o c.requires.lawful) c.requires.kept.1 in
    c.write.ensures ∙ ap (λ olds. over (encoded o.stay o.values olds) c.args.free.now) kept

pub returns-clause-kept : goal.returns-clause-kept
returns-clause-kept c =
    let f = c.args.filled in
    let o = told c.args.offer in
    let wide = lawful_width f.head.shape change_largest o c.requires.lawful in
    kept_more f.head.shape f.head.count f.cells.now o c.requires.kept.0 wide f.head.width.1 c.args.self.now.last c.update.new.self.last c.args.self.now.waypoints.0 c.update.new.self.waypoints.0 c.requires.few c.requires.kept.1 c.update.ensures.last (λ k l. ap (λ ws. waypoint_at ws.0 k) c.update.ensures.waypoints ∙ c.note.ensures k l) c.requires.kept.2

pub returns-clause-states : goal.returns-clause-states
returns-clause-states c =
    let f = c.args.filled in
    let o = told c.args.offer in
    states_grown f.head.shape f.head.count f.cells.now o c.requires.kept.0 (lawful_width f.head.shape change_largest o c.requires.lawful) f.head.width.1
