use Rattle.std.proofs.Common.{◌∷◌, arith}
use Rattle.runs.specs.Offers.{told}
use Rattle.stores.proofs.LawfulStates.{lawful_values, lawful_width, within_more}
use Rattle.rows.specs.Rows.{row_largest}
use Rattle.rows.proofs.RowStates.{row_states_more}
use Rattle.rows.proofs.layout.RowLayoutLayout.keep.Goals as goal

pub fill-requires-clause-values : goal.fill-requires-clause-values
fill-requires-clause-values c =
    let o = told c.args.offer in
    within_more row_largest 2147483647 o.values (omega arith) (lawful_values c.args._filled.head.shape row_largest o c.requires.lawful)

pub returns-clause-states : goal.returns-clause-states
returns-clause-states c =
    let f = c.args._filled in
    let o = told c.args.offer in
    let wide = lawful_width f.head.shape row_largest o c.requires.lawful in
    row_states_more f.head.shape.width f.head.count f.cells.now (o.stay ∷ o.values) c.requires.kept (omega (arith, wide))
