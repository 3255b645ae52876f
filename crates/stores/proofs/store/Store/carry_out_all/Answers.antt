use Rattle.std.proofs.Common.{length, sym, ◌∙◌, arith}
use Rattle.std.proofs.lemmas.List.{at_drop_all}
use Rattle.stores.specs.Recorded.{store_led}
use Rattle.stores.specs.Stores.{cells_of, meaning_of}
use Rattle.stores.proofs.RecordedCalls.{call_held, calls_led}
use Rattle.stores.proofs.RecordedStores.{store_kind}
use Rattle.stores.proofs.store.Store.carry_out_all.Goals as goal

pub loop-call-preserved : goal.loop-call-preserved
loop-call-preserved g c =
    let first = cells_of c.args.self.now in
    let q = c.carry_out.new.recorder in
    let e = c.carry_out.ensures in
    let inv = c.loop-call.invariant in
    (sym (calls_led store_kind first c.loop-call.self inv.1 (meaning_of q) c.args.calls.now c.loop-call.call-index _ c.loop-call-test.true e.after) ∙ inv.0, call_held store_kind first c.loop-call.self inv.1 (meaning_of q) _ e.after (cells_of q) e.cells, e.place ∙ inv.2)

pub returns : goal.returns
returns g c =
    let all = at_drop_all (λ cs. store_led g.L.Layout.coding (length (cells_of c.args.self.now)) cs (meaning_of c.loop-call.self)) c.args.calls.now c.loop-call.call-index (omega arith) in
    record { after = sym all ∙ c.loop-call.invariant.0; cells = c.loop-call.invariant.1.held; place = c.loop-call.invariant.2 }
