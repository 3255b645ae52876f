use Rattle.std.proofs.Common.{arith, rules}
use Rattle.std.proofs.lemmas.Option.{slice_get_past}
use Rattle.stores.specs.Stores.{states_of}
use Rattle.stores.proofs.LawfulStates.{no_value}
use Rattle.stores.proofs.store.recorder.StoreRecorder.value.Goals as goal
use Rattle.stores.proofs.store.recorder.StoreRecorder.value.Goals.{else-i-self-via-then-i-self+else-v-self, else-i-self-via-else-i-self}

pub returns-else-i-self : goal.returns-else-i-self
returns-else-i-self g c =
    let r = c.args.self.now in
    let k = g.L.Layout.coding in
    elim c.else-i-self.branch [
      | else-i-self-via-then-i-self+else-v-self w ↦
          let none = no_value r.head.shape k.largest (states_of r) c.args.i c.args.v r.lawful (omega arith) in
          search rules
      | else-i-self-via-else-i-self w ↦
          let none = slice_get_past (states_of r) c.args.i (rw k.counted (omega arith)) in
          search rules
    ]
