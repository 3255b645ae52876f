use Rattle.std.proofs.Common.{◌≡◌, ◌<◌, length, get_or, take, pos, Some, None, sym, ap, ◌∙◌, arith, rules}
use Rattle.std.proofs.lemmas.List.{length-take, length_push}
use Rattle.changes.specs.Encoding.{change_of, changes, packed}
use Rattle.changes.proofs.PackedChanges.{changes_few, told_none, told_some}
use Rattle.changes.proofs.layout.ChangeLayout.changed.Goals as goal
use Rattle.changes.proofs.layout.ChangeLayout.changed.Goals.{then-value-from, else-value-from}

pub overflow_add-changed : goal.overflow_add-changed
overflow_add-changed c =
    let values = c.args.values.now in
    let few = changes_few 0 (take c.loop-v.v values) (take (length values) c.args.self.now.last) in
    search (rules, length-take)

pub loop-v-preserved : goal.loop-v-preserved
loop-v-preserved c =
    let values = c.args.values.now in
    let last = c.args.self.now.last in
    let v = c.loop-v.v in
    let there = c.loop-v-test.true in
    let old_there : v < length last = search rules in
    let so_far = changes 0 (take v values) (take (length values) last) in
    elim c.if-value-from.branch [
      | then-value-from w ↦
          let told : Some (packed (get_or values v (pos 0)) v) ≡ change_of v (get_or values v (pos 0)) (get_or last v (pos 0)) = search rules in
          let more = told_some v (length values) values last there there old_there (packed (get_or values v (pos 0)) v) told in
          omega (arith, w.changed-is, c.loop-v.invariant, ap length more, length_push so_far (packed (get_or values v (pos 0)) v))
      | else-value-from w ↦
          let told : None ≡ change_of v (get_or values v (pos 0)) (get_or last v (pos 0)) = search rules in
          w.changed-is ∙ c.loop-v.invariant ∙ ap length (sym (told_none v (length values) values last there there old_there told))
    ]
