use Rattle.std.proofs.Common.{◌≡◌, ◌+◌, ◌<◌, ◌≤◌, length, get_or, take, set, pos, nat_abs, Some, None, sym, refl, ap, ◌∙◌, arith, w32, w64, SFits, rules}
use Rattle.std.proofs.lemmas.List.{length_push, length-set, take_all}
use Rattle.std.proofs.lemmas.Int.{to_z-of_z, to_z_pos}
use Rattle.stores.proofs.CellValues.{cell_holds}
use Rattle.stores.proofs.LawfulStates.{magnitude_within}
use Rattle.changes.specs.Encoding.{change_largest, change_of, changes}
use Rattle.changes.proofs.PackedChanges.{change_fits, changes_few, told_none, told_some}
use Rattle.changes.proofs.WrittenChanges.{none_written, one_written, over_header}
use Rattle.changes.proofs.layout.ChangeLayout.write.Goals as goal
use Rattle.changes.proofs.layout.ChangeLayout.write.Goals.{in-Some, in_default}

pub overflow_cast-free-2 : goal.overflow_cast-free-2
overflow_cast-free-2 c =
    let values = c.args.offer.values.now in
    omega (arith, c.changed.ensures, changes_few 0 values (take (length values) c.args.self.now.last), c.requires.few)

pub loop-v-init : goal.loop-v-init
loop-v-init c =
    let values = c.args.offer.values.now in
    let few = changes_few 0 values (take (length values) c.args.self.now.last) in
    let small : nat_abs c.args.offer.stay ≤ 1000000000 = omega (arith, c.requires.stay) in
    (refl, over_header c.args.free.now _ _ _ _ (cell_holds c.args.offer.stay small) (to_z_pos w32 c.changed.result (omega (arith, few, c.changed.ensures, c.requires.few)) ∙ ap pos c.changed.ensures) (omega (arith, c.requires.room)))

pub change-requires : goal.change-requires
change-requires c =
    let values = c.args.offer.values.now in
    let v = c.loop-v.v in
    let fits : SFits w64 (get_or values v (pos 0)) = search rules in
    record {
      variable = omega (arith, c.requires.few);
      value = simp (to_z-of_z w64 (get_or values v (pos 0)) fits) (magnitude_within change_largest values v c.requires.values c.loop-v-test.true);
    }

-- a turn that finds a change has room for it
room : (c : goal.In-Some) → c.loop-v.at < length c.args.free.now
room c =
    let values = c.args.offer.values.now in
    let last = c.args.self.now.last in
    let v = c.loop-v.v in
    let there = c.loop-v-test.true in
    let old_there : v < length last = search rules in
    let told : Some c.in-Some.cell ≡ change_of v (get_or values v (pos 0)) (get_or last v (pos 0)) = search rules in
    let fits = change_fits v (length values) values last there there old_there c.in-Some.cell told in
    omega (arith, c.loop-v.invariant.0, fits, c.requires.room)

pub bounds-free-at : goal.bounds-free-at
bounds-free-at c = let fits = room c in search (rules, length-set)

pub loop-v-preserved : goal.loop-v-preserved
loop-v-preserved c =
    let values = c.args.offer.values.now in
    let last = c.args.self.now.last in
    let v = c.loop-v.v in
    let width = length values in
    let inv = c.loop-v.invariant in
    let there = c.loop-v-test.true in
    let old_there : v < length last = search rules in
    let olds = take width last in
    let so_far = changes 0 (take v values) olds in
    let next = changes 0 (take (v + 1) values) olds in
    elim c.match-change.branch [
      | in-Some w ↦
          let told : Some w.in-Some.cell ≡ change_of v (get_or values v (pos 0)) (get_or last v (pos 0)) = search rules in
          let more = told_some v width values last there there old_there w.in-Some.cell told in
          let fits = change_fits v width values last there there old_there w.in-Some.cell told in
          let fit : SFits w32 w.in-Some.cell = search rules in
          let held = to_z-of_z w32 w.in-Some.cell fit in (
            omega (arith, w.at-is, inv.0, ap length more, length_push so_far w.in-Some.cell),
            w.free-is ∙ ap (set c.loop-v.free c.loop-v.at) held ∙ one_written _ so_far next c.loop-v.free _ _ inv.1 w.in-Some.cell c.loop-v.at more inv.0 (omega (arith, inv.0, fits, c.requires.room)),
          )
      | in_default w ↦
          let told : None ≡ change_of v (get_or values v (pos 0)) (get_or last v (pos 0)) = search rules in
          let more = told_none v width values last there there old_there told in
          (w.at-is ∙ inv.0 ∙ ap (λ cs. 2 + length cs) (sym more), w.free-is ∙ none_written _ so_far next c.loop-v.free _ _ inv.1 more)
    ]

pub returns : goal.returns
returns c =
    let values = c.args.offer.values.now in
    let olds = take (length values) c.args.self.now.last in
    none_written _ _ (changes 0 values olds) c.loop-v.free _ _ c.loop-v.invariant.1 (ap (λ vs. changes 0 vs olds) (sym (take_all c.loop-v.v values c.loop-v-test.false)))
