use Rattle.std.proofs.Common.{◌++◌, vec_items, ap, ◌∙◌, rules}
use Rattle.std.proofs.lemmas.Iterator.{YieldsList-from_slice, YieldsList-from_zip}
use Rattle.std.proofs.lemmas.Iterator.Consumers.{YieldsList-end}
use Rattle.survey.proofs.PairedLines.{paired_lines}
use Rattle.survey.proofs.lines.Lines.push_ranges.Goals as goal

pub returns : goal.returns
returns c =
    let names = c.args.names.now in
    let ranges = c.args.ranges.now in
    let all = YieldsList-end (YieldsList-from_zip (YieldsList-from_slice names (search rules)) (YieldsList-from_slice ranges (search rules))) c.loop-name.yielded _ c.loop-name.yielded_by _ c.next.new.self c.in-None.is c.next.ensures.steps in
    c.loop-name.invariant ∙ ap (λ t. vec_items c.args.self.now.bytes ++ t) (paired_lines names ranges c.loop-name.yielded all.0)
