-- The table's rule: its 256 entries are the classes of the bytes, one computed comparison of the whole table.
use Rattle.std.proofs.Common.{◌<◌, zero-add, arith}
use Rattle.std.proofs.lemmas.List.FromFn.{get_or-map-range_with_len}
use Rattle.tokens.specs.Classes.{class_of}
use Rattle.tokens.specs.declared.classes.Class.TheVariants as class
use Rattle.tokens.proofs.classes.class_of.Goals as goal

pub returns : goal.returns
returns c =
    let h : c.args.b < 256 = omega arith in
    get_or-map-range_with_len class_of 0 256 c.args.b c.args.b class.Space h (zero-add c.args.b)
