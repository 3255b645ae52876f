-- The nestings left fall at each opening bracket.
use Rattle.std.proofs.Common.{◌+◌, ◌*◌}
use Rattle.criteria.proofs.reader.Reader.+arguments_call_measure_one_argument_two_arguments_window_argument.Given as goal

abbrev pub decreases-arguments : goal.decreases-arguments
decreases-arguments l = 4 * l.left + 3

abbrev pub decreases-call : goal.decreases-call
decreases-call l = 4 * l.left

abbrev pub decreases-measure : goal.decreases-measure
decreases-measure l = 4 * l.left + 1

abbrev pub decreases-one_argument : goal.decreases-one_argument
decreases-one_argument l = 4 * l.left + 2

abbrev pub decreases-two_arguments : goal.decreases-two_arguments
decreases-two_arguments l = 4 * l.left + 2

abbrev pub decreases-window_argument : goal.decreases-window_argument
decreases-window_argument l = 4 * l.left + 2
