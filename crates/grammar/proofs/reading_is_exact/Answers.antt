use Rattle.grammar.proofs.ExactReading.{reading_exact}
use Rattle.grammar.proofs.reading_is_exact.Goals as goal

pub returns : goal.returns
returns c = reading_exact
