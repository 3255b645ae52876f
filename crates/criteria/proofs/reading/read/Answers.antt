use Rattle.criteria.proofs.ExactTexts.{read_exactly}
use Rattle.criteria.proofs.reading.read.Goals as goal

pub returns-then-not-is_lawful_length-clause-law : goal.returns-then-not-is_lawful_length-clause-law
returns-then-not-is_lawful_length-clause-law c = read_exactly c.args.text.now

pub returns-in_err-largest-clause-law : goal.returns-in_err-largest-clause-law
returns-in_err-largest-clause-law c = read_exactly c.args.text.now

pub returns-in_err-header-clause-law : goal.returns-in_err-header-clause-law
returns-in_err-header-clause-law c = read_exactly c.args.text.now

pub returns-in_err-place-clause-law : goal.returns-in_err-place-clause-law
returns-in_err-place-clause-law c = read_exactly c.args.text.now

pub returns-clause-law : goal.returns-clause-law
returns-clause-law c = read_exactly c.args.text.now
