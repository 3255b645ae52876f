use Rattle.records.proofs.Exactness.{exact}
use Rattle.records.proofs.fields.Fields.next_field.Goals as goal

pub returns-then-self-clause-law : goal.returns-then-self-clause-law
returns-then-self-clause-law c = exact _

pub returns-in_default-clause-law : goal.returns-in_default-clause-law
returns-in_default-clause-law c = exact _

pub returns-clause-law : goal.returns-clause-law
returns-clause-law c = exact _
