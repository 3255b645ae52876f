use Rattle.std.proofs.Common.{rules}
use Rattle.criteria.proofs.reader.Reader.window_behind.Goals as goal

pub returns-in_err-last : goal.returns-in_err-last
returns-in_err-last c = record { answer = search rules; balance = search rules }

pub returns-in_err-punctuation-2 : goal.returns-in_err-punctuation-2
returns-in_err-punctuation-2 c = record { answer = search rules; balance = search rules }
