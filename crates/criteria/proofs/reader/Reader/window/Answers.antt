use Rattle.std.proofs.Common.{rules}
use Rattle.criteria.specs.States.{view}
use Rattle.criteria.proofs.Windows.{window_read}
use Rattle.criteria.proofs.reader.Reader.window.Goals as goal

pub returns : goal.returns
returns c =
    let opened = c.in_ok-punctuation.ensures in
    let began = c.in_ok-first.ensures in
    let behind = c.window_behind.ensures in
    let start = c.args.self.now in
    let inner = c.punctuation.new.self in
    let later = c.moment.new.self in
    record {
      answer = window_read (view start) (view inner) (view later) c.in_ok-first.first c.window_behind.result (view c.window_behind.new.self) opened.answer began.answer behind.answer;
      balance = search rules;
    }
