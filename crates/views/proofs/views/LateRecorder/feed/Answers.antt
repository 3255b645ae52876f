use Rattle.runs.specs.Offers.{told}
use Rattle.views.proofs.LateViews.{late_fed}
use Rattle.views.proofs.views.LateRecorder.feed.Goals as goal

pub returns-clause-after : goal.returns-clause-after
returns-clause-after g c =
    let r = c.args.self.now in
    rw c.feed.ensures.after (late_fed g.R.Recorder.largest r.passed _ (told c.args.offer) (g.R.Recorder.meaning r.below) (g.R.Recorder.sound r.below))
