-- Answers without the references that they hold. Assumes nothing.
use Rattle.std.specs.Prelude.{Ok, Err, Result}
use Rattle.records.specs.Told.{names}
use Rattle.runs.specs.Runs.{Meaning}
use Rattle.runfiles.specs.declared.fault.RunFault.{RunFault}
use Rattle.survey.specs.Surveys.{Surveyed}
use Rattle.survey.specs.declared.whole.Survey.{Survey}

-- a run that is fed, by its answer and what it then means
abbrev pub fed_to : Result Unit RunFault → Meaning → Result Meaning RunFault
fed_to (Err e) m = Err e
fed_to (Ok u) m = Ok m

abbrev pub surveyed : Survey → Surveyed
surveyed s = record { names = names s.header; summary = s.summary; free = s.free }

abbrev pub told_survey : Result Survey RunFault → Result Surveyed RunFault
told_survey (Err f) = Err f
told_survey (Ok s) = Ok (surveyed s)
