-- What a late view means: the run below without its first states. Assumes nothing.
use Rattle.std.proofs.Common.{ap, ⊎_elim, arith}
use Rattle.std.specs.Prelude.{ℕ, ◌+◌, ◌-◌, length, drop}
use Rattle.std.proofs.ByRecursion.{All-drop}
use Rattle.std.proofs.lemmas.List.{drop_all, length-drop}
use Rattle.std.proofs.lemmas.Bool.{cases_lt}
use Rattle.runs.specs.Runs.{Lawful, Meaning, Sound}

-- what is passed over and not there yet leads
abbrev pub viewed : ℕ → Meaning → Meaning
viewed k m = record {
  run = record { shape = m.run.shape; states = drop k m.run.states; mark = m.run.mark };
  lead = m.lead + (k - length m.run.states);
}

pub view_sound : (largest k : ℕ) (m : Meaning) → Sound largest m → Sound largest (viewed k m)
view_sound largest k m s = record {
  width = s.width;
  longest = s.longest;
  few = rw length-drop (omega (arith, s.few));
  lawful = All-drop (Lawful m.run.shape largest) k m.run.states s.lawful;
  leads = λ leads. drop_all k m.run.states (⊎_elim (λ below. omega (arith, ap length (s.leads below))) (λ none. omega arith) (cases_lt 0 m.lead));
}
