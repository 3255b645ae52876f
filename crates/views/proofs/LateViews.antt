-- A late view of a run that is fed is the view, fed. Assumes nothing.
use Rattle.std.proofs.Common.{◌≡◌, ℕ, zero, suc, ◌+◌, ◌-◌, ◌<◌, [], length, drop, Some, None, Option, refl, suc-add, arith}
use Rattle.std.proofs.lemmas.List.{drop_all, drop-append-le, length_push}
use Rattle.runs.specs.Feeding.{fed, state_of, with_state}
use Rattle.runs.specs.Offers.{Offered}
use Rattle.runs.specs.Runs.{Meaning, Run, Sound, State}
use Rattle.runs.specs.declared.refusal.Refusal.{Refusal}
use Rattle.views.specs.Views.{viewed}

-- a state more, below and in the view
late_more : (k : ℕ) (s : State) (lead : ℕ) (run : Run) → (0 < lead → run.states ≡ []) → viewed k (with_state s lead run) ≡ with_state s (lead + (k - length run.states)) (record { shape = run.shape; states = drop k run.states; mark = run.mark })
late_more k s zero run leads =
    let one_more = length_push run.states s in
    grind (arith, drop_all, drop-append-le)
late_more k s (suc n) run leads = rw suc-add

pub late_fed : (largest k : ℕ) (refused : Option Refusal) (o : Offered) (m : Meaning) → Sound largest m → viewed k (fed refused o m) ≡ fed refused o (viewed k m)
late_fed largest k (Some r) o m sound = refl
late_fed largest k None o m sound = late_more k (state_of o) m.lead m.run sound.leads
