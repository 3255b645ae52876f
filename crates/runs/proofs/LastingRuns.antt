-- Whatever calls follow, the states only grow, a closed run no longer changes and the lead only falls. Assumes nothing.
use Rattle.std.proofs.Common.{◌≡◌, ℕ, zero, suc, Bool, true, cond, [], ◌∷◌, ◌++◌, Some, None, Option, sym, refl, ap, ◌∙◌, arith}
use Rattle.std.proofs.lemmas.List.{append_assoc, append-nil}
use Rattle.runs.specs.Calls.{Lasting, Later, Step, closes, feeds, stepped}
use Rattle.runs.specs.Feeding.{after, close_refusal, fed, feed_refusal, state_of, with_state}
use Rattle.runs.specs.Offers.{Offered}
use Rattle.runs.specs.Runs.{Meaning, Run, State, ended}
use Rattle.runs.specs.declared.refusal.Refusal.{Refusal}
use Rattle.runs.specs.declared.refusal.Refusal.TheVariants as refusal
use Rattle.runs.specs.declared.shape.Mark.TheVariants.{Closed}

later_same : (m : Meaning) → Later m m
later_same m = record { shape = refl; states = ([], sym (append-nil m.run.states)); ended = λ e. refl; lead = omega arith }

later_then : {l m n : Meaning} → Later l m → Later m n → Later l n
later_then {l} {m} {n} first then = record {
  shape = then.shape ∙ first.shape;
  states = (first.states.0 ++ then.states.0, then.states.1 ∙ ap (λ ss. ss ++ then.states.0) first.states.1 ∙ append_assoc l.run.states first.states.0 then.states.0);
  ended = λ e. then.ended (ap (λ x. ended x.run.mark) (first.ended e) ∙ e) ∙ first.ended e;
  lead = omega (arith, first.lead, then.lead);
}

-- a state is kept or passed over only on a run that has not ended
later_more : (s : State) (lead : ℕ) (run : Run) → (ended run.mark ≡ true → ⊥) → Later (record { run = run; lead = lead }) (with_state s lead run)
later_more s zero run lasts = record { shape = refl; states = (s ∷ [], refl); ended = λ e. absurd (lasts e); lead = omega arith }
later_more s (suc n) run lasts = record { shape = refl; states = ([], sym (append-nil run.states)); ended = λ e. absurd (lasts e); lead = omega arith }

-- what is not refused was not ended
not_ended : (b : Bool) (o : Option Refusal) → cond b (Some refusal.Ended) o ≡ None → b ≡ true → ⊥
not_ended b o taken e = grind (arith, taken, e)

later_fed : (refused : Option Refusal) (o : Offered) (m : Meaning) → (refused ≡ None → ended m.run.mark ≡ true → ⊥) → Later m (fed refused o m)
later_fed (Some r) o m lasts = later_same m
later_fed None o m lasts = later_more (state_of o) m.lead m.run (lasts refl)

later_closed : (o : Option Refusal) (m : Meaning) → (o ≡ None → ended m.run.mark ≡ true → ⊥) → Later m (after o m (record { run = record { shape = m.run.shape; states = m.run.states; mark = Closed }; lead = m.lead }))
later_closed (Some r) m lasts = later_same m
later_closed None m lasts = record { shape = refl; states = ([], sym (append-nil m.run.states)); ended = λ e. absurd (lasts refl e); lead = omega arith }

later_step : (largest : ℕ) (s : Step) (m : Meaning) → Later m (stepped largest s m)
later_step largest (feeds free need o) m = later_fed (feed_refusal largest free need m o) o m (not_ended (ended m.run.mark) _)
later_step largest closes m = later_closed (close_refusal m) m (not_ended (ended m.run.mark) _)

pub lasting : (largest : ℕ) (m : Meaning) → Lasting largest m
lasting largest m [] = later_same m
lasting largest m (s ∷ ss) = later_then (later_step largest s m) (lasting largest (stepped largest s m) ss)
