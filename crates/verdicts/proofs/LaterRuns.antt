-- Whatever feeds and closes follow, a decided verdict stays and the kept states fit the run's shape. Assumes nothing.
use Rattle.std.proofs.Common.{◌≡◌, ℕ, zero, suc, false, List, [], ◌∷◌, None, Option, ap, ◌∙◌, inl, inr, arith}
use Rattle.std.specs.List.{AllByRecursion}
use Rattle.std.proofs.ByRecursion.{All-push, All-weaker}
use Rattle.std.proofs.lemmas.Bool.{cases_Bool}
use Rattle.runs.proofs.LastingRuns.{lasting}
use Rattle.runs.proofs.TakenStates.{taken_lawful}
use Rattle.runs.specs.Calls.{Step, after_steps, stepped}
use Rattle.runs.specs.Feeding.{after, fed, state_of, unlawful, with_state}
use Rattle.runs.specs.Offers.{Offered}
use Rattle.runs.specs.Runs.{Lawful, Meaning, Run, State, ended, endures}
use Rattle.runs.specs.declared.refusal.Refusal.{Refusal}
use Rattle.runs.specs.declared.shape.Mark.{Mark}
use Rattle.runs.specs.declared.shape.Shape.{Shape}
use Rattle.verdicts.proofs.GrowingRuns.{verdicts_stay}
use Rattle.verdicts.specs.Begins.{Fits}
use Rattle.verdicts.specs.Laws.{StatesFit, VerdictsLast}
use Rattle.verdicts.specs.Verdicts.{verdict}

-- a last state that endures ends its run
not_enduring : (mark : Mark) → ended mark ≡ false → endures mark ≡ false
not_enduring mark h = grind arith

pub verdicts_last : VerdictsLast
verdicts_last width largest p h most m steps decided =
    let later = lasting most m steps in
    elim (cases_Bool (ended m.run.mark)) [
      | inl e ↦ ap (λ n. verdict p n.run.mark n.run.states) (later.ended e)
      | inr e ↦ ap (verdict p (after_steps most steps m).run.mark) later.states.1
          ∙ verdicts_stay width largest p h m.run.mark (after_steps most steps m).run.mark (not_enduring m.run.mark e) m.run.states later.states.0 decided
    ]

-- from what every recorder keeps of its states (`Sound.lawful`) to what the laws of verdicts ask of them
pub lawful_fits : (shape : Shape) (largest : ℕ) (states : List State) → AllByRecursion (Lawful shape largest) states → AllByRecursion (Fits shape) states
lawful_fits shape largest states lawful = All-weaker (Lawful shape largest) (Fits shape) (λ s l. record { stay = l.stay; values = l.values }) states lawful

offered_fits : (shape : Shape) (most : ℕ) (o : Offered) → unlawful shape most o ≡ None → Fits shape (state_of o)
offered_fits shape most o e = grind arith

module _ (most : ℕ) where
  abbrev AllFit : Meaning → Type 0
  AllFit m = AllByRecursion (Fits m.run.shape) m.run.states

  kept_fits : (s : State) (lead : ℕ) (run : Run) → Fits run.shape s → AllByRecursion (Fits run.shape) run.states → AllFit (with_state s lead run)
  kept_fits s zero run fits all = All-push (Fits run.shape) run.states s all fits
  kept_fits s (suc n) run fits all = all

  fed_fits : (refused : Option Refusal) (o : Offered) (m : Meaning) → (refused ≡ None → Fits m.run.shape (state_of o)) → AllFit m → AllFit (fed refused o m)
  fed_fits refused o m fits all = grind (arith, kept_fits)

  closed_fits : (o : Option Refusal) (m : Meaning) (mark : Mark) → AllFit m → AllFit (after o m (record { run = record { shape = m.run.shape; states = m.run.states; mark = mark }; lead = m.lead }))
  closed_fits o m mark all = grind arith

  stepped_fits : (s : Step) (m : Meaning) → AllFit m → AllFit (stepped most s m)
  stepped_fits s m all = grind (arith, fed_fits, offered_fits, taken_lawful, closed_fits)

pub states_fit : StatesFit
states_fit most m all [] = all
states_fit most m all (s ∷ ss) = states_fit most (stepped most s m) (stepped_fits most s m all) ss
