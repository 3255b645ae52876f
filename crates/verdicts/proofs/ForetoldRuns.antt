-- On an open run a true or false is what holds on every closed run that begins with the kept states. Assumes nothing.
use Rattle.std.proofs.Common.{◌≡◌, List, ◌++◌, sym, subst, arith}
use Rattle.std.proofs.ByRecursion.{All-append}
use Rattle.std.proofs.lemmas.List.{length-append}
use Rattle.parts.specs.Formulas.{Property}
use Rattle.runs.specs.Runs.{State}
use Rattle.verdicts.proofs.ClosedRuns.{two_valued}
use Rattle.verdicts.proofs.GrowingRuns.{verdicts_stay}
use Rattle.verdicts.specs.Begins.{Fits}
use Rattle.verdicts.specs.Laws.{Foretells, Tells}
use Rattle.verdicts.specs.Verdicts.{verdict}
use Rattle.verdicts.specs.declared.verdict.Verdict.{Verdict}
use Rattle.verdicts.specs.declared.verdict.Verdict.TheVariants.{Undecided}

-- what is told of a run by a verdict is told by an earlier one, if that was decided and stayed
earlier_tells : (p : Property) (run : List State) (v w : Verdict) → ((v ≡ Undecided → ⊥) → w ≡ v) → Tells p run w → Tells p run v
earlier_tells p run v w stays told = grind arith

pub foretells : Foretells
foretells largest kept p h open' fits some closed begins =
    let all = kept.states ++ begins.more in
    subst (λ states. Tells p states (verdict p kept.mark kept.states)) (sym begins.states)
    (earlier_tells p all _ _ (verdicts_stay kept.shape.width largest p h kept.mark closed.mark open' kept.states begins.more)
    (two_valued kept.shape largest p h closed.mark begins.closed all
    (All-append (Fits kept.shape) kept.states begins.more fits begins.fits) (omega (arith, length-append kept.states begins.more))).0)
