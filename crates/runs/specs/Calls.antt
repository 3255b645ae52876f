-- What lists of calls do to a meaning, and what lasts whatever they are. Assumes nothing.
use Rattle.std.specs.Prelude.{◌≡◌, ℕ, ◌≤◌, true, List, [], ◌∷◌, ◌++◌, ℤ, Option}
use Rattle.runs.specs.Feeding.{after, close_refusal, closed, fed, feed_refusal}
use Rattle.runs.specs.Offers.{Offered, told}
use Rattle.runs.specs.Runs.{Meaning, State, ended}
use Rattle.runs.specs.declared.calls.Call.{Call}
use Rattle.runs.specs.declared.calls.Call.TheVariants as call
use Rattle.runs.specs.declared.refusal.Refusal.{Refusal}

-- A call on a recorder. A feed comes with the cells that are free and those that its state needs at that time, so that it may be one on any recorder.
pub data Step : Type 0 where
  feeds : (free need : ℕ) (offer : Offered) → Step
  closes : Step

-- the call of the code, at a recorder with so many free cells and these prices
abbrev pub step_of : ℕ → (Offered → ℕ) → Call → Step
step_of free price (call.Feed offer) = feeds free (price (told offer)) (told offer)
step_of free price call.Close = closes

abbrev pub step_refusal : ℕ → Step → Meaning → Option Refusal
step_refusal largest (feeds free need o) m = feed_refusal largest free need m o
step_refusal largest closes m = close_refusal m

abbrev pub stepped : ℕ → Step → Meaning → Meaning
stepped largest (feeds free need o) m = fed (feed_refusal largest free need m o) o m
stepped largest closes m = closed m

-- the cells after a call: those that a feed writes once it takes its state
abbrev pub step_written : ℕ → Step → Meaning → List ℤ → (Offered → List ℤ) → List ℤ
step_written largest (feeds free need o) m cells written = after (feed_refusal largest free need m o) cells (written o)
step_written largest closes m cells written = cells

abbrev pub after_steps : ℕ → List Step → Meaning → Meaning
after_steps largest [] m = m
after_steps largest (s ∷ ss) m = after_steps largest ss (stepped largest s m)

-- how a recorder's later meaning n comes from m
pub record Later (m n : Meaning) : Type 0 where
  pub shape : n.run.shape ≡ m.run.shape
  pub states : (more : List State) × (n.run.states ≡ m.run.states ++ more)
  pub ended : ended m.run.mark ≡ true → n ≡ m
  pub lead : n.lead ≤ m.lead

-- the law over every list of calls: the states only grow, a closed run no longer changes, the lead only falls
abbrev pub Lasting : ℕ → Meaning → Type 0
Lasting largest m = (steps : List Step) → Later m (after_steps largest steps m)

-- The meaning that a list of calls leads to, for a recorder whose free cells and prices its meaning tells.
abbrev pub led : ℕ → (Meaning → ℕ) → (Meaning → Offered → ℕ) → List Call → Meaning → Meaning
led largest free price [] m = m
led largest free price (c ∷ cs) m = led largest free price cs (stepped largest (step_of (free m) (price m) c) m)
