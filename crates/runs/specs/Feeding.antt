-- What feed and close do to a meaning, and when they refuse. Assumes nothing.
use Rattle.std.specs.Prelude.{◌≡◌, ℕ, zero, suc, ◌≤◌, Bool, true, false, cond, not, List, [], ◌∷◌, ◌++◌, length, ℤ, pos, negsuc, is_some, Some, None, Ok, Err, Option, Result, ◌==◌, nat_le, unsigned_abs}
use Rattle.std.specs.Int.{is_in_range}
use Rattle.std.specs.List.{list_all}
use Rattle.runs.specs.Offers.{Offered}
use Rattle.runs.specs.Runs.{State, Run, Meaning, ended}
use Rattle.runs.specs.declared.refusal.Refusal.{Refusal}
use Rattle.runs.specs.declared.refusal.Refusal.TheVariants as refusal
use Rattle.runs.specs.declared.shape.Mark.TheVariants.{Closed}
use Rattle.runs.specs.declared.shape.Shape.{Shape}

-- the number of each refusal
abbrev pub number : Refusal → ℕ
number refusal.Width = 9
number refusal.Ended = 10
number refusal.Stay = 11
number refusal.Magnitude = 12
number refusal.Full = 13
number refusal.NoStates = 14

abbrev pub stay_within : ℕ → ℤ → Bool
stay_within longest (pos n) = is_in_range 1 longest n
stay_within longest (negsuc n) = false

abbrev pub all_within : ℕ → List ℤ → Bool
all_within largest values = list_all (λ v. nat_le (unsigned_abs v) largest) values

-- why a state is refused by every run of this shape, if it is
abbrev pub unlawful : Shape → ℕ → Offered → Option Refusal
unlawful shape largest o =
    cond (not (length o.values == shape.width)) (Some refusal.Width)
    (cond (not (stay_within shape.longest o.stay)) (Some refusal.Stay)
    (cond (not (all_within largest o.values)) (Some refusal.Magnitude) None))

-- the state that is offered, of which the stay is lawful
abbrev pub state_of : Offered → State
state_of o = record { stay = unsigned_abs o.stay; values = o.values }

-- a run is full for a state exactly when that needs more cells than are free
abbrev pub full : ℕ → ℕ → Option Refusal
full free need = cond (nat_le need free) None (Some refusal.Full)

-- the first refusal, if there is one, else the second
abbrev pub or_else : Option Refusal → Option Refusal → Option Refusal
or_else (Some r) other = Some r
or_else None other = other

abbrev pub feed_refusal : ℕ → ℕ → ℕ → Meaning → Offered → Option Refusal
feed_refusal largest free need m o =
    cond (ended m.run.mark) (Some refusal.Ended) (or_else (unlawful m.run.shape largest o) (full free need))

-- a state more: appended at lead 0, else passed over
abbrev pub with_state : State → ℕ → Run → Meaning
with_state s zero run = record { run = record { shape = run.shape; states = run.states ++ (s ∷ []); mark = run.mark }; lead = 0 }
with_state s (suc n) run = record { run = run; lead = n }

abbrev pub after : {A : Type 0} → Option Refusal → A → A → A
after (Some r) same next = same
after None same next = next

abbrev pub answer : Option Refusal → Result Unit Refusal
answer (Some r) = Err r
answer None = Ok tt

-- a feed's answer is `answer` of its refusal, and this is the meaning after it
abbrev pub fed : Option Refusal → Offered → Meaning → Meaning
fed refused o m = after refused m (with_state (state_of o) m.lead m.run)

abbrev pub close_refusal : Meaning → Option Refusal
close_refusal m = cond (ended m.run.mark) (Some refusal.Ended) (cond (length m.run.states == 0) (Some refusal.NoStates) None)

abbrev pub closed : Meaning → Meaning
closed m = after (close_refusal m) m (record { run = record { shape = m.run.shape; states = m.run.states; mark = Closed }; lead = m.lead })

-- what every recorder says of its cells: an unlawful state needs none, any other at least one
pub record Priced (shape : Shape) (largest : ℕ) (need : Offered → ℕ) : Type 0 where
  pub none : (o : Offered) → is_some (unlawful shape largest o) ≡ true → need o ≡ 0
  pub some : (o : Offered) → unlawful shape largest o ≡ None → 1 ≤ need o
