-- A recorder of any kind whose cells hold exactly its states holds them so whatever calls are carried out. Assumes nothing.
use Rattle.std.proofs.Common.{◌≡◌, ℕ, ◌+◌, ◌<◌, List, ◌∷◌, length, get_or, drop, ℤ, Some, None, Option, sym, refl, ap, ◌∙◌}
use Rattle.std.proofs.lemmas.List.{at_drop_more}
use Rattle.runs.specs.Calls.{step_of, step_written, stepped}
use Rattle.runs.specs.Feeding.{after, close_refusal, fed, feed_refusal, state_of, with_state}
use Rattle.runs.specs.Offers.{Offered, told}
use Rattle.runs.specs.Runs.{Meaning, State}
use Rattle.runs.specs.declared.calls.Call.{Call}
use Rattle.runs.specs.declared.calls.Call.TheVariants as call
use Rattle.runs.specs.declared.refusal.Refusal.{Refusal}
use Rattle.runs.specs.declared.shape.Mark.TheVariants.{Closed}
use Rattle.runs.specs.declared.shape.Shape.{Shape}
use Rattle.stores.specs.Filled.{over}
use Rattle.stores.specs.Recorded.{free_beside, led_in}

-- the cells hold the states, over those that were there first
pub record Holds (filled : Shape → List State → List ℤ) (first : List ℤ) (m : Meaning) (cells : List ℤ) : Type 0 where
  pub held : cells ≡ over (filled m.run.shape m.run.states) first
  pub long : length cells ≡ length first

-- a kind of recorder with cells of its own, and how it takes a state
pub record Kind (X : Type 0) : Type 0 where
  -- the largest magnitude of a value, the cells that states fill, and how many one state more needs
  pub largest : ℕ
  pub filled : Shape → List State → List ℤ
  pub need : Meaning → Offered → ℕ
  -- what a recorder means, its cells, the free ones, the need of a state in it, and its cells once a state is written
  pub meaning : X → Meaning
  pub cells : X → List ℤ
  pub room : X → ℕ
  pub price : X → Offered → ℕ
  pub written : X → Offered → List ℤ
  -- it passes over no state
  pub leads : (x : X) → (meaning x).lead ≡ 0
  -- what it means tells its free cells and the need of a state
  pub free_is : (first : List ℤ) (x : X) → Holds filled first (meaning x) (cells x) → room x ≡ free_beside (length (cells x)) (meaning x).run.states (filled (meaning x).run.shape (meaning x).run.states)
  pub need_is : (x : X) → price x ≡ need (meaning x)
  -- once a state is taken, the cells hold it behind the others
  pub taken : (first : List ℤ) (x : X) (o : Offered) → Holds filled first (meaning x) (cells x) → feed_refusal largest (room x) (price x o) (meaning x) o ≡ None → Holds filled first (with_state (state_of o) 0 (meaning x).run) (written x o)

module _ {X : Type 0} (k : Kind X) (first : List ℤ) (x : X) where
  -- its meaning and its cells after a call
  abbrev meaning_after : Call → Meaning
  meaning_after c = stepped k.largest (step_of (k.room x) (k.price x) c) (k.meaning x)

  abbrev cells_after : Call → List ℤ
  cells_after c = step_written k.largest (step_of (k.room x) (k.price x) c) (k.meaning x) (k.cells x) (k.written x)

  -- what a list of calls leads to in as many cells
  abbrev calls_lead : List Call → Meaning → Meaning
  calls_lead = led_in k.largest k.filled k.need (length first)

  module _ (before : Holds k.filled first (k.meaning x) (k.cells x)) where
    fed_held : (o : Offered) (refused : Option Refusal) → feed_refusal k.largest (k.room x) (k.price x o) (k.meaning x) o ≡ refused → Holds k.filled first (fed refused o (k.meaning x)) (after refused (k.cells x) (k.written x o))
    fed_held o (Some why) e = before
    fed_held o None e = rw (k.leads x) (k.taken first x o before e)

    closed_held : (refused : Option Refusal) → Holds k.filled first (after refused (k.meaning x) (record { run = record { shape = (k.meaning x).run.shape; states = (k.meaning x).run.states; mark = Closed }; lead = (k.meaning x).lead })) (k.cells x)
    closed_held (Some why) = before
    closed_held None = record { held = before.held; long = before.long }

    step_held : (c : Call) → Holds k.filled first (meaning_after c) (cells_after c)
    step_held (call.Feed offer) = fed_held (told offer) _ refl
    step_held call.Close = closed_held (close_refusal (k.meaning x))

    -- a call is carried out, after which the meaning is n
    module _ (n : Meaning) (c : Call) (means : n ≡ meaning_after c) where
      pub call_held : (cells : List ℤ) → cells ≡ cells_after c → Holds k.filled first n cells
      call_held cells holds =
          let s = step_held c in
          record { held = holds ∙ s.held ∙ ap (λ m. over (k.filled m.run.shape m.run.states) first) (sym means); long = ap length holds ∙ s.long }

      call_led : (cs : List Call) → calls_lead (c ∷ cs) (k.meaning x) ≡ calls_lead cs n
      call_led cs =
          let m = k.meaning x in
          let filled = k.filled m.run.shape m.run.states in
          let free : k.room x ≡ free_beside (length first) m.run.states filled = k.free_is first x before ∙ ap (λ j. free_beside j m.run.states filled) before.long in
          ap (calls_lead cs) (ap (λ j. stepped k.largest (step_of j (k.need m) c) m) (sym free) ∙ ap (λ p. stepped k.largest (step_of (k.room x) p c) m) (sym (k.need_is x)) ∙ sym means)

    -- the same for a call in the midst of a list
    pub calls_led : (n : Meaning) (calls : List Call) (i : ℕ) (d : Call) → i < length calls → n ≡ meaning_after (get_or calls i d) → calls_lead (drop i calls) (k.meaning x) ≡ calls_lead (drop (i + 1) calls) n
    calls_led n calls i d there means = at_drop_more (λ cs. calls_lead cs (k.meaning x)) calls i d there ∙ call_led n (get_or calls i d) means (drop (i + 1) calls)
