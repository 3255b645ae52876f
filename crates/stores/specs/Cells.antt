-- What the recorders with cells of their own share: which cells are free, what a state needs, and why their meaning is sound. Assumes nothing.
use Rattle.std.specs.Prelude.{◌≡◌, ℕ, ◌+◌, ◌-◌, ◌≤◌, Bool, true, cond, ◌&&◌, List, [], ◌∷◌, length, ℤ, is_some, Some, None, Option, ◌==◌, nat_le, unsigned_abs, refl}
use Rattle.std.specs.Int.{is_in_range}
use Rattle.std.specs.List.{AllByRecursion, list_all}
use Rattle.std.proofs.lemmas.Bool.{and_parts, leb-true, eqb-true}
use Rattle.runs.specs.Feeding.{Priced, after, all_within, unlawful}
use Rattle.runs.specs.Offers.{Offered}
use Rattle.runs.specs.Runs.{Lawful, Meaning, State}
use Rattle.runs.specs.declared.refusal.Refusal.{Refusal}
use Rattle.runs.specs.declared.shape.Shape.{Shape}
use Rattle.stores.specs.declared.head.Head.{Head}

-- the free ones of so many cells: those not used, and none once 4,096 states are kept
abbrev pub free_of : Head → ℕ → ℕ
free_of h cells = cond (nat_le 4096 h.count) 0 (cells - h.used)

-- the free cells once one state more is kept, which needs so many
abbrev pub free_after : Head → ℕ → ℕ → ℕ
free_after h free need = cond (nat_le 4096 (h.count + 1)) 0 (free - need)

-- an unlawful state needs no cell, any other those that are given
abbrev pub need_of : Shape → ℕ → (Offered → ℕ) → Offered → ℕ
need_of shape largest lawful o = after (unlawful shape largest o) 0 (lawful o)

-- what a head means, with the states that its cells hold
abbrev pub head_meaning : Head → List State → Meaning
head_meaning h states = record { run = record { shape = h.shape; states = states; mark = h.mark }; lead = 0 }

-- the test that the states are lawful
abbrev pub is_lawful : Shape → ℕ → State → Bool
is_lawful shape largest s = is_in_range 1 shape.longest s.stay && (length s.values == shape.width && all_within largest s.values)

abbrev pub are_lawful : Shape → ℕ → List State → Bool
are_lawful shape largest ss = list_all (is_lawful shape largest) ss

priced_at : (o : Option Refusal) (n : ℕ) → is_some o ≡ true → after o 0 n ≡ 0
priced_at (Some r) n e = refl
priced_at None n e = cc

pub needs_priced : (shape : Shape) (largest : ℕ) (lawful : Offered → ℕ) → ((o : Offered) → 1 ≤ lawful o) → Priced shape largest (need_of shape largest lawful)
needs_priced shape largest lawful some = record {
  none = λ o e. priced_at (unlawful shape largest o) (lawful o) e;
  some = λ o e. rw e (some o);
}

pub magnitudes_lawful : (largest : ℕ) (vs : List ℤ) → all_within largest vs ≡ true → AllByRecursion (λ v. unsigned_abs v ≤ largest) vs
magnitudes_lawful largest [] e = tt
magnitudes_lawful largest (v ∷ vs) e =
    let p = and_parts (nat_le (unsigned_abs v) largest) (all_within largest vs) e in
    (leb-true (unsigned_abs v) largest p.0, magnitudes_lawful largest vs p.1)

state_lawful : (shape : Shape) (largest : ℕ) (s : State) → is_lawful shape largest s ≡ true → Lawful shape largest s
state_lawful shape largest s e =
    let p = and_parts (is_in_range 1 shape.longest s.stay) _ e in
    let stays = and_parts (nat_le 1 s.stay) (nat_le s.stay shape.longest) p.0 in
    let values = and_parts (length s.values == shape.width) (all_within largest s.values) p.1 in
    record {
      stay = (leb-true 1 s.stay stays.0, leb-true s.stay shape.longest stays.1);
      values = eqb-true (length s.values) shape.width values.0;
      magnitudes = magnitudes_lawful largest s.values values.1;
    }

pub states_lawful : (shape : Shape) (largest : ℕ) (ss : List State) → are_lawful shape largest ss ≡ true → AllByRecursion (Lawful shape largest) ss
states_lawful shape largest [] e = tt
states_lawful shape largest (s ∷ ss) e =
    let p = and_parts (is_lawful shape largest s) (are_lawful shape largest ss) e in
    (state_lawful shape largest s p.0, states_lawful shape largest ss p.1)
