-- What is offered to a run. Assumes nothing.
use Rattle.std.specs.Prelude.{List, ℤ}
use Rattle.runs.specs.declared.offer.Offer.{Offer}

-- a stay in ticks, and the values of the variables in their order, lawful or not
pub record Offered : Type 0 where
  pub stay : ℤ
  pub values : List ℤ

-- what an offer says
abbrev pub told : Offer → Offered
told offer = record { stay = offer.stay; values = offer.values.now }
