-- A feed that is not refused offers a lawful state, and there is room for it. Assumes nothing.
use Rattle.std.proofs.Common.{◌≡◌, ℕ, ◌≤◌, None, arith}
use Rattle.std.proofs.lemmas.Bool.Decides.{nat_tests}
use Rattle.runs.specs.Feeding.{feed_refusal, unlawful}
use Rattle.runs.specs.Offers.{Offered}
use Rattle.runs.specs.Runs.{Meaning}

module _ (largest free need : ℕ) (m : Meaning) (o : Offered) (taken : feed_refusal largest free need m o ≡ None) where
  pub taken_lawful : unlawful m.run.shape largest o ≡ None
  taken_lawful = grind (arith, nat_tests, taken)

  pub taken_room : need ≤ free
  taken_room = grind (arith, nat_tests, taken)
