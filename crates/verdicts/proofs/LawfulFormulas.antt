-- What the limits of a formula say of its parts. Assumes nothing.
use Rattle.std.proofs.Common.{◌≡◌, ℕ, ◌≤◌, Bool, true, false, arith}
use Rattle.std.proofs.lemmas.Bool.{and_parts, leb-true}
use Rattle.parts.specs.Bounds.{bound_kept}
use Rattle.parts.specs.Formulas.{Measure, unary, binary, over, Property, compare, prefixed, joined}
use Rattle.parts.specs.Limits.{lawful, lawful_connective, lawful_measure, lawful_prefix, lawful_window}
use Rattle.parts.specs.declared.kinds.Binary.{Binary}
use Rattle.parts.specs.declared.kinds.Comparator.{Comparator}
use Rattle.parts.specs.declared.kinds.Connective.{Connective}
use Rattle.parts.specs.declared.kinds.Prefix.{Prefix}
use Rattle.parts.specs.declared.kinds.Quantity.{Quantity}
use Rattle.parts.specs.declared.kinds.Statistic.{Statistic}
use Rattle.parts.specs.declared.kinds.Unary.{Unary}
use Rattle.parts.specs.declared.kinds.Window.{Window}

pub window_order : (w : Window) → lawful_window w ≡ true → w.first ≤ w.last
window_order w h = leb-true w.first w.last (and_parts _ _ h).0

module _ (width largest : ℕ) where
  pub unary_parts : (inside : Bool) (u : Unary) (m : Measure) → lawful_measure width largest inside (unary u m) ≡ true
      → (lawful_measure width largest inside m ≡ true) × (bound_kept largest (unary u m) ≡ true)
  unary_parts inside u m h = and_parts _ _ h

  pub binary_parts : (inside : Bool) (b : Binary) (m n : Measure) → lawful_measure width largest inside (binary b m n) ≡ true
      → (lawful_measure width largest inside m ≡ true) × (lawful_measure width largest inside n ≡ true) × (bound_kept largest (binary b m n) ≡ true)
  binary_parts inside b m n h = grind arith

  pub over_parts : (inside : Bool) (s : Statistic) (w : Window) (m : Measure) → lawful_measure width largest inside (over s w m) ≡ true
      → (inside ≡ false) × (lawful_window w ≡ true) × (lawful_measure width largest true m ≡ true) × (bound_kept largest (over s w m) ≡ true)
  over_parts inside s w m h = grind arith

  pub compare_parts : (c : Comparator) (q : Quantity) (m n : Measure) → lawful width largest (compare c q m n) ≡ true
      → (lawful_measure width largest false m ≡ true) × (lawful_measure width largest false n ≡ true)
  compare_parts c q m n h = and_parts _ _ h

  pub prefixed_parts : (x : Prefix) (p : Property) → lawful width largest (prefixed x p) ≡ true → (lawful_prefix x ≡ true) × (lawful width largest p ≡ true)
  prefixed_parts x p h = and_parts _ _ h

  pub joined_parts : (c : Connective) (p q : Property) → lawful width largest (joined c p q) ≡ true
      → (lawful_connective c ≡ true) × (lawful width largest p ≡ true) × (lawful width largest q ≡ true)
  joined_parts c p q h = grind arith
