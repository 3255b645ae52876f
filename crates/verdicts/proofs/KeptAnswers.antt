-- Answers that stay once they are there: how connectives, comparisons and computations keep them. Assumes nothing.
use Rattle.std.proofs.Common.{ℤ, None, Option, arith}
use Rattle.std.specs.Option.{option_map}
use Rattle.parts.specs.declared.kinds.Comparator.{Comparator}
use Rattle.verdicts.specs.Tables.{greater, implies, lesser, swap}
use Rattle.verdicts.specs.Verdicts.{both, compared}
use Rattle.verdicts.specs.declared.verdict.Verdict.{Verdict}
use Rattle.verdicts.specs.declared.verdict.Verdict.TheVariants.{Undecided}

-- the later of two answers: any, where the earlier one was none yet, and else the same
pub data Keeps {A : Type 0} (none : A) : A → A → Type 0 where
  yet : {later : A} → Keeps none none later
  same : {answer : A} → Keeps none answer answer

lesser_left : (v w : Verdict) → Keeps Undecided (lesser Undecided w) (lesser v w)
lesser_left v w = grind (arith, same, yet)

lesser_right : (v w : Verdict) → Keeps Undecided (lesser v Undecided) (lesser v w)
lesser_right v w = grind (arith, same, yet)

pub lesser_keeps : {v v' w w' : Verdict} → Keeps Undecided v v' → Keeps Undecided w w' → Keeps Undecided (lesser v w) (lesser v' w')
lesser_keeps h k = grind arith

greater_left : (v w : Verdict) → Keeps Undecided (greater Undecided w) (greater v w)
greater_left v w = grind (arith, yet, same)

greater_right : (v w : Verdict) → Keeps Undecided (greater v Undecided) (greater v w)
greater_right v w = grind (arith, yet, same)

pub greater_keeps : {v v' w w' : Verdict} → Keeps Undecided v v' → Keeps Undecided w w' → Keeps Undecided (greater v w) (greater v' w')
greater_keeps h k = grind arith

pub swap_keeps : {v v' : Verdict} → Keeps Undecided v v' → Keeps Undecided (swap v) (swap v')
swap_keeps h = grind (arith, yet, same)

pub implies_keeps : {v v' w w' : Verdict} → Keeps Undecided v v' → Keeps Undecided w w' → Keeps Undecided (implies v w) (implies v' w')
implies_keeps h k = greater_keeps (swap_keeps h) k

pub mapped_keeps : {A B : Type 0} (f : A → B) {x x' : Option A} → Keeps None x x' → Keeps None (option_map f x) (option_map f x')
mapped_keeps f h = grind (arith, yet, same)

both_none : {A B C : Type 0} (f : A → B → C) (x : Option A) (y : Option B) → Keeps None (both f x None) (both f x y)
both_none f x y = grind (arith, yet)

pub both_keeps : {A B C : Type 0} (f : A → B → C) {x x' : Option A} {y y' : Option B} → Keeps None x x' → Keeps None y y' → Keeps None (both f x y) (both f x' y')
both_keeps f h k = grind (arith, yet, same, both_none)

compared_none : (c : Comparator) (x y : Option ℤ) → Keeps Undecided (compared c x None) (compared c x y)
compared_none c x y = grind (arith, yet)

pub compared_keeps : (c : Comparator) {x x' y y' : Option ℤ} → Keeps None x x' → Keeps None y y' → Keeps Undecided (compared c x y) (compared c x' y')
compared_keeps c h k = grind (arith, yet, same, compared_none)
