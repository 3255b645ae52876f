-- How the cells of a state are written one after the other. Assumes nothing.
use Rattle.std.proofs.Common.{◌≡◌, ℕ, ◌+◌, ◌<◌, List, [], ◌∷◌, ◌++◌, length, set, ℤ, sym, ap, ◌∙◌, arith}
use Rattle.stores.specs.Filled.{over}
use Rattle.stores.proofs.PastedCells.{over_set}

-- the first two cells
pub over_header : (cells : List ℤ) (stay changed z y : ℤ) → z ≡ stay → y ≡ changed → 1 < length cells → set (set cells 0 z) 1 y ≡ over (stay ∷ changed ∷ []) cells
over_header [] stay changed z y held held_too room = absurd (omega arith)
over_header (a ∷ []) stay changed z y held held_too room = absurd (omega arith)
over_header (a ∷ b ∷ cs) stay changed z y held held_too room = rw (held, held_too)

-- behind them a variable that keeps its value, and one that changes
module _ (cells told told' now : List ℤ) (stay changed : ℤ) (before : now ≡ over (stay ∷ changed ∷ told) cells) where
  pub none_written : told' ≡ told → now ≡ over (stay ∷ changed ∷ told') cells
  none_written same = before ∙ ap (λ cs. over (stay ∷ changed ∷ cs) cells) (sym same)

  pub one_written : (c : ℤ) (at : ℕ) → told' ≡ told ++ (c ∷ []) → at ≡ 2 + length told → at < length cells → set now at c ≡ over (stay ∷ changed ∷ told') cells
  one_written c at more there room =
      rw before (over_set (stay ∷ changed ∷ told) cells at c (omega (arith, there)) room ∙ ap (λ cs. over (stay ∷ changed ∷ cs) cells) (sym more))
