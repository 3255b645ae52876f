-- A wide integer that a cell can hold is found there again. Assumes nothing.
use Rattle.std.proofs.Common.{◌≡◌, ◌≤◌, ℤ, pos, negsuc, nat_abs, arith, w32, w64, to_z, of_z}
use Rattle.std.proofs.lemmas.Int.{ints}

pub cell_holds : (z : ℤ) → nat_abs z ≤ 1000000000 → to_z w32 (of_z w32 (to_z w64 (of_z w64 z))) ≡ z
cell_holds (pos n) small = omega (arith, ints)
cell_holds (negsuc n) small = omega (arith, ints)
