-- What a recorder without cells means: an open run without states, of values up to 5. Assumes nothing.
use Rattle.std.specs.Prelude.{ℕ, cond, [], is_some}
use Rattle.std.proofs.Common.{arith}
use Rattle.std.specs.Int.{IsInRange}
use Rattle.runs.specs.Feeding.{Priced, unlawful}
use Rattle.runs.specs.Offers.{Offered}
use Rattle.runs.specs.Runs.{Meaning, Sound}
use Rattle.runs.specs.declared.shape.Mark.TheVariants.{Open}
use Rattle.runs.specs.declared.shape.Shape.{Shape}

abbrev pub no_states : Shape → Meaning
no_states shape = record { run = record { shape = shape; states = []; mark = Open }; lead = 0 }

-- every lawful state would need a cell
abbrev pub cell_need : Shape → Offered → ℕ
cell_need shape o = cond (is_some (unlawful shape 5 o)) 0 1

pub none_sound : (shape : Shape) → IsInRange 1 16 shape.width → IsInRange 1 100000 shape.longest → Sound 5 (no_states shape)
none_sound shape width longest = record {
  width = width;
  longest = longest;
  few = omega arith;
  lawful = tt;
  leads = λ e. absurd (omega arith);
}

pub none_priced : (shape : Shape) → Priced shape 5 (cell_need shape)
none_priced shape = record { none = λ o e. grind (arith, e); some = λ o e. grind (arith, e) }
