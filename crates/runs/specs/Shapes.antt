-- Which shapes are lawful, the lawful shape nearest to a given one, and how a run starts. Assumes nothing.
use Rattle.std.specs.Prelude.{min, max, cond, not, [], Some, None, Option}
use Rattle.std.specs.Int.{is_in_range}
use Rattle.runs.specs.Runs.{Meaning}
use Rattle.runs.specs.declared.refusal.Refusal.{Refusal}
use Rattle.runs.specs.declared.refusal.Refusal.TheVariants as refusal
use Rattle.runs.specs.declared.shape.Mark.TheVariants.{Open}
use Rattle.runs.specs.declared.shape.Shape.{Shape}

-- why a run of this shape is refused, if it is
abbrev pub shape_refusal : Shape → Option Refusal
shape_refusal s =
    cond (not (is_in_range 1 16 s.width)) (Some refusal.Width)
    (cond (not (is_in_range 1 100000 s.longest)) (Some refusal.Stay) None)

-- each number brought to the nearest end of its range
abbrev pub clamped : Shape → Shape
clamped s = record { width = max 1 (min s.width 16); longest = max 1 (min s.longest 100000) }

-- what a start means: an open run without states, of the nearest lawful shape
abbrev pub begun : Shape → Meaning
begun s = record { run = record { shape = clamped s; states = []; mark = Open }; lead = 0 }
