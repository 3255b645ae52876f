-- What changes keep beside their cells. Assumes nothing.
use Rattle.std.specs.Prelude.{◌≡◌, ℕ, ◌*◌, ◌<◌, List, [], length, take, ℤ, slice_index_or}
use Rattle.runs.specs.declared.shape.Shape.{Shape}
use Rattle.changes.specs.Encoding.{place_of, values_before}
use Rattle.changes.specs.declared.waypoints.Waypoint.{Waypoint}

-- the waypoint for state 64 k
abbrev pub waypoint_at : List Waypoint → ℕ → Waypoint
waypoint_at waypoints k = slice_index_or waypoints k (record { place = 0; values = [] })

-- the waypoint stands where state n begins, with the values before it
abbrev pub Stands : Waypoint → ℕ → List ℤ → ℕ → Type 0
Stands w width cells n = (w.place ≡ place_of cells n) × (take width w.values ≡ values_before width cells n)

-- of cells that tell n states and no more: the values of the last state, and a waypoint for every 64th
abbrev pub Kept : List ℤ → List Waypoint → Shape → ℕ → List ℤ → Type 0
Kept last waypoints shape n cells =
    (place_of cells n ≡ length cells)
    × (take shape.width last ≡ values_before shape.width cells n)
    × ((k : ℕ) → 64 * k < n → Stands (waypoint_at waypoints k) shape.width cells (64 * k))
