-- The order of parts: how a tree is laid out as parts, and which tree some parts are. Assumes nothing.
use Rattle.std.specs.Prelude.{ℕ, suc, ◌+◌, ◌-◌, Bool, cond, List, [], ◌∷◌, ◌++◌, length, Some, None, Option, ◌==◌}
use Rattle.std.specs.Option.{option_flatten, option_map, option_zip}
use Rattle.std.specs.List.{slice_get}
use Rattle.parts.specs.Formulas.{Measure, numeral, variable, unary, binary, over, Property, compare, prefixed, joined}
use Rattle.parts.specs.declared.kinds.Part.{Part}
use Rattle.parts.specs.declared.kinds.Part.TheVariants.{Numeral, Variable, Unary, Binary, Over, Compare, Prefix, Connective}

-- how many parts a tree has
abbrev pub measure_size : Measure → ℕ
measure_size (numeral n) = 1
measure_size (variable v) = 1
measure_size (unary u m) = suc (measure_size m)
measure_size (binary b m n) = suc (measure_size m + measure_size n)
measure_size (over s w m) = suc (measure_size m)

abbrev pub property_size : Property → ℕ
property_size (compare c q m n) = suc (measure_size m + measure_size n)
property_size (prefixed x p) = suc (property_size p)
property_size (joined c p q) = suc (property_size p + property_size q)

-- The parts of a tree, the first of them at this index: operands before their part, left before right. A part of two operands names the left one's last part.
abbrev pub measure_parts : ℕ → Measure → List Part
measure_parts start (numeral n) = Numeral n ∷ []
measure_parts start (variable v) = Variable v ∷ []
measure_parts start (unary u m) = measure_parts start m ++ (Unary u ∷ [])
measure_parts start (binary b m n) = (measure_parts start m ++ measure_parts (start + measure_size m) n) ++ (Binary b (start + measure_size m - 1) ∷ [])
measure_parts start (over s w m) = measure_parts start m ++ (Over s w ∷ [])

abbrev pub property_parts : ℕ → Property → List Part
property_parts start (compare c q m n) = (measure_parts start m ++ measure_parts (start + measure_size m) n) ++ (Compare c q (start + measure_size m - 1) ∷ [])
property_parts start (prefixed x p) = property_parts start p ++ (Prefix x ∷ [])
property_parts start (joined c p q) = (property_parts start p ++ property_parts (start + property_size p) q) ++ (Connective c (start + property_size p - 1) ∷ [])

abbrev pub parts_of : Property → List Part
parts_of p = property_parts 0 p

-- what a part stands for: the tree that it is the last part of
pub data Node : Type 0 where
  measure : Measure → Node
  property : Property → Node

abbrev pub node_size : Node → ℕ
node_size (measure m) = measure_size m
node_size (property p) = property_size p

abbrev pub as_measure : Option Node → Option Measure
as_measure None = None
as_measure (Some (measure m)) = Some m
as_measure (Some (property p)) = None

abbrev pub as_property : Option Node → Option Property
as_property None = None
as_property (Some (measure m)) = None
as_property (Some (property p)) = Some p

abbrev pub last_node : List Node → Option Node
last_node ns = slice_get ns (length ns - 1)

abbrev pub size_of : Option Node → ℕ
size_of None = 0
size_of (Some x) = node_size x

-- the node at this index stands just before the parts of the last node
abbrev pub adjoins : List Node → ℕ → Bool
adjoins ns left = left + suc (size_of (last_node ns)) == length ns

-- the two operands of a part: at the index that it names, and last
abbrev pub measures_at : List Node → ℕ → Option (Measure × Measure)
measures_at ns left = cond (adjoins ns left) (option_zip (as_measure (slice_get ns left)) (as_measure (last_node ns))) None

abbrev pub properties_at : List Node → ℕ → Option (Property × Property)
properties_at ns left = cond (adjoins ns left) (option_zip (as_property (slice_get ns left)) (as_property (last_node ns))) None

-- What a part stands for, where the parts before it stand for these nodes; None where an operand is missing or of the other sort, or where the left one does not adjoin the right one.
abbrev pub node : List Node → Part → Option Node
node ns (Numeral n) = Some (measure (numeral n))
node ns (Variable v) = Some (measure (variable v))
node ns (Unary u) = option_map (λ m. measure (unary u m)) (as_measure (last_node ns))
node ns (Binary b left) = option_map (λ o. measure (binary b o.0 o.1)) (measures_at ns left)
node ns (Over s w) = option_map (λ m. measure (over s w m)) (as_measure (last_node ns))
node ns (Compare c q left) = option_map (λ o. property (compare c q o.0 o.1)) (measures_at ns left)
node ns (Prefix x) = option_map (λ p. property (prefixed x p)) (as_property (last_node ns))
node ns (Connective c left) = option_map (λ o. property (joined c o.0 o.1)) (properties_at ns left)

-- the nodes of some parts, behind those of the parts before them
abbrev pub nodes_behind : List Node → List Part → Option (List Node)
nodes_behind ns [] = Some ns
nodes_behind ns (p ∷ ps) = elim (node ns p) [ None ↦ None | Some x ↦ nodes_behind (ns ++ (x ∷ [])) ps ]

abbrev pub nodes : List Part → Option (List Node)
nodes ps = nodes_behind [] ps

-- the last node, if it is a property that all the parts belong to
abbrev pub root_of : List Node → Option Property
root_of ns = cond (size_of (last_node ns) == length ns) (as_property (last_node ns)) None

abbrev pub tree_of : List Part → Option Property
tree_of ps = option_flatten (option_map root_of (nodes ps))
