-- The parts of a tree stand for its subtrees, in order, and are that tree, which is the only one that has them. Assumes nothing.
use Rattle.std.proofs.Common.{◌≡◌, ℕ, ◌+◌, ◌-◌, true, List, [], ◌∷◌, ◌++◌, length, Some, sym, refl, ap, ◌∙◌, append_assoc, append-nil, arith}
use Rattle.std.specs.Option.{option_map}
use Rattle.std.specs.List.{slice_get}
use Rattle.std.proofs.lemmas.List.{length-append, length_push}
use Rattle.std.proofs.lemmas.Bool.{eq-eqb}
use Rattle.parts.specs.Formulas.{Measure, numeral, variable, unary, binary, over, Property, compare, prefixed, joined}
use Rattle.parts.specs.Order.{measure_size, property_size, measure_parts, property_parts, parts_of, Node, measure, property, node_size, last_node, adjoins, measures_at, node, nodes_behind, nodes, tree_of}
use Rattle.parts.specs.declared.kinds.Part.{Part}
use Rattle.parts.specs.declared.kinds.Part.TheVariants as part
use Rattle.parts.specs.declared.kinds.Connective.{Connective}
use Rattle.parts.proofs.NodesOfParts.{nth_at, nth_front}

-- the subtrees of a tree, in the order of its parts
abbrev pub measure_nodes : Measure → List Node
measure_nodes (numeral n) = measure (numeral n) ∷ []
measure_nodes (variable v) = measure (variable v) ∷ []
measure_nodes (unary u m) = measure_nodes m ++ (measure (unary u m) ∷ [])
measure_nodes (binary b m n) = (measure_nodes m ++ measure_nodes n) ++ (measure (binary b m n) ∷ [])
measure_nodes (over s w m) = measure_nodes m ++ (measure (over s w m) ∷ [])

abbrev pub property_nodes : Property → List Node
property_nodes (compare c q m n) = (measure_nodes m ++ measure_nodes n) ++ (property (compare c q m n) ∷ [])
property_nodes (prefixed x p) = property_nodes p ++ (property (prefixed x p) ∷ [])
property_nodes (joined c p q) = (property_nodes p ++ property_nodes q) ++ (property (joined c p q) ∷ [])

abbrev node_nodes : Node → List Node
node_nodes (measure m) = measure_nodes m
node_nodes (property p) = property_nodes p

-- a tree is the last of its subtrees
ends : (x : Node) → (xs : List Node) × (node_nodes x ≡ xs ++ (x ∷ []))
ends (measure (numeral n)) = ([], refl)
ends (measure (variable v)) = ([], refl)
ends (measure (unary u m)) = (measure_nodes m, refl)
ends (measure (binary b m n)) = (measure_nodes m ++ measure_nodes n, refl)
ends (measure (over s w m)) = (measure_nodes m, refl)
ends (property (compare c q m n)) = (measure_nodes m ++ measure_nodes n, refl)
ends (property (prefixed x p)) = (property_nodes p, refl)
ends (property (joined c p q)) = (property_nodes p ++ property_nodes q, refl)

length_measure_nodes : (m : Measure) → length (measure_nodes m) ≡ measure_size m
length_measure_nodes (numeral n) = refl
length_measure_nodes (variable v) = refl
length_measure_nodes (unary u m) = grind (arith, length-append, length_measure_nodes m)
length_measure_nodes (binary b m n) = grind (arith, length-append, length_measure_nodes m, length_measure_nodes n)
length_measure_nodes (over s w m) = grind (arith, length-append, length_measure_nodes m)

length_property_nodes : (p : Property) → length (property_nodes p) ≡ property_size p
length_property_nodes (compare c q m n) = grind (arith, length-append, length_measure_nodes)
length_property_nodes (prefixed x p) = grind (arith, length-append, length_property_nodes p)
length_property_nodes (joined c p q) = grind (arith, length-append, length_property_nodes p, length_property_nodes q)

length_node_nodes : (x : Node) → length (node_nodes x) ≡ node_size x
length_node_nodes x = grind (arith, length_measure_nodes, length_property_nodes)

last_is : (ns : List Node) (x : Node) → last_node (ns ++ node_nodes x) ≡ Some x
last_is ns x =
    let e = ends x in
    let is : ns ++ node_nodes x ≡ (ns ++ e.0) ++ (x ∷ []) = ap (λ xs. ns ++ xs) e.1 ∙ sym (append_assoc ns e.0 (x ∷ [])) in
    let at : length ((ns ++ e.0) ++ (x ∷ [])) - 1 ≡ length (ns ++ e.0) = omega (arith, length_push (ns ++ e.0) x) in
    rw (is, at) (nth_at (ns ++ e.0) [] x)

-- where two operands stand one behind the other
module _ (ns : List Node) (y z : Node) where
  end : length ns + node_size y - 1 ≡ length (ns ++ node_nodes y) - 1
  end = rw (length-append, length_node_nodes) refl

  left_is : slice_get (ns ++ (node_nodes y ++ node_nodes z)) (length ns + node_size y - 1) ≡ Some y
  left_is = rw (← append_assoc ns (node_nodes y) (node_nodes z), end) (nth_front (ns ++ node_nodes y) (node_nodes z) _ y (last_is ns y))

  right_is : last_node (ns ++ (node_nodes y ++ node_nodes z)) ≡ Some z
  right_is = rw (← append_assoc ns (node_nodes y) (node_nodes z)) (last_is (ns ++ node_nodes y) z)

  adjoin : adjoins (ns ++ (node_nodes y ++ node_nodes z)) (length ns + node_size y - 1) ≡ true
  adjoin =
      let e = ends y in
      let h = length_node_nodes y in
      let k = length_node_nodes z in
      let some = ap length e.1 ∙ length_push e.0 y in
      rw right_is (eq-eqb _ _ (simp length-append (omega arith)))

-- parts that stand for these nodes, the first of them at this index
record Yields (start : ℕ) (ps : List Part) (xs : List Node) : Type 0 where
  pub nodes_behind_parts : (ns : List Node) (rest : List Part) → length ns ≡ start → nodes_behind ns (ps ++ rest) ≡ nodes_behind (ns ++ xs) rest

one_behind : (ns : List Node) (p : Part) (ps : List Part) (x : Node) → node ns p ≡ Some x → nodes_behind ns (p ∷ ps) ≡ nodes_behind (ns ++ (x ∷ [])) ps
one_behind ns p ps x e = rw (e, nodes_behind)

part_yields : {start : ℕ} {ps : List Part} {xs : List Node} (part : Part) (x : Node) → Yields start ps xs → ((ns : List Node) → length ns ≡ start → node (ns ++ xs) part ≡ Some x) → Yields start (ps ++ (part ∷ [])) (xs ++ (x ∷ []))
part_yields {ps = ps} {xs = xs} part x before here =
    record {
      nodes_behind_parts = λ ns rest e. rw (append_assoc ps (part ∷ []) rest, before.nodes_behind_parts ns (part ∷ rest) e, one_behind (ns ++ xs) part rest x (here ns e), append_assoc ns xs (x ∷ []));
    }

both_yield : {start k : ℕ} {ps qs : List Part} {xs ys : List Node} → length xs ≡ k → Yields start ps xs → Yields (start + k) qs ys → Yields start (ps ++ qs) (xs ++ ys)
both_yield {ps = ps} {qs = qs} {xs = xs} {ys = ys} many left right =
    record {
      nodes_behind_parts = λ ns rest e. rw (append_assoc ps qs rest, left.nodes_behind_parts ns (qs ++ rest) e, right.nodes_behind_parts (ns ++ xs) rest (length-append ns xs ∙ (cc)), append_assoc ns xs ys);
    }

-- the node of a part whose operands stand one behind the other
module _ {start : ℕ} (ns : List Node) (e : length ns ≡ start) where
  of_measures : (part : ℕ → Part) (make : Measure → Measure → Node) (m n : Measure) → ((ks : List Node) (left : ℕ) → node ks (part left) ≡ option_map (λ o. make o.0 o.1) (measures_at ks left)) → node (ns ++ (measure_nodes m ++ measure_nodes n)) (part (start + measure_size m - 1)) ≡ Some (make m n)
  of_measures part make m n is = rw (is, ← e, adjoin ns (measure m) (measure n), left_is ns (measure m) (measure n), right_is ns (measure m) (measure n))

  of_properties : (c : Connective) (p q : Property) → node (ns ++ (property_nodes p ++ property_nodes q)) (part.Connective c (start + property_size p - 1)) ≡ Some (property (joined c p q))
  of_properties c p q = rw (← e, adjoin ns (property p) (property q), left_is ns (property p) (property q), right_is ns (property p) (property q))

measure_yields : (m : Measure) (start : ℕ) → Yields start (measure_parts start m) (measure_nodes m)
measure_yields (numeral n) start = record { nodes_behind_parts = λ ns rest e. refl }
measure_yields (variable v) start = record { nodes_behind_parts = λ ns rest e. refl }
measure_yields (unary u m) start = part_yields (part.Unary u) _ (measure_yields m start) (λ ns e. rw (last_is ns (measure m)))
measure_yields (binary b m n) start =
    part_yields (part.Binary b (start + measure_size m - 1)) _
    (both_yield (length_measure_nodes m) (measure_yields m start) (measure_yields n (start + measure_size m)))
    (λ ns e. of_measures ns e (part.Binary b) (λ m n. measure (binary b m n)) m n (λ ks left. refl))
measure_yields (over s w m) start = part_yields (part.Over s w) _ (measure_yields m start) (λ ns e. rw (last_is ns (measure m)))

property_yields : (p : Property) (start : ℕ) → Yields start (property_parts start p) (property_nodes p)
property_yields (compare c q m n) start =
    part_yields (part.Compare c q (start + measure_size m - 1)) _
    (both_yield (length_measure_nodes m) (measure_yields m start) (measure_yields n (start + measure_size m)))
    (λ ns e. of_measures ns e (part.Compare c q) (λ m n. property (compare c q m n)) m n (λ ks left. refl))
property_yields (prefixed x p) start = part_yields (part.Prefix x) _ (property_yields p start) (λ ns e. rw (last_is ns (property p)))
property_yields (joined c p q) start = grind (arith, part_yields, both_yield, length_property_nodes, of_properties, property_yields p start, property_yields q (start + property_size p))

pub nodes_parts_of : (p : Property) → nodes (parts_of p) ≡ Some (property_nodes p)
nodes_parts_of p = ap nodes (sym (append-nil (parts_of p))) ∙ (property_yields p 0).nodes_behind_parts [] [] refl

pub tree_of_parts_of : (p : Property) → tree_of (parts_of p) ≡ Some p
tree_of_parts_of p = rw (nodes_parts_of p, last_is [] (property p), length_property_nodes p, eq-eqb (property_size p) (property_size p) refl)

pub one_tree : (p q : Property) → parts_of p ≡ parts_of q → p ≡ q
one_tree p q e = let same = sym (tree_of_parts_of p) ∙ ap tree_of e ∙ tree_of_parts_of q in cc
