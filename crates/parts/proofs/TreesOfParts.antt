-- Some parts are a tree only if they are its parts, in order. Assumes nothing.
use Rattle.std.proofs.Common.{◌≡◌, ℕ, zero, suc, ◌+◌, ◌-◌, ◌<◌, List, [], ◌∷◌, ◌++◌, length, take, Some, sym, refl, ap, ◌∙◌, append_assoc, arith}
use Rattle.std.specs.List.{slice_get}
use Rattle.std.proofs.lemmas.List.{length-append, length-take-le, nil_from_length, take_all, take_at, take_more, take-take}
use Rattle.std.proofs.lemmas.Option.{get_or_from_slice_get, slice_get-get_or, slice_get_within}
use Rattle.parts.specs.Formulas.{Measure, numeral, variable, unary, binary, over, Property, compare, prefixed, joined}
use Rattle.parts.specs.Order.{measure_size, property_size, measure_parts, property_parts, parts_of, Node, measure, property, node_size, last_node, nodes, tree_of}
use Rattle.parts.specs.declared.kinds.Part.{Part}
use Rattle.parts.specs.declared.kinds.Part.TheVariants.{Numeral, Variable, Unary, Binary, Over, Compare, Prefix, Connective}
use Rattle.parts.proofs.NodesOfParts.{OneOperand, TwoOperands, Meant, as_many_nodes, meant}

length_measure_parts : (m : Measure) (start : ℕ) → length (measure_parts start m) ≡ measure_size m
length_measure_parts (numeral n) start = refl
length_measure_parts (variable v) start = refl
length_measure_parts (unary u m) start = grind (arith, length-append, length_measure_parts m start)
length_measure_parts (binary b m n) start = grind (arith, length-append, length_measure_parts m start, length_measure_parts n (start + measure_size m))
length_measure_parts (over s w m) start = grind (arith, length-append, length_measure_parts m start)

pub length_property_parts : (p : Property) (start : ℕ) → length (property_parts start p) ≡ property_size p
length_property_parts (compare c q m n) start = grind (arith, length-append, length_measure_parts)
length_property_parts (prefixed x p) start = grind (arith, length-append, length_property_parts p start)
length_property_parts (joined c p q) start = grind (arith, length-append, length_property_parts p start, length_property_parts q (start + property_size p))

abbrev node_parts : ℕ → Node → List Part
node_parts start (measure m) = measure_parts start m
node_parts start (property p) = property_parts start p

length_node_parts : (x : Node) (start : ℕ) → length (node_parts start x) ≡ node_size x
length_node_parts x start = grind (arith, length_measure_parts, length_property_parts)

take_nth : {X : Type 0} (xs : List X) (i : ℕ) (x : X) → slice_get xs i ≡ Some x → take (suc i) xs ≡ take i xs ++ (x ∷ [])
take_nth xs i x e = grind (arith, take_more xs i x (slice_get_within xs i x e), get_or_from_slice_get xs i x x e)

-- the parts up to index i end with those of x
abbrev Ends : List Part → ℕ → Node → Type 0
Ends ps i x = (before : List Part) × (take (suc i) ps ≡ before ++ node_parts (length before) x)

module _ (ps : List Part) (i : ℕ) where
  ends_leaf : (part : Part) (x : Node) → ((s : ℕ) → node_parts s x ≡ part ∷ []) → slice_get ps i ≡ Some part → Ends ps i x
  ends_leaf part x is at = (take i ps, rw (is, take_nth ps i part at))

  ends_one : (part : Part) (y x : Node) → ((s : ℕ) → node_parts s x ≡ node_parts s y ++ (part ∷ [])) → 0 < i → slice_get ps i ≡ Some part → Ends ps (i - 1) y → Ends ps i x
  ends_one part y x is some at h = grind (arith, take_nth, append_assoc)

  ends_two : (part : ℕ → Part) (left : ℕ) (y z x : Node) → ((s : ℕ) → node_parts s x ≡ (node_parts s y ++ node_parts (s + node_size y) z) ++ (part (s + node_size y - 1) ∷ [])) → left + suc (node_size z) ≡ i → slice_get ps i ≡ Some (part left) → Ends ps left y → Ends ps (i - 1) z → Ends ps i x
  ends_two part left y z x is adjoin at h k =
      let here : suc (i - 1) ≡ i = omega arith in
      let within = slice_get_within ps i (part left) at in
      let right : take i ps ≡ k.0 ++ node_parts (length k.0) z = ap (λ n. take n ps) (sym here) ∙ k.1 in
      let many = sym (length-take-le i ps (omega arith)) ∙ ap length right ∙ length-append k.0 (node_parts (length k.0) z) in
      let upto : length k.0 ≡ suc left = omega (arith, length_node_parts z (length k.0)) in
      let front : k.0 ≡ h.0 ++ node_parts (length h.0) y = sym (take_at k.0 (node_parts (length k.0) z) (suc left) upto) ∙ ap (take (suc left)) (sym right) ∙ take-take (suc left) i ps (omega arith) ∙ h.1 in
      let start : length h.0 + node_size y ≡ length k.0 = omega (arith, ap length front, length-append h.0 (node_parts (length h.0) y), length_node_parts y (length h.0)) in
      let named : length k.0 - 1 ≡ left = omega arith in
      (h.0, take_nth ps i (part left) at ∙ ap (λ qs. qs ++ (part left ∷ [])) (right ∙ ap (λ qs. qs ++ node_parts (length k.0) z) front) ∙ rw (is, start, named) (simp append_assoc))

-- the node at i, and that the parts up to it end with its own
abbrev Ended : List Part → List Node → ℕ → Type 0
Ended ps ns i = (x : Node) × (slice_get ns i ≡ Some x) × Ends ps i x

-- so it is where it is so of the operands, which stand before
module _ (ps : List Part) (ns : List Node) (i : ℕ) (below : (j : ℕ) (y : Node) → j < i → slice_get ns j ≡ Some y → Ends ps j y) where
  one_ended : (part : Part) (y x : Node) → ((s : ℕ) → node_parts s x ≡ node_parts s y ++ (part ∷ [])) → slice_get ps i ≡ Some part → OneOperand ns i y x → Ended ps ns i
  one_ended part y x is at o = (x, o.here, ends_one ps i part y x is o.below at (below (i - 1) y (omega arith) o.operand))

  two_ended : (part : ℕ → Part) (left : ℕ) (y z x : Node) → ((s : ℕ) → node_parts s x ≡ (node_parts s y ++ node_parts (s + node_size y) z) ++ (part (s + node_size y - 1) ∷ [])) → slice_get ps i ≡ Some (part left) → TwoOperands ns i left y z x → Ended ps ns i
  two_ended part left y z x is at o =
      (x, o.here, ends_two ps i part left y z x is o.adjoin at (below left y o.below o.operand) (below (i - 1) z (omega arith) o.last_operand))

  ended : (part : Part) → slice_get ps i ≡ Some part → Meant ns i part → Ended ps ns i
  ended (Numeral n) at is = (_, is, ends_leaf ps i (Numeral n) (measure (numeral n)) (λ s. refl) at)
  ended (Variable v) at is = (_, is, ends_leaf ps i (Variable v) (measure (variable v)) (λ s. refl) at)
  ended (Unary u) at is = one_ended (Unary u) _ _ (λ s. refl) at is.1
  ended (Binary b left) at is = two_ended (Binary b) left _ _ _ (λ s. refl) at is.2
  ended (Over s w) at is = one_ended (Over s w) _ _ (λ s. refl) at is.1
  ended (Compare c q left) at is = two_ended (Compare c q) left _ _ _ (λ s. refl) at is.2
  ended (Prefix y) at is = one_ended (Prefix y) _ _ (λ s. refl) at is.1
  ended (Connective c left) at is = two_ended (Connective c) left _ _ _ (λ s. refl) at is.2

ends_at : (ps : List Part) (ns : List Node) → nodes ps ≡ Some ns → (upto i : ℕ) (x : Node) → i < upto → slice_get ns i ≡ Some x → Ends ps i x
ends_at ps ns are zero i x h at = absurd (omega arith)
ends_at ps ns are (suc upto) i x h at =
    let within = slice_get_within ns i x at in
    let here = slice_get-get_or ps i (Variable 0) (omega (arith, as_many_nodes ps ns are)) in
    let e = ended ps ns i (λ j y l at. ends_at ps ns are upto j y (omega arith) at) _ here (meant ps ns i _ are here) in
    let same : e.0 ≡ x = cc in
    rw (← same) e.2

-- the last node of some parts that are a tree is that tree, and all the parts belong to it
pub root_node : (ps : List Part) (p : Property) → tree_of ps ≡ Some p → (ns : List Node) × (nodes ps ≡ Some ns) × (last_node ns ≡ Some (property p)) × (property_size p ≡ length ns)
root_node ps p e = grind arith

pub parts_of_tree_of : (ps : List Part) (p : Property) → tree_of ps ≡ Some p → ps ≡ parts_of p
parts_of_tree_of ps p e =
    let r = root_node ps p e in
    let many = as_many_nodes ps r.0 r.1 in
    let within = slice_get_within r.0 (length r.0 - 1) (property p) r.2 in
    let h = ends_at ps r.0 r.1 (length r.0) (length r.0 - 1) (property p) within r.2 in
    let whole : ps ≡ h.0 ++ property_parts (length h.0) p = sym (take_all (suc (length r.0 - 1)) ps (omega arith)) ∙ h.1 in
    let none : h.0 ≡ [] = nil_from_length h.0 (omega (arith, ap length whole, length-append h.0 (property_parts (length h.0) p), length_property_parts p (length h.0))) in
    whole ∙ rw none
