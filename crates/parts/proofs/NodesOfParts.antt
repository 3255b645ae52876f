-- What the node at each index is, told from its part and the nodes of its operands, which stand before it. Assumes nothing.
use Rattle.std.proofs.Common.{◌≡◌, ℕ, zero, suc, ◌+◌, ◌-◌, ◌<◌, true, List, [], ◌∷◌, ◌++◌, length, Some, refl, ap, ◌∙◌, append_assoc, append-nil, add-zero, zero-add, arith}
use Rattle.std.specs.List.{slice_get}
use Rattle.std.proofs.lemmas.Grind.{common_steps}
use Rattle.std.proofs.lemmas.List.{length_push}
use Rattle.std.proofs.lemmas.Option.{get_or_from_slice_get, slice_get-get_or, slice_get_read, slice_get_within}
use Rattle.std.proofs.lemmas.Bool.{eqb-true}
use Rattle.parts.specs.Formulas.{Measure, numeral, variable, unary, binary, over, Property, compare, prefixed, joined}
use Rattle.parts.specs.Order.{Node, measure, property, node_size, last_node, size_of, adjoins, node, nodes_behind, nodes}
use Rattle.parts.specs.declared.kinds.Part.{Part}
use Rattle.parts.specs.declared.kinds.Part.TheVariants.{Numeral, Variable, Unary, Binary, Over, Compare, Prefix, Connective}

-- the node at i is x, of one operand y
pub record OneOperand (ns : List Node) (i : ℕ) (y x : Node) : Type 0 where
  pub below : 0 < i
  pub operand : slice_get ns (i - 1) ≡ Some y
  pub here : slice_get ns i ≡ Some x

-- the node at i is x, of the operands y at `left` and z just before i; y adjoins the parts of z
pub record TwoOperands (ns : List Node) (i left : ℕ) (y z x : Node) : Type 0 where
  pub below : left < i
  pub operand : slice_get ns left ≡ Some y
  pub last_operand : slice_get ns (i - 1) ≡ Some z
  pub adjoin : left + suc (node_size z) ≡ i
  pub here : slice_get ns i ≡ Some x

abbrev pub Meant : List Node → ℕ → Part → Type 0
Meant ns i (Numeral n) = slice_get ns i ≡ Some (measure (numeral n))
Meant ns i (Variable v) = slice_get ns i ≡ Some (measure (variable v))
Meant ns i (Unary u) = (m : Measure) × OneOperand ns i (measure m) (measure (unary u m))
Meant ns i (Binary b left) = (m : Measure) × (n : Measure) × TwoOperands ns i left (measure m) (measure n) (measure (binary b m n))
Meant ns i (Over s w) = (m : Measure) × OneOperand ns i (measure m) (measure (over s w m))
Meant ns i (Compare c q left) = (m : Measure) × (n : Measure) × TwoOperands ns i left (measure m) (measure n) (property (compare c q m n))
Meant ns i (Prefix x) = (p : Property) × OneOperand ns i (property p) (property (prefixed x p))
Meant ns i (Connective c left) = (p : Property) × (q : Property) × TwoOperands ns i left (property p) (property q) (property (joined c p q))

pub nth_at : {X : Type 0} (xs ys : List X) (x : X) → slice_get (xs ++ (x ∷ ys)) (length xs) ≡ Some x
nth_at xs ys x = slice_get_read (xs ++ (x ∷ ys)) _ (length xs) x refl (grind (arith, common_steps)) (grind (arith, common_steps))

pub nth_front : {X : Type 0} (xs ys : List X) (i : ℕ) (x : X) → slice_get xs i ≡ Some x → slice_get (xs ++ ys) i ≡ Some x
nth_front xs ys i x e = grind (arith, common_steps, slice_get_within xs i x e, get_or_from_slice_get xs i x x e, slice_get-get_or (xs ++ ys) i x)

-- a node behind those of the parts before it
module _ (ns more : List Node) (x : Node) where
  one_here : (y : Node) → last_node ns ≡ Some y → OneOperand (ns ++ (x ∷ more)) (length ns) y x
  one_here y e =
      let within = slice_get_within ns (length ns - 1) y e in
      record { below = omega arith; operand = nth_front ns (x ∷ more) (length ns - 1) y e; here = nth_at ns more x }

  two_here : (left : ℕ) (y z : Node) → adjoins ns left ≡ true → slice_get ns left ≡ Some y → last_node ns ≡ Some z → TwoOperands (ns ++ (x ∷ more)) (length ns) left y z x
  two_here left y z t e f =
      record {
        below = slice_get_within ns left y e;
        operand = nth_front ns (x ∷ more) left y e;
        last_operand = nth_front ns (x ∷ more) (length ns - 1) z f;
        adjoin = grind (arith, eqb-true (left + suc (size_of (last_node ns))) (length ns) t);
        here = nth_at ns more x;
      }

  meant_here : (part : Part) → node ns part ≡ Some x → Meant (ns ++ (x ∷ more)) (length ns) part
  meant_here part e = grind (arith, nth_at, one_here, two_here)

-- the first of some parts has a node, and the other parts have the nodes behind it
pub first_node : (ns : List Node) (p : Part) (ps : List Part) (all : List Node) → nodes_behind ns (p ∷ ps) ≡ Some all → (x : Node) × (node ns p ≡ Some x) × (nodes_behind (ns ++ (x ∷ [])) ps ≡ Some all)
first_node ns p ps all e = grind arith

-- the nodes before stay, and each part brings one
pub nodes_more : (ps : List Part) (ns all : List Node) → nodes_behind ns ps ≡ Some all → (more : List Node) × (all ≡ ns ++ more) × (length more ≡ length ps)
nodes_more [] ns all e = ([], cc (append-nil ns), refl)
nodes_more (p ∷ ps) ns all e =
    let f = first_node ns p ps all e in
    let h = nodes_more ps (ns ++ (f.0 ∷ [])) all f.2 in
    (f.0 ∷ h.0, h.1 ∙ append_assoc ns (f.0 ∷ []) h.0, ap suc h.2)

meant_behind : (ps : List Part) (ns all : List Node) (i : ℕ) (part : Part) → nodes_behind ns ps ≡ Some all → slice_get ps i ≡ Some part → Meant all (length ns + i) part
meant_behind [] ns all i part e at = absurd (cc)
meant_behind (p ∷ ps) ns all zero part e at =
    let f = first_node ns p ps all e in
    let h = nodes_more ps (ns ++ (f.0 ∷ [])) all f.2 in
    let same : p ≡ part = cc in
    rw (add-zero, h.1, append_assoc ns (f.0 ∷ []) h.0, ← same) (meant_here ns h.0 f.0 p f.1)
meant_behind (p ∷ ps) ns all (suc i) part e at =
    let f = first_node ns p ps all e in
    let count : length ns + suc i ≡ length (ns ++ (f.0 ∷ [])) + i = omega (arith, length_push ns f.0) in
    rw count (meant_behind ps (ns ++ (f.0 ∷ [])) all i part f.2 at)

pub meant : (ps : List Part) (ns : List Node) (i : ℕ) (part : Part) → nodes ps ≡ Some ns → slice_get ps i ≡ Some part → Meant ns i part
meant ps ns i part e at = rw (← zero-add i) (meant_behind ps [] ns i part e at)

pub as_many_nodes : (ps : List Part) (ns : List Node) → nodes ps ≡ Some ns → length ns ≡ length ps
as_many_nodes ps ns e = grind (arith, nodes_more)
