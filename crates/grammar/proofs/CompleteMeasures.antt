-- The reader of measures reads every measure that is spelled and breaks no rule.
use Rattle.std.proofs.Common.{◌≡◌, ℕ, zero, suc, ◌+◌, Bool, true, false, ltb, List, [], ◌∷◌, ◌++◌, refl, arith}
use Rattle.parts.specs.declared.kinds.Binary.{Binary}
use Rattle.parts.specs.declared.kinds.Statistic.{Statistic}
use Rattle.parts.specs.declared.kinds.Unary.{Unary}
use Rattle.tokens.specs.Tokens.{Tok, Spot, mark}
use Rattle.tokens.specs.Tokens as token
use Rattle.tokens.specs.declared.words.Punctuation.TheVariants.{Open, Comma}
use Rattle.grammar.specs.Layers.{MeasureText, a_numeral, a_variable, a_unary, a_binary, a_statistic}
use Rattle.grammar.specs.Reading as reading
use Rattle.grammar.specs.Reading.{Reader, first, call, measure_at, measure, unary_arguments, binary_arguments, window_arguments}
use Rattle.grammar.specs.Steps.{Rules, Step, unless, plain, nesting, ending, leaf, window_steps, call_steps, measure_steps}
use Rattle.grammar.specs.Trees.{MeasureTree, numeral, variable, unary, binary, over}
use Rattle.grammar.proofs.CompleteTokens.{Gives, it_does, if_true, made_gives, then_gives, by_first, gives_brought, gives_mark, gives_opening, gives_window}
use Rattle.grammar.proofs.Keeping.{opened, unless_none}
use Rattle.grammar.proofs.Spelling.{Spelled, more}
use Rattle.grammar.proofs.TokenReaders.{none_left, deeper}

-- a reader that reads each measure inside so many nestings
abbrev pub GivesMeasures : Rules → ℕ → Bool → Reader MeasureTree → Type 0
GivesMeasures rules d inside p = (ts : List Tok) (m : MeasureTree) (n n' : ℕ) (s s' : List Spot) → MeasureText inside ts m → Spelled rules n s (measure_steps rules d m) n' s' → Gives m n' s' (p n s)

module _ {rules : Rules} where
  gives_ending : (m : MeasureTree) (place back : ℕ) {n n' : ℕ} {s s' : List Spot} → Spelled rules n s (ending rules m back ∷ []) n' s' → Gives m n' s' (reading.ending rules place m n s)
  gives_ending m place back h = grind (arith, if_true, unless_none, it_does)

  -- a measure with arguments, which are read from behind its bracket
  gives_call : (d left : ℕ) (name : Tok) (m : MeasureTree) (xs : List Step) (p : Reader MeasureTree) {n n' : ℕ} {s s' : List Spot} → d + left ≡ rules.nesting → (ltb 0 left ≡ true → (n n' : ℕ) (s s' : List Spot) → Spelled rules n s xs n' s' → Gives m n' s' (p n s)) → Spelled rules n s (call_steps rules (suc d) name m xs) n' s' → Gives m n' s' (call rules left p n s)
  gives_call d left name m xs p {n} deep g (more {place} e w) =
      gives_brought rules n name _ e (
      then_gives _ (_ ∷ []) (λ _ _. gives_opening d left deep) w (λ _ _ v.
      then_gives _ xs (λ m t. g (opened d left (nesting (suc d) (mark Open)) deep refl w) _ m _ t) v (λ _ _ v.
      gives_ending m place _ v)))

  gives_leaf : (t : Tok) (m : MeasureTree) (test : Bool) (number : ℕ) {n n' : ℕ} {s s' : List Spot} → Spelled rules n s (leaf t (unless test number) ∷ []) n' s' → Gives m n' s' (reading.leaf rules test number m n s)
  gives_leaf t m test number h = grind (arith, gives_brought, it_does)

  gives_unary : (d : ℕ) (inside : Bool) (p : Reader MeasureTree) → GivesMeasures rules d inside p → {ts : List Tok} (u : Unary) (m : MeasureTree) → MeasureText inside ts m → (n n' : ℕ) (s s' : List Spot) → Spelled rules n s (measure_steps rules d m) n' s' → Gives (unary u m) n' s' (unary_arguments p (unary u) n s)
  gives_unary d inside p g u m t n n' s s' w = made_gives _ (g _ m n n' s s' t w) it_does

  gives_binary : (d : ℕ) (inside : Bool) (p : Reader MeasureTree) → GivesMeasures rules d inside p → {ts us : List Tok} (b : Binary) (l m : MeasureTree) → MeasureText inside ts l → MeasureText inside us m → (n n' : ℕ) (s s' : List Spot) → Spelled rules n s (measure_steps rules d l ++ (plain (mark Comma) ∷ measure_steps rules d m)) n' s' → Gives (binary b l m) n' s' (binary_arguments p (binary b) n s)
  gives_binary d inside p g b l m t u n n' s s' w =
      then_gives _ (measure_steps rules d l) (λ k v. g _ l n k s v t) w (λ _ _ w.
      then_gives _ (_ ∷ []) (λ _ _. gives_mark Comma) w (λ k v w.
      made_gives _ (g _ m k n' v s' u w) it_does))

  gives_statistic : (d : ℕ) (p : Reader MeasureTree) → GivesMeasures rules d true p → {ts : List Tok} (x : Statistic) (a b : ℕ) (m : MeasureTree) → MeasureText true ts m → (n n' : ℕ) (s s' : List Spot) → Spelled rules n s (window_steps rules a b ++ measure_steps rules d m) n' s' → Gives (over x a b m) n' s' (window_arguments rules p (over x) n s)
  gives_statistic d p g x a b m t n n' s s' w =
      then_gives _ (window_steps rules a b) (λ _ _. gives_window a b) w (λ k v w.
      made_gives _ (g _ m k n' v s' t w) it_does)

  gives_measure_at : (d left : ℕ) (inside : Bool) (inner : Bool → Reader MeasureTree) → d + left ≡ rules.nesting → (ltb 0 left ≡ true → (b : Bool) → GivesMeasures rules (suc d) b (inner b)) → (ts : List Tok) (m : MeasureTree) (n n' : ℕ) (s s' : List Spot) → MeasureText inside ts m → Spelled rules n s (measure_steps rules d m) n' s' → Gives m n' s' (measure_at rules left inside inner (first s).tok n s)
  gives_measure_at d left inside inner deep g _ _ n n' s s' (a_numeral {s = sign} {n = k}) w = by_first (measure_at rules left inside inner) w (gives_leaf (token.numeral sign k) (numeral sign k) (rules.numeral k) 3 w)
  gives_measure_at d left inside inner deep g _ _ n n' s s' (a_variable {name}) w = by_first (measure_at rules left inside inner) w (gives_leaf (token.variable name) (variable name) (rules.column name) 5 w)
  gives_measure_at d left inside inner deep g _ _ n n' s s' (a_unary {u} {m} t) w = by_first (measure_at rules left inside inner) w (gives_call d left (token.unary u) (unary u m) (measure_steps rules (suc d) m) _ deep (λ l. gives_unary (suc d) inside (inner inside) (g l inside) u m t) w)
  gives_measure_at d left inside inner deep g _ _ n n' s s' (a_binary {b} {m} {n = k} t u) w = by_first (measure_at rules left inside inner) w (gives_call d left (token.binary b) (binary b m k) (measure_steps rules (suc d) m ++ (plain (mark Comma) ∷ measure_steps rules (suc d) k)) _ deep (λ l. gives_binary (suc d) inside (inner inside) (g l inside) b m k t u) w)
  gives_measure_at d left inside inner deep g _ _ n n' s s' (a_statistic {s = x} {a} {b} {m} t) w = by_first (measure_at rules left false inner) w (gives_call d left (token.statistic x) (over x a b m) (window_steps rules a b ++ measure_steps rules (suc d) m) _ deep (λ l. gives_statistic (suc d) (inner true) (g l true) x a b m t) w)

  pub gives_measure : (d left : ℕ) → d + left ≡ rules.nesting → (inside : Bool) → GivesMeasures rules d inside (measure rules left inside)
  unfolding measure
  gives_measure d zero deep inside ts m n n' s s' t w = grind (arith, gives_measure_at, none_left)
  gives_measure d (suc left) deep inside ts m n n' s s' t w = gives_measure_at d (suc left) inside (measure rules left) deep (λ _ b. gives_measure (suc d) left (deeper d left deep) b) ts m n n' s s' t w
