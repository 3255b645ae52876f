-- The readers of levels and of formulas read every formula that is spelled and breaks no rule.
use Rattle.std.proofs.Common.{◌≡◌, ℕ, zero, suc, ◌+◌, ◌<◌, ◌≤◌, List, ◌∷◌, ◌++◌, length, Some, None, Option, sym, ap, ◌∙◌, subst, le_refl, zero-add, arith, eq-eqb, ne_eqb}
use Rattle.tokens.specs.Tokens.{Tok, Spot, connective}
use Rattle.tokens.specs.declared.words.ConnectiveSign.{ConnectiveSign}
use Rattle.grammar.specs.Faults.{broken_by}
use Rattle.grammar.specs.Layers.{PropertyText, tighter, a_link, loosest}
use Rattle.grammar.specs.Reading.{Outcome, got, Reader, and_then, first, refuse, at_level, sign_at, sign_level, linked, links, tier, operand, formula}
use Rattle.grammar.specs.Steps.{Rules, Step, bringing, property_steps}
use Rattle.grammar.specs.Trees.{Link, PropertyTree, joined}
use Rattle.grammar.proofs.CompleteProperties.{Ends, GivesProperties, gives_operand_at}
use Rattle.grammar.proofs.CompleteTokens.{Gives, it_does, given, made_gives, then_gives, gives_brought, gives_link}
use Rattle.grammar.proofs.Spelling.{Spelled, none, more, part, respelled}
use Rattle.grammar.proofs.TokenReaders.{spot, none_left, deeper}
use Rattle.grammar.proofs.WindowReaders.{Linked, linked_by, linked_steps, linked_level, link_rest}

-- a connective ends what is bound more tightly
ends_connective : (level : ℕ) (x : ConnectiveSign) → level < sign_level x → Ends level (connective x)
ends_connective zero x h = tt
ends_connective (suc level) x h = grind (arith, ne_eqb, ends_connective level x (omega arith))

sign_of_level : (level : ℕ) (x : ConnectiveSign) → sign_level x ≡ level → at_level level x ≡ Some x
sign_of_level level x e = grind (arith, eq-eqb)

shorter : {rules : Rules} {n n' : ℕ} {s s' : List Spot} {xs : List Step} → Spelled rules n s xs n' s' → length s' ≤ length s
shorter {s} none = le_refl (length s)
shorter (more e w) = let h = shorter w in omega arith

-- a text of a level is read up to its last link, and as many links as tokens may follow
record Runs (rules : Rules) (level : ℕ) (inner : Reader PropertyTree) (p : PropertyTree) (n n' : ℕ) (s s' : List Spot) : Type 0 where
  most : ℕ
  long : length s' ≤ most
  same : tier rules inner (suc level) n s ≡ links most rules (suc level) (tier rules inner level) p n' s'

module _ (rules : Rules) where
  gives_linked : (d level : ℕ) (inner : Reader PropertyTree) (x : ConnectiveSign) (l : Link) (p q : PropertyTree) {us : List Tok} (n place : ℕ) (s : List Spot) {n' : ℕ} {s' : List Spot} → GivesProperties rules d level inner → Linked x l → PropertyText level us q → Ends level (first s').tok → broken_by rules n (bringing (connective x)) ≡ None → Spelled rules (suc n) s (link_rest rules l ++ property_steps rules d q) n' s' → Gives (joined l p q) n' s' (linked rules inner p x n (spot (connective x) place ∷ s))
  gives_linked d level inner x l p q n place s {n'} {s'} g h u ends e w =
      gives_brought rules n (connective x) _ e (
      then_gives _ (link_rest rules l) (λ _ _. gives_link h) w (λ k v w.
      made_gives _ (g _ q k n' v s' u ends w) it_does))

  -- where no connective of this level follows, the links end
  pub links_end : (most level : ℕ) (inner : Reader PropertyTree) (p : PropertyTree) (n : ℕ) (s : List Spot) → sign_at level (first s).tok ≡ None → links most rules level inner p n s ≡ got p n s
  unfolding links
  links_end most level inner p n s e = grind arith

  -- one link more: the sign at hand is of this level, and what follows it is read
  links_more : (most level : ℕ) (inner : Reader PropertyTree) (x : ConnectiveSign) (p q : PropertyTree) (n place : ℕ) (s : List Spot) {n' : ℕ} {s' : List Spot} → sign_level x ≡ level → Gives q n' s' (linked rules inner p x n (spot (connective x) place ∷ s)) → links (suc most) rules level inner p n (spot (connective x) place ∷ s) ≡ links most rules level inner q n' s'
  unfolding links
  links_more most level inner x p q n place s e g =
      ap (λ (o : Option ConnectiveSign). elim o [ None ↦ got p n (spot (connective x) place ∷ s) | Some y ↦ and_then (linked rules inner p y n (spot (connective x) place ∷ s)) (links most rules level inner) ]) (sign_of_level level x e)
      ∙ ap (λ (o : Outcome PropertyTree). and_then o (links most rules level inner)) (given g)

  runs_on : (d level most : ℕ) (inner : Reader PropertyTree) (x : ConnectiveSign) (l : Link) (p q : PropertyTree) {us : List Tok} {n m n' : ℕ} {s t s' : List Spot} → GivesProperties rules d level (tier rules inner level) → sign_level x ≡ suc level → Linked x l → PropertyText level us q → Ends level (first s').tok → length t ≤ most → tier rules inner (suc level) n s ≡ links most rules (suc level) (tier rules inner level) p m t → Spelled rules m t (bringing (connective x) ∷ (link_rest rules l ++ property_steps rules d q)) n' s' → Runs rules level inner (joined l p q) n n' s s'
  runs_on d level zero inner x l p q g is h u ends long e (more k w) = absurd (omega arith)
  runs_on d level (suc most) inner x l p q {m} g is h u ends long e (more {place} {s = t} k w) =
      let short = shorter w in
      record { most = most; long = omega arith; same = e ∙ links_more most (suc level) (tier rules inner level) x p (joined l p q) m place t is (gives_linked d level (tier rules inner level) x l p q m place t g h u ends k w) }

  runs : (d level : ℕ) (inner : Reader PropertyTree) → GivesProperties rules d level (tier rules inner level) → {ts : List Tok} {p : PropertyTree} {n n' : ℕ} {s s' : List Spot} → PropertyText (suc level) ts p → Ends level (first s').tok → Spelled rules n s (property_steps rules d p) n' s' → Runs rules level inner p n n' s s'
  unfolding tier
  runs d level inner g {p} {n} {n'} {s} {s'} (tighter t) ends w = record { most = length s'; long = le_refl (length s'); same = ap (λ (o : Outcome PropertyTree). and_then o (λ p n s. links (length s) rules (suc level) (tier rules inner level) p n s)) (given (g _ p n n' s s' t ends w)) }
  runs d level inner g (a_link {l} {p} {q} is t u) ends w =
      let x = linked_by l in
      let ps = property_steps rules d p in
      let qs = property_steps rules d q in
      let level_is = sym (linked_level x.1) ∙ is in
      let h = part ps (respelled (ap (λ (ls : List Step). ps ++ (ls ++ qs)) (linked_steps rules x.1)) w) in
      let before = runs d level inner g t (signed x.0 level_is h.3) h.2 in
      runs_on d level before.most inner x.0 l p q g level_is x.1 u ends before.long before.same h.3
    where
      signed : {m n' : ℕ} {t s' : List Spot} {ys : List Step} (x : ConnectiveSign) → sign_level x ≡ suc level → Spelled rules m t (bringing (connective x) ∷ ys) n' s' → Ends level (first t).tok
      signed x e (more k w) = ends_connective level x (omega arith)

  gives_tier : (d : ℕ) (inner : Reader PropertyTree) → GivesProperties rules d 0 inner → (level : ℕ) → GivesProperties rules d level (tier rules inner level)
  unfolding tier
  gives_tier d inner g zero ts p n n' s s' t ends w = g ts p n n' s s' t ends w
  gives_tier d inner g (suc level) ts p n n' s s' t ends w =
      let h = runs d level inner (gives_tier d inner g level) t ends.1 w in
      subst (λ (o : Outcome PropertyTree). Gives p n' s' o) (sym (h.same ∙ links_end h.most (suc level) (tier rules inner level) p n' s' ends.0)) it_does

  gives_operand : (d left : ℕ) → d + left ≡ rules.nesting → GivesProperties rules d 0 (operand rules left)
  unfolding operand
  gives_operand d zero deep ts p n n' s s' t ends w = gives_operand_at d zero (λ n s. refuse 2 s) (λ n s. refuse 2 s) deep (λ l. absurd (none_left l)) (λ l. absurd (none_left l)) t w
  gives_operand d (suc left) deep ts p n n' s s' t ends w =
      let inner = gives_operand (suc d) left (deeper d left deep) in
      gives_operand_at d (suc left) (operand rules left) (tier rules (operand rules left) loosest) deep (λ _. inner) (λ _. gives_tier (suc d) (operand rules left) inner loosest) t w

  pub gives_formula : GivesProperties rules 0 loosest (formula rules rules.nesting)
  gives_formula = grind (arith, gives_tier, gives_operand, zero-add)
