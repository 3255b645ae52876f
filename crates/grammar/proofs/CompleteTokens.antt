-- The readers of one token, of windows, and of prefixes and connectives behind their signs read whatever is spelled and breaks no rule.
use Rattle.std.proofs.Common.{◌≡◌, ℕ, suc, ◌+◌, Bool, true, false, cond, List, [], ◌∷◌, ◌++◌, None, refl, arith}
use Rattle.tokens.specs.Tokens.{Tok, Spot, mark, numeral}
use Rattle.tokens.specs.declared.words.ConnectiveSign.{ConnectiveSign}
use Rattle.tokens.specs.declared.words.PrefixSign.{PrefixSign}
use Rattle.tokens.specs.declared.words.Punctuation.{Punctuation}
use Rattle.tokens.specs.declared.words.Punctuation.TheVariants.{Open, OpenWindow, CloseWindow, Comma}
use Rattle.tokens.specs.declared.words.Sign.{Sign}
use Rattle.tokens.specs.declared.words.Sign.TheVariants.{Unsigned}
use Rattle.grammar.specs.Faults.{broken_by}
use Rattle.grammar.specs.Layers.{LeadText}
use Rattle.grammar.specs.Reading.{Outcome, got, Reader, and_then, first, is_mark, bring, punctuation, opening, signed_numeral, window_numeral, index_numeral, first_moment, last_moment, index_by, window, lead, link}
use Rattle.grammar.specs.Steps.{Rules, Step, unless, or_else, plain, bringing, nesting, limited, window_steps}
use Rattle.grammar.specs.Trees.{Lead, skipping, Link}
use Rattle.grammar.proofs.Keeping.{left_for, none_or, unless_none}
use Rattle.grammar.proofs.Spelling.{Spelled, none, more, part}
use Rattle.grammar.proofs.WindowReaders.{Led, led_not, led_next, led_skipping, led_eventually, led_always, lead_rest, Linked, linked_and, linked_or, linked_implies, linked_iff, linked_until, link_rest}

-- the answer is a, after n parts, with s left
pub data Gives {A : Type 0} (a : A) (n : ℕ) (s : List Spot) : Outcome A → Type 0 where
  it_does : Gives a n s (got a n s)

pub given : {A : Type 0} {a : A} {n : ℕ} {s : List Spot} {o : Outcome A} → Gives a n s o → o ≡ got a n s
given it_does = refl

-- the last reader, from whose answer the whole is made
pub made_gives : {A B : Type 0} {a : A} {b : B} {n n' : ℕ} {s s' : List Spot} {o : Outcome A} (f : A → Reader B) → Gives a n s o → Gives b n' s' (f a n s) → Gives b n' s' (and_then o f)
made_gives f it_does g = g

pub if_true : {A : Type 0} {a : A} {n : ℕ} {s : List Spot} {b : Bool} {o : Outcome A} (other : Outcome A) → b ≡ true → Gives a n s o → Gives a n s (cond b o other)
if_true {a} {n} {s} {o} other e g = grind arith

if_false : {A : Type 0} {a : A} {n : ℕ} {s : List Spot} {b : Bool} {o : Outcome A} (other : Outcome A) → b ≡ false → Gives a n s o → Gives a n s (cond b other o)
if_false {a} {n} {s} {o} other e g = grind arith

own_mark : (p : Punctuation) → is_mark p (mark p) ≡ true
own_mark p = grind arith

-- the sign of a part that is brought
pub gives_brought : (rules : Rules) (n : ℕ) (t : Tok) {B : Type 0} {b : B} {n' : ℕ} {s s' : List Spot} (f : Unit → Reader B) → broken_by rules n (bringing t) ≡ None → Gives b n' s' (f tt (suc n) s) → Gives b n' s' (and_then (bring rules n s) f)
gives_brought rules n t f e g = grind arith

module _ {rules : Rules} where
  -- what begins with xs is read by one reader after another, the first of which may look at what follows
  pub ahead_gives : {A B : Type 0} {a : A} {b : B} {n n' : ℕ} {s s' : List Spot} {o : Outcome A} {ys : List Step} (f : A → Reader B) (xs : List Step) → ((m : ℕ) (t : List Spot) → Spelled rules m t ys n' s' → Spelled rules n s xs m t → Gives a m t o) → Spelled rules n s (xs ++ ys) n' s' → ((m : ℕ) (t : List Spot) → Spelled rules m t ys n' s' → Gives b n' s' (f a m t)) → Gives b n' s' (and_then o f)
  ahead_gives f xs g w k = let h = part xs w in made_gives f (g h.0 h.1 h.3 h.2) (k h.0 h.1 h.3)

  pub then_gives : {A B : Type 0} {a : A} {b : B} {n n' : ℕ} {s s' : List Spot} {o : Outcome A} {ys : List Step} (f : A → Reader B) (xs : List Step) → ((m : ℕ) (t : List Spot) → Spelled rules n s xs m t → Gives a m t o) → Spelled rules n s (xs ++ ys) n' s' → ((m : ℕ) (t : List Spot) → Spelled rules m t ys n' s' → Gives b n' s' (f a m t)) → Gives b n' s' (and_then o f)
  then_gives f xs g w k = ahead_gives f xs (λ m t _. g m t) w k

  -- what is read by its first token
  pub by_first : {A : Type 0} {a : A} {n n' m : ℕ} {s s' t : List Spot} {x : Step} {xs : List Step} (p : Tok → Reader A) → Spelled rules n s (x ∷ xs) n' s' → Gives a m t (p x.tok n s) → Gives a m t (p (first s).tok n s)
  by_first p (more e w) g = g

  -- nothing is left to read
  done : {A : Type 0} {a : A} {n n' : ℕ} {s s' : List Spot} → Spelled rules n s [] n' s' → Gives a n' s' (got a n s)
  done none = it_does

  pub gives_mark : (p : Punctuation) {n n' : ℕ} {s s' : List Spot} → Spelled rules n s (plain (mark p) ∷ []) n' s' → Gives tt n' s' (punctuation p n s)
  gives_mark p (more e none) = if_true _ (own_mark p) it_does

  pub gives_opening : (d left : ℕ) {n n' : ℕ} {s s' : List Spot} → d + left ≡ rules.nesting → Spelled rules n s (nesting (suc d) (mark Open) ∷ []) n' s' → Gives tt n' s' (opening left n s)
  gives_opening d left deep h = grind (arith, if_true, left_for, it_does)

  gives_first_moment : (a : ℕ) {n n' : ℕ} {s s' : List Spot} → Spelled rules n s (limited (numeral Unsigned a) (unless (rules.numeral a) 3) ∷ []) n' s' → Gives a n' s' (first_moment rules (window_numeral (signed_numeral (first s).tok)) n s)
  gives_first_moment a {n} (more {x} e none) = grind (arith, if_true, unless_none, it_does)

  gives_last_moment : (a b : ℕ) {n n' : ℕ} {s s' : List Spot} → Spelled rules n s (limited (numeral Unsigned b) (or_else (unless (rules.numeral b) 3) (unless (rules.order a b) 4)) ∷ []) n' s' → Gives b n' s' (last_moment rules a (window_numeral (signed_numeral (first s).tok)) n s)
  gives_last_moment a b h = grind (arith, none_or, if_true, unless_none, it_does)

  gives_index : (sign : Sign) (k : ℕ) {n n' : ℕ} {s s' : List Spot} → LeadText (skipping sign k) → Spelled rules n s (limited (numeral sign k) (unless (rules.index k) 3) ∷ []) n' s' → Gives (sign, k) n' s' (index_by rules (index_numeral (signed_numeral (first s).tok)) n s)
  gives_index sign k h e = grind (arith, if_true, unless_none, it_does)

  pub gives_window : (a b : ℕ) {n n' : ℕ} {s s' : List Spot} → Spelled rules n s (window_steps rules a b) n' s' → Gives (a, b) n' s' (window rules n s)
  gives_window a b w =
      then_gives _ (_ ∷ []) (λ _ _. gives_mark OpenWindow) w (λ _ _ w.
      then_gives _ (_ ∷ []) (λ _ _. gives_first_moment a) w (λ _ _ w.
      then_gives _ (_ ∷ []) (λ _ _. gives_mark Comma) w (λ _ _ w.
      then_gives _ (_ ∷ []) (λ _ _. gives_last_moment a b) w (λ _ _ w.
      then_gives _ (_ ∷ []) (λ _ _. gives_mark CloseWindow) w (λ _ _ w. done w)))))

  -- X alone is not followed by what would begin its index
  pub gives_lead : {x : PrefixSign} {l : Lead} {n n' : ℕ} {s s' : List Spot} → Led x l → is_mark OpenWindow (first s').tok ≡ false → Spelled rules n s (lead_rest rules l) n' s' → Gives l n' s' (lead rules x n s)
  unfolding lead_rest
  gives_lead led_not f none = it_does
  gives_lead led_next f none = if_false _ f it_does
  gives_lead (led_skipping {s = sign} {k} h) f (more e w) = then_gives _ (_ ∷ []) (λ _ _. gives_index sign k h) w (λ _ _ w. then_gives _ (_ ∷ []) (λ _ _. gives_mark CloseWindow) w (λ _ _ w. done w))
  gives_lead (led_eventually {a} {b}) f w = then_gives _ (window_steps rules a b) (λ _ _. gives_window a b) w (λ _ _ w. done w)
  gives_lead (led_always {a} {b}) f w = then_gives _ (window_steps rules a b) (λ _ _. gives_window a b) w (λ _ _ w. done w)

  pub gives_link : {x : ConnectiveSign} {l : Link} {n n' : ℕ} {s s' : List Spot} → Linked x l → Spelled rules n s (link_rest rules l) n' s' → Gives l n' s' (link rules x n s)
  unfolding link_rest
  gives_link linked_and none = it_does
  gives_link linked_or none = it_does
  gives_link linked_implies none = it_does
  gives_link linked_iff none = it_does
  gives_link (linked_until {a} {b}) w = then_gives _ (window_steps rules a b) (λ _ _. gives_window a b) w (λ _ _ w. done w)
