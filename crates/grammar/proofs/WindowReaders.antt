-- The readers of windows, of prefixes behind their sign and of connectives behind theirs are right.
use Rattle.std.proofs.Common.{◌≡◌, ℕ, Bool, true, false, cond, List, [], ◌∷◌, sym, refl, subst, arith}
use Rattle.tokens.specs.Tokens.{Tok, mark, prefix, connective}
use Rattle.tokens.specs.Tokens as token
use Rattle.tokens.specs.declared.words.ConnectiveSign.{ConnectiveSign}
use Rattle.tokens.specs.declared.words.ConnectiveSign.TheVariants as connectives
use Rattle.tokens.specs.declared.words.PrefixSign.{PrefixSign}
use Rattle.tokens.specs.declared.words.PrefixSign.TheVariants as prefixes
use Rattle.tokens.specs.declared.words.Punctuation.TheVariants.{OpenWindow, CloseWindow, Comma}
use Rattle.tokens.specs.declared.words.Sign.{Sign}
use Rattle.grammar.specs.Layers.{LeadText, link_level}
use Rattle.grammar.specs.Reading.{got, and_then, first, is_mark, punctuation, signed_numeral, index_numeral, index_by, window, next_lead, lead, link, sign_level}
use Rattle.grammar.specs.Steps.{Rules, Step, unless, plain, bringing, limited, leading, window_steps, lead_steps, link_steps}
use Rattle.grammar.specs.Trees.{Lead, negation, next, skipping, eventually, always, Link, and, or, implies, iff, until}
use Rattle.grammar.proofs.Keeping.{plain_judged}
use Rattle.grammar.proofs.Outcomes.{Language, Right, reads, Fine, then_right}
use Rattle.grammar.proofs.Spelling.{none, more}
use Rattle.grammar.proofs.TokenKinds.{mark_is}
use Rattle.grammar.proofs.TokenReaders.{spot, punctuation_fine, first_moment_fine, last_moment_fine, index_fine}

abbrev pub windows : Rules → Language (ℕ × ℕ)
windows rules = record { steps = λ w. window_steps rules w.0 w.1; has = λ _. Unit {0} }

-- the prefixes with this sign
pub data Led : PrefixSign → Lead → Type 0 where
  led_not : Led prefixes.Not negation
  led_next : Led prefixes.Next next
  led_skipping : {s : Sign} {k : ℕ} → LeadText (skipping s k) → Led prefixes.Next (skipping s k)
  led_eventually : {a b : ℕ} → Led prefixes.Eventually (eventually a b)
  led_always : {a b : ℕ} → Led prefixes.Always (always a b)

-- the steps of a prefix behind its sign
unfoldable pub lead_rest : Rules → Lead → List Step
lead_rest rules negation = []
lead_rest rules next = []
lead_rest rules (skipping s k) = plain (mark OpenWindow) ∷ limited (token.numeral s k) (unless (rules.index k) 3) ∷ plain (mark CloseWindow) ∷ []
lead_rest rules (eventually a b) = window_steps rules a b
lead_rest rules (always a b) = window_steps rules a b

abbrev pub leads : Rules → PrefixSign → Language Lead
leads rules x = record { steps = lead_rest rules; has = Led x }

pub led_steps : {x : PrefixSign} {l : Lead} (rules : Rules) (d : ℕ) → Led x l → lead_steps rules d l ≡ leading d (prefix x) ∷ lead_rest rules l
unfolding lead_rest
led_steps rules d h = grind arith

pub led_text : {x : PrefixSign} {l : Lead} → Led x l → LeadText l
led_text h = grind arith

pub some_lead : (x : PrefixSign) → (l : Lead) × Led x l
some_lead prefixes.Not = (negation, led_not)
some_lead prefixes.Next = (next, led_next)
some_lead prefixes.Eventually = (eventually 0 0, led_eventually)
some_lead prefixes.Always = (always 0 0, led_always)

pub led_by : (l : Lead) → LeadText l → (x : PrefixSign) × Led x l
led_by l h = grind (arith, led_not, led_next, led_skipping, led_eventually, led_always)

-- the connectives with this sign
pub data Linked : ConnectiveSign → Link → Type 0 where
  linked_and : Linked connectives.And and
  linked_or : Linked connectives.Or or
  linked_implies : Linked connectives.Implies implies
  linked_iff : Linked connectives.Iff iff
  linked_until : {a b : ℕ} → Linked connectives.Until (until a b)

-- the steps of a connective behind its sign
unfoldable pub link_rest : Rules → Link → List Step
link_rest rules and = []
link_rest rules or = []
link_rest rules implies = []
link_rest rules iff = []
link_rest rules (until a b) = window_steps rules a b

abbrev pub linkings : Rules → ConnectiveSign → Language Link
linkings rules x = record { steps = link_rest rules; has = Linked x }

pub linked_steps : {x : ConnectiveSign} {l : Link} (rules : Rules) → Linked x l → link_steps rules l ≡ bringing (connective x) ∷ link_rest rules l
unfolding link_rest
linked_steps rules h = grind arith

pub linked_level : {x : ConnectiveSign} {l : Link} → Linked x l → link_level l ≡ sign_level x
linked_level h = grind arith

pub some_link : (x : ConnectiveSign) → (l : Link) × Linked x l
some_link connectives.And = (and, linked_and)
some_link connectives.Or = (or, linked_or)
some_link connectives.Implies = (implies, linked_implies)
some_link connectives.Iff = (iff, linked_iff)
some_link connectives.Until = (until 0 0, linked_until)

pub linked_by : (l : Link) → (x : ConnectiveSign) × Linked x l
linked_by and = (connectives.And, linked_and)
linked_by or = (connectives.Or, linked_or)
linked_by implies = (connectives.Implies, linked_implies)
linked_by iff = (connectives.Iff, linked_iff)
linked_by (until a b) = (connectives.Until, linked_until)

module _ {rules : Rules} where
  pub window_fine : Fine rules (window rules) (windows rules)
  window_fine n s r =
      then_right none r (punctuation_fine OpenWindow n s r) (λ _ _. ((0, 0), tt, _, refl)) (λ _ n s _ r w.
      then_right w r (first_moment_fine n s r) (λ a _. ((a, 0), tt, _, refl)) (λ a n s _ r w.
      then_right w r (punctuation_fine Comma n s r) (λ _ _. ((a, 0), tt, _, refl)) (λ _ n s _ r w.
      then_right w r (last_moment_fine a n s r) (λ b _. ((a, b), tt, _, refl)) (λ b n s _ r w.
      then_right w r (punctuation_fine CloseWindow n s r) (λ _ _. ((a, b), tt, _, refl)) (λ _ n s _ r w.
      reads tt w)))))

  next_fine : Fine rules (next_lead rules) (leads rules prefixes.Next)
  unfolding lead_rest
  next_fine n [] r = reads led_next none
  next_fine n (x ∷ s) r = by (is_mark OpenWindow x.tok) refl
    where
      indexed : (place : ℕ) → Right rules (leads rules prefixes.Next) n (spot (mark OpenWindow) place ∷ s) (and_then (index_by rules (index_numeral (signed_numeral (first s).tok)) n s) (λ k n s. and_then (punctuation CloseWindow n s) (λ _ n s. got (skipping k.0 k.1) n s)))
      indexed place =
          then_right (more (plain_judged rules n (mark OpenWindow) r) none) r (index_fine n s r) (λ k h. (skipping k.0 k.1, led_skipping h, _, refl)) (λ k n s h r w.
          then_right w r (punctuation_fine CloseWindow n s r) (λ _ _. (skipping k.0 k.1, led_skipping h, _, refl)) (λ _ n s _ r w.
          reads (led_skipping h) w))

      by : (b : Bool) → is_mark OpenWindow x.tok ≡ b → Right rules (leads rules prefixes.Next) n (x ∷ s) (cond b (and_then (index_by rules (index_numeral (signed_numeral (first s).tok)) n s) (λ k n s. and_then (punctuation CloseWindow n s) (λ _ n s. got (skipping k.0 k.1) n s))) (got next n (x ∷ s)))
      by false e = reads led_next none
      by true e = subst (λ (t : Tok). Right rules (leads rules prefixes.Next) n (spot t x.at ∷ s) (and_then (index_by rules (index_numeral (signed_numeral (first s).tok)) n s) (λ k n s. and_then (punctuation CloseWindow n s) (λ _ n s. got (skipping k.0 k.1) n s)))) (sym (mark_is OpenWindow x.tok e)) (indexed x.at)

  pub lead_fine : (x : PrefixSign) → Fine rules (lead rules x) (leads rules x)
  unfolding lead_rest
  lead_fine prefixes.Not n s r = reads led_not none
  lead_fine prefixes.Next n s r = next_fine n s r
  lead_fine prefixes.Eventually n s r =
      then_right none r (window_fine n s r) (λ v _. (eventually v.0 v.1, led_eventually, _, refl)) (λ v n s _ r w. reads led_eventually w)
  lead_fine prefixes.Always n s r =
      then_right none r (window_fine n s r) (λ v _. (always v.0 v.1, led_always, _, refl)) (λ v n s _ r w. reads led_always w)

  pub link_fine : (x : ConnectiveSign) → Fine rules (link rules x) (linkings rules x)
  unfolding link_rest
  link_fine connectives.And n s r = reads linked_and none
  link_fine connectives.Or n s r = reads linked_or none
  link_fine connectives.Implies n s r = reads linked_implies none
  link_fine connectives.Iff n s r = reads linked_iff none
  link_fine connectives.Until n s r =
      then_right none r (window_fine n s r) (λ v _. (until v.0 v.1, linked_until, _, refl)) (λ v n s _ r w. reads linked_until w)
