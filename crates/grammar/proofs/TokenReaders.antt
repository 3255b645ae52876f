-- The readers of one token are right.
use Rattle.std.proofs.Common.{◌≡◌, ℕ, suc, ◌+◌, Bool, true, false, cond, ltb, leb, List, [], ◌∷◌, ◌++◌, Some, None, Option, sym, refl, ap, ◌∙◌, subst, arith}
use Rattle.tokens.specs.Tokens.{Tok, Spot, mark, numeral}
use Rattle.tokens.specs.declared.words.Punctuation.{Punctuation}
use Rattle.tokens.specs.declared.words.Punctuation.TheVariants.{Open}
use Rattle.tokens.specs.declared.words.Sign.{Sign}
use Rattle.tokens.specs.declared.words.Sign.TheVariants.{Unsigned}
use Rattle.grammar.specs.Faults.{brought_by, broken_by}
use Rattle.grammar.specs.Layers.{LeadText}
use Rattle.grammar.specs.Reading.{got, fault, bring, first, is_mark, punctuation, opening, signed_numeral, window_numeral, index_numeral, first_moment, last_moment, index_by}
use Rattle.grammar.specs.Steps.{Rules, Step, unless, or_else, plain, bringing, nesting, limited}
use Rattle.grammar.specs.Trees.{skipping}
use Rattle.grammar.proofs.Keeping.{bringing_judged, plain_judged, nesting_judged, limited_judged, leb_left, opened}
use Rattle.grammar.proofs.Outcomes.{Language, Placed, cannot, broken, Right, reads, refuses, Fine, behind}
use Rattle.grammar.proofs.Spelling.{Spelled, none, more, part}
use Rattle.grammar.proofs.TokenKinds.{mark_is, signed_numeral_is, window_numeral_is, index_numeral_is}

-- one token, which says nothing but itself
abbrev pub one : Step → Language Unit
one x = record { steps = λ _. x ∷ []; has = λ _. Unit {0} }

abbrev pub spot : Tok → ℕ → Spot
spot t place = record { tok = t; at = place }

-- the two numerals of a window, the last behind the first
abbrev pub first_moments : Rules → Language ℕ
first_moments rules = record { steps = λ a. limited (numeral Unsigned a) (unless (rules.numeral a) 3) ∷ []; has = λ _. Unit {0} }

abbrev pub last_moments : Rules → ℕ → Language ℕ
last_moments rules a = record { steps = λ b. limited (numeral Unsigned b) (or_else (unless (rules.numeral b) 3) (unless (rules.order a b) 4)) ∷ []; has = λ _. Unit {0} }

-- the index of X
abbrev pub indexes : Rules → Language (Sign × ℕ)
indexes rules = record { steps = λ k. limited (numeral k.0 k.1) (unless (rules.index k.1) 3) ∷ []; has = λ k. LeadText (skipping k.0 k.1) }

pub deeper : (d left : ℕ) {most : ℕ} → d + suc left ≡ most → suc d + left ≡ most
deeper d left deep = omega arith

pub none_left : ltb 0 0 ≡ true → ⊥
none_left e = cc

module _ {rules : Rules} where
  placed_here : (n : ℕ) (s : List Spot) → Placed rules n s [] n s 0 (first s).at
  placed_here n s = record { before = []; after = []; m = n; t = s; until = none; since = none; all = refl; long = refl; there = refl }

  -- a token that is taken if it keeps a rule
  pub take_right : {A : Type 0} {L : Language A} {n place : ℕ} {s : List Spot} (a : A) (x : Step) (kept : Bool) (number : ℕ) → (number ≡ 2 → ⊥) → broken_by rules n x ≡ unless kept number → x.back ≡ 0 → L.has a → L.steps a ≡ x ∷ [] → Right rules L n (spot x.tok place ∷ s) (cond kept (got a (brought_by n x) s) (fault number place (spot x.tok place ∷ s)))
  take_right {n} {place} {s} a x true number ne e b h st = reads h (subst (λ (xs : List Step). Spelled rules n (spot x.tok place ∷ s) xs (brought_by n x) s) (sym st) (more e none))
  take_right {n} {place} {s} a x false number ne e b h st =
      let w : Placed rules n (spot x.tok place ∷ s) [] n (spot x.tok place ∷ s) x.back place = subst (λ (k : ℕ). Placed rules n (spot x.tok place ∷ s) [] n (spot x.tok place ∷ s) k place) (sym b) (placed_here n (spot x.tok place ∷ s)) in
      refuses h st none (broken ne e w)

  pub punctuation_fine : (p : Punctuation) → Fine rules (punctuation p) (one (plain (mark p)))
  punctuation_fine p n [] r = refuses {a = tt} tt refl none cannot
  punctuation_fine p n (x ∷ s) r = by (is_mark p x.tok) refl
    where
      by : (b : Bool) → is_mark p x.tok ≡ b → Right rules (one (plain (mark p))) n (x ∷ s) (cond b (got tt n s) (fault 2 x.at (x ∷ s)))
      by false e = refuses {a = tt} tt refl none cannot
      by true e = subst (λ (t : Tok). Right rules (one (plain (mark p))) n (spot t x.at ∷ s) (got tt n s)) (sym (mark_is p x.tok e)) (reads tt (more (plain_judged rules n (mark p) r) none))

  pub opening_fine : (d left : ℕ) → d + left ≡ rules.nesting → Fine rules (opening left) (one (nesting (suc d) (mark Open)))
  opening_fine d left deep n [] r = refuses {a = tt} tt refl none cannot
  opening_fine d left deep n (x ∷ s) r = by (is_mark Open x.tok) refl
    where
      judged : broken_by rules n (nesting (suc d) (mark Open)) ≡ unless (ltb 0 left) 6
      judged = nesting_judged rules n (suc d) (mark Open) r ∙ ap (λ (k : ℕ). unless (leb (suc d) k) 6) (sym deep) ∙ ap (λ (b : Bool). unless b 6) (leb_left d left)

      by : (b : Bool) → is_mark Open x.tok ≡ b → Right rules (one (nesting (suc d) (mark Open))) n (x ∷ s) (cond b (cond (ltb 0 left) (got tt n s) (fault 6 x.at (x ∷ s))) (fault 2 x.at (x ∷ s)))
      by false e = refuses {a = tt} tt refl none cannot
      by true e = subst (λ (t : Tok). Right rules (one (nesting (suc d) (mark Open))) n (spot t x.at ∷ s) (cond (ltb 0 left) (got tt n s) (fault 6 x.at (spot t x.at ∷ s)))) (sym (mark_is Open x.tok e)) (take_right tt (nesting (suc d) (mark Open)) (ltb 0 left) 6 (λ z. omega arith) judged refl tt refl)

  pub first_moment_fine : Fine rules (λ n s. first_moment rules (window_numeral (signed_numeral (first s).tok)) n s) (first_moments rules)
  first_moment_fine n [] r = refuses {a = 0} tt refl none cannot
  first_moment_fine n (x ∷ s) r = by (window_numeral (signed_numeral x.tok)) refl
    where
      by : (o : Option ℕ) → window_numeral (signed_numeral x.tok) ≡ o → Right rules (first_moments rules) n (x ∷ s) (first_moment rules o n (x ∷ s))
      by None e = refuses {a = 0} tt refl none cannot
      by (Some a) e =
          let x_is = signed_numeral_is x.tok (Unsigned, a) (window_numeral_is (signed_numeral x.tok) a e) in
          let o = unless (rules.numeral a) 3 in
          subst (λ (t : Tok). Right rules (first_moments rules) n (spot t x.at ∷ s) (first_moment rules (Some a) n (spot t x.at ∷ s))) (sym x_is)
          (take_right a (limited (numeral Unsigned a) o) (rules.numeral a) 3 (λ z. omega arith) (limited_judged rules n (numeral Unsigned a) o r) refl tt refl)

  pub last_moment_fine : (a : ℕ) → Fine rules (λ n s. last_moment rules a (window_numeral (signed_numeral (first s).tok)) n s) (last_moments rules a)
  last_moment_fine a n [] r = refuses {a = 0} tt refl none cannot
  last_moment_fine a n (x ∷ s) r = by (window_numeral (signed_numeral x.tok)) refl
    where
      tested : (b : ℕ) (kept : Bool) → rules.numeral b ≡ kept → Right rules (last_moments rules a) n (spot (numeral Unsigned b) x.at ∷ s) (cond kept (cond (rules.order a b) (got b n s) (fault 4 x.at (spot (numeral Unsigned b) x.at ∷ s))) (fault 3 x.at (spot (numeral Unsigned b) x.at ∷ s)))
      tested b true e = take_right b (limited (numeral Unsigned b) (or_else (unless (rules.numeral b) 3) (unless (rules.order a b) 4))) (rules.order a b) 4 (λ z. omega arith) (limited_judged rules n (numeral Unsigned b) _ r ∙ ap (λ (k : Bool). or_else (unless k 3) (unless (rules.order a b) 4)) e) refl tt refl
      tested b false e = take_right b (limited (numeral Unsigned b) (or_else (unless (rules.numeral b) 3) (unless (rules.order a b) 4))) false 3 (λ z. omega arith) (limited_judged rules n (numeral Unsigned b) _ r ∙ ap (λ (k : Bool). or_else (unless k 3) (unless (rules.order a b) 4)) e) refl tt refl

      by : (o : Option ℕ) → window_numeral (signed_numeral x.tok) ≡ o → Right rules (last_moments rules a) n (x ∷ s) (last_moment rules a o n (x ∷ s))
      by None e = refuses {a = 0} tt refl none cannot
      by (Some b) e = subst (λ (t : Tok). Right rules (last_moments rules a) n (spot t x.at ∷ s) (last_moment rules a (Some b) n (spot t x.at ∷ s))) (sym (signed_numeral_is x.tok (Unsigned, b) (window_numeral_is (signed_numeral x.tok) b e))) (tested b (rules.numeral b) refl)

  pub index_fine : Fine rules (λ n s. index_by rules (index_numeral (signed_numeral (first s).tok)) n s) (indexes rules)
  index_fine n [] r = refuses {a = (Unsigned, 0)} tt refl none cannot
  index_fine n (x ∷ s) r = by (index_numeral (signed_numeral x.tok)) refl
    where
      by : (o : Option (Sign × ℕ)) → index_numeral (signed_numeral x.tok) ≡ o → Right rules (indexes rules) n (x ∷ s) (index_by rules o n (x ∷ s))
      by None e = refuses {a = (Unsigned, 0)} tt refl none cannot
      by (Some k) e =
          let h = index_numeral_is (signed_numeral x.tok) k e in
          let o = unless (rules.index k.1) 3 in
          subst (λ (t : Tok). Right rules (indexes rules) n (spot t x.at ∷ s) (index_by rules (Some k) n (spot t x.at ∷ s))) (sym (signed_numeral_is x.tok k h.0))
          (take_right k (limited (numeral k.0 k.1) o) (rules.index k.1) 3 (λ z. omega arith) (limited_judged rules n (numeral k.0 k.1) o r) refl h.1 refl)

  -- the sign of a part that is brought
  pub bring_right : (x : Tok) (n place : ℕ) (s : List Spot) → Right rules (one (bringing x)) n (spot x place ∷ s) (behind (bring rules n (spot x place ∷ s)))
  bring_right x n place s = by (leb (suc n) rules.parts) (bringing_judged rules n x)
    where
      by : (b : Bool) → broken_by rules n (bringing x) ≡ unless b 6 → Right rules (one (bringing x)) n (spot x place ∷ s) (behind (cond b (got tt (suc n) (spot x place ∷ s)) (fault 6 place (spot x place ∷ s))))
      by true e = take_right tt (bringing x) true 6 (λ z. omega arith) e refl tt refl
      by false e = take_right tt (bringing x) false 6 (λ z. omega arith) e refl tt refl

  -- the nesting that the last step brings was left
  pub left_over : {n n' : ℕ} {s s' : List Spot} (d left : ℕ) (xs : List Step) (x : Step) → d + left ≡ rules.nesting → x.depth ≡ suc d → Spelled rules n s (xs ++ (x ∷ [])) n' s' → ltb 0 left ≡ true
  left_over d left xs x deep is w = opened d left x deep is (part xs w).3
