-- Reading with lax rules follows reading with the rules at hand.
use Rattle.std.proofs.Common.{◌≡◌, ℕ, zero, suc, ◌+◌, ◌≤◌, Bool, true, false, cond, ltb, leb, List, [], ◌∷◌, ◌++◌, length, Some, None, Option, sym, refl, ap, ◌∙◌, subst, append_assoc, le_refl, add_assoc, add-suc, zero-add, arith, length-append}
use Rattle.tokens.specs.Tokens.{Tok, Spot, is_stop}
use Rattle.tokens.specs.declared.words.ConnectiveSign.{ConnectiveSign}
use Rattle.grammar.specs.Layers.{loosest}
use Rattle.grammar.specs.Reading.{Outcome, got, fault, Reader, and_then, first, refuse, operand_at, sign_at, link, linked, links, tier, operand, reading}
use Rattle.grammar.specs.Steps.{Rules}
use Rattle.grammar.specs.Trees.{PropertyTree, joined}
use Rattle.grammar.proofs.CompleteLevels.{links_end}
use Rattle.grammar.proofs.Following.{Follows, reads_too, refuses_too, breaks, FollowsReader, follows_as, then_follows, by_token_follows, refuse_follows, got_follows, cond_follows, same_first}
use Rattle.grammar.proofs.LaxReaders.{lax, room, link_follows, comparison_follows, operand_at_follows}
use Rattle.grammar.proofs.TokenReaders.{none_left}

-- one more operand, from behind the connective's sign
linked_behind : Rules → (Reader PropertyTree) → PropertyTree → ConnectiveSign → Reader PropertyTree
linked_behind rules inner p y n s = and_then (link rules y n s) (λ l n s. and_then (inner n s) (λ q n s. got (joined l p q) n s))

module _ (rules : Rules) where
  linked_is_behind : (inner : Reader PropertyTree) (p : PropertyTree) (y : ConnectiveSign) (n : ℕ) (x : Spot) (s : List Spot) → leb (suc n) rules.parts ≡ true → linked rules inner p y n (x ∷ s) ≡ linked_behind rules inner p y (suc n) s
  unfolding linked_behind
  linked_is_behind inner p y n x s e = grind arith

  linked_full : (inner : Reader PropertyTree) (p : PropertyTree) (y : ConnectiveSign) (n : ℕ) (x : Spot) (s : List Spot) → leb (suc n) rules.parts ≡ false → linked rules inner p y n (x ∷ s) ≡ fault 6 x.at (x ∷ s)
  linked_full inner p y n x s e = grind arith

  -- one link more, where there may be as many as tokens and k
  link_step : (k level : ℕ) (inner : Reader PropertyTree) (p : PropertyTree) (y : ConnectiveSign) (n : ℕ) (x : Spot) (s : List Spot) → leb (suc n) rules.parts ≡ true → sign_at level x.tok ≡ Some y → links (k + length (x ∷ s)) rules level inner p n (x ∷ s) ≡ and_then (linked_behind rules inner p y (suc n) s) (links (k + length s) rules level inner)
  unfolding links
  link_step k level inner p y n x s r e = grind (arith, add-suc, linked_is_behind)

module _ (rules : Rules) (parts nesting : ℕ) (roomy : rules.parts ≤ parts) where
  linked_follows : (inner inner' : Reader PropertyTree) → FollowsReader inner' inner → (p : PropertyTree) (y : ConnectiveSign) → FollowsReader (linked_behind (lax parts nesting) inner' p y) (linked_behind rules inner p y)
  unfolding linked_behind
  linked_follows inner inner' h p y n s = then_follows (link_follows rules parts nesting roomy y n s) (λ l n s. then_follows (h n s) (λ q n s. got_follows))

  -- no sign of this level follows
  ending_links : (level k : ℕ) (inner inner' : Reader PropertyTree) (p : PropertyTree) (n : ℕ) (s : List Spot) → sign_at level (first s).tok ≡ None → Follows (λ t. links (k + length t) (lax parts nesting) level inner' p n t) s (got p n s)
  ending_links level k inner inner' p n s e = reads_too [] refl (λ t' same. links_end (lax parts nesting) (k + length t') level inner' p n t' (ap (λ (z : Tok). sign_at level z) (sym same) ∙ e))

  module _ (level : ℕ) (inner inner' : Reader PropertyTree) (h : FollowsReader inner' inner) where
    -- the links behind one more operand
    after_link : (most k : ℕ) (p : PropertyTree) (y : ConnectiveSign) (n : ℕ) (x : Spot) (s : List Spot) → leb (suc n) parts ≡ true → sign_at level x.tok ≡ Some y → length s ≤ most → ((j : ℕ) (q : PropertyTree) (m : ℕ) (t : List Spot) → length t ≤ most → Follows (λ t. links (j + length t) (lax parts nesting) level inner' q m t) t (links most rules level inner q m t)) → (o : Outcome PropertyTree) → Follows (linked_behind (lax parts nesting) inner' p y (suc n)) s o → Follows (λ t. links (k + length t) (lax parts nesting) level inner' p n t) (x ∷ s) (and_then o (links most rules level inner))
    after_link most k p y n x s r e long again _ (breaks ne) = breaks ne
    after_link most k p y n x s r e long again _ (refuses_too us f g) =
        refuses_too (x ∷ us) (ap {B = List Spot} (λ z. x ∷ z) f) (λ t' same. link_step (lax parts nesting) k level inner' p y n x (us ++ t') r e ∙ ap (λ (o : Outcome PropertyTree). and_then o (links (k + length (us ++ t')) (lax parts nesting) level inner')) (g t' same))
    after_link most k p y n x s r e long again _ (reads_too {a = q} {n = m} {t} us f g) = by (links most rules level inner q m t) (again (k + length us) q m t fewer)
      where
        fewer : length t ≤ most
        fewer = omega (arith, ap length f, length-append us t)

        on : (vs u u' : List Spot) → t ≡ vs ++ u → (first u).tok ≡ (first u').tok → links (k + length (x ∷ ((us ++ vs) ++ u'))) (lax parts nesting) level inner' p n (x ∷ ((us ++ vs) ++ u')) ≡ links ((k + length us) + length (vs ++ u')) (lax parts nesting) level inner' q m (vs ++ u')
        on vs u u' f' same =
            ap (λ (z : List Spot). links (k + length (x ∷ z)) (lax parts nesting) level inner' p n (x ∷ z)) (append_assoc us vs u')
            ∙ link_step (lax parts nesting) k level inner' p y n x (us ++ (vs ++ u')) r e
            ∙ ap (λ (o : Outcome PropertyTree). and_then o (links (k + length (us ++ (vs ++ u'))) (lax parts nesting) level inner')) (g (vs ++ u') (ap (λ (z : List Spot). (first z).tok) f' ∙ same_first vs u u' same))
            ∙ ap (λ (j : ℕ). links j (lax parts nesting) level inner' q m (vs ++ u')) (ap (λ (j : ℕ). k + j) (length-append us (vs ++ u')) ∙ sym (add_assoc k (length us) (length (vs ++ u'))))

        whole : (vs u : List Spot) → t ≡ vs ++ u → x ∷ s ≡ (x ∷ (us ++ vs)) ++ u
        whole vs u f' = ap {B = List Spot} (λ z. x ∷ z) (f ∙ ap (λ (z : List Spot). us ++ z) f' ∙ sym (append_assoc us vs u))

        by : (o : Outcome PropertyTree) → Follows (λ t. links ((k + length us) + length t) (lax parts nesting) level inner' q m t) t o → Follows (λ t. links (k + length t) (lax parts nesting) level inner' p n t) (x ∷ s) o
        by _ (reads_too {t = u} vs f' g') = reads_too (x ∷ (us ++ vs)) (whole vs u f') (λ u' same. on vs u u' f' same ∙ g' u' same)
        by _ (refuses_too {t = u} vs f' g') = refuses_too (x ∷ (us ++ vs)) (whole vs u f') (λ u' same. on vs u u' f' same ∙ g' u' same)
        by _ (breaks ne) = breaks ne

    links_follow : (most k : ℕ) (p : PropertyTree) (n : ℕ) (s : List Spot) → length s ≤ most → Follows (λ t. links (k + length t) (lax parts nesting) level inner' p n t) s (links most rules level inner p n s)
    unfolding links
    links_follow zero k p n [] long = ending_links level k inner inner' p n [] refl
    links_follow zero k p n (x ∷ s) long = absurd (omega arith)
    links_follow (suc most) k p n [] long = ending_links level k inner inner' p n [] refl
    links_follow (suc most) k p n (x ∷ s) long = by (λ j q m t. links_follow most j q m t) (sign_at level x.tok) refl
      where
        Again : Type 0
        Again = (j : ℕ) (q : PropertyTree) (m : ℕ) (t : List Spot) → length t ≤ most → Follows (λ t. links (j + length t) (lax parts nesting) level inner' q m t) t (links most rules level inner q m t)

        tested : Again → (y : ConnectiveSign) → sign_at level x.tok ≡ Some y → (b : Bool) → leb (suc n) rules.parts ≡ b → Follows (λ t. links (k + length t) (lax parts nesting) level inner' p n t) (x ∷ s) (and_then (linked rules inner p y n (x ∷ s)) (links most rules level inner))
        tested again y e true r = subst (λ (o : Outcome PropertyTree). Follows (λ t. links (k + length t) (lax parts nesting) level inner' p n t) (x ∷ s) (and_then o (links most rules level inner))) (sym (linked_is_behind rules inner p y n x s r)) (after_link most k p y n x s (room rules parts nesting roomy (suc n) r) e (omega arith) again (linked_behind rules inner p y (suc n) s) (linked_follows inner inner' h p y (suc n) s))
        tested again y e false r = subst (λ (o : Outcome PropertyTree). Follows (λ t. links (k + length t) (lax parts nesting) level inner' p n t) (x ∷ s) (and_then o (links most rules level inner))) (sym (linked_full rules inner p y n x s r)) (breaks (λ z. omega arith))

        by : Again → (o : Option ConnectiveSign) → sign_at level x.tok ≡ o → Follows (λ t. links (k + length t) (lax parts nesting) level inner' p n t) (x ∷ s) (elim o [ None ↦ got p n (x ∷ s) | Some y ↦ and_then (linked rules inner p y n (x ∷ s)) (links most rules level inner) ])
        by again None e = ending_links level k inner inner' p n (x ∷ s) e
        by again (Some y) e = tested again y e (leb (suc n) rules.parts) refl

  tier_follows : (inner inner' : Reader PropertyTree) → FollowsReader inner' inner → (level : ℕ) → FollowsReader (tier (lax parts nesting) inner' level) (tier rules inner level)
  unfolding tier
  tier_follows inner inner' h zero n s = h n s
  tier_follows inner inner' h (suc level) n s =
      then_follows (tier_follows inner inner' h level n s) (λ p n s.
      follows_as (λ t. ap (λ (m : ℕ). links m (lax parts nesting) (suc level) (tier (lax parts nesting) inner' level) p n t) (sym (zero-add (length t))))
      (links_follow (suc level) (tier rules inner level) (tier (lax parts nesting) inner' level) (tier_follows inner inner' h level) (length s) 0 p n s (le_refl (length s))))

  operand_by_token : (left left' : ℕ) (inner inner' whole whole' : Reader PropertyTree) → left ≤ left' → (ltb 0 left ≡ true → FollowsReader inner' inner) → (ltb 0 left ≡ true → FollowsReader whole' whole) → FollowsReader (λ n s. operand_at (lax parts nesting) left' inner' whole' (first s).tok n s) (λ n s. operand_at rules left inner whole (first s).tok n s)
  operand_by_token left left' inner inner' whole whole' h f g n [] = by_token_follows (λ k t. operand_at (lax parts nesting) left' inner' whole' k n t) (comparison_follows rules parts nesting roomy left left' h n [])
  operand_by_token left left' inner inner' whole whole' h f g n (x ∷ s) = by_token_follows (λ k t. operand_at (lax parts nesting) left' inner' whole' k n t) (operand_at_follows rules parts nesting roomy left left' inner inner' whole whole' h f g x.tok n x s)

  operand_follows : (left left' : ℕ) → left ≤ left' → FollowsReader (operand (lax parts nesting) left') (operand rules left)
  unfolding operand
  operand_follows zero zero h n s = operand_by_token zero zero (λ n s. refuse 2 s) (λ n s. refuse 2 s) (λ n s. refuse 2 s) (λ n s. refuse 2 s) h (λ _ n s. refuse_follows) (λ _ n s. refuse_follows) n s
  operand_follows zero (suc left') h n s = operand_by_token zero (suc left') (λ n s. refuse 2 s) (operand (lax parts nesting) left') (λ n s. refuse 2 s) (tier (lax parts nesting) (operand (lax parts nesting) left') loosest) h (λ l. absurd (none_left l)) (λ l. absurd (none_left l)) n s
  operand_follows (suc left) zero h n s = absurd (omega arith)
  operand_follows (suc left) (suc left') h n s =
      let inner = operand_follows left left' (omega arith) in
      operand_by_token (suc left) (suc left') (operand rules left) (operand (lax parts nesting) left') (tier rules (operand rules left) loosest) (tier (lax parts nesting) (operand (lax parts nesting) left') loosest) h (λ _. inner) (λ _. tier_follows (operand rules left) (operand (lax parts nesting) left') inner loosest) n s

  pub reading_follows : rules.nesting ≤ nesting → (s : List Spot) → Follows (reading (lax parts nesting)) s (reading rules s)
  reading_follows h s =
      then_follows (tier_follows (operand rules rules.nesting) (operand (lax parts nesting) nesting) (operand_follows rules.nesting nesting h) loosest 0 s) (λ p n s.
      by_token_follows (λ k t. cond (is_stop k) (got p n t) (refuse 2 t)) (cond_follows (is_stop (first s).tok) got_follows refuse_follows))
