-- A variable and its value are read back from their cell, and the new values from the changes. Assumes nothing.
use Rattle.std.proofs.Common.{◌≡◌, ℕ, zero, suc, ◌+◌, ◌-◌, ◌*◌, ◌<◌, ◌≤◌, true, cond, List, [], ◌∷◌, ◌++◌, length, get_or, take, ℤ, pos, negsuc, is_some, Some, None, Option, sym, refl, ap, ◌∙◌, add-zero, zero-add, add-one, arith}
use Rattle.std.specs.Option.{option_to_list}
use Rattle.std.proofs.lemmas.List.{append_assoc, append-nil, get_or-take, length-append, length_push, length-take}
use Rattle.std.proofs.lemmas.Int.{ints}
use Rattle.std.proofs.lemmas.Bool.{cond_both, eq-eqb, eqb-true, ne_eqb}
use Rattle.changes.specs.Encoding.{change_of, changed_to, changes, packed, same, value_of, variable_of}

-- below 0 the cell lies under the next multiple of 16
packed_below : (n v : ℕ) → v < 16 → packed (negsuc n) v ≡ negsuc (n * 16 + (15 - v))
packed_below n v h = omega (arith, ints)

variable_packed : (value : ℤ) (v : ℕ) → v < 16 → variable_of (packed value v) ≡ v
variable_packed (pos n) v h = omega arith
variable_packed (negsuc n) v h = rw (packed_below n v h) (omega arith)

value_packed : (value : ℤ) (v : ℕ) → v < 16 → value_of (packed value v) ≡ value
value_packed (pos n) v h = ap pos (omega arith)
value_packed (negsuc n) v h = rw (packed_below n v h) (ap negsuc (omega arith))

same_true : (a b : ℤ) → same a b ≡ true → a ≡ b
same_true (pos a) (pos b) e = ap pos (eqb-true a b e)
same_true (pos a) (negsuc b) e = cc
same_true (negsuc a) (pos b) e = cc
same_true (negsuc a) (negsuc b) e = ap negsuc (eqb-true a b e)

-- what the change of one variable does to another variable, and to its own
other_kept : (u v : ℕ) (new old x : ℤ) (cs : List ℤ) → u < 16 → (u ≡ v → ⊥) → changed_to v (option_to_list (change_of u new old) ++ cs) x ≡ changed_to v cs x
other_kept u v new old x cs few other =
    cond_both (same new old) None (Some (packed new u)) (λ o. changed_to v (option_to_list o ++ cs) x ≡ changed_to v cs x)
    (λ e. refl)
    (λ e. ap (changed_to v cs) (rw (variable_packed new u few, ne_eqb u v other)))

own_changed : (u : ℕ) (new old : ℤ) (cs : List ℤ) → u < 16 → changed_to u (option_to_list (change_of u new old) ++ cs) old ≡ changed_to u cs new
own_changed u new old cs few =
    cond_both (same new old) None (Some (packed new u)) (λ o. changed_to u (option_to_list o ++ cs) old ≡ changed_to u cs new)
    (λ e. ap (changed_to u cs) (sym (same_true new old e)))
    (λ e. ap (changed_to u cs) (rw (variable_packed new u few, eq-eqb u u refl, value_packed new u few)))

-- the changes from variable u on touch none before it
changed_before : (v u : ℕ) (news olds : List ℤ) (x : ℤ) → v < u → u + length news ≤ 16 → changed_to v (changes u news olds) x ≡ x
changed_before v u [] olds x before few = refl
changed_before v u (new ∷ news) [] x before few = refl
changed_before v u (new ∷ news) (old ∷ olds) x before few =
    other_kept u v new old x (changes (suc u) news olds) (omega arith) (λ e. omega arith) ∙ changed_before v (suc u) news olds x (omega arith) (omega arith)

-- each variable has its new value once the changes are made
pub changed_new : (v u : ℕ) (news olds : List ℤ) → length news ≤ length olds → u + length news ≤ 16 → v < length news → changed_to (u + v) (changes u news olds) (get_or olds v (pos 0)) ≡ get_or news v (pos 0)
changed_new v u [] olds long few there = absurd (omega arith)
changed_new v u (new ∷ news) [] long few there = absurd (omega arith)
changed_new zero u (new ∷ news) (old ∷ olds) long few there =
    rw (add-zero u) (own_changed u new old (changes (suc u) news olds) (omega arith) ∙ changed_before u (suc u) news olds new (omega arith) (omega arith))
changed_new (suc v) u (new ∷ news) (old ∷ olds) long few there =
    let at : u + suc v ≡ suc u + v = omega arith in
    rw at (other_kept u (suc u + v) new old (get_or olds v (pos 0)) (changes (suc u) news olds) (omega arith) (λ e. omega arith) ∙ changed_new v (suc u) news olds (omega arith) (omega arith) (omega arith))

changes_step : (u v : ℕ) (news olds : List ℤ) → v < length news → v < length olds → changes u (take (suc v) news) olds ≡ changes u (take v news) olds ++ option_to_list (change_of (u + v) (get_or news v (pos 0)) (get_or olds v (pos 0)))
changes_step u v [] olds there old_there = absurd (omega arith)
changes_step u v (new ∷ news) [] there old_there = absurd (omega arith)
changes_step u zero (new ∷ news) (old ∷ olds) there old_there = rw (add-zero u) (append-nil _)
changes_step u (suc v) (new ∷ news) (old ∷ olds) there old_there =
    let at : u + suc v ≡ suc u + v = omega arith in
    rw at (ap (λ cs. option_to_list (change_of u new old) ++ cs) (changes_step (suc u) v news olds (omega arith) (omega arith)) ∙ sym (append_assoc (option_to_list (change_of u new old)) (changes (suc u) (take v news) olds) _))

length_list_of : (o : Option ℤ) → length (option_to_list o) ≡ cond (is_some o) 1 0
length_list_of None = refl
length_list_of (Some x) = refl

pub changes_few : (u : ℕ) (news olds : List ℤ) → length (changes u news olds) ≤ length news
changes_few u [] olds = omega arith
changes_few u (new ∷ news) [] = omega arith
changes_few u (new ∷ news) (old ∷ olds) = rw (length-append, length_list_of) (cond_both (is_some (change_of u new old)) 1 0 (λ k. k + length (changes (suc u) news olds) ≤ suc (length news)) (λ e. omega (arith, changes_few (suc u) news olds)) (λ e. omega (arith, changes_few (suc u) news olds)))

pub changes_upto : (u n : ℕ) (news olds : List ℤ) → length (changes u (take n news) olds) ≤ length (changes u news olds)
changes_upto u zero news olds = omega arith
changes_upto u (suc n) [] olds = omega arith
changes_upto u (suc n) (new ∷ news) [] = omega arith
changes_upto u (suc n) (new ∷ news) (old ∷ olds) = simp length-append (omega (arith, changes_upto (suc u) n news olds))

-- one variable more of the first ones: it keeps its value, or it changes
module _ (v width : ℕ) (news last : List ℤ) (there : v < length news) (named : v < width) (old_there : v < length last) where
  changes_more : changes 0 (take (v + 1) news) (take width last) ≡ changes 0 (take v news) (take width last) ++ option_to_list (change_of v (get_or news v (pos 0)) (get_or last v (pos 0)))
  changes_more =
      let short : v < length (take width last) = rw length-take (omega arith) in
      rw (add-one v) (changes_step 0 v news (take width last) there short ∙ rw (zero-add v, get_or-take width last v (pos 0) named))

  pub told_none : None ≡ change_of v (get_or news v (pos 0)) (get_or last v (pos 0)) → changes 0 (take (v + 1) news) (take width last) ≡ changes 0 (take v news) (take width last)
  told_none e = changes_more ∙ ap (λ o. changes 0 (take v news) (take width last) ++ option_to_list o) (sym e) ∙ append-nil (changes 0 (take v news) (take width last))

  pub told_some : (c : ℤ) → Some c ≡ change_of v (get_or news v (pos 0)) (get_or last v (pos 0)) → changes 0 (take (v + 1) news) (take width last) ≡ changes 0 (take v news) (take width last) ++ (c ∷ [])
  told_some c e = changes_more ∙ ap (λ o. changes 0 (take v news) (take width last) ++ option_to_list o) (sym e)

  pub change_fits : (c : ℤ) → Some c ≡ change_of v (get_or news v (pos 0)) (get_or last v (pos 0)) → length (changes 0 (take v news) (take width last)) < length (changes 0 news (take width last))
  change_fits c e = omega (arith, changes_upto 0 (v + 1) news (take width last), ap length (told_some c e) ∙ length_push (changes 0 (take v news) (take width last)) c)
