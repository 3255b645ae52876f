-- A name, looked for among others from the left. Assumes nothing.
use Rattle.std.proofs.Common.{◌≡◌, ℕ, suc, ◌+◌, Bool, true, false, cond, not, ltb, ◌||◌, List, [], ◌∷◌, ◌++◌, map, length, take, Some, None, Option, sym, refl, ap, ◌∙◌, arith, bytes_eq, Bor}
use Rattle.std.specs.List.{list_any, position_or_len, enumerate_from}
use Rattle.std.proofs.lemmas.List.{append_assoc, length_push, map_push, take_at}
use Rattle.records.specs.Headers.{among, column_from, first_bad, may_stand}

-- names that are lent, by their bytes
pub among_lent : (ns : List (Bor (List ℕ))) (name : List ℕ) → list_any (λ n. bytes_eq n.now name) ns ≡ among (map (λ n. n.now) ns) name
among_lent [] name = refl
among_lent (n ∷ ns) name = ap (λ b. bytes_eq n.now name || b) (among_lent ns name)

-- the place where a test passes first, counted on from i
abbrev counted : ℕ → ℕ → ℕ → Option ℕ
counted i place end = cond (ltb place end) (Some (i + place)) None

further : (i place end : ℕ) → counted i (1 + place) (suc end) ≡ counted (i + 1) place end
further i place end = grind arith

from_first : (place end : ℕ) → cond (ltb place end) (Some place) None ≡ counted 0 place end
from_first place end = grind arith

column_from_position : (ns : List (Bor (List ℕ))) (name : List ℕ) (i : ℕ) → counted i (position_or_len (λ n. bytes_eq n.now name) ns) (length ns) ≡ column_from (map (λ n. n.now) ns) name i
column_from_position [] name i = refl
column_from_position (n ∷ ns) name i = by (bytes_eq n.now name) (column_from_position ns name (i + 1))
  where
    by : (same : Bool) → counted (i + 1) (position_or_len (λ n. bytes_eq n.now name) ns) (length ns) ≡ column_from (map (λ n. n.now) ns) name (i + 1)
        → counted i (cond (not same) (1 + position_or_len (λ n. bytes_eq n.now name) ns) 0) (suc (length ns)) ≡ cond same (Some i) (column_from (map (λ n. n.now) ns) name (i + 1))
    by true rest = grind arith
    by false rest = further i _ _ ∙ rest

pub column_at_position : (ns : List (Bor (List ℕ))) (name : List ℕ) → cond (ltb (position_or_len (λ n. bytes_eq n.now name) ns) (length ns)) (Some (position_or_len (λ n. bytes_eq n.now name) ns)) None ≡ column_from (map (λ n. n.now) ns) name 0
column_at_position ns name = from_first _ _ ∙ column_from_position ns name 0

-- a field with its number may not stand behind those before it
abbrev pub is_bad : List (Bor (List ℕ)) → ℕ × Bor (List ℕ) → Bool
is_bad all x = not (may_stand (map (λ n. n.now) (take x.0 all)) x.1.now)

-- the first such field of those behind `before`
bad_from_position : (all before ns : List (Bor (List ℕ))) (i : ℕ) → length before ≡ i → all ≡ before ++ ns
    → counted i (position_or_len (is_bad all) (enumerate_from i ns)) (length (enumerate_from i ns)) ≡ first_bad (map (λ n. n.now) ns) (map (λ n. n.now) before) i
bad_from_position all before [] i long whole = refl
bad_from_position all before (n ∷ ns) i long whole =
    let rest = bad_from_position all (before ++ (n ∷ [])) ns (i + 1) (length_push before n ∙ ap (λ k. k + 1) long) (whole ∙ sym (append_assoc before (n ∷ []) ns)) in
    rw stood (by _ _ _ (may_stand (map (λ n. n.now) before) n.now) (rest ∙ ap (λ bs. first_bad (map (λ n. n.now) ns) bs (i + 1)) (map_push (λ n. n.now) before n)))
  where
    stood : may_stand (map (λ n. n.now) (take i all)) n.now ≡ may_stand (map (λ n. n.now) before) n.now
    stood = ap (λ bs. may_stand (map (λ n. n.now) bs) n.now) (ap (take i) whole ∙ take_at before (n ∷ ns) i long)

    by : (place end : ℕ) (others : Option ℕ) (stands : Bool) → counted (i + 1) place end ≡ others
        → counted i (cond (not (not stands)) (1 + place) 0) (suc end) ≡ cond stands others (Some i)
    by place end others true same = further i place end ∙ same
    by place end others false same = grind arith

pub bad_at_position : (all : List (Bor (List ℕ))) → cond (ltb (position_or_len (is_bad all) (enumerate_from 0 all)) (length (enumerate_from 0 all))) (Some (position_or_len (is_bad all) (enumerate_from 0 all))) None ≡ first_bad (map (λ n. n.now) all) [] 0
bad_at_position all = from_first _ _ ∙ bad_from_position all [] all 0 refl refl
