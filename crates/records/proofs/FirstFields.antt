-- The first fields of a record, one more at a time, as a list and in an array of as many places as are kept. Assumes nothing.
use Rattle.std.proofs.Common.{◌≡◌, ℕ, zero, suc, ◌+◌, ◌<◌, ◌≤◌, List, [], ◌∷◌, ◌++◌, map, length, take, set, sym, refl, ap, ◌∙◌, arith}
use Rattle.records.specs.Firsts.{firsts_of, kept_fields, with_one}
use Rattle.records.specs.declared.fault.Position.{Position}
use Rattle.std.proofs.lemmas.List.{length_push, map_push, length-take-le, take_all, take_at, take_more_set}

module _ {X : Type 0} {n : ℕ} (xs : List X) (i : ℕ) (x : X) (places : length xs ≡ n) where
  pub one_kept : i < n → take (i + 1) (set xs i x) ≡ take n (take i xs ++ (x ∷ []))
  one_kept room =
      take_more_set xs i x (omega arith)
      ∙ sym (take_all n (take i xs ++ (x ∷ [])) (omega (arith, length_push (take i xs) x, length-take-le i xs (omega arith))))

  pub none_kept : n ≤ i → take (i + 1) xs ≡ take n (take i xs ++ (x ∷ []))
  none_kept over =
      take_all (i + 1) xs (omega arith)
      ∙ sym (ap (λ ys. take n (ys ++ (x ∷ []))) (take_all i xs (omega arith)) ∙ take_at xs (x ∷ []) n places)

-- keeping the first n before more comes changes nothing of the first n
take_again : {X : Type 0} (n : ℕ) (xs ys : List X) → take n (take n xs ++ ys) ≡ take n (xs ++ ys)
take_again zero xs ys = refl
take_again (suc n) [] ys = refl
take_again (suc n) (x ∷ xs) ys = ap (λ zs. x ∷ zs) (take_again n xs ys)

pub firsts_push : {X A : Type 0} (value : X → A) (place : X → Position) (p : Position) (xs : List X) (x : X) → with_one (firsts_of value place p xs) (value x) (place x) ≡ firsts_of value place p (xs ++ (x ∷ []))
firsts_push value place p xs x =
    let count = sym (length_push xs x) in
    let values = take_again kept_fields (map value xs) _ ∙ ap (take kept_fields) (sym (map_push value xs x)) in
    let places = take_again kept_fields (map place xs) _ ∙ ap (take kept_fields) (sym (map_push place xs x)) in
    λ i. record { at = p; count = count i; values = values i; places = places i }
