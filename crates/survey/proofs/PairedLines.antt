-- The lines of the columns' ranges, from the pairs that a loop over names and ranges yields. Assumes nothing.
use Rattle.std.proofs.Common.{◌≡◌, ℕ, List, [], ◌∷◌, ◌++◌, map, Option, refl, ap, ◌∙◌, Bor}
use Rattle.std.specs.List.{flat_map, zip}
use Rattle.survey.specs.Statements.{range_line, range_lines}
use Rattle.survey.specs.declared.range.Range.{Range}

abbrev line_of : Bor (List ℕ) × Option Range → List ℕ
line_of p = range_line p.0.now p.1

of_pairs : (xs : List (Bor (Bor (List ℕ)) × Bor (Option Range))) → flat_map (λ p. range_line p.0.now.now p.1.now) xs ≡ flat_map line_of (map (λ p. (p.0.now, p.1.now)) xs)
of_pairs [] = refl
of_pairs (x ∷ xs) = ap (λ t. range_line x.0.now.now x.1.now ++ t) (of_pairs xs)

of_names : (ns : List (Bor (List ℕ))) (rs : List (Option Range)) → flat_map line_of (zip ns rs) ≡ range_lines (map (λ n. n.now) ns) rs
of_names [] rs = refl
of_names (n ∷ ns) [] = refl
of_names (n ∷ ns) (r ∷ rs) = ap (λ t. range_line n.now r ++ t) (of_names ns rs)

pub paired_lines : (ns : List (Bor (List ℕ))) (rs : List (Option Range)) (xs : List (Bor (Bor (List ℕ)) × Bor (Option Range))) → map (λ p. (p.0.now, p.1.now)) xs ≡ zip ns rs → flat_map (λ p. range_line p.0.now.now p.1.now) xs ≡ range_lines (map (λ n. n.now) ns) rs
paired_lines ns rs xs pairs = of_pairs xs ∙ ap (flat_map line_of) pairs ∙ of_names ns rs
