-- The values of the last state, which the cells tell. Assumes nothing.
use Rattle.std.proofs.Common.{◌≡◌, ℕ, zero, suc, ◌+◌, List, [], ◌∷◌, ◌++◌, map, length, take, replicate, ℤ, pos, sym, refl, ap, ◌∙◌, zero-add, add-one}
use Rattle.std.specs.List.{range_with_len}
use Rattle.std.proofs.lemmas.List.FromFn.{map-range_with_len_more}
use Rattle.runs.specs.Runs.{State}
use Rattle.runs.specs.declared.shape.Shape.{Shape}
use Rattle.changes.specs.Coding.{last_after, last_of}
use Rattle.changes.specs.Encoding.{state_at, states_told, values_before}

last_after_more : (olds : List ℤ) (ss : List State) (s : State) → last_after olds (ss ++ (s ∷ [])) ≡ s.values
last_after_more olds [] s = refl
last_after_more olds (t ∷ ss) s = last_after_more t.values ss s

map_same : (n a : ℕ) → replicate n (pos 0) ≡ map (λ v. pos 0) (range_with_len a n)
map_same zero a = refl
map_same (suc n) a = ap (λ vs. pos 0 ∷ vs) (map_same n (a + 1))

pub last_told : (width n : ℕ) (cells : List ℤ) → last_after (replicate width (pos 0)) (states_told width n cells) ≡ values_before width cells n
last_told width zero cells = map_same width 0
last_told width (suc n) cells =
    let more = map-range_with_len_more (state_at width cells) 0 n n (zero-add n) in
    ap (last_after (replicate width (pos 0))) (rw (add-one n) at more) ∙ last_after_more (replicate width (pos 0)) (states_told width n cells) (state_at width cells n)

-- what is kept of them is what a run of these states has last
pub last_kept : (shape : Shape) (n : ℕ) (cells last values : List ℤ) → length values ≡ shape.width → take shape.width last ≡ values_before shape.width cells n → take (length values) last ≡ last_of shape (states_told shape.width n cells)
last_kept shape n cells last values wide recent = ap (λ k. take k last) wide ∙ recent ∙ sym (last_told shape.width n cells)
