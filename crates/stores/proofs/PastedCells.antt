-- How cells are written one after the other. Assumes nothing.
use Rattle.std.proofs.Common.{◌≡◌, ℕ, ◌+◌, ◌<◌, List, [], ◌∷◌, ◌++◌, length, get_or, take, drop, set, ℤ, pos, sym, refl, ap, ◌∙◌, arith}
use lib.Seq.{paste}
use Rattle.std.proofs.Math.Seq.{set-append_seam}
use Rattle.std.proofs.lemmas.List.{append_assoc, drop_at, drop-drop, drop_more, length-append, length_push, take_all, take_at}
use Rattle.stores.specs.Filled.{over}

-- one cell more
pub over_set : (filled cells : List ℤ) (i : ℕ) (z : ℤ) → i ≡ length filled → i < length cells → set (over filled cells) i z ≡ over (filled ++ (z ∷ [])) cells
over_set filled cells i z e there =
    let n = length filled in
    let inside : n < length cells = omega (arith, e) in
    let tail = drop (n + 1) cells in
    rw (e, drop_more cells n (pos 0) inside, length_push filled z) (set-append_seam filled (get_or cells n (pos 0)) tail z ∙ sym (append_assoc filled (z ∷ []) tail))

-- the cells of one state more, written behind those of the states before
pub over_more : (filled more cells : List ℤ) (at k : ℕ) → at ≡ length filled → k ≡ length more → paste (over filled cells) at more k ≡ over (filled ++ more) cells
over_more filled more cells at k e f =
    let n = length filled in
    let m = length more in
    let first : take n (filled ++ drop n cells) ≡ filled = take_at filled (drop n cells) n refl in
    let whole : take m more ≡ more = take_all m more (omega arith) in
    let rest : drop (n + m) (filled ++ drop n cells) ≡ drop (n + m) cells = sym (drop-drop m n (filled ++ drop n cells)) ∙ ap (drop m) (drop_at filled (drop n cells) n refl) ∙ drop-drop m n cells in
    rw (e, f, first, whole, rest, length-append filled more)
