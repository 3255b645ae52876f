-- What a noted waypoint leaves of the others. Assumes nothing.
use Rattle.std.proofs.Common.{◌≡◌, ℕ, ◌+◌, ◌*◌, ◌<◌, cond, eqb, List, get_or, arith}
use Rattle.std.proofs.lemmas.Bool.{cond_both, eqb-false, eqb-true}

-- what holds of the waypoints before state n, and of the one that is noted for it
pub all_noted : {X : Type 0} (P : ℕ → X → Type 0) (n : ℕ) (x d : X) (olds news : List X) → n < 4096 → ((k : ℕ) → k < 64 → get_or news k d ≡ cond (eqb (64 * k) n) x (get_or olds k d)) → ((k : ℕ) → 64 * k < n → P k (get_or olds k d)) → ((k : ℕ) → 64 * k ≡ n → P k x) → (k : ℕ) → 64 * k < n + 1 → P k (get_or news k d)
all_noted P n x d olds news few is before here k upto =
    let within : k < 64 = omega arith in
    rw (is k within)
    (cond_both (eqb (64 * k) n) x (get_or olds k d) (P k)
    (λ e. here k (eqb-true (64 * k) n e))
    (λ e. let apart = eqb-false (64 * k) n e in before k (omega arith)))
